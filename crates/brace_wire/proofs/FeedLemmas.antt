-- The bytes of whole frames that are fed in pieces.
use Rattle.std.proofs.Common.{◌≡◌, ◌∙◌, ℕ, ◌+◌, ◌-◌, ◌≤◌, Bool, true, false, List, [], ◌∷◌, ◌++◌, length, take, drop, Result, Ok, Err, refl, sym, ap, subst, arith, append_assoc, inl, inr}
use Rattle.std.specs.Prelude.{nat_le, OnOk}
use Rattle.std.specs.Int.{w32, from_be_bytes}
use Rattle.std.specs.List.{flat_map}
use Rattle.std.proofs.lemmas.Bool.{and_parts, and_from}
use Rattle.std.proofs.Math.Seq.{take-add}
use Rattle.std.proofs.lemmas.List.{take_all, take_at, take-append-le, take-append-drop, length-append, append-nil}
use Rattle.brace_model.specs.declared.program.Ty.{Ty}
use Rattle.brace_wire.specs.declared.frame.Frame.{Frame}
use Rattle.brace_wire.specs.Frames.{four, body, frame}
use Rattle.brace_wire.specs.Fitting.{IsFrame}
use Rattle.brace_wire.specs.Streams.{is_whole, length_in_front, IsPartial, IsBroken, Reads, Waiting, GoesOn, Advances}
use Rattle.brace_wire.proofs.StreamLemmas.{frame_parts, front_length, length_four, read_one_way, reads_on, empty_is_partial}

le_is : (m n : ℕ) → nat_le m n ≡ true → m ≤ n
le_is m n h = search (arith, h)

le_so : (m n : ℕ) → m ≤ n → nat_le m n ≡ true
le_so m n h = search (arith, h)

-- of a whole frame in front, by its length, both counts are there
whole_parts : (x : List ℕ) → is_whole x ≡ true → (4 ≤ length x) × (4 + length_in_front x ≤ length x)
unfolding is_whole
whole_parts x e = let parts = and_parts (nat_le 4 (length x)) (nat_le (4 + length_in_front x) (length x)) e in (le_is 4 (length x) parts.0, le_is (4 + length_in_front x) (length x) parts.1)

whole_from : (x : List ℕ) → 4 ≤ length x → 4 + length_in_front x ≤ length x → is_whole x ≡ true
unfolding is_whole
whole_from x a b = and_from (nat_le 4 (length x)) (nat_le (4 + length_in_front x) (length x)) (le_so 4 (length x) a) (le_so (4 + length_in_front x) (length x) b)

same_length_in_front : (x y : List ℕ) → 4 ≤ length x → length_in_front (x ++ y) ≡ length_in_front x
same_length_in_front x y le = ap (from_be_bytes w32) (take-append-le 4 x y le)

length_frame : (f : Frame) → length (frame f) ≡ 4 + length (body f)
unfolding frame
length_frame f = length-append (four (length (body f))) (body f) ∙ ap (λ n. n + length (body f)) (length_four (length (body f)))

-- no bytes behind make a frame of one that is none
pub broken_more : (types : List (List Ty)) (x y : List ℕ) → IsBroken types x → IsBroken types (x ++ y)
broken_more types x y broken =
    let (four_there, all_there) = whole_parts x broken.whole in
    let front : length_in_front (x ++ y) ≡ length_in_front x = same_length_in_front x y four_there in
    record {
      whole = whole_from (x ++ y) (omega (arith, four_there, length-append x y)) (omega (arith, all_there, front, length-append x y));
      none = λ f more fits e.
          let told : length_in_front (x ++ y) ≡ length (body f) =
          ap length_in_front (e ∙ frame_parts f more) ∙ front_length (length (body f)) (body f ++ more) fits.short in
          let long : length (frame f) ≡ 4 + length (body f) = length_frame f in
          let within : length (frame f) ≤ length x = omega (arith, long, told, front, all_there) in
          let same : take (length (frame f)) x ≡ frame f =
          sym (take-append-le (length (frame f)) x y within) ∙ ap (take (length (frame f))) e ∙ take_at (frame f) more (length (frame f)) refl in
          broken.none f (drop (length (frame f)) x) fits (sym (take-append-drop (length (frame f)) x) ∙ ap (λ (t : List ℕ). t ++ drop (length (frame f)) x) same);
    }

-- so many bytes were fed, and these frames read
pub record FedSoFar (types : List (List Ty)) (bytes : List ℕ) (fed : ℕ) (before out : List Frame) (decoder : Waiting) : Type 0 where
  pub frames : List Frame
  pub appended : out ≡ before ++ frames
  pub reads : Reads types (take fed bytes) frames decoder.rest
  pub types_same : decoder.types ≡ types
  pub partial : IsPartial decoder.rest
  pub within : fed ≤ length bytes

pub fed_none : (bytes : List ℕ) (before : List Frame) (decoder : Waiting) → decoder.rest ≡ [] → FedSoFar decoder.types bytes 0 before before decoder
fed_none bytes before decoder empty = record {
  frames = [];
  appended = sym (append-nil before);
  reads = record { same = sym empty; each = tt };
  types_same = refl;
  partial = empty_is_partial decoder.rest empty;
  within = omega arith;
}

-- all bytes up to a place, and those behind it
pub take_on : (bytes : List ℕ) (fed end : ℕ) → fed ≤ end → take fed bytes ++ take (end - fed) (drop fed bytes) ≡ take end bytes
take_on bytes fed end le = sym (ap (λ n. take n bytes) (let is : fed + (end - fed) ≡ end = omega (arith, le) in sym is) ∙ take-add fed (end - fed) bytes)

module _ (types : List (List Ty)) (bytes : List ℕ) (fed end : ℕ) (before out new : List Frame) (old now : Waiting) (so_far : FedSoFar types bytes fed before out old) (piece : List ℕ)
    (is : take fed bytes ++ piece ≡ take end bytes) (advances : Advances old piece now out new) where
  abbrev more : List Frame
  more = advances.0

  goes_on : GoesOn old piece more now
  goes_on = advances.2

  reads_now : Reads types (take end bytes) (so_far.frames ++ more) now.rest
  reads_now = subst (λ (x : List ℕ). Reads types x (so_far.frames ++ more) now.rest) is
      (reads_on types (take fed bytes) piece old.rest now.rest so_far.frames more so_far.reads (subst (λ (t : List (List Ty)). Reads t (old.rest ++ piece) more now.rest) so_far.types_same goes_on.reads))

  pub fed_more : IsPartial now.rest → end ≤ length bytes → FedSoFar types bytes end before new now
  fed_more partial within = record {
    frames = so_far.frames ++ more;
    appended = advances.1 ∙ ap (λ (l : List Frame). l ++ more) so_far.appended ∙ append_assoc before so_far.frames more;
    reads = reads_now;
    types_same = goes_on.types ∙ so_far.types_same;
    partial = partial;
    within = within;
  }

  -- whole frames do not break
  pub never_broken : (frames : List Frame) → Reads types bytes frames [] → IsBroken now.types now.rest → end ≤ length bytes → ⊥
  never_broken frames whole broken within =
      let broken_here : IsBroken types (now.rest ++ drop end bytes) =
      broken_more types now.rest (drop end bytes) (subst (λ (t : List (List Ty)). IsBroken t now.rest) (goes_on.types ∙ so_far.types_same) broken) in
      let here : Reads types bytes (so_far.frames ++ more) (now.rest ++ drop end bytes) = record {
        same = sym (take-append-drop end bytes) ∙ ap (λ (x : List ℕ). x ++ drop end bytes) reads_now.same ∙ append_assoc (flat_map frame (so_far.frames ++ more)) now.rest (drop end bytes);
        each = reads_now.each;
      } in
      let same = read_one_way types bytes (now.rest ++ drop end bytes) [] (so_far.frames ++ more) frames here whole (inr broken_here) (inl (empty_is_partial [] refl)) in
      both (is_whole (now.rest ++ drop end bytes)) broken_here.whole (empty_is_partial (now.rest ++ drop end bytes) same.1)
    where
      both : (b : Bool) → b ≡ true → b ≡ false → ⊥
      both true h g = absurd cc
      both false h g = absurd cc

-- all bytes were fed
pub fed_all : (types : List (List Ty)) (bytes : List ℕ) (fed : ℕ) (before out : List Frame) (decoder : Waiting) → FedSoFar types bytes fed before out decoder → length bytes ≤ fed
    → (frames : List Frame) → Reads types bytes frames [] → out ≡ before ++ frames
fed_all types bytes fed before out decoder so_far all frames whole =
    let here : Reads types bytes so_far.frames decoder.rest = subst (λ (x : List ℕ). Reads types x so_far.frames decoder.rest) (take_all fed bytes all) so_far.reads in
    let same = read_one_way types bytes decoder.rest [] so_far.frames frames here whole (inl so_far.partial) (inl (empty_is_partial [] refl)) in
    so_far.appended ∙ ap (λ (l : List Frame). before ++ l) same.0

-- the bytes of one frame are whole
pub one_frame : (types : List (List Ty)) (bytes : List ℕ) (f : Frame) → bytes ≡ frame f → IsFrame types f → Reads types bytes (f ∷ []) []
one_frame types bytes f is fits = record {
  same = is ∙ sym (append-nil (frame f)) ∙ sym (append-nil (frame f ++ []));
  each = (fits, tt);
}

-- what was read of them is this frame
pub fed_one : {X E : Type 0} (r : Result X E) (types : List (List Ty)) (bytes : List ℕ) (before out : List Frame) (f : Frame) → Reads types bytes (f ∷ []) []
    → OnOk r ((frames : List Frame) → Reads types bytes frames [] → out ≡ before ++ frames) → OnOk r (out ≡ before ++ f ∷ [])
fed_one (Ok x) types bytes before out f whole read = read (f ∷ []) whole
fed_one (Err e) types bytes before out f whole read = tt
