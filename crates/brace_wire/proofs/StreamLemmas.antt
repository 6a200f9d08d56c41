-- Streams of frames are read in one way, however they are cut.
use Rattle.std.proofs.Common.{◌≡◌, ℕ, ◌+◌, ◌-◌, ◌<◌, ◌≤◌, ◌^◌, Bool, true, false, cond, ltb, List, [], ◌∷◌, ◌++◌, length, take, drop, Some, None, refl, sym, ap, subst, ◌∙◌, append_assoc, arith, inl, inr}
use Rattle.std.specs.Prelude.{◌⊎◌, nat_le}
use Rattle.std.specs.Int.{w32, from_be_bytes, to_be_bytes}
use Rattle.std.specs.List.{flat_map, AllByRecursion}
use Rattle.std.proofs.lemmas.Nat.{from_be_bytes-to_be_bytes_4}
use Rattle.std.proofs.lemmas.List.{append-nil, take_at, drop_at, length-append, length-take, take-append-drop}
use Rattle.std.proofs.lemmas.List.Concat.{flat_map-cons, flat_map-append}
use Rattle.brace_model.specs.declared.program.Ty.{Ty}
use Rattle.brace_wire.specs.declared.frame.Frame.{Frame}
use Rattle.brace_wire.specs.Frames.{four, body, frame}
use Rattle.brace_wire.specs.Fitting.{IsFrame}
use Rattle.brace_wire.specs.Streams.{is_whole, length_in_front, IsPartial, IsBroken, Reads, ReadsInTurn}
use Rattle.brace_wire.specs.inner.Reading.{four_at, body_at}
use Rattle.brace_wire.proofs.Known.{IsBytes, some, some_is, four_known}
use Rattle.brace_wire.proofs.PieceFormats.{body_known, body_of}

-- ---- one spelling

-- what two texts of lengths and what follows have in common
pub same_front : (m n : ℕ) (a b : List ℕ) → m < 2 ^ 32 → n < 2 ^ 32 → four m ++ a ≡ four n ++ b → (m ≡ n) × (a ≡ b)
same_front m n a b h g e =
    let both = some_is (m, a) (n, b) (sym (four_known.again m a h) ∙ (ap four_at e ∙ four_known.again n b g)) in
    (ap (λ (p : ℕ × List ℕ). p.0) both, ap (λ (p : ℕ × List ℕ). p.1) both)

pub frame_parts : (f : Frame) (x : List ℕ) → frame f ++ x ≡ four (length (body f)) ++ (body f ++ x)
unfolding frame
frame_parts f x = append_assoc (four (length (body f))) (body f) x

pub one_spelling : (types : List (List Ty)) (a b : Frame) (x y : List ℕ) → IsFrame types a → IsFrame types b → frame a ++ x ≡ frame b ++ y → (a ≡ b) × (x ≡ y)
one_spelling types a b x y h g e =
    let behind = (same_front (length (body a)) (length (body b)) (body a ++ x) (body b ++ y) h.short g.short (sym (frame_parts a x) ∙ (e ∙ frame_parts b y))).1 in
    let known = body_known types in
    let both = some_is (a, x) (b, y) (sym (known.again a x (body_of types a h)) ∙ (ap (body_at types) behind ∙ known.again b y (body_of types b g))) in
    (ap (λ (p : Frame × List ℕ). p.0) both, ap (λ (p : Frame × List ℕ). p.1) both)

-- ---- whole frames

pub took : (n : ℕ) (x : List ℕ) → n ≤ length x → length (take n x) ≡ n
took n x h = omega (arith, length-take n x)

pub length_four : (n : ℕ) → length (four n) ≡ 4
unfolding four
length_four n = refl

pub front_length : (n : ℕ) (x : List ℕ) → n < 2 ^ 32 → length_in_front (four n ++ x) ≡ n
unfolding four
front_length n x h = ap (from_be_bytes w32) (take_at (to_be_bytes w32 n) x 4 refl) ∙ from_be_bytes-to_be_bytes_4 n h

le_true : (m n : ℕ) → m ≤ n → nat_le m n ≡ true
le_true m n h = search (arith, h)

-- as many bytes as the length says stand behind it
pub whole_when : (n : ℕ) (x : List ℕ) → n < 2 ^ 32 → n ≤ length x → is_whole (four n ++ x) ≡ true
unfolding is_whole
whole_when n x h le =
    let long : length (four n ++ x) ≡ 4 + length x = length-append (four n) x ∙ ap (λ (k : ℕ). k + length x) (length_four n) in
    let a : nat_le 4 (length (four n ++ x)) ≡ true = le_true 4 (length (four n ++ x)) (omega (arith, long)) in
    let b : nat_le (4 + length_in_front (four n ++ x)) (length (four n ++ x)) ≡ true = le_true (4 + length_in_front (four n ++ x)) (length (four n ++ x)) (omega (arith, long, front_length n x h)) in
    rw (a, b) refl

pub frame_is_whole : (types : List (List Ty)) (f : Frame) (x : List ℕ) → IsFrame types f → is_whole (frame f ++ x) ≡ true
frame_is_whole types f x h =
    ap is_whole (frame_parts f x) ∙ whole_when (length (body f)) (body f ++ x) h.short (omega (arith, length-append (body f) x))

le_false : (m n : ℕ) → n < m → nat_le m n ≡ false
le_false m n h = search (arith, h)

lt_is : (m n : ℕ) → ltb m n ≡ true → m < n
lt_is m n h = search (arith, h)

given_none : (b : Bool) (x : ℕ × List ℕ) → cond b None (some x) ≡ None → b ≡ true
given_none true x e = refl
given_none false x e = absurd cc

-- fewer bytes than a length has
pub no_length : (bytes : List ℕ) → four_at bytes ≡ None → is_whole bytes ≡ false
unfolding four_at is_whole
no_length bytes e =
    let few : length bytes < 4 = lt_is (length bytes) 4 (given_none (ltb (length bytes) 4) (from_be_bytes w32 (take 4 bytes), drop 4 bytes) e) in
    rw (le_false 4 (length bytes) few) refl

-- fewer bytes than the length says
pub too_few : (n : ℕ) (x : List ℕ) → n < 2 ^ 32 → length x < n → is_whole (four n ++ x) ≡ false
unfolding is_whole
too_few n x h lt =
    let long : length (four n ++ x) ≡ 4 + length x = length-append (four n) x ∙ ap (λ (k : ℕ). k + length x) (length_four n) in
    let a : nat_le 4 (length (four n ++ x)) ≡ true = le_true 4 (length (four n ++ x)) (omega (arith, long)) in
    let b : nat_le (4 + length_in_front (four n ++ x)) (length (four n ++ x)) ≡ false = le_false (4 + length_in_front (four n ++ x)) (length (four n ++ x)) (omega (arith, long, front_length n x h)) in
    rw (a, b) refl

-- the length in front, and what stands behind it
pub length_and_rest : (bytes : List ℕ) (n : ℕ) (rest : List ℕ) → IsBytes bytes → four_at bytes ≡ Some (n, rest) → (bytes ≡ four n ++ rest) × (n < 2 ^ 32)
length_and_rest bytes n rest fits e =
    let t = four_known.takes bytes n rest fits e in
    (t.0.parts, t.1)

-- as many bytes as the length says, and the bytes behind these
pub body_and_rest : (bytes rest : List ℕ) (n : ℕ) → bytes ≡ four n ++ rest → n ≤ length rest → bytes ≡ four (length (take n rest)) ++ (take n rest ++ drop n rest)
body_and_rest bytes rest n e le =
    e ∙ (ap (λ (k : ℕ). four k ++ rest) (sym (took n rest le)) ∙ ap (λ (x : List ℕ). four (length (take n rest)) ++ x) (sym (take-append-drop n rest)))

not_both : (b : Bool) → b ≡ true → b ≡ false → ⊥
not_both true h g = absurd cc
not_both false h g = absurd cc

-- a reading leaves off where no frame stands
abbrev pub EndsHere : List (List Ty) → List ℕ → Type 0
EndsHere types x = IsPartial x ⊎ IsBroken types x

no_frame_here : (types : List (List Ty)) (x : List ℕ) (f : Frame) (more : List ℕ) → EndsHere types x → IsFrame types f → x ≡ frame f ++ more → ⊥
no_frame_here types x f more (inl partial) h e = not_both (is_whole x) (ap is_whole e ∙ frame_is_whole types f more h) partial
no_frame_here types x f more (inr broken) h e = broken.none f more h e

spread : (f : Frame) (fs : List Frame) (x : List ℕ) → flat_map frame (f ∷ fs) ++ x ≡ frame f ++ (flat_map frame fs ++ x)
spread f fs x = ap (λ (y : List ℕ). y ++ x) (flat_map-cons frame f fs) ∙ append_assoc (frame f) (flat_map frame fs) x

pub one_way : (types : List (List Ty)) (fs gs : List Frame) (x y : List ℕ) → flat_map frame fs ++ x ≡ flat_map frame gs ++ y → AllByRecursion (IsFrame types) fs → AllByRecursion (IsFrame types) gs
    → EndsHere types x → EndsHere types y → (fs ≡ gs) × (x ≡ y)
one_way types [] [] x y e h k p q = (refl, e)
one_way types [] (g ∷ gs) x y e h k p q = absurd (no_frame_here types x g (flat_map frame gs ++ y) p k.0 (e ∙ spread g gs y))
one_way types (f ∷ fs) [] x y e h k p q = absurd (no_frame_here types y f (flat_map frame fs ++ x) q h.0 (sym e ∙ spread f fs x))
one_way types (f ∷ fs) (g ∷ gs) x y e h k p q =
    let first = one_spelling types f g (flat_map frame fs ++ x) (flat_map frame gs ++ y) h.0 k.0 (sym (spread f fs x) ∙ (e ∙ spread g gs y)) in
    let others = one_way types fs gs x y first.1 h.1 k.1 p q in
    (ap (λ (z : Frame). z ∷ fs) first.0 ∙ ap (λ (zs : List Frame). g ∷ zs) others.0, others.1)

pub read_one_way : (types : List (List Ty)) (bytes x y : List ℕ) (fs gs : List Frame) → Reads types bytes fs x → Reads types bytes gs y → EndsHere types x → EndsHere types y → (fs ≡ gs) × (x ≡ y)
read_one_way types bytes x y fs gs a b p q = one_way types fs gs x y (sym a.same ∙ b.same) a.each b.each p q

-- ---- cuts

pub all_append : {A : Type 0} (P : A → Type 0) (xs ys : List A) → AllByRecursion P xs → AllByRecursion P ys → AllByRecursion P (xs ++ ys)
all_append P [] ys h g = g
all_append P (x ∷ xs) ys h g = (h.0, all_append P xs ys h.1 g)

-- frames, and more behind their rest
pub reads_on : (types : List (List Ty)) (bytes more left end : List ℕ) (fs gs : List Frame) → Reads types bytes fs left → Reads types (left ++ more) gs end → Reads types (bytes ++ more) (fs ++ gs) end
reads_on types bytes more left end fs gs a b = record {
  same =
      ap (λ (x : List ℕ). x ++ more) a.same
      ∙ (append_assoc (flat_map frame fs) left more
      ∙ (ap (λ (x : List ℕ). flat_map frame fs ++ x) b.same
      ∙ (sym (append_assoc (flat_map frame fs) (flat_map frame gs) end) ∙ ap (λ (x : List ℕ). x ++ end) (sym (flat_map-append frame fs gs)))));
  each = all_append (IsFrame types) fs gs a.each b.each;
}

abbrev pub whole_of : List (List ℕ) → List ℕ
whole_of pieces = flat_map (λ piece. piece) pieces

pub in_turn : (types : List (List Ty)) (rest : List ℕ) (pieces : List (List ℕ)) (frames : List Frame) (end : List ℕ) → ReadsInTurn types rest pieces frames end → Reads types (rest ++ whole_of pieces) frames end
in_turn types rest pieces frames end (ReadsInTurn.none r) = record { same = append-nil r; each = tt }
in_turn types rest pieces frames end (ReadsInTurn.more r piece left last others fs gs first then) =
    subst (λ (x : List ℕ). Reads types x (fs ++ gs) last) (append_assoc r piece (whole_of others) ∙ ap (λ (x : List ℕ). r ++ x) (sym (flat_map-cons (λ p. p) piece others)))
    (reads_on types (r ++ piece) (whole_of others) left last fs gs first (in_turn types left others gs last then))

-- ---- a decoder's loop

-- nothing came
none_is_partial : is_whole [] ≡ false
unfolding is_whole
none_is_partial = refl

pub empty_is_partial : (bytes : List ℕ) → bytes ≡ [] → is_whole bytes ≡ false
empty_is_partial bytes e = ap is_whole e ∙ none_is_partial

-- what stands behind a frame is shorter
pub behind_is_shorter : (rest text behind : List ℕ) → rest ≡ four (length text) ++ (text ++ behind) → length behind < length rest
behind_is_shorter rest text behind e =
    omega (arith, ap length e ∙ length-append (four (length text)) (text ++ behind), length-append text behind, length_four (length text))

-- the bytes are the frames that were appended, and then a rest
pub record ReadSoFar (types : List (List Ty)) (bytes : List ℕ) (before out : List Frame) (rest : List ℕ) : Type 0 where
  pub frames : List Frame
  pub appended : out ≡ before ++ frames
  pub reads : Reads types bytes frames rest

pub begin : (types : List (List Ty)) (bytes : List ℕ) (before : List Frame) → ReadSoFar types bytes before before bytes
begin types bytes before = record { frames = []; appended = sym (append-nil before); reads = record { same = refl; each = tt } }

-- one more frame
pub one_more : (types : List (List Ty)) (bytes rest text behind : List ℕ) (fs : List Frame) (f : Frame) → Reads types bytes fs rest → rest ≡ four (length text) ++ (text ++ behind) → body f ≡ text
    → IsFrame types f → Reads types bytes (fs ++ f ∷ []) behind
one_more types bytes rest text behind fs f a parts same fits =
    let here : rest ≡ frame f ++ behind = parts ∙ (ap (λ (t : List ℕ). four (length t) ++ (t ++ behind)) (sym same) ∙ sym (frame_parts f behind)) in
    let one : rest ≡ flat_map frame (f ∷ []) ++ behind = here ∙ ap (λ (x : List ℕ). x ++ behind) (sym (append-nil (frame f))) in
    subst (λ (x : List ℕ). Reads types x (fs ++ f ∷ []) behind) (append-nil bytes)
    (reads_on types bytes [] rest behind fs (f ∷ []) a (record { same = append-nil rest ∙ one; each = (fits, tt) }))

-- a whole frame whose body is none of a frame
pub breaks : (types : List (List Ty)) (rest text behind : List ℕ) → is_whole rest ≡ true → length text < 2 ^ 32 → rest ≡ four (length text) ++ (text ++ behind)
    → ((f : Frame) → IsFrame types f → body f ≡ text → ⊥) → IsBroken types rest
breaks types rest text behind whole short parts none = record {
  whole = whole;
  none = λ f more fits e.
      let both = same_front (length text) (length (body f)) (text ++ behind) (body f ++ more) short fits.short (sym parts ∙ (e ∙ frame_parts f more)) in
      let same : text ≡ body f = sym (take_at text behind (length text) refl) ∙ (ap (take (length text)) both.1 ∙ take_at (body f) more (length text) (sym both.0)) in
      none f fits (sym same);
}

-- the rest stands behind what was read
pub stands_behind : (bytes front rest : List ℕ) → bytes ≡ front ++ rest → drop (length bytes - length rest) bytes ≡ rest
stands_behind bytes front rest e =
    let long : length bytes ≡ length front + length rest = ap length e ∙ length-append front rest in
    ap (drop (length bytes - length rest)) e ∙ drop_at front rest (length bytes - length rest) (omega (arith, long))

-- one more frame was appended
pub read_more : (types : List (List Ty)) (bytes rest text behind : List ℕ) (before out new : List Frame) (f : Frame) → ReadSoFar types bytes before out rest → new ≡ out ++ f ∷ []
    → rest ≡ four (length text) ++ (text ++ behind) → body f ≡ text → IsFrame types f → ReadSoFar types bytes before new behind
read_more types bytes rest text behind before out new f h pushed parts same fits = record {
  frames = h.frames ++ f ∷ [];
  appended = pushed ∙ (ap (λ (l : List Frame). l ++ f ∷ []) h.appended ∙ append_assoc before h.frames (f ∷ []));
  reads = one_more types bytes rest text behind h.frames f h.reads parts same fits;
}

-- no frame goes on where the reading stops
pub stops_broken : (types : List (List Ty)) (bytes rest text behind : List ℕ) (before out : List Frame) → ReadSoFar types bytes before out rest → is_whole rest ≡ true → length text < 2 ^ 32
    → rest ≡ four (length text) ++ (text ++ behind) → ((f : Frame) → IsFrame types f → body f ≡ text → ⊥) → IsBroken types (drop (length bytes - length rest) bytes)
stops_broken types bytes rest text behind before out h whole short parts none =
    subst (λ (x : List ℕ). IsBroken types x) (sym (stands_behind bytes (flat_map frame h.frames) rest h.reads.same)) (breaks types rest text behind whole short parts none)
