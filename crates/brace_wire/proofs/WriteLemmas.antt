-- What is known of items written one after another.
use borrow.Rule.Slice.PartMut.{put_mid}
use Rattle.std.proofs.Common.{◌≡◌, ℕ, ◌+◌, ◌-◌, ◌<◌, ◌≤◌, ◌^◌, List, [], ◌∷◌, ◌++◌, length, take, drop, Result, Ok, Err, refl, sym, ap, ◌∙◌, append_assoc, arith}
use Rattle.std.specs.Prelude.{IsTrue, OnOk}
use Rattle.std.specs.List.{flat_map, AllByRecursion}
use Rattle.brace_model.specs.declared.program.Ty.{Ty}
use Rattle.brace_model.specs.declared.world.Agent.{Agent}
use Rattle.brace_pieces.specs.declared.piece.Shown.{Shown}
use Rattle.brace_pieces.specs.declared.piece.Piece.{Piece}
use Rattle.brace_pieces.specs.declared.piece.Piece.TheVariants as piece
use Rattle.brace_wire.specs.declared.frame.Frame.{Frame}
use Rattle.std.proofs.lemmas.List.{take_all, take_at, drop_at, length-append, length-take, length-drop}
use Rattle.std.proofs.lemmas.List.Edits.{paste_all}
use Rattle.std.proofs.lemmas.Slice.{put_mid-paste}
use Rattle.brace_wire.specs.Frames.{four, listed, body, frame}
use Rattle.brace_wire.specs.Fitting.{AgentFits, IsAgent, is_of, ShownFits, PieceFits, IsOf, IsFrame}
use Rattle.brace_wire.specs.inner.Written.{BodyFits}

-- ---- agents that fit and are of classes

module _ (types : List (List Ty)) where
  abbrev Of : Agent → Type 0
  Of a = IsTrue (is_of types a)

  agents_are : (agents : List Agent) → AllByRecursion AgentFits agents → AllByRecursion Of agents → AllByRecursion (IsAgent types) agents
  agents_are [] h g = tt
  agents_are (a ∷ agents) h g = ((h.0, g.0), agents_are agents h.1 g.1)

  of_front : (xs ys : List Agent) → AllByRecursion Of (xs ++ ys) → AllByRecursion Of xs
  of_front [] ys h = tt
  of_front (x ∷ xs) ys h = (h.0, of_front xs ys h.1)

  of_back : (xs ys : List Agent) → AllByRecursion Of (xs ++ ys) → AllByRecursion Of ys
  of_back [] ys h = h
  of_back (x ∷ xs) ys h = of_back xs ys h.1

  shows_are : (shows : List Shown) → AllByRecursion (ShownFits AgentFits) shows → AllByRecursion Of (flat_map (λ s. s.agents) shows) → AllByRecursion (ShownFits (IsAgent types)) shows
  shows_are [] h g = tt
  shows_are (s ∷ shows) h g =
      let here : ShownFits (IsAgent types) s = record {
        tick = h.0.tick;
        next = h.0.next;
        agents = (h.0.agents.0, agents_are s.agents h.0.agents.1 (of_front s.agents (flat_map (λ s. s.agents) shows) g));
      } in
      (here, shows_are shows h.1 (of_back s.agents (flat_map (λ s. s.agents) shows) g))

  piece_is : (p : Piece) → PieceFits AgentFits p → IsOf types p → PieceFits (IsAgent types) p
  piece_is (piece.Border agents) h g = (h.0, agents_are agents h.1 g)
  piece_is (piece.Move agents) h g = (h.0, agents_are agents h.1 g)
  piece_is (piece.Hand agents) h g = (h.0, agents_are agents h.1 g)
  piece_is (piece.Show shows) h g = (h.0, shows_are shows h.1 g)
  piece_is piece.Ack h g = tt
  piece_is _ h g = h

  pub frame_is : (f : Frame) → BodyFits AgentFits f → length (body f) < 2 ^ 32 → IsOf types f.piece → IsFrame types f
  frame_is f fits short of = record { from = fits.from; to = fits.to; ordinal = fits.ordinal; piece = piece_is f.piece fits.piece of; short = short }

-- one more agent that fits
pub fits_more : (agents : List Agent) (a : Agent) → AllByRecursion AgentFits agents → AgentFits a
    → AllByRecursion AgentFits (agents ++ a ∷ [])
fits_more [] a all fits = (fits, tt)
fits_more (b ∷ agents) a all fits = (all.0, fits_more agents a all.1 fits)

-- what an answer says where it is Ok, and what follows
pub on_ok : {X E : Type 0} (r : Result X E) (P Q : Type 0) → OnOk r P → (P → Q) → OnOk r Q
on_ok (Ok x) P Q h f = f h
on_ok (Err e) P Q h f = tt

-- a frame that fits is one of whatever classes its agents are of
abbrev pub IsOfItsOwn : Frame → Type 0
IsOfItsOwn f = (types : List (List Ty)) → IsOf types f.piece → IsFrame types f

pub encoded : {X E : Type 0} (f : Frame) (r : Result X E) → OnOk r (BodyFits AgentFits f) → OnOk r (length (body f) < 2 ^ 32) → OnOk r (IsOfItsOwn f)
encoded f (Ok x) fits short = λ types. frame_is types f fits short
encoded f (Err e) fits short = tt

pub encoded_for : {X E : Type 0} (types : List (List Ty)) (f : Frame) (r : Result X E) → OnOk r (IsOfItsOwn f) → OnOk r (IsOf types f.piece → IsFrame types f)
encoded_for types f (Ok x) fits = fits types
encoded_for types f (Err e) fits = tt

-- ---- bytes behind one another

-- items behind their count
pub listed_done : {A : Type 0} (s : A → List ℕ) (old out : List ℕ) (items : List A) (i : ℕ) → length items ≤ i → out ≡ (old ++ four (length items)) ++ flat_map s (take i items) → out ≡ old ++ listed s items
listed_done {A} s old out items i h e =
    e ∙ (ap (λ (l : List A). (old ++ four (length items)) ++ flat_map s l) (take_all i items h) ∙ append_assoc old (four (length items)) (flat_map s items))

seven_behind : (o a b c d e f g : List ℕ) → o ++ a ++ b ++ c ++ d ++ e ++ f ++ g ≡ o ++ (a ++ b ++ c ++ d ++ e ++ f ++ g)
seven_behind o a b c d e f g = simp append_assoc

pub seven_written : (o o1 o2 o3 o4 o5 o6 o7 a b c d e f g : List ℕ) → o1 ≡ o ++ a → o2 ≡ o1 ++ b → o3 ≡ o2 ++ c → o4 ≡ o3 ++ d → o5 ≡ o4 ++ e → o6 ≡ o5 ++ f → o7 ≡ o6 ++ g → o7 ≡ o ++ (a ++ b ++ c ++ d ++ e ++ f ++ g)
seven_written o o1 o2 o3 o4 o5 o6 o7 a b c d e f g h1 h2 h3 h4 h5 h6 h7 =
    let more : (x y : List ℕ) (z : List ℕ) → x ≡ y → x ++ z ≡ y ++ z = λ x y z p. ap (λ (t : List ℕ). t ++ z) p in
    let p2 : o2 ≡ o ++ a ++ b = h2 ∙ more o1 (o ++ a) b h1 in
    let p3 : o3 ≡ o ++ a ++ b ++ c = h3 ∙ more o2 (o ++ a ++ b) c p2 in
    let p4 : o4 ≡ o ++ a ++ b ++ c ++ d = h4 ∙ more o3 (o ++ a ++ b ++ c) d p3 in
    let p5 : o5 ≡ o ++ a ++ b ++ c ++ d ++ e = h5 ∙ more o4 (o ++ a ++ b ++ c ++ d) e p4 in
    let p6 : o6 ≡ o ++ a ++ b ++ c ++ d ++ e ++ f = h6 ∙ more o5 (o ++ a ++ b ++ c ++ d ++ e) f p5 in
    h7 ∙ (more o6 (o ++ a ++ b ++ c ++ d ++ e ++ f) g p6 ∙ seven_behind o a b c d e f g)

-- ---- a length written in front of its bytes

pub length_four : (n : ℕ) → length (four n) ≡ 4
unfolding four
length_four n = refl

-- 4 bytes in place of others
pub patched : (items d ys zs : List ℕ) (start k n : ℕ) → d ≡ items → ys ≡ zs → k ≡ 4 → length zs ≡ 4 → start + 4 ≤ length items → n ≡ length items
    → take n (put_mid start k d ys ++ drop (length (put_mid start k d ys)) items) ≡ take start items ++ zs ++ drop (start + 4) items
patched items d ys zs start k n same bytes four_there len room whole =
    let put : put_mid start k d ys ≡ take start items ++ (zs ++ drop (start + 4) items) =
    ap (λ (x : List ℕ). put_mid start k x ys) same ∙ (put_mid-paste start k items ys zs 4 bytes (sym four_there) (sym len) ∙ paste_all items start zs 4 (sym len)) in
    let long : length (put_mid start k d ys) ≡ n =
    omega (arith, ap length put ∙ length-append (take start items) (zs ++ drop (start + 4) items), length-append zs (drop (start + 4) items), length-take start items, length-drop (start + 4) items, len, whole, room) in
    take_at (put_mid start k d ys) (drop (length (put_mid start k d ys)) items) n long ∙ (put ∙ sym (append_assoc (take start items) zs (drop (start + 4) items)))

module _ (old with_room whole : List ℕ) (f : Frame) (start : ℕ) (at : start ≡ length old) (first : with_room ≡ old ++ four 0) (second : whole ≡ with_room ++ body f) where
  lengths : length whole ≡ start + 4 + length (body f)
  lengths = omega (arith, ap length second ∙ length-append with_room (body f), ap length first ∙ length-append old (four 0), length_four 0, at)

pub room_for_length : (old with_room whole : List ℕ) (f : Frame) (start : ℕ) → start ≡ length old → with_room ≡ old ++ four 0 → whole ≡ with_room ++ body f → start + 4 ≤ length whole
room_for_length old with_room whole f start at first second = omega (arith, lengths old with_room whole f start at first second)

pub framed_length : (old with_room whole : List ℕ) (f : Frame) (start : ℕ) → start ≡ length old → with_room ≡ old ++ four 0 → whole ≡ with_room ++ body f → length whole - (start + 4) < 2 ^ 32
    → length (body f) < 2 ^ 32
framed_length old with_room whole f start at first second h = omega (arith, lengths old with_room whole f start at first second, h)

pub framed : (old with_room whole out : List ℕ) (f : Frame) (start : ℕ) → start ≡ length old → with_room ≡ old ++ four 0 → whole ≡ with_room ++ body f
    → out ≡ take start whole ++ four (length whole - (start + 4)) ++ drop (start + 4) whole → out ≡ old ++ frame f
unfolding frame
framed old with_room whole out f start at first second e =
    let spread : whole ≡ old ++ (four 0 ++ body f) = second ∙ (ap (λ (x : List ℕ). x ++ body f) first ∙ append_assoc old (four 0) (body f)) in
    let front : take start whole ≡ old = ap (take start) spread ∙ take_at old (four 0 ++ body f) start (sym at) in
    let long : length with_room ≡ start + 4 = omega (arith, ap length first ∙ length-append old (four 0), length_four 0, at) in
    let behind : drop (start + 4) whole ≡ body f = ap (drop (start + 4)) second ∙ drop_at with_room (body f) (start + 4) long in
    let count : length whole - (start + 4) ≡ length (body f) = omega (arith, lengths old with_room whole f start at first second) in
    e
    ∙ (ap (λ (x : List ℕ). x ++ four (length whole - (start + 4)) ++ drop (start + 4) whole) front
    ∙ (ap (λ (n : ℕ). old ++ four n ++ drop (start + 4) whole) count
    ∙ (ap (λ (x : List ℕ). old ++ four (length (body f)) ++ x) behind ∙ append_assoc old (four (length (body f))) (body f))))
