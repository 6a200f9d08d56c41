-- The pieces that a part puts, and those that it took.
use Rattle.std.proofs.Common.{◌≡◌, ◌∙◌, refl, sym, ap, subst, ℕ, suc, ◌+◌, ◌-◌, ◌<◌, List, [], ◌∷◌, ◌++◌, take, drop, length, get_or, Bool, true, false, not, if◌then◌else◌, ◌&&◌, Some, ◌==◌, arith, true≢false, Contains}
use Rattle.std.specs.Prelude.{slice_get, nat_lt}
use Rattle.std.specs.List.{range_with_len}
use Rattle.std.proofs.lemmas.Bool.{and_parts}
use Rattle.std.proofs.Math.Seq.{drop-cons}
use Rattle.std.proofs.lemmas.Bool.Decides.{nat_tests}
use Rattle.std.proofs.lemmas.List.Elements.{All-contains, filter_passes}
use Rattle.brace_core.specs.Schedule.{name}
use Rattle.brace_pieces.specs.declared.setting.Setting.{Setting}
use Rattle.brace_pieces.specs.declared.setting.Step.{Step}
use Rattle.brace_pieces.specs.declared.piece.Piece.{Piece}
use Rattle.brace_pieces.specs.Settings.{parts}
use Rattle.brace_pieces.specs.Steps.{steps, met, meet, parts_meet, is_show}
use Rattle.brace_pieces.specs.Right.{IsRight, IsRightIn, IsRightAt}
use Rattle.brace_pieces.specs.Exchanged.{AreOut, AreTaken, GoesOn}
use Rattle.brace_pieces.specs.Exchanged.AreOut.{none_out, more_out}
use Rattle.brace_pieces.specs.Exchanged.AreTaken.{more_taken}
use Rattle.std.proofs.lemmas.List.{drop_all, drop_more, take_more, same_from_push}

-- in a step that shows nothing to the publisher a part meets parts alone
pub met_passes : (s : Setting) (at : Step) (p q : ℕ) → Contains (met s at p) q → meet s at p q ≡ true
met_passes s at p q has = All-contains (λ r. meet s at p r ≡ true) (met s at p) q (filter_passes (meet s at p) (range_with_len 0 (parts s + 1))) has

pub met_is_part : (s : Setting) (at : Step) (p q : ℕ) → is_show at.stage ≡ false → Contains (met s at p) q → q < parts s
met_is_part s at p q nothing has =
    let (other, meets) = and_parts (not (p == q)) (if nat_lt p (parts s) && nat_lt q (parts s) then parts_meet s at p q else is_show at.stage) (met_passes s at p q has) in
    by_test (nat_lt p (parts s)) (nat_lt q (parts s)) refl meets
  where
    low : nat_lt q (parts s) ≡ true → q < parts s
    low e = grind (arith, nat_tests, e)

    by_test : (a b : Bool) → nat_lt q (parts s) ≡ b → (if a && b then parts_meet s at p q else is_show at.stage) ≡ true → q < parts s
    by_test true false is e = absurd (true≢false (sym e ∙ nothing))
    by_test false false is e = absurd (true≢false (sym e ∙ nothing))
    by_test _ true is e = low is

-- a piece that is right in the step of a number
pub right_in : (s : Setting) (k p q : ℕ) (at : Step) (piece : Piece) → slice_get (steps s) k ≡ Some at → IsRightAt s k at.stage at.tick p q piece → IsRight s (name k p q) piece
right_in s k p q at piece is right = subst (IsRightIn s (name k p q) piece) (sym is) right

-- the piece for the next one whom a part meets is the last of its pieces
pub record HasLast (s : Setting) (k p q : ℕ) (others : List ℕ) (all : List Piece) : Type 0 where
  pub pieces : List Piece
  pub piece : Piece
  pub same : all ≡ pieces ++ piece ∷ []
  pub right : IsRight s (name k p q) piece
  pub goes : GoesOn piece
  pub rest : AreOut s k p others pieces

out_last : (s : Setting) (k p q : ℕ) (others : List ℕ) (all : List Piece) → AreOut s k p (q ∷ others) all → HasLast s k p q others all
out_last s k p q others all (more_out q' others' piece pieces right goes rest) = record { pieces = pieces; piece = piece; same = refl; right = right; goes = goes; rest = rest }

module _ (s : Setting) (k p : ℕ) (others : List ℕ) where
  -- the piece that is put next, which is no Halt, and those that are left
  pub puts_last : (made q : ℕ) (left : List Piece) (piece : Piece) → made < length others → get_or others made 0 ≡ q
      → AreOut s k p (drop made others) (left ++ piece ∷ []) → IsRight s (name k p q) piece × (GoesOn piece × AreOut s k p (drop (made + 1) others) left)
  puts_last made q left piece low is out =
      let has = out_last s k p (get_or others made 0) (drop (made + 1) others) (left ++ piece ∷ []) (subst (λ qs. AreOut s k p qs (left ++ piece ∷ [])) (drop_more others made 0 low) out) in
      let (same, last) = same_from_push left has.pieces piece has.piece has.same in
      (subst (λ r. IsRight s (name k p r) piece) is (subst (IsRight s (name k p (get_or others made 0))) (sym last) has.right), (subst GoesOn (sym last) has.goes, subst (AreOut s k p (drop (made + 1) others)) (sym same) has.rest))

  -- one more piece that it prepares
  pub one_prepared : (i : ℕ) (q : ℕ) (pieces : List Piece) (piece : Piece) → i < length others → get_or others (length others - 1 - i) 0 ≡ q → IsRight s (name k p q) piece → GoesOn piece
      → AreOut s k p (drop (length others - i) others) pieces → AreOut s k p (drop (length others - (i + 1)) others) (pieces ++ piece ∷ [])
  one_prepared i q pieces piece low is right goes out =
      let made : ℕ = length others - (i + 1) in
      let back : length others - 1 - i ≡ made = omega (arith, low) in
      let behind : suc made ≡ length others - i = omega (arith, low) in
      let here : drop made others ≡ q ∷ drop (length others - i) others =
      drop-cons others made 0 (omega (arith, low)) ∙ ap (λ n. get_or others made 0 ∷ drop n others) behind ∙ ap (λ r. r ∷ drop (length others - i) others) (ap (λ n. get_or others n 0) (sym back) ∙ is) in
      subst (λ qs. AreOut s k p qs (pieces ++ piece ∷ [])) (sym here) (more_out q (drop (length others - i) others) piece pieces right goes out)

  pub none_prepared : AreOut s k p (drop (length others - 0) others) []
  none_prepared = let all : length others ≡ length others - 0 = omega arith in subst (λ n. AreOut s k p (drop n others) []) all (subst (λ qs. AreOut s k p qs []) (sym (drop_all (length others) others (omega arith))) none_out)

  -- one more piece that it took
  pub one_taken : (i q : ℕ) (pieces : List Piece) (piece : Piece) → i < length others → get_or others i 0 ≡ q → IsRight s (name k q p) piece → GoesOn piece
      → AreTaken s k p (take i others) pieces → AreTaken s k p (take (i + 1) others) (pieces ++ piece ∷ [])
  one_taken i q pieces piece low is right goes taken =
      subst (λ qs. AreTaken s k p qs (pieces ++ piece ∷ [])) (sym (take_more others i 0 low ∙ ap (λ r. take i others ++ r ∷ []) is)) (more_taken (take i others) pieces q piece taken right goes)
