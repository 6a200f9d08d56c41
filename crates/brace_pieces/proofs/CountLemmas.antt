-- How much a part gave, step by step.
use Rattle.std.proofs.Common.{◌≡◌, ◌∙◌, refl, sym, ap, subst, ℕ, zero, suc, ◌+◌, ◌≤◌, List, [], ◌∷◌, ◌++◌, take, length, get_or, false, Some, None, arith, true≢false, take_all}
use Rattle.std.specs.Prelude.{slice_get, fold, sum_by}
use Rattle.std.proofs.lemmas.List.{take_more, length-map}
use Rattle.std.proofs.lemmas.List.Sums.{fold-append, sum_by-cons, sum_by_push}
use Rattle.std.proofs.lemmas.Option.{slice_get_within, get_or_from_slice_get}
use Rattle.brace_core.specs.Schedule.{name}
use Rattle.brace_pieces.specs.declared.setting.Setting.{Setting}
use Rattle.brace_pieces.specs.declared.setting.Stage.{Stage}
use Rattle.brace_pieces.specs.declared.setting.Stage.TheVariants as stage
use Rattle.brace_pieces.specs.declared.setting.Step.{Step}
use Rattle.brace_pieces.specs.declared.piece.Piece.{Piece}
use Rattle.brace_pieces.specs.Steps.{steps, met, is_show}
use Rattle.brace_pieces.specs.Continued.{on}
use Rattle.brace_pieces.specs.Right.{share_of, IsRightIn, IsRightAt, shares}
use Rattle.brace_pieces.specs.declared.counts.Counts.{Counts}
use Rattle.brace_pieces.specs.Given.{no_counts, lived, summed, given_to, given_in, counts_behind, counts_up_to}
use Rattle.brace_pieces.specs.Exchanged.{counted, GoesOn, AreOut}
use Rattle.brace_pieces.specs.Exchanged.AreOut.{none_out, more_out}
use Rattle.brace_pieces.proofs.KindLemmas.{border_alone, hand_alone, move_alone, effects_alone, census_alone}

-- two counts, one on the other
abbrev pub plus : Counts → Counts → Counts
plus a b = record { border = a.border + b.border; effects = a.effects + b.effects; moved = a.moved + b.moved; handed = a.handed + b.handed }

pub same_counts : (a b : Counts) → a.border ≡ b.border → a.effects ≡ b.effects → a.moved ≡ b.moved → a.handed ≡ b.handed → a ≡ b
same_counts a b one two three four = λ i. record { border = one i; effects = two i; moved = three i; handed = four i }

plus_none : (c : Counts) → c ≡ plus c no_counts
plus_none c = same_counts c (plus c no_counts) (omega arith) (omega arith) (omega arith) (omega arith)

-- ---- the pieces of a step

-- what a right piece adds
counted_is : (s : Setting) (k t p q : ℕ) (c : Counts) (at : Stage) → is_show at ≡ false → (x : Piece) → IsRightAt s k at t p q x → GoesOn x → counted (on s t).next c x ≡ plus c (given_to s p at t q)
counted_is s k t p q c stage.Hand other = hand_alone s k t p q (λ x. counted (on s t).next c x ≡ plus c (given_to s p stage.Hand t q))
    (λ agents is. same_counts _ _ (omega arith) (omega arith) (omega arith) (ap (λ l. c.handed + length l) is))
counted_is s k t p q c stage.Border other = border_alone s k t p q (λ x. counted (on s t).next c x ≡ plus c (given_to s p stage.Border t q))
    (λ agents is. same_counts _ _ (ap (λ l. c.border + length l) is) (omega arith) (omega arith) (omega arith))
counted_is s k t p q c stage.Effects other = effects_alone s k t p q (λ x. counted (on s t).next c x ≡ plus c (given_to s p stage.Effects t q))
    (λ entries is. let long : length entries ≡ length (shares s t p q (on s t).agents) = sym (length-map entries share_of) ∙ ap length is in same_counts _ _ (omega arith) (ap (λ n. c.effects + n) long) (omega arith) (omega arith))
counted_is s k t p q c stage.Census other = census_alone s k t p q (λ x. counted (on s t).next c x ≡ plus c (given_to s p stage.Census t q))
    (λ census is. plus_none c)
counted_is s k t p q c stage.Move other = move_alone s k t p q (λ x. counted (on s t).next c x ≡ plus c (given_to s p stage.Move t q))
    (λ agents is. same_counts _ _ (omega arith) (omega arith) (ap (λ l. c.moved + length (lived (on s t).next l)) is) (omega arith))
counted_is s k t p q c stage.Show other = absurd (true≢false other)

module _ (s : Setting) (p k : ℕ) where
  -- one more whom it meets
  one_met : {A : Type 0} (give : A → Counts) (c : Counts) (x : A) (xs : List A) → plus (plus c (summed give xs)) (give x) ≡ plus c (summed give (x ∷ xs))
  one_met {A = A} give c x xs = same_counts _ _
      (one (λ y. (give y).border) c.border) (one (λ y. (give y).effects) c.effects) (one (λ y. (give y).moved) c.moved) (one (λ y. (give y).handed) c.handed)
    where
      one : (f : A → ℕ) (n : ℕ) → n + sum_by f xs + f x ≡ n + sum_by f (x ∷ xs)
      one f n = let more = sum_by-cons f x xs in omega (arith, more)

  -- all pieces that it puts in a step
  pub out_counted : (at : Step) → slice_get (steps s) k ≡ Some at → is_show at.stage ≡ false → (c : Counts) (others : List ℕ) (pieces : List Piece) → AreOut s k p others pieces
      → fold (counted (on s at.tick).next) c pieces ≡ plus c (summed (given_to s p at.stage at.tick) others)
  out_counted at stands other c _ _ none_out = plus_none c
  out_counted at stands other c _ _ (more_out q others x pieces right goes rest) =
      fold-append (counted (on s at.tick).next) c pieces (x ∷ [])
      ∙ ap (λ n. counted (on s at.tick).next n x) (out_counted at stands other c others pieces rest)
      ∙ counted_is s k at.tick p q (plus c (summed (given_to s p at.stage at.tick) others)) at.stage other x (subst (IsRightIn s (name k p q) x) stands right) goes
      ∙ one_met (given_to s p at.stage at.tick) c q others

  -- ---- one more step

  pub counts_more : (at : Step) → slice_get (steps s) k ≡ Some at → plus (counts_behind s p k) (given_in s p at) ≡ counts_up_to s p k
  counts_more at stands =
      let here : get_or (steps s) k at ≡ at = get_or_from_slice_get (steps s) k at at stands in
      let more : take (k + 1) (steps s) ≡ take k (steps s) ++ at ∷ [] = take_more (steps s) k at (slice_get_within (steps s) k at stands) ∙ ap (λ x. take k (steps s) ++ x ∷ []) here in
      same_counts _ _ (one (λ x. (given_in s p x).border)) (one (λ x. (given_in s p x).effects)) (one (λ x. (given_in s p x).moved)) (one (λ x. (given_in s p x).handed)) ∙ ap (summed (given_in s p)) (sym more)
    where
      one : (f : Step → ℕ) → sum_by f (take k (steps s)) + f at ≡ sum_by f (take k (steps s) ++ at ∷ [])
      one f = sym (sum_by_push f (take k (steps s)) at)

  -- none behind the last one
  pub counts_end : slice_get (steps s) k ≡ None → counts_behind s p k ≡ counts_up_to s p k
  counts_end none =
      let long : length (steps s) ≤ k = none_there (steps s) k none in
      ap (summed (given_in s p)) (take_all k (steps s) long ∙ sym (take_all (k + 1) (steps s) (omega (arith, long))))
    where
      none_there : (xs : List Step) (k : ℕ) → slice_get xs k ≡ None → length xs ≤ k
      none_there [] k e = omega arith
      none_there (x ∷ xs) zero e = absurd (cc)
      none_there (x ∷ xs) (suc k) e = omega (arith, none_there xs k e)

  -- where all is shown nothing is given
  pub counts_showing : (at : Step) → slice_get (steps s) k ≡ Some at → at.stage ≡ stage.Show → counts_behind s p k ≡ counts_up_to s p k
  counts_showing at stands show =
      plus_none (counts_behind s p k)
      ∙ ap (plus (counts_behind s p k)) (same_counts _ _ (none (met s at p)) (none (met s at p)) (none (met s at p)) (none (met s at p)) ∙ ap (λ st. summed (given_to s p st at.tick) (met s at p)) (sym show))
      ∙ counts_more at stands
    where
      none : (qs : List ℕ) → 0 ≡ sum_by (λ q. 0) qs
      none [] = refl
      none (q ∷ qs) = none qs

  -- elsewhere what its pieces bring
  pub counts_exchanging : (at : Step) → slice_get (steps s) k ≡ Some at → is_show at.stage ≡ false → (pieces : List Piece) → AreOut s k p (met s at p) pieces → fold (counted (on s at.tick).next) (counts_behind s p k) pieces ≡ counts_up_to s p k
  counts_exchanging at stands other pieces out = out_counted at stands other (counts_behind s p k) (met s at p) pieces out ∙ counts_more at stands
