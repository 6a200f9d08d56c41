-- Constants that are bound and set back.
use Rattle.std.proofs.Common.{◌≡◌, ◌∙◌, refl, ap, ℕ, zero, suc, List, [], ◌∷◌, ◌++◌, ◌≤◌, length, set, get_or, arith}
use Rattle.brace_model.specs.declared.program.Value.{Value}
use Rattle.brace_eval.specs.declared.seat.Bound.{Bound}
use Rattle.brace_eval.specs.inner.Walks.{undone}

-- the last one bound is the first set back
pub undone-snoc : (trail : List Bound) (b : Bound) (locals : List Value)
    → undone (trail ++ b ∷ []) locals ≡ undone trail (set locals b.place b.before)
undone-snoc [] b locals = refl
undone-snoc (c ∷ trail) b locals = ap (λ (l : List Value). set l c.place c.before) (undone-snoc trail b locals)

set-back : (l : List Value) (i : ℕ) (v d : Value) → set (set l i v) i (get_or l i d) ≡ l
set-back [] i v d = refl
set-back (x ∷ l) zero v d = refl
set-back (x ∷ l) (suc i) v d = ap (λ (r : List Value). x ∷ r) (set-back l i v d)

-- one more constant is bound
pub rebound : (trail : List Bound) (n : ℕ) (d v : Value) (locals : List Value)
    → undone (trail ++ record { place = n; before = get_or locals n d } ∷ []) (set locals n v) ≡ undone trail locals
rebound trail n d v locals =
    undone-snoc trail (record { place = n; before = get_or locals n d }) (set locals n v)
    ∙ ap (undone trail) (set-back locals n v d)

set-past : (l : List Value) (i : ℕ) (v : Value) → length l ≤ i → set l i v ≡ l
set-past [] i v le = refl
set-past (x ∷ l) zero v le = absurd (omega (arith, le))
set-past (x ∷ l) (suc i) v le = ap (λ (r : List Value). x ∷ r) (set-past l i v (omega (arith, le)))

-- one that has no place
pub undone-past : (trail : List Bound) (b : Bound) (locals : List Value) → length locals ≤ b.place
    → undone (trail ++ b ∷ []) locals ≡ undone trail locals
undone-past trail b locals le = undone-snoc trail b locals ∙ ap (undone trail) (set-past locals b.place b.before le)
