-- Gifts, put in their places one after another.
use Rattle.std.proofs.Common.{◌≡◌, ◌∙◌, sym, refl, ap, List, [], ◌∷◌, zip, fold, inl, inr}
use Rattle.std.specs.Prelude.{◌⊎◌, slice_set}
use Rattle.brace_model.specs.declared.program.Value.{Value}
use Rattle.brace_model.specs.declared.program.Gift.{Gift}
use Rattle.brace_model.specs.Next.{with_gifts}

-- two lists of which one is at its end have no pairs
pub no_pairs : {A B : Type 0} (xs : List A) (ys : List B) → (xs ≡ []) ⊎ (ys ≡ []) → zip xs ys ≡ []
no_pairs [] ys none = refl
no_pairs (x ∷ xs) [] none = refl
no_pairs (x ∷ xs) (y ∷ ys) (inl e) = absurd (cc)
no_pairs (x ∷ xs) (y ∷ ys) (inr e) = absurd (cc)

-- where no gift is left, all are given
pub all_given : (states old : List Value) (gs gifts : List Gift) (vs given : List Value)
    → (gs ≡ []) ⊎ (vs ≡ []) → with_gifts states gs vs ≡ with_gifts old gifts given
    → states ≡ with_gifts old gifts given
all_given states old gs gifts vs given none h =
    ap (fold (λ (l : List Value) (g : Gift × Value). slice_set l g.0.state g.1) states)
    (sym (no_pairs gs vs none)) ∙ h
