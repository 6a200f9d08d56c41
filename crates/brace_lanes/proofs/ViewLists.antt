-- The views of all seats after one changed, and after one more came.
use Rattle.std.proofs.Common.{◌≡◌, ◌≢◌, ◌⊎◌, ◌∙◌, ◌++◌, ℕ, zero, suc, List, [], ◌∷◌, length, set, refl, sym, ap, subst, inl, inr, ⊎_elim}
use mathlib.Core.Option.{some, some-ne-none, some-injective}
use lib.ListN.{get_elem?}
use Rattle.atomic_table.proofs.Lists.{at_set}
use Rattle.brace_lanes.specs.declared.table.View.{View}

-- what stands in a list with one more at its end
pub at_end : {A : Type 0} (xs : List A) (a b : A) (j : ℕ) → get_elem? (xs ++ a ∷ []) j ≡ some b → (get_elem? xs j ≡ some b) ⊎ ((j ≡ length xs) × (a ≡ b))
at_end [] a b zero e = inr (refl, some-injective a b e)
at_end [] a b (suc j) e = absurd (some-ne-none b (sym e))
at_end (x ∷ xs) a b zero e = inl e
at_end (x ∷ xs) a b (suc j) e = ⊎_elim (λ t. inl t) (λ t. inr (ap suc t.0, t.1)) (at_end xs a b j e)

-- what was just written stands there
pub view_here : {A : Type 0} (xs : List A) (j : ℕ) (a b : A) → get_elem? xs j ≡ some a → get_elem? (set xs j b) j ≡ some b
view_here [] j a b e = absurd (some-ne-none a (sym e))
view_here (x ∷ xs) zero a b e = refl
view_here (x ∷ xs) (suc j) a b e = view_here xs j a b e

module _ {S : Type 0} where
  pub each_after : (P : View S → Type 0) (views : List (View S)) (id : ℕ) (w : View S) → P w → ((j : ℕ) (v : View S) → j ≢ id → get_elem? views j ≡ some v → P v)
      → (j : ℕ) (v : View S) → get_elem? (set views id w) j ≡ some v → P v
  each_after P views id w mine others j v e =
      ⊎_elim (λ (t : (j ≡ id) × (w ≡ v)). subst P t.1 mine) (λ (t : (j ≢ id) × (get_elem? views j ≡ some v)). others j v t.0 t.1) (at_set views id j w v e)

  -- no two seats have one number
  abbrev pub AreAlone : List (View S) → Type 0
  AreAlone views = (j k : ℕ) (a b : View S) → get_elem? views j ≡ some a → get_elem? views k ≡ some b → a.number ≡ b.number → j ≡ k

  pub alone_after : (views : List (View S)) (id : ℕ) (v w : View S) → get_elem? views id ≡ some v → w.number ≡ v.number → AreAlone views → AreAlone (set views id w)
  alone_after views id v w at same alone j k a b ej ek e =
      let (va, pa) = was j a ej in
      let (vb, pb) = was k b ek in
      alone j k va vb pa.0 pb.0 (pa.1 ∙ e ∙ sym pb.1)
    where
      was : (j : ℕ) (a : View S) → get_elem? (set views id w) j ≡ some a → (u : View S) × ((get_elem? views j ≡ some u) × (u.number ≡ a.number))
      was j a e = ⊎_elim
          (λ (t : (j ≡ id) × (w ≡ a)). (v, (ap (get_elem? views) t.0 ∙ at, sym same ∙ ap (λ (x : View S). x.number) t.1)))
          (λ (t : (j ≢ id) × (get_elem? views j ≡ some a)). (a, (t.1, refl)))
          (at_set views id j w a e)

  pub alone_more : (views : List (View S)) (w : View S) → ((j : ℕ) (v : View S) → get_elem? views j ≡ some v → v.number ≢ w.number) → AreAlone views → AreAlone (views ++ w ∷ [])
  alone_more views w new alone j k a b ej ek e = elim (at_end views w a j ej) [
    | inl ja ↦ elim (at_end views w b k ek) [
      | inl kb ↦ alone j k a b ja kb e
      | inr (kl, wb) ↦ absurd (new j a ja (e ∙ ap (λ (x : View S). x.number) (sym wb)))
    ]
    | inr (jl, wa) ↦ elim (at_end views w b k ek) [
      | inl kb ↦ absurd (new k b kb (sym e ∙ ap (λ (x : View S). x.number) (sym wa)))
      | inr (kl, wb) ↦ jl ∙ sym kl
    ]
  ]
