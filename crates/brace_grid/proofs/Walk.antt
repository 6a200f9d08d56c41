-- A walk over the spots between two places that takes the indices of those in an area.
use Rattle.std.proofs.Common.{◌≡◌, ◌∙◌, ℕ, ◌+◌, ◌-◌, ◌<◌, ◌≤◌, Bool, true, false, cond, List, [], ◌∷◌, ◌++◌, length, map, get_or, take, drop, refl, sym, ap, arith}
use Rattle.std.specs.List.{filter}
use Rattle.std.proofs.lemmas.List.{append_assoc, map-append, get_or-drop, length-drop}
use Rattle.std.proofs.lemmas.List.Elements.{filter_more}
use Rattle.brace_grid.specs.declared.cells.Spot.{Spot}

module _ (p : Spot → Bool) (xs out : List ℕ) (spots : List Spot) (start i : ℕ) (s : Spot) (h : start ≤ i) (small : i < length spots) (is : s ≡ get_or spots i s) where
  abbrev walked : ℕ → List Spot
  walked j = filter p (take (j - start) (drop start spots))

  next : walked (i + 1) ≡ walked i ++ cond (p s) (s ∷ []) []
  next =
      let n : i + 1 - start ≡ (i - start) + 1 = omega (arith, h) in
      let at : get_or (drop start spots) (i - start) s ≡ s = get_or-drop start spots (i - start) s ∙ ap (λ k. get_or spots k s) (omega (arith, h)) ∙ sym is in
      let more = filter_more p (drop start spots) (i - start) s (omega (arith, length-drop start spots, h, small)) in
      ap (λ k. filter p (take k (drop start spots))) n ∙ more
      ∙ ap (λ x. walked i ++ cond (p x) (x ∷ []) []) at

  pub walk_more : (more : List ℕ) → more ≡ out ++ cond (p s) (s.index ∷ []) [] → out ≡ xs ++ map (λ x. x.index) (walked i)
      → more ≡ xs ++ map (λ x. x.index) (walked (i + 1))
  walk_more more e o =
      e ∙ ap (λ l. l ++ cond (p s) (s.index ∷ []) []) o ∙ append_assoc xs _ _
      ∙ ap (λ l. xs ++ (map (λ x. x.index) (walked i) ++ l)) (mapped (p s))
      ∙ ap (λ l. xs ++ l) (sym (map-append (λ (x : Spot). x.index) (walked i) (cond (p s) (s ∷ []) [])) ∙ ap (map (λ x. x.index)) (sym next))
    where
      mapped : (b : Bool) → cond b (s.index ∷ []) [] ≡ map (λ x. x.index) (cond b (s ∷ []) [])
      mapped true = refl
      mapped false = refl
