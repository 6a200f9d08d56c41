-- What the elements of a list give, part by part: each element that gives something has one part.
use Rattle.std.proofs.Common.{◌≡◌, ◌∙◌, refl, sym, ap, subst, ℕ, List, [], ◌∷◌, ◌++◌, filter, flat_map, Bool, true, false, cond, ◌⊎◌, inl, inr}
use Rattle.std.specs.List.{Contains, list_any}
use Rattle.std.specs.List.Sorted.{IsPermutation}
use Rattle.std.proofs.lemmas.Bool.{true≢false}
use Rattle.std.proofs.lemmas.List.Sorted.{IsPermutation-sym}
use Rattle.brace_invert.proofs.Heard.{seen_in}
use Rattle.brace_num.proofs.Booleans.{and_swap}
use Rattle.brace_num.proofs.Lists.{in_more, in_first, filter_alike, filter_twice}
use Rattle.brace_pieces.proofs.Merges.{Apart, given}

module _ {A B : Type 0} (to : A → List B) where
  -- what elements give that do not pass a test is nothing
  pub given_by_kept : (t : A → Bool) (xs : List A) → ((x : A) → Contains xs x → t x ≡ false → to x ≡ []) → flat_map to (filter t xs) ≡ flat_map to xs
  given_by_kept t [] none = refl
  given_by_kept t (x ∷ xs) none = (elim (t x) as (λ c. (c ≡ false → to x ≡ []) → flat_map to (filter t xs) ≡ flat_map to xs → flat_map to (cond c (x ∷ filter t xs) (filter t xs)) ≡ to x ++ flat_map to xs) [
    | true ↦ λ out rest. ap (λ ys. to x ++ ys) rest
    | false ↦ λ out rest. rest ∙ sym (ap (λ ys. ys ++ flat_map to xs) (out refl))
  ]) (none x (in_first x xs)) (given_by_kept t xs (λ y w. none y (in_more x xs y w)))

  -- what those give that pass a test, of those that pass another; who does not gives nothing
  pub given_by_held : (t h : A → Bool) (xs : List A) → ((x : A) → Contains xs x → h x ≡ false → to x ≡ []) → flat_map to (filter t (filter h xs)) ≡ flat_map to (filter t xs)
  given_by_held t h xs none =
      ap (flat_map to) (filter_twice t h xs ∙ filter_alike _ _ xs (λ x w. and_swap (h x) (t x)) ∙ sym (filter_twice h t xs))
      ∙ given_by_kept h (filter t xs) (λ x w. none x (seen_in t xs x w).0)

  -- all that is given is given part by part
  pub parted : (own : ℕ → A → Bool) → ((p q : ℕ) (a : A) → own p a ≡ true → own q a ≡ true → p ≡ q) → (qs : List ℕ) → Apart qs → (xs : List A)
      → ((x : A) → Contains xs x → (to x ≡ []) ⊎ (list_any (λ q. own q x) qs ≡ true)) → IsPermutation (flat_map to xs) (flat_map (λ q. flat_map to (filter (own q) xs)) qs)
  parted own only qs apart xs one =
      subst (λ ys. IsPermutation ys (flat_map (λ q. flat_map to (filter (own q) xs)) qs)) (given_by_kept (λ a. list_any (λ q. own q a) qs) xs (λ x w. silent x (one x w)))
      (IsPermutation-sym _ _ (given to own only qs apart xs))
    where
      silent : (x : A) → (to x ≡ []) ⊎ (list_any (λ q. own q x) qs ≡ true) → list_any (λ q. own q x) qs ≡ false → to x ≡ []
      silent x (inl none) out = none
      silent x (inr owned) out = absurd (true≢false (sym owned ∙ out))
