-- A fold in which two neighbours may change places gives the same over every order of a list.
use Rattle.std.proofs.Common.{◌≡◌, ◌∙◌, refl, ap, ℕ, zero, suc, ◌<◌, List, [], ◌∷◌, length, get_or, set, arith}
use Rattle.std.specs.List.{All, fold, swap}
use Rattle.std.specs.List.Sorted.{IsPermutation}
use Rattle.std.proofs.lemmas.List.Elements.{All-head, All-tail}
use Rattle.std.proofs.lemmas.List.Sorted.{IsPermutation-keeps, IsPermutation-swap, All-permutation}

module _ {A B : Type 0} (f : B → A → B) (P : A → Type 0)
    (turn : (b : B) (x y : A) → P x → P y → f (f b x) y ≡ f (f b y) x) where
  -- the first element and a later one change places
  to_head : (l : List A) (j : ℕ) (b : B) (x d : A) → P x → All P l → j < length l
      → fold f b (x ∷ l) ≡ fold f b (get_or l j d ∷ set l j x)
  to_head [] j b x d p all h = absurd (omega arith)
  to_head (y ∷ l) zero b x d p all h = ap (λ c. fold f c l) (turn b x y p (All-head P y l all))
  to_head (y ∷ l) (suc j) b x d p all h =
      let q = All-head P y l all in
      let rest = All-tail P y l all in
      ap (λ c. fold f c l) (turn b x y p q)
      ∙ to_head l j (f b y) x d p rest (omega arith)
      ∙ ap (λ c. fold f c (set l j x)) (turn b y (get_or l j d) q (rest j d (omega arith)))

  exchanged : (l : List A) (i j : ℕ) (b : B) (d : A) → All P l → i < length l → j < length l
      → fold f b l ≡ fold f b (set (set l i (get_or l j d)) j (get_or l i d))
  exchanged [] i j b d all p q = absurd (omega arith)
  exchanged (x ∷ l) zero zero b d all p q = refl
  exchanged (x ∷ l) zero (suc j) b d all p q = to_head l j b x d (All-head P x l all) (All-tail P x l all) (omega arith)
  exchanged (x ∷ l) (suc i) zero b d all p q = to_head l i b x d (All-head P x l all) (All-tail P x l all) (omega arith)
  exchanged (x ∷ l) (suc i) (suc j) b d all p q = exchanged l i j (f b x) d (All-tail P x l all) (omega arith) (omega arith)

  swapped : (l : List A) (i j : ℕ) (b : B) → All P l → i < length l → j < length l
      → fold f b l ≡ fold f b (swap l i j)
  swapped [] i j b all p q = refl
  swapped (x ∷ l) i j b all p q = exchanged (x ∷ l) i j b x all p q

  pub fold-IsPermutation : (b : B) (xs ys : List A) → All P xs → IsPermutation xs ys → fold f b xs ≡ fold f b ys
  fold-IsPermutation b xs ys all perm =
      (IsPermutation-keeps xs (λ l. All P l × (fold f b xs ≡ fold f b l)) (all, refl)
      (λ l i j p q (h, e). (All-permutation P l (swap l i j) (IsPermutation-swap l (swap l i j) i j p q refl) h, e ∙ swapped l i j b h p q))
      ys perm).1
