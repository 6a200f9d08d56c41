-- What std's lemmas on lists leave out: membership, equal maps and filters, one more item.
use Rattle.std.proofs.Common.{◌≡◌, ◌∙◌, ◌+◌, ◌<◌, ℕ, zero, suc, Bool, true, false, cond, ◌&&◌, List, [], ◌∷◌, ◌++◌, map, filter, filter_map, flat_map, find, sum_by, length, take, get_or, slice_get, All, Contains, Option, Some, refl, sym, ap, ap₂, subst, arith, inl, inr, append-nil}
use Rattle.std.specs.Prelude.{◌⊎◌}
use Rattle.std.specs.List.{AllByRecursion, cons_option}
use Rattle.std.proofs.lemmas.List.{take_more}
use Rattle.std.proofs.lemmas.List.Sums.{sum_by-cons}
use Rattle.std.proofs.lemmas.List.Concat.{flat_map-append}
use Rattle.std.proofs.lemmas.Option.{get_or_from_slice_get, slice_get_within}

module _ {A : Type 0} where
  -- ---- what is in a list

  pub in_more : (x : A) (xs : List A) (a : A) → Contains xs a → Contains (x ∷ xs) a
  in_more x xs a (k, low, is) = (suc k, omega (arith, low), is)

  pub in_first : (x : A) (xs : List A) → Contains (x ∷ xs) x
  in_first x xs = (0, omega arith, refl)

  pub first_or_later : (x : A) (xs : List A) (a : A) → Contains (x ∷ xs) a → (x ≡ a) ⊎ Contains xs a
  first_or_later x xs a (zero, low, is) = inl is
  first_or_later x xs a (suc k, low, is) = inr (k, omega (arith, low), is)

  -- a list that has nothing
  pub none_in : (xs : List A) → ((x : A) → Contains xs x → ⊥) → xs ≡ []
  none_in [] none = refl
  none_in (x ∷ xs) none = absurd (none x (in_first x xs))

  pub none_long : (xs : List A) → length xs ≡ 0 → xs ≡ []
  none_long [] e = refl
  none_long (x ∷ xs) e = absurd (omega (arith, e))

  -- the front of a list that has nothing
  pub none_front : (xs ys : List A) → xs ++ ys ≡ [] → xs ≡ []
  none_front [] ys e = refl
  none_front (x ∷ xs) ys e = absurd (cc)

  -- what holds of all holds at a place
  pub All-place : (P : A → Type 0) (xs : List A) (k : ℕ) (x : A) → All P xs
      → slice_get xs k ≡ Some x → P x
  All-place P xs k x all is =
      subst P (get_or_from_slice_get xs k x x is) (all k x (slice_get_within xs k x is))

  -- what holds of all that a list has holds of all
  pub All-from_contains : (P : A → Type 0) (xs : List A) → ((x : A) → Contains xs x → P x)
      → All P xs
  All-from_contains P xs h k d low = h (get_or xs k d) (k, low, get_or-default xs k d low)
    where
      get_or-default : (xs : List A) (k : ℕ) (d : A) → k < length xs
          → get_or xs k (get_or xs k d) ≡ get_or xs k d
      get_or-default [] k d low = absurd (omega (arith, low))
      get_or-default (x ∷ xs) zero d low = refl
      get_or-default (x ∷ xs) (suc k) d low = get_or-default xs k d (omega (arith, low))

  -- a weaker fact of each
  pub each_weaker : (P Q : A → Type 0) → ((x : A) → P x → Q x) → (xs : List A) → AllByRecursion P xs
      → AllByRecursion Q xs
  each_weaker P Q next [] h = tt
  each_weaker P Q next (x ∷ xs) h = (next x h.0, each_weaker P Q next xs h.1)

  -- a fact of each of two lists
  pub each_append : (P : A → Type 0) (xs ys : List A) → AllByRecursion P xs → AllByRecursion P ys
      → AllByRecursion P (xs ++ ys)
  each_append P [] ys h g = g
  each_append P (x ∷ xs) ys h g = (h.0, each_append P xs ys h.1 g)

  pub each_front : (P : A → Type 0) (xs ys : List A) → AllByRecursion P (xs ++ ys)
      → AllByRecursion P xs
  each_front P [] ys h = tt
  each_front P (x ∷ xs) ys h = (h.0, each_front P xs ys h.1)

  -- ---- what a filter keeps

  pub filter_all : (xs : List A) → filter (λ x. true) xs ≡ xs
  filter_all [] = refl
  filter_all (x ∷ xs) = ap (λ ys. x ∷ ys) (filter_all xs)

  pub filter_none : (xs : List A) → filter (λ x. false) xs ≡ []
  filter_none [] = refl
  filter_none (x ∷ xs) = filter_none xs

  -- tests that agree on what the list has
  pub filter_alike : (t u : A → Bool) (xs : List A) → ((x : A) → Contains xs x → t x ≡ u x)
      → filter t xs ≡ filter u xs
  filter_alike t u [] same = refl
  filter_alike t u (x ∷ xs) same =
      ap₂ (λ b ys. cond b (x ∷ ys) ys) (same x (in_first x xs))
      (filter_alike t u xs (λ a has. same a (in_more x xs a has)))

  -- what passes two tests, one after the other
  pub filter_twice : (t u : A → Bool) (xs : List A)
      → filter t (filter u xs) ≡ filter (λ a. u a && t a) xs
  filter_twice t u [] = refl
  filter_twice t u (x ∷ xs) = elim (u x) as
      (λ v. filter t (cond v (x ∷ filter u xs) (filter u xs)) ≡ cond (v && t x)
      (x ∷ filter (λ a. u a && t a) xs) (filter (λ a. u a && t a) xs)) [
        | true ↦ ap (λ ys. cond (t x) (x ∷ ys) ys) (filter_twice t u xs)
        | false ↦ filter_twice t u xs
      ]

  -- a weaker test first loses nothing
  pub filter_weaker : (t u : A → Bool) (xs : List A)
      → ((x : A) → Contains xs x → t x ≡ true → u x ≡ true) → filter t (filter u xs) ≡ filter t xs
  filter_weaker t u xs weaker = filter_twice t u xs
      ∙ filter_alike (λ a. u a && t a) t xs (λ x has. both (t x) (u x) (weaker x has))
    where
      both : (v w : Bool) → (v ≡ true → w ≡ true) → (w && v) ≡ v
      both true w h = ap (λ b. b && true) (h refl)
      both false true h = refl
      both false false h = refl

  pub in_filter : (t : A → Bool) (xs : List A) (a : A) → Contains xs a → t a ≡ true
      → Contains (filter t xs) a
  in_filter t [] a (k, low, is) passes = absurd (omega (arith, low))
  in_filter t (x ∷ xs) a has passes =
      by_place (first_or_later x xs a has) (λ later. in_filter t xs a later passes)
    where
      by_test : (v : Bool) → Contains (filter t xs) a
          → Contains (cond v (x ∷ filter t xs) (filter t xs)) a
      by_test true there = in_more x (filter t xs) a there
      by_test false there = there

      by_place : (x ≡ a) ⊎ Contains xs a → (Contains xs a → Contains (filter t xs) a)
          → Contains (filter t (x ∷ xs)) a
      by_place (inl same) rest = rw (ap t same ∙ passes) (0, omega arith, same)
      by_place (inr later) rest = by_test (t x) (rest later)

  -- the first that passes is one of them and passes
  pub found_passes : (t : A → Bool) (xs : List A) (x : A) → find t xs ≡ Some x
      → Contains xs x × (t x ≡ true)
  found_passes t [] x e = absurd (cc)
  found_passes t (y ∷ ys) x e = by_test (t y) refl e (found_passes t ys x)
    where
      by_test : (c : Bool) → t y ≡ c → cond c (Some y) (find t ys) ≡ Some x
          → (find t ys ≡ Some x → Contains ys x × (t x ≡ true)) → Contains (y ∷ ys) x × (t x ≡ true)
      by_test true is e rest =
          let same : y ≡ x = cc in ((0, omega arith, same), subst (λ z. t z ≡ true) same is)
      by_test false is e rest = let h = rest e in (in_more y ys x h.0, h.1)

  -- ---- sums

  pub sum_none : (xs : List A) → sum_by (λ x. 0) xs ≡ 0
  sum_none [] = refl
  sum_none (x ∷ xs) = omega (arith, sum_by-cons (λ x. 0) x xs, sum_none xs)

  -- numbers that agree on what the list has
  pub sum_alike : (f g : A → ℕ) (xs : List A) → ((x : A) → Contains xs x → f x ≡ g x)
      → sum_by f xs ≡ sum_by g xs
  sum_alike f g [] same = refl
  sum_alike f g (x ∷ xs) same =
      omega (
        arith,
        sum_by-cons f x xs,
        sum_by-cons g x xs,
        same x (in_first x xs),
        sum_alike f g xs
            (λ y has. same y (in_more x xs y has)),
      )

  -- ---- one item more

  -- the item behind a list
  pub at_seam : (xs : List A) (y : A) (ys : List A) → slice_get (xs ++ y ∷ ys) (length xs) ≡ Some y
  at_seam [] y ys = refl
  at_seam (x ∷ xs) y ys = at_seam xs y ys

  -- two lists that are one have one first item
  pub same_parts : (x y : A) (xs ys : List A) → x ∷ xs ≡ y ∷ ys → (x ≡ y) × (xs ≡ ys)
  same_parts x y xs ys e = (cc, cc)

  pub take_next : (xs : List A) (i : ℕ) (x : A) → i < length xs → x ≡ get_or xs i x
      → take (i + 1) xs ≡ take i xs ++ x ∷ []
  take_next xs i x le is = take_more xs i x le ∙ ap (λ y. take i xs ++ y ∷ []) (sym is)

module _ {A B : Type 0} where
  -- ---- functions that agree on what the list has

  pub map_alike : (f g : A → B) (xs : List A) → ((x : A) → Contains xs x → f x ≡ g x)
      → map f xs ≡ map g xs
  map_alike f g [] same = refl
  map_alike f g (x ∷ xs) same = ap₂ (λ y ys. y ∷ ys) (same x (in_first x xs))
      (map_alike f g xs (λ y has. same y (in_more x xs y has)))

  pub flat_map_alike : (f g : A → List B) (xs : List A) → ((x : A) → Contains xs x → f x ≡ g x)
      → flat_map f xs ≡ flat_map g xs
  flat_map_alike f g [] same = refl
  flat_map_alike f g (x ∷ xs) same = ap₂ (λ ys zs. ys ++ zs) (same x (in_first x xs))
      (flat_map_alike f g xs (λ y has. same y (in_more x xs y has)))

  pub filter_map_alike : (f g : A → Option B) (xs : List A) → ((x : A) → Contains xs x → f x ≡ g x)
      → filter_map f xs ≡ filter_map g xs
  filter_map_alike f g [] same = refl
  filter_map_alike f g (x ∷ xs) same = ap₂ cons_option (same x (in_first x xs))
      (filter_map_alike f g xs (λ y has. same y (in_more x xs y has)))

  -- ---- one item more

  pub flat_map_next : (f : A → List B) (xs : List A) (i : ℕ) (x : A) → i < length xs
      → x ≡ get_or xs i x → flat_map f (take (i + 1) xs) ≡ flat_map f (take i xs) ++ f x
  flat_map_next f xs i x le is =
      ap (flat_map f) (take_next xs i x le is) ∙ flat_map-append f (take i xs) (x ∷ [])
      ∙ ap (λ l. flat_map f (take i xs) ++ l) (append-nil (f x))

  -- ---- what is in what is made of a list

  pub in_map : (f : A → B) (xs : List A) (a : A) → Contains xs a → Contains (map f xs) (f a)
  in_map f [] a (k, low, is) = absurd (omega (arith, low))
  in_map f (x ∷ xs) a (zero, low, is) = (0, omega arith, ap f is)
  in_map f (x ∷ xs) a (suc k, low, is) =
      in_more (f x) (map f xs) (f a) (in_map f xs a (k, omega (arith, low), is))
