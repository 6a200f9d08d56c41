-- Items whose keys differ have one order by rising key.
use Rattle.std.proofs.Common.{◌≡◌, ◌<◌, ◌+◌, ℕ, zero, suc, Bool, true, false, cond, List, [], ◌∷◌, map, filter, length, sym, refl, ap, ap₂, arith, inl, inr}
use Rattle.std.specs.Prelude.{nat_eq, nat_lt}
use Rattle.std.specs.List.{All, AllPairs, Contains, IsDistinct}
use Rattle.std.specs.List.Sorted.{IsPermutation, IsNonDecreasingBy, IsStrictlyIncreasing}
use Rattle.std.proofs.lemmas.Bool.{cases_Bool, ltb-true, ltb-false, ne_eqb, eq-eqb}
use Rattle.std.proofs.lemmas.List.{get_or-map, length-map}
use Rattle.std.proofs.lemmas.List.Elements.{All-cons}
use Rattle.std.proofs.lemmas.List.Kept.{AllPairs-cons, AllPairs-filter, AllPairs-from_increasing}
use Rattle.std.proofs.lemmas.List.Sorted.{IsPermutation-refl, IsPermutation-sym, IsPermutation-trans, IsPermutation-cons, IsPermutation-middle, IsPermutation-map, All-permutation, Contains-permutation}
use Rattle.std.proofs.lemmas.Map.Keys.{IsDistinct-IsPermutation, IsDistinct-from_apart, apart_from_distinct, IsStrictlyIncreasing-from_distinct}
use Rattle.brace_num.specs.Orders.{placed, by_key}
use Rattle.brace_num.proofs.Lists.{in_first}
use Rattle.brace_num.proofs.Numbers.{eq_swap}

-- no number, and one number, rise
pub none_rise : IsStrictlyIncreasing []
none_rise k low = absurd (omega (arith, low))

pub one_rises : (n : ℕ) → IsStrictlyIncreasing (n ∷ [])
one_rises n k low = absurd (omega (arith, low))

module _ {X : Type 0} (key : X → ℕ) where
  -- the first item has the lower key
  abbrev IsBelow : X → X → Type 0
  IsBelow a b = key a < key b

  -- each key is below those behind it
  abbrev pub Rises : List X → Type 0
  Rises xs = AllPairs (λ a b. key a < key b) xs

  -- two items have different keys
  abbrev Differs : X → X → Type 0
  Differs a b = nat_eq (key a) (key b) ≡ false

  some_item : (xs : List X) (i : ℕ) → i < length xs → X
  some_item [] i low = absurd (omega (arith, low))
  some_item (x ∷ xs) i low = x

  -- ---- as the keys have it, and back

  pub rises_by_keys : (xs : List X) → IsStrictlyIncreasing (map key xs) → Rises xs
  rises_by_keys xs up i j d lt low =
      let below = AllPairs-from_increasing (map key xs) up i j 0 lt
      (omega (arith, low, length-map xs key)) in
      omega (
        arith,
        below,
        get_or-map key xs i d 0
            (omega (arith, lt, low)),
        get_or-map key xs j d 0 low,
      )

  pub keys_by_rises : (xs : List X) → Rises xs → IsStrictlyIncreasing (map key xs)
  keys_by_rises xs up k low =
      let there : k + 1 < length xs = omega (arith, low, length-map xs key) in
      let d = some_item xs (k + 1) there in
      omega (
        arith,
        up k (k + 1) d (omega arith) there,
        get_or-map key xs k d 0
            (omega (arith, there)),
        get_or-map key xs (k + 1) d 0 there,
      )

  pub pairs_differ : (xs : List X) → IsDistinct nat_eq (map key xs) → AllPairs Differs xs
  pairs_differ xs apart i j d lt low =
      rw (sym (get_or-map key xs i d 0 (omega (arith, lt, low))), sym (get_or-map key xs j d 0 low))
      (apart_from_distinct nat_eq (map key xs) i j 0 apart lt
      (omega (arith, low, length-map xs key)))

  pub differ_by_pairs : (xs : List X) → AllPairs Differs xs → IsDistinct nat_eq (map key xs)
  differ_by_pairs xs apart = IsDistinct-from_apart nat_eq (map key xs) (λ i j e lt low.
      let there : j < length xs = omega (arith, low, length-map xs key) in
      let d = some_item xs j there in
      rw (get_or-map key xs i d e (omega (arith, lt, there)), get_or-map key xs j d e there)
      (apart i j d lt there))

  -- rising keys differ
  pub rising_differ : (xs : List X) → Rises xs → IsDistinct nat_eq (map key xs)
  rising_differ xs up = differ_by_pairs xs
      (λ i j d lt low. ne_eqb _ _ (λ same. omega (arith, up i j d lt low, same)))

  -- keys differ in another order too
  pub distinct_moved : (xs ys : List X) → IsPermutation xs ys → IsDistinct nat_eq (map key xs)
      → IsDistinct nat_eq (map key ys)
  distinct_moved xs ys p apart = IsDistinct-IsPermutation nat_eq eq_swap (map key xs) (map key ys)
      (IsPermutation-map key xs ys p) apart

  -- keys that differ and do not fall rise
  pub sorted_rises : (xs : List X) → IsDistinct nat_eq (map key xs) → IsNonDecreasingBy key xs
      → IsStrictlyIncreasing (map key xs)
  sorted_rises xs apart up = IsStrictlyIncreasing-from_distinct (map key xs) (λ i j e le low.
      let there : j < length xs = omega (arith, low, length-map xs key) in
      let d = some_item xs j there in
      rw (get_or-map key xs i d e (omega (arith, le, there)), get_or-map key xs j d e there)
      (up i j d le there)) apart

  -- a filter keeps the order, and keeps keys apart
  pub filter_rises : (t : X → Bool) (xs : List X) → IsStrictlyIncreasing (map key xs)
      → IsStrictlyIncreasing (map key (filter t xs))
  filter_rises t xs up =
      keys_by_rises (filter t xs) (AllPairs-filter IsBelow t xs (rises_by_keys xs up))

  -- ---- one order

  tail_rises : (x : X) (xs : List X) → Rises (x ∷ xs) → Rises xs
  tail_rises x xs up i j d lt low = up (suc i) (suc j) d (omega (arith, lt)) (omega (arith, low))

  -- of two rising lists of which each has what the other has, the rest has what the other's rest has
  rest_has : (x y : X) (xs ys : List X) → x ≡ y → Rises (x ∷ xs)
      → ((a : X) → Contains (x ∷ xs) a → Contains (y ∷ ys) a) → (a : X) → Contains xs a
      → Contains ys a
  rest_has x y xs ys same up each a (k, low, is) = by_place (each a (suc k, omega (arith, low), is))
    where
      by_place : Contains (y ∷ ys) a → Contains ys a
      by_place (zero, low', is') =
          let below = up zero (suc k) a (omega arith) (omega (arith, low)) in
          absurd (omega (arith, below, ap key is, ap key is', ap key same))
      by_place (suc m, low', is') = (m, omega (arith, low'), is')

  -- two rising lists with the same items are one
  pub one_rising : (xs ys : List X) → Rises xs → Rises ys
      → ((a : X) → Contains xs a → Contains ys a) → ((a : X) → Contains ys a → Contains xs a)
      → xs ≡ ys
  one_rising [] [] u v h g = refl
  one_rising [] (y ∷ ys) u v h g =
      let (k, low, is) = g y (in_first y ys) in absurd (omega (arith, low))
  one_rising (x ∷ xs) [] u v h g =
      let (k, low, is) = h x (in_first x xs) in absurd (omega (arith, low))
  one_rising (x ∷ xs) (y ∷ ys) u v h g =
      let same : x ≡ y = heads (h x (in_first x xs)) (g y (in_first y ys)) in
      ap₂ (λ (a : X) (l : List X). a ∷ l) same
      (one_rising xs ys (tail_rises x xs u) (tail_rises y ys v) (rest_has x y xs ys same u h)
      (rest_has y x ys xs (sym same) v g))
    where
      heads : Contains (y ∷ ys) x → Contains (x ∷ xs) y → x ≡ y
      heads (zero, low, is) other = sym is
      heads (suc k, low, is) (zero, low', is') = is'
      heads (suc k, low, is) (suc m, low', is') =
          let one = v zero (suc k) x (omega arith) (omega (arith, low)) in
          let two = u zero (suc m) y (omega arith) (omega (arith, low')) in
          absurd (omega (arith, one, two, ap key is, ap key is'))

  -- the same where one is the other in another order
  pub one_moved : (xs ys : List X) → IsPermutation xs ys → IsStrictlyIncreasing (map key xs)
      → IsStrictlyIncreasing (map key ys) → xs ≡ ys
  one_moved xs ys p u v =
      one_rising xs ys (rises_by_keys xs u) (rises_by_keys ys v)
      (λ a has. Contains-permutation xs ys a p has)
      (λ a has. Contains-permutation ys xs a (IsPermutation-sym xs ys p) has)

  -- a rising list is the order of its items in which keys do not fall
  pub one_sorted : (xs ys : List X) → IsPermutation ys xs → IsNonDecreasingBy key xs
      → IsStrictlyIncreasing (map key ys) → xs ≡ ys
  one_sorted xs ys p up rises =
      let apart = distinct_moved ys xs p (rising_differ ys (rises_by_keys ys rises)) in
      one_moved xs ys (IsPermutation-sym ys xs p) (sorted_rises xs apart up) rises

  -- ---- the order of the definition

  placed_keeps : (a : X) (xs : List X) → IsPermutation (a ∷ xs) (placed key a xs)
  placed_keeps a [] = IsPermutation-refl (a ∷ [])
  placed_keeps a (b ∷ rest) =
      elim (nat_lt (key a) (key b)) as
      (λ t. IsPermutation (a ∷ b ∷ rest) (cond t (a ∷ b ∷ rest) (b ∷ placed key a rest))) [
        | true ↦ IsPermutation-refl (a ∷ b ∷ rest)
        | false ↦ IsPermutation-trans _ _ _
            (IsPermutation-sym _ _ (IsPermutation-middle (b ∷ []) a rest))
            (IsPermutation-cons b _ _ (placed_keeps a rest))
      ]

  pub by_key_keeps : (xs : List X) → IsPermutation xs (by_key key xs)
  by_key_keeps [] = IsPermutation-refl []
  by_key_keeps (a ∷ rest) = IsPermutation-trans _ _ _ (IsPermutation-cons a _ _ (by_key_keeps rest))
      (placed_keeps a (by_key key rest))

  -- the first of a rising list is below those behind it
  behind_first : (a : X) (xs : List X) → Rises (a ∷ xs) → All (IsBelow a) xs
  behind_first a xs up k d low = up zero (suc k) d (omega arith) (omega (arith, low))

  placed_rises : (a : X) (xs : List X) → Rises xs → All (Differs a) xs → Rises (placed key a xs)
  placed_rises a [] up apart =
      AllPairs-cons IsBelow a [] (λ k d low. absurd (omega (arith, low))) up
  placed_rises a (b ∷ rest) up apart = elim (cases_Bool (nat_lt (key a) (key b))) [
    | inl lt ↦
        let below : key a < key b = ltb-true (key a) (key b) lt in
        rw lt (AllPairs-cons IsBelow a (b ∷ rest)
        (All-cons (IsBelow a) b rest below
        (λ k d low. omega (arith, below, behind_first b rest up k d low))) up)
    | inr ge ↦
        let below : key b < key a = let d = apart 0 b (omega arith) in grind
        (arith, ltb-false (key a) (key b) ge, d, eq-eqb) in
        rw ge (AllPairs-cons IsBelow b (placed key a rest)
        (All-permutation (IsBelow b) (a ∷ rest) (placed key a rest) (placed_keeps a rest)
        (All-cons (IsBelow b) a rest below (behind_first b rest up)))
        (placed_rises a rest (tail_rises b rest up)
        (λ k d low. apart (suc k) d (omega (arith, low)))))
  ]

  by_key_is_rising : (xs : List X) → AllPairs Differs xs → Rises (by_key key xs)
  by_key_is_rising [] apart = λ i j d lt low. absurd (omega (arith, low))
  by_key_is_rising (a ∷ rest) apart =
      placed_rises a (by_key key rest)
      (by_key_is_rising rest
      (λ i j d lt low. apart (suc i) (suc j) d (omega (arith, lt)) (omega (arith, low))))
      (All-permutation (Differs a) rest (by_key key rest) (by_key_keeps rest)
      (λ k d low. apart zero (suc k) d (omega arith) (omega (arith, low))))

  pub by_key_rises : (xs : List X) → IsDistinct nat_eq (map key xs)
      → IsStrictlyIncreasing (map key (by_key key xs))
  by_key_rises xs apart =
      keys_by_rises (by_key key xs) (by_key_is_rising xs (pairs_differ xs apart))

  -- it is the one order in which keys rise
  pub by_key_unique : (xs ys : List X) → IsDistinct nat_eq (map key xs) → IsPermutation xs ys
      → IsStrictlyIncreasing (map key ys) → by_key key xs ≡ ys
  by_key_unique xs ys apart p up =
      one_moved (by_key key xs) ys
      (IsPermutation-trans _ _ _ (IsPermutation-sym _ _ (by_key_keeps xs)) p)
      (by_key_rises xs apart) up

  -- and the one in which they do not fall
  pub by_key_sorted : (xs ys : List X) → IsDistinct nat_eq (map key xs) → IsPermutation xs ys
      → IsNonDecreasingBy key ys → by_key key xs ≡ ys
  by_key_sorted xs ys apart p up =
      by_key_unique xs ys apart p (sorted_rises ys (distinct_moved xs ys p apart) up)
