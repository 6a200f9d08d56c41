-- What an accepted proof shows: no cuts have a lower load.
use Rattle.std.proofs.Common.{◌≡◌, ℕ, zero, suc, ◌+◌, ◌≤◌, ◌<◌, ℤ, true, ◌&&◌, List, [], ◌∷◌, length, map, max, ap, subst, arith, inl, inr, zero-add, int_le, nat_eq, nat_le, eq-eqb}
use Rattle.std.specs.Prelude.{int_lt}
use Rattle.std.specs.List.{range_with_len}
use Rattle.std.specs.Ordering.{int_eq}
use Rattle.std.proofs.lemmas.Bool.{and_parts, cases_lt, eqb-true, leb-true}
use Rattle.std.proofs.lemmas.List.Sums.{count_by-le-length}
use Rattle.brace_cuts.specs.Space.{rises, strip}
use Rattle.brace_balance.specs.Loads.{in_strip, greatest, load, times, between, posts_hold, accepts, NoneIsLower}
use Rattle.brace_balance.specs.declared.kinds.Proof.{Proof}
use Rattle.brace_balance.specs.declared.kinds.Proof.TheVariants.{Empty, Stack, Posts}
use Rattle.brace_balance.proofs.Counts.{eq_told, le_on, count_weaker}

-- ---- the greatest

greatest_has : (f : ℕ → ℕ) (a n i : ℕ) → i < n → f (a + i) ≤ greatest (map f (range_with_len a n))
greatest_has f a zero i low = absurd (omega (arith, low))
greatest_has f a (suc n) zero low =
    let e : a ≡ a + 0 = omega arith in
    subst (λ k. f k ≤ max (f a) (greatest (map f (range_with_len (a + 1) n)))) e (omega arith)
greatest_has f a (suc n) (suc i) low =
    let h = greatest_has f (a + 1) n i (omega (arith, low)) in
    let e : (a + 1) + i ≡ a + suc i = omega arith in
    subst (λ k. f k ≤ max (f a) (greatest (map f (range_with_len (a + 1) n)))) e (omega (arith, h))

pub greatest_within : (f : ℕ → ℕ) (m : ℕ) (is : List ℕ) → ((i : ℕ) → f i ≤ m)
    → greatest (map f is) ≤ m
greatest_within f m [] h = omega arith
greatest_within f m (i ∷ is) h = omega (arith, h i, greatest_within f m is h)

-- ---- strips

strip_within : (cuts : List ℤ) (v : ℤ) → strip cuts v ≤ length cuts
strip_within cuts v = count_by-le-length (λ c. int_le c v) cuts

-- the load is at least what one strip has
load_has : (cuts xs : List ℤ) (v : ℤ) → in_strip cuts xs (strip cuts v) ≤ load cuts xs
load_has cuts xs v =
    subst (λ i. in_strip cuts xs i ≤ load cuts xs) (zero-add (strip cuts v))
    (greatest_has (in_strip cuts xs) 0 (length cuts + 1) (strip cuts v)
    (omega (arith, strip_within cuts v)))

-- a greater number is in the same strip or a higher one
strip_climbs : (cuts : List ℤ) (v w : ℤ) → int_le v w ≡ true → strip cuts v ≤ strip cuts w
strip_climbs cuts v w up =
    count_weaker (λ c. int_le c v) (λ c. int_le c w) cuts (λ c h. le_on c v w h up)

-- equal numbers are in one strip
stack_loads : (cuts xs : List ℤ) (p : ℤ) → times p xs ≤ load cuts xs
stack_loads cuts xs p =
    let le = count_weaker (λ v. int_eq v p) (λ v. nat_eq (strip cuts v) (strip cuts p)) xs
    (λ v h. eq-eqb (strip cuts v) (strip cuts p) (ap (strip cuts) (eq_told v p h))) in
    omega (arith, le, load_has cuts xs p)

-- numbers between two that are in one strip are in it too
between_loads : (cuts xs : List ℤ) (p q : ℤ) → strip cuts q ≤ strip cuts p
    → between p q xs ≤ load cuts xs
between_loads cuts xs p q same =
    let le = count_weaker (λ v. int_le p v && int_le v q)
    (λ v. nat_eq (strip cuts v) (strip cuts p)) xs (λ v h.
    let (above, below) = and_parts (int_le p v) (int_le v q) h in
    eq-eqb (strip cuts v) (strip cuts p)
    (omega (arith, same, strip_climbs cuts p v above, strip_climbs cuts v q below))) in
    omega (arith, le, load_has cuts xs p)

-- under a lower load, each post is in a higher strip than the one before
posts_climb : (n : ℕ) (xs cuts : List ℤ) (p : ℤ) (posts : List ℤ) → rises (p ∷ posts) ≡ true
    → posts_hold n xs (p ∷ posts) ≡ true → load cuts xs < n
    → strip cuts p + length posts ≤ length cuts
posts_climb n xs cuts p [] up hold low = omega (arith, strip_within cuts p)
posts_climb n xs cuts p (q ∷ posts) up hold low =
    let (above, rest) = and_parts (int_lt p q) (rises (q ∷ posts)) up in
    let (here, later) = and_parts (nat_le n (between p q xs)) (posts_hold n xs (q ∷ posts)) hold in
    let next = posts_climb n xs cuts q posts rest later low in
    let many = leb-true n (between p q xs) here in
    elim (cases_lt (strip cuts p) (strip cuts q)) [
      | inl lt ↦ omega (arith, lt, next)
      | inr ge ↦ absurd (omega (arith, many, low, between_loads cuts xs p q ge))
    ]

posts_load : (xs cuts : List ℤ) (strips n : ℕ) (posts : List ℤ) → length posts ≡ strips + 1
    → rises posts ≡ true → posts_hold n xs posts ≡ true → length cuts < strips → n ≤ load cuts xs
posts_load xs cuts strips n [] long up hold few = absurd (omega (arith, long))
posts_load xs cuts strips n (p ∷ posts) long up hold few = elim (cases_lt (load cuts xs) n) [
  | inl low ↦ absurd (omega (arith, long, few, posts_climb n xs cuts p posts up hold low))
  | inr le ↦ le
]

-- what is accepted shows that each load is as great
pub accepted_is_least : (xs cuts : List ℤ) (strips n : ℕ) (proof : Proof)
    → accepts xs strips n proof ≡ true → length cuts < strips → n ≤ load cuts xs
accepted_is_least xs cuts strips n Empty is few = omega (arith, eqb-true n 0 is)
accepted_is_least xs cuts strips n (Stack p) is few =
    omega (arith, leb-true n (times p xs) is, stack_loads cuts xs p)
accepted_is_least xs cuts strips n (Posts posts) is few =
    let (front, hold) = and_parts (nat_eq (length posts) (strips + 1) && rises posts) (posts_hold n xs posts) is in
    let (long, up) = and_parts (nat_eq (length posts) (strips + 1)) (rises posts) front in
    posts_load xs cuts strips n posts (eqb-true (length posts) (strips + 1) long) up hold few

pub accepted_is_lowest : (xs : List ℤ) (strips n : ℕ) (proof : Proof)
    → accepts xs strips n proof ≡ true → NoneIsLower xs strips n
accepted_is_lowest xs strips n proof is cuts rise few = accepted_is_least xs cuts strips n proof is few
