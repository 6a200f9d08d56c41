-- Numbers in a row.
use Rattle.std.proofs.Common.{◌≡◌, ◌∙◌, ◌+◌, ◌-◌, ◌<◌, ◌≤◌, ℕ, zero, suc, Bool, [], ◌∷◌, ◌++◌, filter, length, Contains, refl, sym, ap, arith}
use Rattle.std.specs.List.{range_with_len}
use Rattle.std.proofs.lemmas.List.FromFn.{length-range_with_len, get_or-range_with_len}
use Rattle.std.proofs.lemmas.List.Sums.{length-filter, count_by-le-length}
use Rattle.brace_num.proofs.Lists.{filter_alike}

-- two rows are one
pub row_joined : (a n m : ℕ)
    → range_with_len a n ++ range_with_len (a + n) m ≡ range_with_len a (n + m)
row_joined a zero m =
    let e : a + 0 ≡ a = omega arith in let f : 0 + m ≡ m = omega arith in rw (e, f) refl
row_joined a (suc n) m =
    let e : a + suc n ≡ a + 1 + n = omega arith in
    let f : suc n + m ≡ suc (n + m) = omega arith in
    rw (e, f) (ap (λ l. a ∷ l) (row_joined (a + 1) n m))

-- one number more
pub row_more : (a n : ℕ) → range_with_len a (suc n) ≡ range_with_len a n ++ (a + n) ∷ []
row_more a n =
    let e : suc n ≡ n + 1 = omega arith in ap (range_with_len a) e ∙ sym (row_joined a n 1)

-- what stands in a row
pub in_row : (a n v : ℕ) → Contains (range_with_len a n) v → (a ≤ v) × (v < a + n)
in_row a n v (k, low, is) =
    let short = length-range_with_len a n in
    let place : a + k ≡ v = sym (get_or-range_with_len a n k v (omega (arith, low, short))) ∙ is in
    (omega (arith, place), omega (arith, place, low, short))

pub row_has : (a n v : ℕ) → a ≤ v → v < a + n → Contains (range_with_len a n) v
row_has a n v low high =
    let within : v - a < n = omega (arith, low, high) in
    let back : a + (v - a) ≡ v = omega (arith, low) in (
      v - a,
      omega (arith, within, length-range_with_len a n),
      get_or-range_with_len a n
          (v - a) v within ∙ back,
    )

-- tests that agree on a row
pub row_alike : (f g : ℕ → Bool) (a n : ℕ) → ((q : ℕ) → a ≤ q → q < a + n → f q ≡ g q)
    → filter f (range_with_len a n) ≡ filter g (range_with_len a n)
row_alike f g a n same =
    filter_alike f g (range_with_len a n) (λ q has. let h = in_row a n q has in same q h.0 h.1)

-- no more are kept than there are
pub row_kept : (f : ℕ → Bool) (a n : ℕ) → length (filter f (range_with_len a n)) ≤ n
row_kept f a n = omega (
  arith,
  length-filter f (range_with_len a n),
  count_by-le-length f
      (range_with_len a n),
  length-range_with_len a n,
)
