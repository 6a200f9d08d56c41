-- Numbers in order are known by how many of them each test takes.
use Rattle.std.proofs.Common.{◌≡◌, ◌∙◌, ℕ, suc, ◌+◌, ◌<◌, ◌≤◌, Bool, true, false, cond, ltb, List, [], ◌∷◌, length, get_or, refl, sym, ap, ap₂, arith}
use Rattle.std.specs.List.{count_by, range_with_len}
use Rattle.std.specs.List.Sorted.{IsNonDecreasing}
use Rattle.std.proofs.lemmas.Bool.Decides.{nat_tests}
use Rattle.std.proofs.lemmas.List.FromFn.{length-range_with_len, get_or-range_with_len}
use Rattle.std.proofs.lemmas.List.Kept.{IsNonDecreasingBy-filter}
use Rattle.brace_num.specs.declared.kinds.Area.{Area}
use Rattle.brace_grid.specs.Grids.{Point, inside, is_inside, place_at}
use Rattle.brace_grid.proofs.Counts.{count-cons, count_none}

above : (x z : ℕ) → x ≤ z → ltb z x ≡ false
above x z h = grind (arith, nat_tests, h)

not_above : (x z : ℕ) → ltb z x ≡ false → x ≤ z
not_above x z h = grind (arith, nat_tests, h)

-- the first of some numbers in order is at most the first of others that are counted alike
head_le : (x y : ℕ) (xs ys : List ℕ) → IsNonDecreasing (x ∷ xs) → ((q : ℕ → Bool) → count_by q (x ∷ xs) ≡ count_by q (y ∷ ys)) → x ≤ y
head_le x y xs ys up same =
    let none : count_by (λ z. ltb z x) (x ∷ xs) ≡ 0 = count_none (λ z. ltb z x) (x ∷ xs) (λ j d h. above x (get_or (x ∷ xs) j d) (up 0 j d (omega arith) h)) in
    let all : count_by (λ z. ltb z x) (y ∷ ys) ≡ 0 = sym (same (λ z. ltb z x)) ∙ none in
    not_above x y (off (ltb y x) (count_by (λ z. ltb z x) ys) (count_by (λ z. ltb z x) (y ∷ ys)) (count-cons (λ z. ltb z x) y ys) all)
  where
    off : (b : Bool) (m n : ℕ) → n ≡ cond b 1 0 + m → n ≡ 0 → b ≡ false
    off true m n e z = absurd (omega (arith, e, z))
    off false m n e z = refl

tail_up : (x : ℕ) (xs : List ℕ) → IsNonDecreasing (x ∷ xs) → IsNonDecreasing xs
tail_up x xs up = λ i j d h g. up (suc i) (suc j) d (omega (arith, h)) (omega (arith, g))

pub same_sorted : (xs ys : List ℕ) → IsNonDecreasing xs → IsNonDecreasing ys → ((q : ℕ → Bool) → count_by q xs ≡ count_by q ys) → xs ≡ ys
same_sorted [] [] up down same = refl
same_sorted [] (y ∷ ys) up down same = absurd (omega (arith, same (λ z. true), count-cons (λ z. true) y ys))
same_sorted (x ∷ xs) [] up down same = absurd (omega (arith, same (λ z. true), count-cons (λ z. true) x xs))
same_sorted (x ∷ xs) (y ∷ ys) up down same =
    let e : x ≡ y = omega (arith, head_le x y xs ys up same, head_le y x ys xs down (λ q. sym (same q))) in
    ap₂ (λ z zs. z ∷ zs) e (same_sorted xs ys (tail_up x xs up) (tail_up y ys down)
    (λ q. omega (arith, same q, count-cons q x xs, count-cons q y ys, ap {B = ℕ} (λ z. cond (q z) 1 0) e)))

pub inside_up : (area : Area) (places : List Point) → IsNonDecreasing (inside area places)
inside_up area places =
    IsNonDecreasingBy-filter (λ x. x) (λ i. is_inside area (place_at places i)) (range_with_len 0 (length places))
    (λ i j d h g. let small : j < length places = omega (arith, g, length-range_with_len 0 (length places)) in
    omega (arith, h, get_or-range_with_len 0 (length places) i d (omega (arith, h, small)), get_or-range_with_len 0 (length places) j d small))
