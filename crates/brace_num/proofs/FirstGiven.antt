-- The first number of a row for which something is given.
use Rattle.std.proofs.Common.{◌≡◌, ◌≤◌, ◌<◌, ◌+◌, ◌∙◌, ℕ, zero, suc, [], Option, Some, None, refl, ap, subst, arith}
use Rattle.std.specs.Prelude.{filter_map, slice_get}
use Rattle.std.specs.List.{range_with_len, cons_option}

-- a number gives nothing, from s on, n of them
pub none_given : {X : Type 0} (f : ℕ → Option X) (n s : ℕ) → ((k : ℕ) → s ≤ k → k < s + n → f k ≡ None) → filter_map f (range_with_len s n) ≡ []
none_given f zero s none = refl
none_given f (suc n) s none =
    ap (λ o. cons_option o (filter_map f (range_with_len (s + 1) n))) (none s (omega arith) (omega arith))
    ∙ none_given f n (s + 1) (λ k from below. none k (omega (arith, from)) (omega (arith, below)))

-- the first number that gives something, d behind s
pub first_given : {X : Type 0} (f : ℕ → Option X) (n d s j : ℕ) (x : X) → s + d ≡ j → d < n → ((k : ℕ) → s ≤ k → k < j → f k ≡ None) → f j ≡ Some x → slice_get (filter_map f (range_with_len s n)) 0 ≡ Some x
first_given f zero d s j x at_j below none some = absurd (omega (arith, below))
first_given f (suc n) zero s j x at_j below none some =
    let here : j ≡ s = omega (arith, at_j) in
    ap (λ o. slice_get (cons_option o (filter_map f (range_with_len (s + 1) n))) 0) (subst (λ i. f i ≡ Some x) here some)
first_given f (suc n) (suc d) s j x at_j below none some =
    ap (λ o. slice_get (cons_option o (filter_map f (range_with_len (s + 1) n))) 0) (none s (omega arith) (omega (arith, at_j)))
    ∙ first_given f n d (s + 1) j x (omega (arith, at_j)) (omega (arith, below)) (λ k from under. none k (omega (arith, from)) under) some
