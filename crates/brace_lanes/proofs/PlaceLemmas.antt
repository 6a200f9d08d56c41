-- Places are apart, and what a store changes of the counts.
use Rattle.std.proofs.Common.{◌≡◌, ◌≢◌, ◌≤◌, ◌<◌, ◌+◌, ◌*◌, ◌/◌, ◌%◌, ◌-◌, ◌∙◌, ◌⊎◌, ℕ, suc, List, length, sym, ap, inl, inr, arith, suc-mul, mul-le-mul_right}
use Rattle.std.specs.Prelude.{slice_set}
use Rattle.std.proofs.lemmas.Bool.{cases_eq}
use Rattle.std.proofs.lemmas.Nat.{div-mul-add, mod-mul-add}
use Rattle.std.proofs.lemmas.List.{get_or-set_other, get_or-set_same}
use Rattle.brace_lanes.specs.Places.{place, opposite, word_count, put_of, taken_of}

pub place_below : (n a b : ℕ) → a < n → b < n → place n a b < n * n
place_below n a b la lb = let m : suc a * n ≤ n * n = mul-le-mul_right n la in omega (arith, suc-mul a n, m)

pub words_below : (n a b : ℕ) → a < n → b < n → (place n a b < word_count n) × (n * n + place n a b < word_count n)
words_below n a b la lb = let l = place_below n a b la lb in (omega (arith, l), omega (arith, l))

pub opposite_is : (n a b : ℕ) → a < n → b < n → opposite n (place n b a) ≡ place n a b
opposite_is n a b la lb = λ i. (mod-mul-add b n a la i) * n + div-mul-add b n a la i

pub past_square : (n a b : ℕ) → (n * n + place n a b) - n * n ≡ place n a b
past_square n a b = omega arith

pub apart : (n a b c d : ℕ) → b < n → d < n → place n a b ≡ place n c d → (a ≡ c) × (b ≡ d)
apart n a b c d lb ld e = (sym (div-mul-add a n b lb) ∙ ap (λ k. k / n) e ∙ div-mul-add c n d ld, sym (mod-mul-add a n b lb) ∙ ap (λ k. k % n) e ∙ mod-mul-add c n d ld)

-- one place is another, or not
pub same_place : (n a b c d : ℕ) → b < n → d < n → ((a ≡ c) × (b ≡ d)) ⊎ (place n a b ≢ place n c d)
same_place n a b c d lb ld = elim (cases_eq (place n a b) (place n c d)) [
  | inl e ↦ inl (apart n a b c d lb ld e)
  | inr other ↦ inr other
]

module _ (n : ℕ) (words : List ℕ) (size : length words ≡ word_count n) (a b x : ℕ) (la : a < n) (lb : b < n) where
  abbrev put_set : List ℕ
  put_set = slice_set words (place n a b) x

  abbrev taken_set : List ℕ
  taken_set = slice_set words (n * n + place n a b) x

  pub put_here : put_of n put_set a b ≡ x
  put_here = get_or-set_same words (place n a b) x 0 (omega (arith, size, (words_below n a b la lb).0))

  pub put_else : (c d : ℕ) → place n c d ≢ place n a b → put_of n put_set c d ≡ put_of n words c d
  put_else c d other = get_or-set_other words (place n a b) (place n c d) x 0 other

  pub put_takes : (c d : ℕ) → taken_of n put_set c d ≡ taken_of n words c d
  put_takes c d = get_or-set_other words (place n a b) (n * n + place n d c) x 0 (λ e. let l = place_below n a b la lb in omega (arith, l, e))

  pub taken_here : taken_of n taken_set b a ≡ x
  taken_here = get_or-set_same words (n * n + place n a b) x 0 (omega (arith, size, (words_below n a b la lb).1))

  pub taken_else : (c d : ℕ) → place n d c ≢ place n a b → taken_of n taken_set c d ≡ taken_of n words c d
  taken_else c d other = get_or-set_other words (n * n + place n a b) (n * n + place n d c) x 0 (λ e. other (omega (arith, e)))

  pub taken_puts : (c d : ℕ) → c < n → d < n → put_of n taken_set c d ≡ put_of n words c d
  taken_puts c d lc ld = get_or-set_other words (n * n + place n a b) (place n c d) x 0 (λ e. let l = place_below n c d lc ld in omega (arith, l, e))
