-- The cells of points that are no further apart than a side of cells lie beside one another.
use Rattle.std.proofs.Common.{◌≡◌, ◌+◌, ◌*◌, ◌/◌, ◌<◌, ◌≤◌, ◌⊎◌, ℕ, ℤ, pos, negsuc, ◌+ℤ◌, ◌-ℤ◌, ◌*ℤ◌, ◌≤ℤ◌, ◌<ℤ◌, Bool, true, false, cond, ◌&&◌, refl, arith, inl, inr, ⊎_elim}
use Rattle.std.specs.Prelude.{int_le, int_lt}
use Rattle.std.proofs.lemmas.Bool.{cases_lt}
use Rattle.std.proofs.lemmas.Int.{ints}
use Rattle.std.proofs.lemmas.Nat.{div_below, le-div}
use Rattle.std.proofs.Math.Nat.{div-mul-le_self, mul-le-mul_right, add-mul}
use Rattle.brace_grid.specs.Grids as grids
use Rattle.brace_fold.specs.inner.Sights.{IsLow, cell_number, height}

-- one number is below another one, or not
int_cases : (x y : ℤ) → (x <ℤ y) ⊎ (y ≤ℤ x)
int_cases (pos a) (pos b) = by_place (cases_lt a b)
  where
    by_place : (a < b) ⊎ (b ≤ a) → (pos a <ℤ pos b) ⊎ (pos b ≤ℤ pos a)
    by_place (inl lt) = inl (omega (arith, ints, lt))
    by_place (inr le) = inr (omega (arith, ints, le))
int_cases (pos a) (negsuc b) = inr (omega (arith, ints))
int_cases (negsuc a) (pos b) = inl (omega (arith, ints))
int_cases (negsuc a) (negsuc b) = by_place (cases_lt b a)
  where
    by_place : (b < a) ⊎ (a ≤ b) → (negsuc a <ℤ negsuc b) ⊎ (negsuc b ≤ℤ negsuc a)
    by_place (inl lt) = inl (omega (arith, ints, lt))
    by_place (inr le) = inr (omega (arith, ints, le))

div_far : (a b n : ℕ) → 0 < n → b ≤ a + n → b / n ≤ a / n + 1
div_far a b n some h =
    ⊎_elim
    (λ (less : b / n < a / n + 2). omega (arith, less))
    (λ (more : a / n + 2 ≤ b / n). absurd (omega (
      arith,
      some,
      h,
      le-div (a / n + 1) a n some
          (over (a / n) (b / n) more (div-mul-le_self b n)),
    )))
    (cases_lt (b / n) (a / n + 2))
  where
    over : (p q : ℕ) → p + 2 ≤ q → q * n ≤ b → (p + 1) * n ≤ a
    over p q more low =
        omega (arith, h, low, mul-le-mul_right {m = p + 2} {n = q} n more, add-mul (p + 1) 1 n)

-- coordinates at most a side apart are at most a cell apart
number_near : (side : ℤ) → pos 0 <ℤ side → (v w : ℤ) → (w -ℤ v) ≤ℤ side
    → grids.cell_number side w ≤ℤ (grids.cell_number side v +ℤ pos 1)
number_near (negsuc n) some v w h = absurd (omega (arith, ints, some))
number_near (pos n) some v w h = near v w h
  where
    positive : 0 < n
    positive = omega (arith, ints, some)

    near : (v w : ℤ) → (w -ℤ v) ≤ℤ pos n
        → grids.cell_number (pos n) w ≤ℤ (grids.cell_number (pos n) v +ℤ pos 1)
    near (pos a) (pos b) h =
        omega (arith, ints, div_far a b n positive (omega (arith, ints, h)))
    near (negsuc a) (pos b) h = omega (
      arith,
      ints,
      div_below a n 1 positive (omega (arith, ints, h)),
      div_below b n 1 positive (omega (arith, ints, h)),
    )
    near (negsuc a) (negsuc b) h =
        omega (arith, ints, div_far b a n positive (omega (arith, ints, h)))
    near (pos a) (negsuc b) h = omega (arith, ints)

div_near : (a b n : ℕ) → 0 < n → b / n ≤ a / n + 1 → b < a + n + n
div_near a b n some h =
    ⊎_elim
    (λ (less : b < a + n + n). less)
    (λ (more : a + n + n ≤ b). absurd (omega (
      arith,
      h,
      le-div (a / n + 2) b n some
          (omega (arith, more, div-mul-le_self a n, add-mul (a / n) 2 n)),
    )))
    (cases_lt b (a + n + n))

div_none : (a n : ℕ) → 0 < n → a / n ≤ 0 → a < n
div_none a n some h =
    ⊎_elim
    (λ (less : a < n). less)
    (λ (more : n ≤ a). absurd (omega (arith, h, le-div 1 a n some (omega (arith, more)))))
    (cases_lt a n)

-- coordinates at most a cell apart are less than two sides apart
pub number_apart : (side : ℤ) → pos 0 <ℤ side → (v w : ℤ)
    → grids.cell_number side w ≤ℤ (grids.cell_number side v +ℤ pos 1)
    → (w -ℤ v) <ℤ (side +ℤ side)
number_apart (negsuc n) some v w h = absurd (omega (arith, ints, some))
number_apart (pos n) some v w h = apart v w h
  where
    positive : 0 < n
    positive = omega (arith, ints, some)

    apart : (v w : ℤ) → grids.cell_number (pos n) w ≤ℤ (grids.cell_number (pos n) v +ℤ pos 1)
        → (w -ℤ v) <ℤ (pos n +ℤ pos n)
    apart (pos a) (pos b) h =
        omega (arith, ints, div_near a b n positive (omega (arith, ints, h)))
    apart (negsuc a) (pos b) h = omega (
      arith,
      ints,
      div_none a n positive (omega (arith, ints, h)),
      div_none b n positive (omega (arith, ints, h)),
    )
    apart (negsuc a) (negsuc b) h =
        omega (arith, ints, div_near b a n positive (omega (arith, ints, h)))
    apart (pos a) (negsuc b) h = omega (arith, ints, positive)

-- a coordinate so low is in one of the cells around 0
pub number_low : (side : ℤ) → pos 0 <ℤ side → (v : ℤ) → IsLow side v
    → (negsuc 262141 ≤ℤ grids.cell_number side v) × (grids.cell_number side v <ℤ pos 262142)
number_low (negsuc n) some v is = absurd (omega (arith, ints, some))
number_low (pos n) some (pos a) is = (
  omega (arith, ints),
  omega (
    arith,
    ints,
    div_below a n 262142 (omega (arith, ints, some)) (omega (arith, ints, is.below)),
  ),
)
number_low (pos n) some (negsuc a) is = (
  omega (
    arith,
    ints,
    div_below a n 262142 (omega (arith, ints, some)) (omega (arith, ints, is.above)),
  ),
  omega (arith, ints),
)

-- no multiple of the height but 0 makes up for so little
no_height : (d e : ℤ) → negsuc 0 ≤ℤ ((d *ℤ pos 524288) +ℤ e)
    → ((d *ℤ pos 524288) +ℤ e) ≤ℤ pos 1 → negsuc 524282 ≤ℤ e → e ≤ℤ pos 524283
    → (pos 0 ≤ℤ d) × (d ≤ℤ pos 0)
no_height d e low high above below =
    (omega (arith, ints, low, below), omega (arith, ints, high, above))

-- cells around 0 in one run are beside one another
pub run_beside : (a b r s t : ℤ) → negsuc 0 ≤ℤ t → t ≤ℤ pos 1
    → negsuc 262141 ≤ℤ r → r <ℤ pos 262142 → negsuc 262141 ≤ℤ s → s <ℤ pos 262142
    → ((((a *ℤ height) +ℤ r) +ℤ (t *ℤ height)) -ℤ pos 1) ≤ℤ ((b *ℤ height) +ℤ s)
    → ((b *ℤ height) +ℤ s) <ℤ ((((a *ℤ height) +ℤ r) +ℤ (t *ℤ height)) +ℤ pos 2)
    → ((b ≤ℤ (a +ℤ pos 1)) × (a ≤ℤ (b +ℤ pos 1)))
    × ((s ≤ℤ (r +ℤ pos 1)) × (r ≤ℤ (s +ℤ pos 1)))
run_beside a b r s t west east r_low r_high s_low s_high low high =
    let d : ℤ = (b -ℤ a) -ℤ t in
    let none = no_height d (s -ℤ r) (omega (arith, ints, low)) (omega (arith, ints, high))
    (omega (arith, ints, r_high, s_low)) (omega (arith, ints, r_low, s_high)) in (
      (omega (arith, ints, none, east), omega (arith, ints, none, west)),
      (omega (arith, ints, none, high), omega (arith, ints, none, low)),
    )

-- ---- the run that a number is in

-- a number is that of a cell, or of those below and above it
abbrev pub is_along : ℤ → ℤ → Bool
is_along cell n = int_le (cell -ℤ pos 1) n && int_lt n (cell +ℤ pos 2)

pub along_within : (cell n : ℤ) → (cell -ℤ pos 1) ≤ℤ n → n <ℤ (cell +ℤ pos 2)
    → is_along cell n ≡ true
along_within cell n low high = grind (arith, ints, low, high)

pub along_below : (cell n : ℤ) → n <ℤ (cell -ℤ pos 1) → is_along cell n ≡ false
along_below cell n low = grind (arith, ints, low)

pub along_above : (cell n : ℤ) → (cell +ℤ pos 2) ≤ℤ n → is_along cell n ≡ false
along_above cell n high = grind (arith, ints, high)

-- in how many of three runs around a cell a number is
abbrev pub runs_of : ℤ → ℤ → ℕ
runs_of cell n = cond (is_along (cell -ℤ height) n) 1 0
    + (cond (is_along cell n) 1 0 + cond (is_along (cell +ℤ height) n) 1 0)

first_of_three : (p q r : Bool) → p ≡ true → q ≡ false → r ≡ false
    → cond p 1 0 + (cond q 1 0 + cond r 1 0) ≡ 1
first_of_three p q r e f g = rw (e, f, g) refl

second_of_three : (p q r : Bool) → p ≡ false → q ≡ true → r ≡ false
    → cond p 1 0 + (cond q 1 0 + cond r 1 0) ≡ 1
second_of_three p q r e f g = rw (e, f, g) refl

third_of_three : (p q r : Bool) → p ≡ false → q ≡ false → r ≡ true
    → cond p 1 0 + (cond q 1 0 + cond r 1 0) ≡ 1
third_of_three p q r e f g = rw (e, f, g) refl

-- a cell of three rows and three columns around another is in one run
around_once : (a b r s : ℤ) → b ≤ℤ (a +ℤ pos 1) → a ≤ℤ (b +ℤ pos 1) → s ≤ℤ (r +ℤ pos 1)
    → r ≤ℤ (s +ℤ pos 1) → runs_of ((a *ℤ height) +ℤ r) ((b *ℤ height) +ℤ s) ≡ 1
around_once a b r s east west north south =
    let c = (a *ℤ pos 524288) +ℤ r in
    let n = (b *ℤ pos 524288) +ℤ s in
    ⊎_elim
    (λ (less : b <ℤ a). first_of_three (is_along (c -ℤ pos 524288) n) (is_along c n)
    (is_along (c +ℤ pos 524288) n)
    (along_within (c -ℤ pos 524288) n (omega (arith, ints, less, west, south))
    (omega (arith, ints, less, west, north)))
    (along_below c n (omega (arith, ints, less, west, north)))
    (along_below (c +ℤ pos 524288) n (omega (arith, ints, less, west, north))))
    (λ (at_least : a ≤ℤ b). ⊎_elim
    (λ (more : a <ℤ b). third_of_three (is_along (c -ℤ pos 524288) n) (is_along c n)
    (is_along (c +ℤ pos 524288) n)
    (along_above (c -ℤ pos 524288) n (omega (arith, ints, more, east, south)))
    (along_above c n (omega (arith, ints, more, east, south)))
    (along_within (c +ℤ pos 524288) n (omega (arith, ints, more, east, south))
    (omega (arith, ints, more, east, north))))
    (λ (at_most : b ≤ℤ a). second_of_three (is_along (c -ℤ pos 524288) n) (is_along c n)
    (is_along (c +ℤ pos 524288) n)
    (along_above (c -ℤ pos 524288) n (omega (arith, ints, at_least, at_most, south)))
    (along_within c n (omega (arith, ints, at_least, at_most, south))
    (omega (arith, ints, at_least, at_most, north)))
    (along_below (c +ℤ pos 524288) n (omega (arith, ints, at_least, at_most, north))))
    (int_cases a b))
    (int_cases b a)

-- what is no further away than a side is in one run
pub beside_once : (side x y u v : ℤ) → pos 0 <ℤ side → (u -ℤ x) ≤ℤ side → (x -ℤ u) ≤ℤ side
    → (v -ℤ y) ≤ℤ side → (y -ℤ v) ≤ℤ side
    → runs_of (cell_number side x y) (cell_number side u v) ≡ 1
beside_once side x y u v some east west north south =
    around_once (grids.cell_number side x) (grids.cell_number side u) (grids.cell_number side y)
    (grids.cell_number side v) (number_near side some x u east) (number_near side some u x west)
    (number_near side some y v north) (number_near side some v y south)
