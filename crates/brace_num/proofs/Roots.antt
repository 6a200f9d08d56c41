-- The root of a number is the greatest whose square is at most the number.
use Rattle.std.proofs.Common.{◌≡◌, ℕ, zero, suc, ◌+◌, ◌*◌, ◌^◌, ◌<◌, ◌≤◌, Bool, true, false, cond, arith, refl, lit<, lit≤}
use Rattle.std.specs.Prelude.{nat_le}
use Rattle.std.proofs.Math.Nat.{mul-le-mul_left, mul-le-mul_right}
use Rattle.brace_num.specs.Exact.{root}

pub record IsRoot (n r : ℕ) : Type 0 where
  pub below : r * r ≤ n
  pub above : n < (r + 1) * (r + 1)

-- one more than the number moves the root by one at most
next_root : (n r : ℕ) (b : Bool) → IsRoot n r → nat_le ((r + 1) * (r + 1)) (suc n) ≡ b →
    IsRoot (suc n) (cond b (r + 1) r)
next_root n r true h e = record { below = grind arith; above = grind (arith, h.above) }
next_root n r false h e = record { below = grind (arith, h.below); above = grind arith }

pub root_is : (n : ℕ) → IsRoot n (root n)
unfolding root
root_is zero = record { below = lit≤ tt; above = lit< tt }
root_is (suc n) = next_root n (root n) (nat_le ((root n + 1) * (root n + 1)) (suc n)) (root_is n) refl

-- two numbers whose squares lie so are one
pub roots_meet : (n r s : ℕ) → r * r ≤ n → n < (s + 1) * (s + 1) → r ≤ s
roots_meet n r s low high =
    let far : s + 1 ≤ r → (s + 1) * (s + 1) ≤ r * r = λ h. omega (arith, mul-le-mul_left (s + 1) h, mul-le-mul_right r h) in
    grind arith

pub root_only : (n r : ℕ) → r * r ≤ n → n < (r + 1) * (r + 1) → r ≡ root n
root_only n r low high =
    let is = root_is n in
    let up : r ≤ root n = roots_meet n r (root n) low is.above in
    let down : root n ≤ r = roots_meet n (root n) r is.below high in
    omega arith

-- the root of millionths fits
pub root_small : (a r : ℕ) → a < 2 ^ 63 → r * r ≤ a * 1000000 → r < 2 ^ 63
root_small a r h low =
    let most : r ≤ 4398046511104 = roots_meet (a * 1000000) r 4398046511104 low (omega arith) in
    omega arith

pub root_squared : (n : ℕ) → root n * root n ≤ n
root_squared n = (root_is n).below

pub root_greatest : (n r : ℕ) → r * r ≤ n → r ≤ root n
root_greatest n r low = roots_meet n r (root n) low (root_is n).above
