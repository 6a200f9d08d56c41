-- Quotients are cut toward zero.
use Rattle.std.proofs.Common.{◌≡◌, ℕ, zero, suc, ◌*◌, ◌/◌, ◌≤◌, ℤ, pos, negsuc, neg_ℤ, unsigned_abs, int_div, arith, refl}
use Rattle.std.proofs.Math.Nat.{div-add-mod'}

abs_neg : (n : ℕ) → unsigned_abs (neg_ℤ (pos n)) ≡ n
abs_neg zero = refl
abs_neg (suc n) = refl

-- the magnitude of the quotient, times the divisor's, is at most the dividend's
pub quotient_cut : (a d : ℤ) → unsigned_abs (int_div a d) * unsigned_abs d ≤ unsigned_abs a
quotient_cut (pos a) (pos b) = omega (arith, div-add-mod' a b)
quotient_cut (pos a) (negsuc b) = rw (abs_neg (a / suc b)) (omega (arith, div-add-mod' a (suc b)))
quotient_cut (negsuc a) (pos b) = rw (abs_neg (suc a / b)) (omega (arith, div-add-mod' (suc a) b))
quotient_cut (negsuc a) (negsuc b) = omega (arith, div-add-mod' (suc a) (suc b))
