use Rattle.std.proofs.Common.{arith, ◌≡◌, sym, subst, FitsSigned, ℤ, w64}
use Rattle.std.proofs.lemmas.Int.{ints}
use Rattle.brace_num.specs.Exact.{clamped}
use Rattle.brace_num.proofs.Exactness.{clamped_fits, clamped_by_wide}
use Rattle.brace_num.proofs.exact.clamp.Goals as goal

value : (c : goal.After-wide_clamp) → c.wide_clamp.result ≡ clamped c.args.old c.args.new c.args.reach
value c = clamped_by_wide _ _ _ _ _ _ c.ranges.old c.ranges.new c.ranges.reach (record { sfits = c.wide_difference.type_inv }) (record { sfits = c.wide_sum.type_inv }) c.wide_difference.ensures c.wide_sum.ensures c.wide_clamp.ensures

fits_result : (c : goal.After-wide_clamp) → FitsSigned w64 c.wide_clamp.result
fits_result c = let P : ℤ → Type 0 = λ z. FitsSigned w64 z in subst P (sym (value c)) (clamped_fits _ _ _ c.ranges.old c.ranges.new c.requires)

pub overflow_cast-result : goal.overflow_cast-result
overflow_cast-result c = let f = fits_result c in omega (arith, ints)

pub returns : goal.returns
returns c = let f = fits_result c in let e = value c in omega (arith, ints)
