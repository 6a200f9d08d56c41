use Rattle.std.proofs.Common.{◌≡◌, ◌+◌, ◌-◌, true, ◌∷◌, length, sym, ap, subst, arith, rules, slice_get, Some}
use Rattle.std.proofs.lemmas.Int.{to_z-of_z}
use mir.Val.{SFits}
use mir.Syntax.{w64}
use Rattle.brace_balance.specs.Loads.{never_falls}
use Rattle.brace_balance.specs.Fillings.{not_below, filled}
use Rattle.brace_balance.proofs.Ordered.{rest_sorted}
use Rattle.brace_balance.proofs.Filled.{filled_step}
use Rattle.brace_balance.proofs.fill.count_filled.Goals as goal

pub loop-i-preserved : goal.loop-i-preserved
loop-i-preserved c =
    let rest = c.loop-i.rest.now in
    let cut = c.in-Some.cut in
    let is : slice_get rest c.args.n ≡ Some cut = search rules in
    let fits : SFits w64 cut = search rules in
    let next : c.not_below-rest.result.now ≡ not_below cut rest = simp to_z-of_z at c.not_below-rest.ensures in
    let step = filled_step c.args.n c.args.most c.loop-i.i rest cut (omega arith) is in
    let long = ap length (subst (λ l. filled c.args.n (c.args.most - c.loop-i.i) rest ≡ cut ∷ filled c.args.n (c.args.most - (c.loop-i.i + 1)) l) (sym next) step) in
    record {
      sorted = subst (λ l. never_falls l ≡ true) (sym next) (rest_sorted cut rest c.loop-i.invariant.sorted);
      counted = omega (arith, long, c.loop-i.invariant.counted);
    }
