use Rattle.std.proofs.Common.{refl}
use Rattle.std.specs.Slice.Iter.{iter_rest}
use Rattle.std.proofs.lemmas.Slice.Zip.{either_empty_from_Zip}
use Rattle.brace_model.specs.Scopes.{scope_of}
use Rattle.brace_plan.specs.Ruling.{rules_by}
use Rattle.brace_plan.proofs.LeaveLemmas.{all_values, all_stops}
use Rattle.brace_plan.proofs.leaving.ruled_states.Goals as goal

pub returns-clause-ruled : goal.returns-clause-ruled
returns-clause-ruled c =
    let scope = scope_of c.args.env.now c.args.desk.now.drawer in
    let at = c.loop-rule in
    all_values scope (iter_rest at.rule-iterator.a) (iter_rest at.rule-iterator.b) (either_empty_from_Zip _ at.rule-iterator _ refl c.in-None.ensures.steps)
    at.new.items (rules_by scope c.args.rules.now c.args.values.now) at.invariant.values

pub returns-clause-met : goal.returns-clause-met
returns-clause-met c =
    let scope = scope_of c.args.env.now c.args.desk.now.drawer in
    let at = c.loop-rule in
    all_stops scope (iter_rest at.rule-iterator.a) (iter_rest at.rule-iterator.b) (either_empty_from_Zip _ at.rule-iterator _ refl c.in-None.ensures.steps)
    at.met c.args.met.now (rules_by scope c.args.rules.now c.args.values.now) at.invariant.met
