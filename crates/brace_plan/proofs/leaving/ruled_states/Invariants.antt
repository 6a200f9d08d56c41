use Rattle.std.proofs.Common.{◌≡◌, ◌++◌}
use Rattle.std.specs.Slice.Iter.{iter_rest}
use Rattle.brace_model.specs.Next.{values_of}
use Rattle.brace_model.specs.Scopes.{scope_of}
use Rattle.brace_plan.specs.Ruling.{rules_by, stops_after}
use Rattle.brace_plan.proofs.leaving.ruled_states.Given as goal

abbrev pub invariant-loop-rule : goal.invariant-loop-rule
invariant-loop-rule l =
    let scope = scope_of l.env l.fn.desk.drawer in
    let left = rules_by scope (iter_rest l.rule-iterator.a) (iter_rest l.rule-iterator.b) in
    let all = rules_by scope l.rules l.values in
    record {
      seed : l.desk.drawer.seed ≡ l.fn.desk.drawer.seed;
      values : l.new.items ++ values_of left ≡ values_of all;
      met : stops_after l.met left ≡ stops_after l.fn.met all;
    }
