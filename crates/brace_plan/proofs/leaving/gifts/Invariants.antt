use Rattle.std.proofs.Common.{◌≡◌, ◌++◌, drop}
use Rattle.brace_model.specs.Next.{values_of}
use Rattle.brace_model.specs.Scopes.{scope_of}
use Rattle.brace_plan.specs.Ruling.{gifts_by, stops_after}
use Rattle.brace_plan.proofs.leaving.gifts.Given as goal

abbrev pub invariant-loop-gift : goal.invariant-loop-gift
invariant-loop-gift l =
    let scope = scope_of l.env l.fn.desk.drawer in
    let left = gifts_by scope (drop l.gift-index l.gifts) in
    let all = gifts_by scope l.gifts in
    record {
      seed : l.desk.drawer.seed ≡ l.fn.desk.drawer.seed;
      values : l.given.items ++ values_of left ≡ values_of all;
      met : stops_after l.met left ≡ stops_after l.fn.met all;
    }
