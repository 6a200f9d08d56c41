use Rattle.std.proofs.Common.{◌≡◌, take, drop}
use Rattle.brace_plan.specs.inner.Walks.{undone}
use Rattle.brace_plan.proofs.desk.set_back.Given as goal

abbrev pub invariant-loop-trail : goal.invariant-loop-trail
invariant-loop-trail l = record {
  same : undone (drop l.mark l.trail.items) l.locals ≡ undone (drop l.mark l.fn.trail.items) l.fn.locals;
  kept : take l.mark l.trail.items ≡ take l.mark l.fn.trail.items;
}

abbrev pub decreases-loop-trail : goal.decreases-loop-trail
decreases-loop-trail l = goal.left-loop-trail l
