use Rattle.std.proofs.Common.{subst}
use Rattle.std.specs.List.{AllZip}
use Rattle.brace_fold.specs.inner.Rulings.{IsRunIf}
use Rattle.brace_fold.proofs.outcome.run_all.Goals as goal

pub returns : goal.returns
returns c = record {
  states = subst (λ l. AllZip (IsRunIf c.args.frame.now c.args.lanes.now) l c.in_ok-states.states.items) c.as_slice.ensures c.in_ok-states.ensures;
  die = c.in_ok-die.ensures;
  spawn = c.in_ok-spawn.ensures;
}
