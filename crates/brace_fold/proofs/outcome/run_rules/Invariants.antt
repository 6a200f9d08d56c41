use Rattle.std.proofs.Common.{take}
use Rattle.std.specs.List.{AllZip}
use Rattle.brace_fold.specs.inner.Rulings.{IsRunIf}
use Rattle.brace_fold.proofs.outcome.run_rules.Given as goal

abbrev pub invariant-loop-rule : goal.invariant-loop-rule
invariant-loop-rule l = AllZip (IsRunIf l.frame l.lanes) (take l.rule-index l.rules) l.columns.items
