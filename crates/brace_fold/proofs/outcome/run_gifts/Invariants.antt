use Rattle.std.proofs.Common.{take}
use Rattle.std.specs.List.{AllZip}
use Rattle.brace_fold.specs.inner.Rulings.{IsRun}
use Rattle.brace_fold.proofs.outcome.run_gifts.Given as goal

abbrev pub invariant-loop-gift : goal.invariant-loop-gift
invariant-loop-gift l = AllZip (IsRun l.frame l.lanes) (take l.gift-index l.gifts) l.columns.items
