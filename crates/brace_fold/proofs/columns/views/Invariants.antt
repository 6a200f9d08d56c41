use Rattle.std.proofs.Common.{◌≡◌, map, take}
use Rattle.brace_fold.proofs.columns.views.Given as goal

abbrev pub invariant-loop-column : goal.invariant-loop-column
invariant-loop-column l = map (λ v. v.now) l.views.items ≡ take l.column-index l.columns
