use Rattle.std.proofs.Common.{take}
use Rattle.std.specs.Prelude.{filter, nat_lt}
use Rattle.brace_fold.specs.Rows.{IsPicked}
use Rattle.brace_fold.proofs.order.places_before.Given as goal

abbrev pub invariant-loop-place : goal.invariant-loop-place
invariant-loop-place l = IsPicked l.places.items l.order
    (filter (λ row. nat_lt row l.count) (take l.place l.order))
