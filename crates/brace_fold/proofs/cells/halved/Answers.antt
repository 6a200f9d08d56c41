use Rattle.std.proofs.Common.{rules, of_calls, arith}
use Rattle.std.specs.Prelude.{int_lt}
use Rattle.std.proofs.lemmas.Fn.{always_returns_same}
use Rattle.brace_fold.specs.declared.cells.Spot.{Spot}
use Rattle.brace_fold.proofs.CellOrder.{below_cell, parted}
use Rattle.brace_fold.proofs.cells.halved.Goals as goal

pub returns-clause-front : goal.returns-clause-front
returns-clause-front c k d low =
    let point = c.partition_point.ensures.partitioned (λ (s : Spot). int_lt s.cell c.args.cell)
    (always_returns_same _ _ _ (λ a r f k. search (rules, of_calls)))
    (parted c.args.spots.now c.args.cell c.requires) in
    below_cell _ _ (point.0 k d (omega arith) low)
