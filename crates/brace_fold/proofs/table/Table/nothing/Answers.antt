use Rattle.std.proofs.Common.{rules}
use Rattle.brace_fold.proofs.Summings.{nothing-said}
use Rattle.brace_fold.proofs.table.Table.nothing.Goals as goal

pub returns : goal.returns
returns c = λ program agents many.
    nothing-said program agents _ _ _ many (search rules) c.loop.invariant
