use Rattle.std.proofs.Common.{arith}
use Rattle.brace_invert.proofs.RangeLemmas.{greatest_in_range}
use Rattle.brace_invert.proofs.distance.range.Goals as goal

pub overflow_mul-result : goal.overflow_mul-result
overflow_mul-result c =
    let (low, high) = greatest_in_range c.args.program.now c.requires.lawful in
    grind (arith, low, high, c.greatest_visible-visible.ensures)

pub returns-then-says_in_inner_loops : goal.returns-then-says_in_inner_loops
returns-then-says_in_inner_loops c =
    let (low, high) = greatest_in_range c.args.program.now c.requires.lawful in
    grind (arith, low, high, c.greatest_visible-visible.ensures, c.if-invert.true, c.if-says_in_inner_loops.true, c.says_in_inner_loops.ensures)
