use Rattle.std.proofs.Common.{rules}
use Rattle.brace_fold.proofs.Pickings.{between-more}
use Rattle.brace_fold.proofs.order.push_between.Goals as goal

pub returns : goal.returns
returns g c rows so_far =
    between-more c.args.column.now c.args.out.now.items _ _ c.args.slice.now rows (search rules)
    (search rules) (search rules) c.in_ok-extend_from_slice.ensures.items so_far
