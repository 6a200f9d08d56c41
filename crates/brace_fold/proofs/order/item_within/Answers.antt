use Rattle.std.proofs.Common.{refl}
use Rattle.std.proofs.lemmas.Option.{slice_get_read}
use Rattle.brace_fold.proofs.order.item_within.Goals as goal

pub returns : goal.returns
returns g c =
    slice_get_read c.args.column.now _ c.args.row _ refl c.requires c.index-column-row.is
