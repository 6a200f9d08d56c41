use Rattle.std.proofs.Common.{Some, ap, sym, ◌∙◌, ◌∷◌}
use Rattle.atomic_table.specs.Table.{rest}
use Rattle.brace_lanes.proofs.steps.clear.Goals as goal

pub exchange-requires : goal.exchange-requires
exchange-requires g c = let (piece, held) = c.requires.held in (c.requires.table, (Some piece, held ∙ ap (λ l. (c.args.place, Some piece) ∷ rest l) (sym held)))
