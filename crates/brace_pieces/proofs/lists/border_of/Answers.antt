use Rattle.brace_pieces.proofs.CutLemmas.{lawful_as, part_as}
use Rattle.brace_pieces.proofs.lists.border_of.Goals as goal

pub area-area-requires-clause-lawful : goal.area-area-requires-clause-lawful
area-area-requires-clause-lawful c = lawful_as _ _ _ _ c.cuts_at.ensures c.requires.plan

pub area-area-requires-clause-in_range : goal.area-area-requires-clause-in_range
area-area-requires-clause-in_range c = part_as _ _ c.args.setting.now.job.first _ _ _ c.cuts_at.ensures c.requires.plan c.requires.is_part
