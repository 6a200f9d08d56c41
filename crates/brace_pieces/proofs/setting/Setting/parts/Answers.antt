use Rattle.brace_pieces.proofs.CutLemmas.{lawful_as}
use Rattle.brace_pieces.proofs.setting.Setting.parts.Goals as goal

pub parts-requires : goal.parts-requires
parts-requires c = lawful_as _ _ _ _ c.cuts_at.ensures c.requires
