use Rattle.brace_pieces.proofs.CutLemmas.{lawful_as}
use Rattle.brace_pieces.proofs.lists.moves_of.Goals as goal

pub owns-requires : goal.owns-requires
owns-requires c = lawful_as _ _ _ _ c.cuts_at-cuts.ensures c.requires
