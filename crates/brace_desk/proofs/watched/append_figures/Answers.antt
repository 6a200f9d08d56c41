use Rattle.brace_pieces.proofs.CutLemmas.{lawful_as}
use Rattle.brace_desk.proofs.watched.append_figures.Goals as goal

pub print_watched-requires-clause-cuts : goal.print_watched-requires-clause-cuts
print_watched-requires-clause-cuts c = lawful_as _ _ _ _ c.cuts_at-cuts.ensures c.requires.lawful.plan_is_lawful
