use Rattle.brace_pieces.proofs.CountLemmas.{same_counts}
use Rattle.brace_pieces.proofs.AllGave.{border_counted, effects_counted, moved_counted, handed_counted}
use Rattle.brace_pieces.proofs.laws.counts_are_the_runs.Goals as goal

pub returns : goal.returns
returns c s lawful fit runs =
    same_counts _ _ (border_counted s lawful fit runs) (effects_counted s lawful fit runs) (moved_counted s lawful fit runs) (handed_counted s lawful fit runs)
