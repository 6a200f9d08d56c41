use Rattle.brace_command.proofs.WatchLemmas.{none_watched}
use Rattle.brace_command.proofs.watches.load_watches.Goals as goal

pub returns-in-None-clause-asked : goal.returns-in-None-clause-asked
returns-in-None-clause-asked g c = none_watched _ _ c.new.ensures.items
