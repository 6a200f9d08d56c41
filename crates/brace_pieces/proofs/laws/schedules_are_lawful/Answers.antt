use Rattle.brace_pieces.proofs.ScheduleLemmas.{schedule_lawful}
use Rattle.brace_pieces.proofs.laws.schedules_are_lawful.Goals as goal

pub returns : goal.returns
returns c = schedule_lawful
