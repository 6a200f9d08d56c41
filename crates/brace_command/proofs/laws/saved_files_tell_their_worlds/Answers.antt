use Rattle.brace_save.proofs.Sizes.{text_short}
use Rattle.brace_command.proofs.ToldLemmas.{saved_tells}
use Rattle.brace_command.proofs.laws.saved_files_tell_their_worlds.Goals as goal

pub returns-clause-tells : goal.returns-clause-tells
returns-clause-tells c s name tick world lawful numbers small from to_ reached =
    saved_tells s lawful numbers small tick world from to_ reached name

pub returns-clause-within : goal.returns-clause-within
returns-clause-within c s name tick world lawful numbers small from to_ reached =
    text_short s.job.program _ _ lawful.job_is_lawful.program_is_lawful
    (saved_tells s lawful numbers small tick world from to_ reached name)
