use Rattle.brace_command.proofs.FormatLemmas.{written_again, only_written}
use Rattle.brace_command.proofs.laws.formatted_scripts_stay.Goals as goal

pub returns-clause-again : goal.returns-clause-again
returns-clause-again c files others name other o f done held within = written_again files others name other o f done held within

pub returns-clause-only : goal.returns-clause-only
returns-clause-only c files others name other o f done held within p g =
    only_written others other o p (written_again files others name other o f done held within) done g
