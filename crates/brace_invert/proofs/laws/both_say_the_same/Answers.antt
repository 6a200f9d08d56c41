use Rattle.brace_invert.proofs.Inverting.{said_same, said_to_each}
use Rattle.brace_invert.proofs.laws.both_say_the_same.Goals as goal

pub returns : goal.returns
returns c = record { said = said_same; to_each = said_to_each }
