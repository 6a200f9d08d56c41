use Rattle.std.proofs.Common.{◌≡◌, map}
use Rattle.brace_invert.specs.Split.{inverse_query, with_query}
use Rattle.brace_invert.proofs.parts.inverse_program.Given as goal

abbrev pub invariant-loop-class : goal.invariant-loop-class
invariant-loop-class l = l.parts ≡ map (with_query inverse_query) l.yielded
