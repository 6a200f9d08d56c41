use Rattle.std.proofs.Common.{◌≡◌, map}
use Rattle.brace_invert.specs.Split.{forward_query, with_query}
use Rattle.brace_invert.proofs.parts.forward_program.Given as goal

abbrev pub invariant-loop-class : goal.invariant-loop-class
invariant-loop-class l = l.parts ≡ map (with_query forward_query) l.yielded
