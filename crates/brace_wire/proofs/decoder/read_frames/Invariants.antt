use Rattle.std.proofs.Common.{length}
use Rattle.brace_wire.proofs.StreamLemmas.{ReadSoFar}
use Rattle.brace_wire.proofs.decoder.read_frames.Given as goal

abbrev pub invariant-loop-body : goal.invariant-loop-body
invariant-loop-body l = ReadSoFar l.types l.bytes l.initial.out.items l.out.items l.rest

abbrev pub decreases-loop-body : goal.decreases-loop-body
decreases-loop-body l = length l.rest
