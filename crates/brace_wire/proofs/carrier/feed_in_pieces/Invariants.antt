use Rattle.std.proofs.Common.{◌-◌, length}
use Rattle.brace_wire.proofs.FeedLemmas.{FedSoFar}
use Rattle.brace_wire.proofs.carrier.feed_in_pieces.Given as goal

abbrev pub invariant-loop-fed : goal.invariant-loop-fed
invariant-loop-fed l = FedSoFar l.initial.decoder.types l.bytes l.fed l.initial.out.items l.out.items l.decoder

abbrev pub decreases-loop-fed : goal.decreases-loop-fed
decreases-loop-fed l = length l.bytes - l.fed
