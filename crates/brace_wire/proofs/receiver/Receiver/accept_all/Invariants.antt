use Rattle.std.proofs.Common.{◌≡◌, length}
use Rattle.std.specs.Vec.Iter.{into_iter_items, into_iter_len}
use Rattle.brace_wire.proofs.AcceptLemmas.{AreLeft}
use Rattle.brace_wire.proofs.receiver.Receiver.accept_all.Given as goal

abbrev pub invariant-loop-f : goal.invariant-loop-f
invariant-loop-f l = record {
  left : AreLeft l.initial.self l.self l.fn.frames.items (into_iter_items l.f-iterator);
  has : into_iter_len l.f-iterator ≡ length (into_iter_items l.f-iterator);
}
