use Rattle.brace_wire.proofs.StreamLemmas.{empty_is_partial}
use Rattle.brace_wire.proofs.decoder.Decoder.begin.Goals as goal

pub invariant_of-self : goal.invariant_of-self
invariant_of-self c = empty_is_partial c.clear.new.self.items c.clear.ensures.items
