use Rattle.brace_wire.proofs.StreamLemmas.{empty_is_partial}
use Rattle.brace_wire.proofs.decoder.Decoder.make.Goals as goal

pub invariant_of-result : goal.invariant_of-result
invariant_of-result c = empty_is_partial c.new.result.items c.new.ensures.items
