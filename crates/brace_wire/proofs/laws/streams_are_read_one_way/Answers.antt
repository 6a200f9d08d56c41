use Rattle.brace_wire.proofs.StreamLemmas.{read_one_way}
use Rattle.brace_wire.proofs.laws.streams_are_read_one_way.Goals as goal

pub returns : goal.returns
returns c = λ types bytes x y fs gs a b p q. read_one_way types bytes x y fs gs a b p q
