use Rattle.std.proofs.Common.{[]}
use Rattle.brace_wire.proofs.StreamLemmas.{in_turn}
use Rattle.brace_wire.proofs.laws.cuts_do_not_matter.Goals as goal

pub returns : goal.returns
returns c = λ types pieces frames end h. in_turn types [] pieces frames end h
