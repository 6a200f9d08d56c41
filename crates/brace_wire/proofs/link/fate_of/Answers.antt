use Rattle.std.proofs.Common.{refl}
use Rattle.brace_wire.proofs.link.fate_of.Goals as goal

pub returns : goal.returns
returns c = refl
