use Rattle.std.proofs.Common.{◌≡◌, drop}
use Rattle.brace_wire.specs.inner.Reading.{values_at}
use Rattle.brace_wire.proofs.Loops.{with_front}
use Rattle.brace_wire.proofs.parts.read_values.Given as goal

abbrev pub invariant-loop-ty : goal.invariant-loop-ty
invariant-loop-ty l = with_front l.values.items (values_at (drop l.ty-index l.types) l.rest) ≡ values_at l.types l.bytes
