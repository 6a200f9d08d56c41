use Rattle.std.proofs.Common.{◌≡◌, ◌-◌}
use Rattle.brace_wire.specs.inner.Reading.{many_at, parent_at}
use Rattle.brace_wire.proofs.Loops.{with_front}
use Rattle.brace_wire.proofs.parts.read_many_parents.Given as goal

abbrev pub invariant-loop : goal.invariant-loop
invariant-loop l = with_front l.parents.items (many_at parent_at (l.count - l.counter) l.rest) ≡ many_at parent_at l.count l.bytes
