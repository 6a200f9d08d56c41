use Rattle.std.proofs.Common.{◌≡◌, ◌-◌}
use Rattle.brace_wire.specs.inner.Reading.{many_at, entry_at}
use Rattle.brace_wire.proofs.Loops.{with_front}
use Rattle.brace_wire.proofs.parts.read_many_entries.Given as goal

abbrev pub invariant-loop : goal.invariant-loop
invariant-loop l = with_front l.entries.items (many_at entry_at (l.count - l.counter) l.rest) ≡ many_at entry_at l.count l.bytes
