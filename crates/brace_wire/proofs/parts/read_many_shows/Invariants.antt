use Rattle.std.proofs.Common.{◌≡◌, ◌-◌}
use Rattle.brace_wire.specs.inner.Reading.{many_at, shown_at}
use Rattle.brace_wire.proofs.Loops.{with_front}
use Rattle.brace_wire.proofs.parts.read_many_shows.Given as goal

abbrev pub invariant-loop : goal.invariant-loop
invariant-loop l = with_front l.shows.items (many_at (shown_at l.types) (l.count - l.counter) l.rest) ≡ many_at (shown_at l.types) l.count l.bytes
