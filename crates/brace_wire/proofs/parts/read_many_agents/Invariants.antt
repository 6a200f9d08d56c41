use Rattle.std.proofs.Common.{◌≡◌, ◌-◌}
use Rattle.brace_wire.specs.inner.Reading.{many_at, agent_at}
use Rattle.brace_wire.proofs.Loops.{with_front}
use Rattle.brace_wire.proofs.parts.read_many_agents.Given as goal

abbrev pub invariant-loop : goal.invariant-loop
invariant-loop l = with_front l.agents.items (many_at (agent_at l.types) (l.count - l.counter) l.rest) ≡ many_at (agent_at l.types) l.count l.bytes
