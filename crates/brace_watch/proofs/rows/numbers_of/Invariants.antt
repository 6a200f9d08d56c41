use Rattle.std.proofs.Common.{◌≡◌, take}
use Rattle.brace_watch.specs.inner.Columns.{numbers_of}
use Rattle.brace_watch.proofs.rows.numbers_of.Given as goal

abbrev pub invariant-loop-agent : goal.invariant-loop-agent
invariant-loop-agent l = l.numbers.items
    ≡ numbers_of l.class l.field (take l.agent-index l.agents)
