use Rattle.std.proofs.Common.{◌≡◌, ◌*◌}
use Rattle.brace_rows.specs.MadeAgents.{drawn, made_agents}
use Rattle.brace_rows.proofs.made.make_agents.Given as goal

abbrev pub invariant-loop-id : goal.invariant-loop-id
invariant-loop-id l = record {
  made : l.agents ≡ made_agents l.seed l.id;
  drawn : l.generator ≡ drawn l.seed (2 * l.id);
}
