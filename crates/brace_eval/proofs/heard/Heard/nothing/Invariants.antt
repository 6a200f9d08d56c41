use Rattle.std.proofs.Common.{◌≡◌, [], length, take}
use Rattle.brace_eval.specs.Heard.{AreStarts, counting, table_of}
use Rattle.brace_eval.proofs.heard.Heard.nothing.Given as goal

abbrev pub invariant-loop-agent : goal.invariant-loop-agent
invariant-loop-agent l = record {
  each : length l.starts.items ≡ l.agent-index;
  starts : AreStarts l.program l.agents l.starts.items;
  totals : l.totals.items ≡ table_of l.program [] (take l.agent-index l.agents);
  counts : l.counts.items ≡ table_of (counting l.program) [] (take l.agent-index l.agents);
}
