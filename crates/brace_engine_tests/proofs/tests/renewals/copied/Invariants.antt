use Rattle.std.proofs.Common.{◌≡◌, take}
use Rattle.brace_engine_tests.proofs.tests.renewals.copied.Given as goal

abbrev pub invariant-loop-a : goal.invariant-loop-a
invariant-loop-a l = l.copy.items ≡ take l.a-index l.agents
