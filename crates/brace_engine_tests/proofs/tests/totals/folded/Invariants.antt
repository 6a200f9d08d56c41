use Rattle.std.proofs.Common.{◌≡◌, take}
use Rattle.brace_comb.specs.Totals.{tally, tally_of, IsBounded}
use Rattle.brace_engine_tests.proofs.tests.totals.folded.Given as goal

abbrev pub invariant-loop-v : goal.invariant-loop-v
invariant-loop-v l = (tally l.total ≡ tally_of l.comb (take l.v-index l.values)) × IsBounded (tally l.total)
