use Rattle.std.proofs.Common.{map, take}
use Rattle.brace_comb.specs.Partials.{AreTotalsOf}
use Rattle.brace_engine_tests.proofs.tests.totals.partial_of.Given as goal

abbrev pub invariant-loop-s : goal.invariant-loop-s
invariant-loop-s l = AreTotalsOf (λ t f. l.comb) (map (λ s. record { target = s.target; field = s.field; value = s.value }) (take l.s-index l.said)) l.partial
