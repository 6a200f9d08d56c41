use Rattle.std.proofs.Common.{◌<◌, length, arith}
use Rattle.brace_model.specs.Query.{Saying}
use Rattle.brace_engine_tests.specs.declared.tests.totals.Said.{Said}
use Rattle.brace_comb.proofs.Said.{may_say, said_next, one_said}
use Rattle.brace_engine_tests.proofs.tests.totals.partial_of.Goals as goal

abbrev saying : Said → Saying
saying s = record { target = s.target; field = s.field; value = s.value }

pub add-requires : goal.add-requires
add-requires c =
    let within : c.loop-s.s-index < length c.args.said.now = omega (arith, c.loop-s-test.true) in
    may_say saying (λ t f. c.args.comb) c.args.said.now c.loop-s.s-index _ c.loop-s.partial c.of.result c.loop-s.invariant within c.of.ensures.total c.requires.fit c.requires.few

pub loop-s-preserved : goal.loop-s-preserved
loop-s-preserved c =
    let within : c.loop-s.s-index < length c.args.said.now = omega (arith, c.loop-s-test.true) in
    said_next saying (λ t f. c.args.comb) c.args.said.now c.loop-s.s-index _ _ within
    (c.in_ok-add.ensures.said (λ t f. c.args.comb) _ _ c.loop-s.invariant (one_said (λ t f. c.args.comb) _ c.of.result c.of.ensures.total))
