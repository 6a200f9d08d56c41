use Rattle.std.proofs.Common.{◌+◌, ap, is_some, refl}
use Rattle.brace_lanes.proofs.TalkLemmas.{says_next, says_answered, hears_next, has_said, has_heard}
use Rattle.brace_lanes.proofs.tests.speak.Goals as goal

pub put-requires-clause-next : goal.put-requires-clause-next
put-requires-clause-next c = says_next (λ s. s.steps) c.loop-step.seat.view (record { steps = c.args.steps }) c.args.own c.args.other c.loop-step.step c.loop-step.step c.loop-step.invariant.1 c.requires.apart c.loop-step-test.true

pub put-requires-clause-answered : goal.put-requires-clause-answered
put-requires-clause-answered c = says_answered (λ s. s.steps) c.loop-step.seat.view (record { steps = c.args.steps }) c.args.own c.args.other c.loop-step.step c.loop-step.step c.loop-step.invariant.1 c.requires.apart refl

pub hear-requires-clause-next : goal.hear-requires-clause-next
hear-requires-clause-next c =
    let said = has_said (λ s. s.steps) c.loop-step.seat.view (record { steps = c.args.steps }) c.args.own c.args.other c.loop-step.step c.loop-step.step c.loop-step.invariant.1 c.requires.apart c.put.new.self.view c.put.ensures.same c.put.ensures.put c.put.ensures.taken in
    hears_next (λ s. s.steps) c.put.new.self.view (record { steps = c.args.steps }) c.args.own c.args.other (c.loop-step.step + 1) c.loop-step.step said c.requires.apart c.loop-step-test.true

pub loop-step-preserved : goal.loop-step-preserved
loop-step-preserved c =
    let said = has_said (λ s. s.steps) c.loop-step.seat.view (record { steps = c.args.steps }) c.args.own c.args.other c.loop-step.step c.loop-step.step c.loop-step.invariant.1 c.requires.apart c.put.new.self.view c.put.ensures.same c.put.ensures.put c.put.ensures.taken in
    (c.hear.ensures.lanes, has_heard (λ s. s.steps) c.put.new.self.view (record { steps = c.args.steps }) c.args.own c.args.other (c.loop-step.step + 1) c.loop-step.step said c.requires.apart c.hear.new.seat.view c.hear.ensures.same (is_some c.hear.result) (ap is_some c.in-Some.is) c.hear.ensures.put c.hear.ensures.taken)
