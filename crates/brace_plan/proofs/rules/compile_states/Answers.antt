use Rattle.std.proofs.Common.{List}
use Rattle.brace_model.specs.declared.program.State.{State}
use Rattle.brace_model.specs.Lawful.{is_ruled}
use Rattle.brace_code.specs.Codes.{names_of}
use Rattle.brace_plan.specs.Ruling.{IsRuleOf}
use Rattle.brace_plan.proofs.RuleLemmas.{one_code, one_passes}
use Rattle.brace_plan.proofs.rules.compile_states.Goals as goal

pub loop-state-preserved : goal.loop-state-preserved
loop-state-preserved c =
    let names = names_of c.args.known.now in
    let states : List State = c.args.states.now in
    let s = c.state-item.result in
    let typed = one_passes (λ (x : State). is_ruled names x.ty x.rule) states c.loop-state.state-index s c.requires c.loop-state-test.true c.state-item.is in
    one_code (λ (x : State) code. IsRuleOf names x.rule code) states c.loop-state.state-index s c.loop-state.codes _ c.in_ok-code.code c.loop-state-test.true c.state-item.is
    c.loop-state.invariant (c.in_ok-code.ensures s.ty typed) c.in_ok-push.ensures.ok
