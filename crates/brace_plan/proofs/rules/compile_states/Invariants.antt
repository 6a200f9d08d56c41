use Rattle.std.proofs.Common.{take}
use Rattle.std.specs.List.{AllZip}
use Rattle.brace_model.specs.declared.program.State.{State}
use Rattle.brace_code.specs.Codes.{names_of}
use Rattle.brace_plan.specs.Ruling.{IsRuleOf}
use Rattle.brace_plan.proofs.rules.compile_states.Given as goal

abbrev pub invariant-loop-state : goal.invariant-loop-state
invariant-loop-state l =
    AllZip (λ (s : State) code. IsRuleOf (names_of l.known) s.rule code) (take l.state-index l.states) l.codes
