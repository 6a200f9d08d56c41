use Rattle.std.proofs.Common.{◌≡◌, take, true}
use Rattle.std.specs.List.{list_all}
use Rattle.brace_pieces.specs.Numbers.{rule_fits}
use Rattle.brace_pieces.proofs.numbers.rules_fit.Given as goal

abbrev pub invariant-loop-state : goal.invariant-loop-state
invariant-loop-state l = list_all (λ state. rule_fits state.rule) (take l.state-index l.states) ≡ true
