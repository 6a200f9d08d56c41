use Rattle.std.proofs.Common.{◌≤◌, All, length, take}
use Rattle.brace_fold.proofs.columns.most_states.Given as goal

abbrev pub invariant-loop-class : goal.invariant-loop-class
invariant-loop-class l = All (λ c. length c.states ≤ l.most) (take l.class-index l.program.classes)
