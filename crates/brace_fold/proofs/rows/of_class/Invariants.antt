use Rattle.std.proofs.Common.{◌≡◌, All, take}
use Rattle.brace_fold.proofs.rows.of_class.Given as goal

abbrev pub invariant-loop-k : goal.invariant-loop-k
invariant-loop-k l = All (λ a. a.class ≡ l.class) (take l.k l.agents)
