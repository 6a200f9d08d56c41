use Rattle.std.proofs.Common.{◌≡◌, ◌<◌, ℕ, get_or}
use Rattle.brace_model.specs.declared.program.Ty.{Ty}
use Rattle.brace_model.proofs.stored.are_same.Given as goal

abbrev pub invariant-loop-k : goal.invariant-loop-k
invariant-loop-k l = (j : ℕ) (d : Ty) → j < l.k → get_or l.a j d ≡ get_or l.b j d
