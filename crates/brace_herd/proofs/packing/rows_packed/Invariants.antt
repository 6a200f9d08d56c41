use Rattle.std.proofs.Common.{◌≡◌, ◌++◌, length, map}
use Rattle.brace_model.specs.declared.program.Program.{Program}
use Rattle.brace_herd.specs.inner.Packing.{agent_at, types_in}
use Rattle.brace_herd.proofs.packing.rows_packed.Given as goal

abbrev pub invariant-loop-left : goal.invariant-loop-left
invariant-loop-left l = (program : Program) → l.types ≡ types_in program
    → l.herd ++ map (agent_at program l.own) l.left ≡ map (agent_at program l.own) l.rows

abbrev pub decreases-loop-left : goal.decreases-loop-left
decreases-loop-left l = length l.left
