use Rattle.std.proofs.Common.{◌≡◌, ◌++◌, map, take}
use Rattle.brace_model.specs.declared.program.Program.{Program}
use Rattle.brace_herd.specs.inner.Packing.{agent_at, types_in}
use Rattle.brace_herd.proofs.packing.push_rows.Given as goal

abbrev pub invariant-loop-row : goal.invariant-loop-row
invariant-loop-row l = (program : Program) → l.types ≡ types_in program
    → l.herd ≡ l.fn.herd ++ map (agent_at program l.own) (take l.row-index l.rows)
