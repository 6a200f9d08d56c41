use Rattle.std.proofs.Common.{◌≡◌, ◌++◌, take}
use Rattle.brace_model.specs.Published.{rows}
use Rattle.brace_rows.proofs.tick.append_rows.Given as goal

abbrev pub invariant-loop-place : goal.invariant-loop-place
invariant-loop-place l =
    l.out.items ≡ l.initial.out.items ++ rows l.program l.tick (take l.place l.agents)
