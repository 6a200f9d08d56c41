use Rattle.std.proofs.Common.{◌≡◌, take}
use Rattle.brace_watch.specs.inner.Columns.{all_owned}
use Rattle.brace_watch.proofs.rows.parted.Given as goal

abbrev pub invariant-loop-place : goal.invariant-loop-place
invariant-loop-place l = l.boxes.items ≡ all_owned l.program l.cuts (take l.place l.agents)
