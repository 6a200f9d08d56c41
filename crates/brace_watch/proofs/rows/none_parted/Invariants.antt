use Rattle.std.proofs.Common.{◌≡◌, [], replicate}
use Rattle.brace_watch.proofs.rows.none_parted.Given as goal

abbrev pub invariant-loop-place : goal.invariant-loop-place
invariant-loop-place l = l.all.items ≡ replicate l._place []
