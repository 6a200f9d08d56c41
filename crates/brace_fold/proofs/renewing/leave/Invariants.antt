use Rattle.std.proofs.Common.{◌≡◌, ◌≤◌, ◌+◌, ◌++◌, drop}
use Rattle.std.specs.Prelude.{reverse}
use Rattle.std.specs.Vec.{vec_len, vec_capacity}
use Rattle.brace_fold.specs.inner.Renewals.{living_in}
use Rattle.brace_fold.proofs.renewing.leave.Given as goal

abbrev pub invariant-loop-batch : goal.invariant-loop-batch
invariant-loop-batch l = record {
  kept : l.left.items ++ living_in (drop l.batch-index l.batches) (reverse l.agents.items) ≡ l.fn.left.items ++ living_in l.batches l.fn.agents.items;
  room : vec_len l.left + vec_len l.agents ≤ vec_capacity l.left;
}
