use Rattle.std.proofs.Common.{◌≡◌, ◌<◌, ◌≤◌, ℕ, pos, true, if◌then◌else◌, slice_index_or}
use Rattle.brace_code.specs.Columns.{side}
use Rattle.brace_code.proofs.splitting.choose.Given as goal

abbrev pub invariant-loop-k : goal.invariant-loop-k
invariant-loop-k l = record {
  done : (k : ℕ) → k < l.k → slice_index_or l.words k (pos 0)
      ≡ (if side true (slice_index_or l.initial.words k (pos 0)) then l.set else l.unset);
  left : (k : ℕ) → l.k ≤ k
      → slice_index_or l.words k (pos 0) ≡ slice_index_or l.initial.words k (pos 0);
}
