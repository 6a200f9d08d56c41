use Rattle.std.proofs.Common.{◌≡◌, ◌≤◌, ◌+◌, ◌-◌, ◌*◌, map, pos}
use Rattle.std.specs.List.{range_with_len}
use Rattle.brace_command.proofs.trial.strips_at.Given as goal

abbrev pub invariant-loop-strip : goal.invariant-loop-strip
invariant-loop-strip l = record {
  some : 1 ≤ l.strip;
  few : l.strip ≤ 8;
  so_far : l.xs ≡ map (λ n. pos (n * 125000000 + l.further)) (range_with_len 1 (l.strip - 1));
}
