use Rattle.std.proofs.Common.{◌≡◌, ◌≤◌, ◌+◌, ◌-◌, length, map, take, slice_index_or}
use Rattle.std.specs.Vec.{vec_len, vec_capacity}
use Rattle.brace_code.proofs.lanes.picked_rows.Given as goal

abbrev pub invariant-loop-number : goal.invariant-loop-number
invariant-loop-number l = record {
  room : vec_len l.picked + (length l.numbers - l.number-index) ≤ vec_capacity l.picked;
  rows : l.picked.items
      ≡ map (λ number. slice_index_or l.rows number 0) (take l.number-index l.numbers);
}
