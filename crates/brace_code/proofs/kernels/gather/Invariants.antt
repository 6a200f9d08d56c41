use Rattle.std.proofs.Common.{◌≡◌, ◌≤◌, ◌+◌, ◌-◌, ◌*◌, pos, length, map, take, slice_index_or}
use Rattle.std.specs.Vec.{vec_len, vec_capacity}
use Rattle.brace_code.proofs.kernels.gather.Given as goal

abbrev pub invariant-loop-four : goal.invariant-loop-four
invariant-loop-four l = record {
  room : vec_len l.words + (length l.rows - 4 * l.four) ≤ vec_capacity l.words;
  words : l.words.items
      ≡ map (λ row. slice_index_or l.column row (pos 0)) (take (4 * l.four) l.rows);
}

abbrev pub invariant-loop-k : goal.invariant-loop-k
invariant-loop-k l = record {
  room : vec_len l.words + (length l.rows - l.k) ≤ vec_capacity l.words;
  words : l.words.items ≡ map (λ row. slice_index_or l.column row (pos 0)) (take l.k l.rows);
}

abbrev pub invariant-loop-k-2 : goal.invariant-loop-k-2
invariant-loop-k-2 l = record {
  room : vec_len l.words + (length l.rows - l.k) ≤ vec_capacity l.words;
  words : l.words.items ≡ map (λ row. slice_index_or l.column row (pos 0)) (take l.k l.rows);
}
