use Rattle.std.proofs.Common.{◌≡◌, ◌≤◌, ◌+◌, ◌-◌, ◌*◌, false, length}
use Rattle.std.specs.Vec.{vec_len, vec_capacity}
use Rattle.brace_code.proofs.KernelLemmas.{AreMade}
use Rattle.brace_code.proofs.kernels.row_words.Given as goal

abbrev pub invariant-loop-four : goal.invariant-loop-four
invariant-loop-four g l = record {
  room : vec_len l.words + (length l.rows - 4 * l.four) ≤ vec_capacity l.words;
  long : length l.words.items ≡ 4 * l.four;
  done : l.failed ≡ false
      → AreMade (goal.F-post g l.op) l.rows l.column l.others l.other l.words.items (4 * l.four);
}

abbrev pub invariant-loop-k : goal.invariant-loop-k
invariant-loop-k g l = record {
  room : vec_len l.words + (length l.rows - l.k) ≤ vec_capacity l.words;
  long : length l.words.items ≡ l.k;
  done : l.failed ≡ false
      → AreMade (goal.F-post g l.op) l.rows l.column l.others l.other l.words.items l.k;
}

abbrev pub invariant-loop-k-2 : goal.invariant-loop-k-2
invariant-loop-k-2 g l = record {
  room : vec_len l.words + (length l.rows - l.k) ≤ vec_capacity l.words;
  long : length l.words.items ≡ l.k;
  done : l.failed ≡ false
      → AreMade (goal.F-post g l.op) l.rows l.column l.others l.other l.words.items l.k;
}
