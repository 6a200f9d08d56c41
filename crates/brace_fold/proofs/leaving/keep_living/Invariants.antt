use Rattle.std.proofs.Common.{◌≡◌, ◌≤◌, ◌+◌, ◌-◌, ◌++◌, take, drop}
use Rattle.std.specs.Prelude.{reverse}
use Rattle.std.specs.Vec.{vec_len, vec_capacity}
use Rattle.brace_fold.specs.inner.Rulings.{living_from}
use Rattle.brace_fold.proofs.leaving.keep_living.Given as goal

abbrev pub invariant-loop-row : goal.invariant-loop-row
invariant-loop-row l = record {
  kept : l.left.items ++ living_from l.class l.out l.row (take (l.count - l.row) (reverse l.agents.items))
      ≡ l.fn.left.items ++ living_from l.class l.out 0 (take l.count (reverse l.fn.agents.items));
  rest : drop (l.count - l.row) (reverse l.agents.items) ≡ drop l.count (reverse l.fn.agents.items);
  room : vec_len l.left + vec_len l.agents ≤ vec_capacity l.left;
}
