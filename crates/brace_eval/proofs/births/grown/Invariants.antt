use Rattle.std.proofs.Common.{◌≡◌, ◌+◌, ◌++◌, length}
use Rattle.std.specs.Prelude.{reverse}
use Rattle.brace_model.specs.Step.{numbered}
use Rattle.brace_eval.proofs.births.grown.Given as goal

abbrev pub invariant-loop-child : goal.invariant-loop-child
invariant-loop-child l = record {
  ids : l.living.items ++ numbered l.id (reverse l.born.items) ≡ l.fn.living.items ++ numbered l.fn.next l.fn.born.items;
  next : l.id + length l.born.items ≡ l.fn.next + length l.fn.born.items;
}

abbrev pub decreases-loop-child : goal.decreases-loop-child
decreases-loop-child l = length l.born.items
