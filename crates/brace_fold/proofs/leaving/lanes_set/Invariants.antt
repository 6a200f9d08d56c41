use Rattle.std.proofs.Common.{◌≡◌, filter, map, slice_index_or, take}
use Rattle.brace_code.specs.declared.lane.Lane.{Lane}
use Rattle.brace_fold.specs.inner.Rulings.{is_set}
use Rattle.brace_fold.proofs.leaving.lanes_set.Given as goal

abbrev pub invariant-loop-number : goal.invariant-loop-number
invariant-loop-number l = (d : Lane) → map (λ n. slice_index_or l.lanes n d) l.numbers.items
    ≡ filter (λ x. is_set l.condition x.this) (take l.number l.lanes)
