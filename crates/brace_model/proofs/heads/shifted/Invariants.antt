use Rattle.std.proofs.Common.{◌≡◌, map, take}
use Rattle.brace_model.specs.inner.Packed.{shifted}
use Rattle.brace_model.proofs.heads.shifted.Given as goal

abbrev pub invariant-loop-head : goal.invariant-loop-head
invariant-loop-head l = l.all.items ≡ map (shifted l.by) (take l.head-index l.heads)
