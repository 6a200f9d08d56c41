use Rattle.std.proofs.Common.{◌≡◌, take, false}
use Rattle.std.specs.List.{list_any}
use Rattle.brace_invert.specs.Range.{says_within}
use Rattle.brace_invert.proofs.distance.+saying_within.Given as goal

abbrev pub invariant-block_says_within-loop-s : goal.invariant-block_says_within-loop-s
invariant-block_says_within-loop-s l = list_any (λ s. says_within s l.in_loop l.in_inner) (take l.s-index l.block) ≡ false
