use Rattle.std.proofs.Common.{◌≡◌, take, false}
use Rattle.std.specs.List.{list_any}
use Rattle.brace_invert.specs.Range.{says_within}
use Rattle.brace_invert.proofs.distance.says_in_inner_loops.Given as goal

abbrev pub invariant-loop-class : goal.invariant-loop-class
invariant-loop-class l = list_any (λ c. list_any (λ s. says_within s false false) c.query) (take l.class-index l.program.classes) ≡ false
