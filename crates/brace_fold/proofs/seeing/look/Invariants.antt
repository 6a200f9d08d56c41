use Rattle.std.proofs.Common.{◌≡◌, ◌++◌, take}
use Rattle.brace_fold.specs.inner.Sights.{found_in}
use Rattle.brace_fold.proofs.seeing.look.Given as goal

abbrev pub invariant-loop-spot : goal.invariant-loop-spot
invariant-loop-spot l = l.near.items
    ≡ l.fn.near.items ++ found_in l.eye l.cuts (take l.spot-index l.spots)
