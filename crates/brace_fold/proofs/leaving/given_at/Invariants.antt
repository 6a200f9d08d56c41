use Rattle.std.proofs.Common.{◌≡◌, take}
use Rattle.brace_fold.specs.inner.Rulings.{given_at}
use Rattle.brace_fold.proofs.leaving.given_at.Given as goal

abbrev pub invariant-loop-gift : goal.invariant-loop-gift
invariant-loop-gift l = l.given.items ≡ given_at (take l.gift-index l.gifts) l.row
