use Rattle.std.proofs.Common.{◌≡◌, take}
use Rattle.brace_model.proofs.copy.copy_gifts.Given as goal

abbrev pub invariant-loop-gift : goal.invariant-loop-gift
invariant-loop-gift l = l.copy ≡ take l.gift-index l.gifts
