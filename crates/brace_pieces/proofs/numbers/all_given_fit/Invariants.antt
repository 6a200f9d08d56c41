use Rattle.std.proofs.Common.{◌≡◌, take, true}
use Rattle.std.specs.List.{list_all}
use Rattle.brace_pieces.specs.Numbers.{expression_fits}
use Rattle.brace_pieces.proofs.numbers.all_given_fit.Given as goal

abbrev pub invariant-loop-gift : goal.invariant-loop-gift
invariant-loop-gift l = list_all (λ g. expression_fits g.value) (take l.gift-index l.gifts) ≡ true
