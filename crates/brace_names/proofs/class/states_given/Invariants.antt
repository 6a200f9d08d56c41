use Rattle.std.proofs.Common.{◌≡◌, ◌++◌, drop}
use Rattle.brace_names.specs.Found.{states_given}
use Rattle.brace_names.proofs.class.states_given.Given as goal

abbrev pub invariant-loop-gift : goal.invariant-loop-gift
invariant-loop-gift l = l.names.items ++ states_given l.scope (drop l.gift-index l.gifts) ≡ states_given l.scope l.gifts
