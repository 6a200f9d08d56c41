use Rattle.std.proofs.Common.{◌≡◌, ◌++◌, flat_map, drop}
use Rattle.brace_names.specs.Found.{gift}
use Rattle.brace_names.proofs.class.gifts.Given as goal

abbrev pub invariant-loop-one : goal.invariant-loop-one
invariant-loop-one l = l.out.items ++ flat_map (gift l.scope) (drop l.one-index l.gifts) ≡ l.initial.out.items ++ flat_map (gift l.scope) l.gifts
