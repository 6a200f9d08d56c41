use Rattle.std.proofs.Common.{◌≡◌, ◌++◌, flat_map, drop}
use Rattle.brace_check.specs.Found.{gift}
use Rattle.brace_check.proofs.found.gifts.Given as goal

abbrev pub invariant-loop-one : goal.invariant-loop-one
invariant-loop-one l = l.out.items ++ flat_map (gift l.scope) (drop l.one-index l.given) ≡ l.initial.out.items ++ flat_map (gift l.scope) l.given
