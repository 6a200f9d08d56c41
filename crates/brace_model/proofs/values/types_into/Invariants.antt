use Rattle.std.proofs.Common.{◌≡◌, map, take}
use Rattle.brace_model.specs.Typing.{type_of_value}
use Rattle.brace_model.proofs.values.types_into.Given as goal

abbrev pub invariant-loop-value : goal.invariant-loop-value
invariant-loop-value l = l.types.items ≡ map type_of_value (take l.value-index l.values)
