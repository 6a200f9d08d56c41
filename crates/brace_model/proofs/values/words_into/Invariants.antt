use Rattle.std.proofs.Common.{◌≡◌, map, take}
use Rattle.brace_model.specs.World.{number}
use Rattle.brace_model.proofs.values.words_into.Given as goal

abbrev pub invariant-loop-value : goal.invariant-loop-value
invariant-loop-value l = l.words.items ≡ map number (take l.value-index l.values)
