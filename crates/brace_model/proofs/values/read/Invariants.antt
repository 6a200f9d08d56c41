use Rattle.std.proofs.Common.{◌≡◌, take}
use Rattle.brace_model.specs.Words.{values_of}
use Rattle.brace_model.proofs.values.read.Given as goal

abbrev pub invariant-loop-k : goal.invariant-loop-k
invariant-loop-k l = l.values.items ≡ values_of (take l.k l.types) l.words
