use Rattle.std.proofs.Common.{◌≡◌, map, take}
use Rattle.brace_top.specs.inner.Fates.{fate_of}
use Rattle.brace_top.proofs.links.fates_of.Given as goal

abbrev pub invariant-loop-letter : goal.invariant-loop-letter
invariant-loop-letter l = l.fates.items ≡ map fate_of (take l.letter-index l.letters)
