use Rattle.std.proofs.Common.{◌≡◌}
use Rattle.brace_herd.specs.inner.Packing.{words_at}
use Rattle.brace_herd.proofs.packing.read_words.Given as goal

abbrev pub invariant-loop-i : goal.invariant-loop-i
invariant-loop-i l = l.words.items ≡ words_at l.states l.row l.i
