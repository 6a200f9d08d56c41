use Rattle.std.proofs.Common.{◌≡◌, ◌++◌, drop}
use Rattle.brace_names.specs.Tables.{repeated, repeated_after}
use Rattle.brace_names.proofs.TableLemmas.{Knows, texts}
use Rattle.brace_names.proofs.word.note.Given as goal

abbrev pub invariant-loop-word : goal.invariant-loop-word
invariant-loop-word l =
    (l.again.items ++ repeated_after (texts l.word-index l.words) (drop l.word-index l.words) ≡ l.fn.again.items ++ repeated l.words)
    × Knows l.seen (texts l.word-index l.words)
