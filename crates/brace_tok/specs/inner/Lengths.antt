-- The reserved words by how many bytes they have.
use Rattle.std.specs.Prelude.{ℕ, ◌==◌, List, length, Option}
use Rattle.std.specs.List.{filter}
use Rattle.brace_tok.specs.Tables.{found, words}
use Rattle.brace_tok.specs.declared.kinds.TokKind.{TokKind}

-- what the text is among the reserved words of n bytes
unfoldable pub reserved_of : ℕ → List ℕ → Option TokKind
reserved_of n = found (filter (λ entry. length entry.0 == n) words)
