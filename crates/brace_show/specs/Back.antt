-- What it is that a text is read back as a script.
use Rattle.std.specs.Prelude.{ℕ, List}
use Rattle.brace_tok.specs.declared.kinds.Token.{Token}
use Rattle.brace_tok.specs.Spells.{Spells}
use Rattle.brace_syntax.specs.declared.tree.Tree.{Tree}
use Rattle.brace_syntax.specs.Reads.{Reads}
use Rattle.brace_show.specs.Alike.{Alike}

-- the tokens of the text are this script, apart from places
abbrev pub ReadsBack : List ℕ → Tree → Type 0
ReadsBack text tree =
    (toks : List Token) × (again : Tree) × Spells text toks × Reads text toks again
    × Alike tree again
