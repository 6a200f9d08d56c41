-- The reserved words, the directives and the symbols, each with the kind of its token.
use Rattle.std.specs.Prelude.{List, [], ◌∷◌, zip, ℕ, Option, Some, None, if◌then◌else◌, codes}
use Rattle.std.specs.Str.{bytes_eq}
use Rattle.brace_num.specs.Names.{reserved_words}
use Rattle.brace_tok.specs.declared.kinds.TokKind.{TokKind}
use Rattle.brace_tok.specs.declared.kinds.TokKind.TheVariants as kind

-- what the table has for the text
abbrev pub found : List (List ℕ × TokKind) → List ℕ → Option TokKind
found [] text = None
found (entry ∷ table) text = if bytes_eq entry.0 text then Some entry.1 else found table text

-- the reserved words, each with the kind of its token
abbrev pub words : List (List ℕ × TokKind)
words = zip reserved_words (
    kind.KwClass ∷ kind.KwPublic ∷ kind.KwPrivate ∷ kind.KwState ∷ kind.KwEffect ∷
    kind.KwVoid ∷ kind.KwRun ∷ kind.KwForeach ∷ kind.KwExtent ∷ kind.KwConst ∷ kind.KwIf ∷
    kind.KwElse ∷ kind.KwThis ∷ kind.KwTrue ∷ kind.KwFalse ∷ kind.KwInt ∷ kind.KwFixed ∷
    kind.KwBool ∷ kind.KwAbs ∷ kind.KwMin ∷ kind.KwMax ∷ kind.KwSqrt ∷ kind.KwTrunc ∷
    kind.KwRand ∷ kind.KwSum ∷ kind.KwCount ∷ kind.KwOr ∷ kind.KwDie ∷ kind.KwSpawn ∷
    kind.KwWhen ∷ [])

-- a reserved word is never a name
unfoldable pub reserved : List ℕ → Option TokKind
reserved = found words

-- the directives
abbrev pub directives : List (List ℕ × TokKind)
directives = (codes "visible", kind.Visible) ∷ (codes "reach", kind.Reach) ∷ []

-- the word behind a `#`
unfoldable pub directive : List ℕ → Option TokKind
directive = found directives

-- the symbols, of one byte or two
abbrev pub symbols : List (List ℕ × TokKind)
symbols =
    (codes "{", kind.OpenBrace) ∷ (codes "}", kind.CloseBrace) ∷ (codes "(", kind.OpenParen) ∷
    (codes ")", kind.CloseParen) ∷ (codes "[", kind.OpenBracket) ∷
    (codes "]", kind.CloseBracket) ∷ (codes ";", kind.Semicolon) ∷ (codes ":", kind.Colon) ∷
    (codes ",", kind.Comma) ∷ (codes ".", kind.Dot) ∷ (codes "?", kind.Question) ∷
    (codes "=", kind.Assign) ∷ (codes "<-", kind.Arrow) ∷ (codes "<", kind.Less) ∷
    (codes "<=", kind.LessEq) ∷ (codes ">", kind.Greater) ∷ (codes ">=", kind.GreaterEq) ∷
    (codes "==", kind.EqEq) ∷ (codes "!=", kind.NotEq) ∷ (codes "!", kind.Not) ∷
    (codes "&&", kind.AndAnd) ∷ (codes "||", kind.OrOr) ∷ (codes "+", kind.Plus) ∷
    (codes "-", kind.Minus) ∷ (codes "*", kind.Star) ∷ (codes "/", kind.Slash) ∷
    (codes "%", kind.Percent) ∷ []

-- a symbol
unfoldable pub symbol : List ℕ → Option TokKind
symbol = found symbols
