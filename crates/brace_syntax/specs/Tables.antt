-- Which tokens spell which operations, numbers, types and names.
use Rattle.std.specs.Prelude.{◌≡◌, ℕ, List, Option, Some, None}
use Rattle.brace_tok.specs.Names.{text_at}
use Rattle.brace_tok.specs.declared.kinds.Token.{Token}
use Rattle.brace_tok.specs.declared.kinds.TokKind.{TokKind}
use Rattle.brace_tok.specs.declared.kinds.TokKind.TheVariants as k
use Rattle.brace_syntax.specs.declared.tree.Ident.{Ident}
use Rattle.brace_syntax.specs.declared.tree.Number.{Number}
use Rattle.brace_syntax.specs.declared.tree.Digits.TheVariants as digits
use Rattle.brace_syntax.specs.declared.tree.TyName.{TyName}
use Rattle.brace_syntax.specs.declared.tree.TyName.TheVariants as ty
use Rattle.brace_syntax.specs.declared.tree.CombName.{CombName}
use Rattle.brace_syntax.specs.declared.tree.CombName.TheVariants as comb
use Rattle.brace_syntax.specs.declared.tree.UnName.{UnName}
use Rattle.brace_syntax.specs.declared.tree.UnName.TheVariants as un
use Rattle.brace_syntax.specs.declared.tree.BinName.{BinName}
use Rattle.brace_syntax.specs.declared.tree.BinName.TheVariants as bin

-- the token is of this kind
abbrev pub Is : TokKind → Token → Type 0
Is kind tok = tok.kind ≡ kind

-- the name that a word spells, with its place
abbrev pub ident : List ℕ → Token → Ident
ident src tok = record { text = text_at src tok; at = tok.from }

-- what stands between the operands of `||`
abbrev pub either : TokKind → Option BinName
either k.OrOr = Some bin.Or
either _ = None

-- what stands between the operands of `&&`
abbrev pub both : TokKind → Option BinName
both k.AndAnd = Some bin.And
both _ = None

-- what stands between the two sides of a comparison
abbrev pub compares : TokKind → Option BinName
compares k.Less = Some bin.Lt
compares k.LessEq = Some bin.Le
compares k.Greater = Some bin.Gt
compares k.GreaterEq = Some bin.Ge
compares k.EqEq = Some bin.Eq
compares k.NotEq = Some bin.Ne
compares _ = None

-- what stands between summands
abbrev pub adds : TokKind → Option BinName
adds k.Plus = Some bin.Add
adds k.Minus = Some bin.Sub
adds _ = None

-- what stands between factors
abbrev pub multiplies : TokKind → Option BinName
multiplies k.Star = Some bin.Mul
multiplies k.Slash = Some bin.Div
multiplies k.Percent = Some bin.Rem
multiplies _ = None

-- what stands before its operand
abbrev pub prefixes : TokKind → Option UnName
prefixes k.Minus = Some un.Neg
prefixes k.Not = Some un.Not
prefixes _ = None

-- the calls of one argument
abbrev pub calls_one : TokKind → Option UnName
calls_one k.KwAbs = Some un.Abs
calls_one k.KwSqrt = Some un.Sqrt
calls_one k.KwFixed = Some un.ToFixed
calls_one k.KwTrunc = Some un.Trunc
calls_one _ = None

-- the calls of two arguments
abbrev pub calls_two : TokKind → Option BinName
calls_two k.KwMin = Some bin.Min
calls_two k.KwMax = Some bin.Max
calls_two _ = None

-- how an effect is joined
abbrev pub combines : TokKind → Option CombName
combines k.KwSum = Some comb.Sum
combines k.KwMin = Some comb.Min
combines k.KwMax = Some comb.Max
combines k.KwCount = Some comb.Count
combines k.KwOr = Some comb.Or
combines _ = None

-- the number that a token of this kind spells at a place
abbrev pub number_at : ℕ → TokKind → Option Number
number_at at (k.Int n) = Some (record { digits = digits.Int n; at = at })
number_at at (k.Fixed n) = Some (record { digits = digits.Fixed n; at = at })
number_at at _ = None

-- the number that a literal spells, with its place
abbrev pub number : Token → Option Number
number tok = number_at tok.from tok.kind

-- the type that a token of this kind names, where a word is this name
abbrev pub type_at : Ident → TokKind → Option TyName
type_at name k.KwInt = Some ty.Int
type_at name k.KwFixed = Some ty.Fixed
type_at name k.KwBool = Some ty.Bool
type_at name k.Word = Some (ty.Other name)
type_at name _ = None

-- the type that a token names
abbrev pub type_name : List ℕ → Token → Option TyName
type_name src tok = type_at (ident src tok) tok.kind
