-- The canonical text of expressions. A level says how tightly an expression binds: an operand
-- stands in parentheses exactly where its level is below the one that is needed there.
use Rattle.std.specs.Prelude.{ℕ, nat_lt, if◌then◌else◌, List, ◌++◌, codes}
use Rattle.brace_syntax.specs.declared.tree.UnName.{UnName}
use Rattle.brace_syntax.specs.declared.tree.UnName.TheVariants as un
use Rattle.brace_syntax.specs.declared.tree.BinName.{BinName}
use Rattle.brace_syntax.specs.declared.tree.BinName.TheVariants as bin
use Rattle.brace_syntax.specs.declared.tree.ExprTree.{ExprTree}
use Rattle.brace_syntax.specs.declared.tree.ExprTree.TheOpen.{ExprTree-F, Lit, True, False, Name, OfThis, OfLoop, Unary, Binary, Choice, Rand}
use Rattle.brace_syntax.specs.declared.tree.ExprTree.TheFolds.{fold-ExprTree}
use Rattle.brace_show.specs.Literals.{literal}

-- the text of an expression, and its level
pub record Phrase : Type 0 where
  pub level : ℕ
  pub text : List ℕ

-- the text where a level is needed
abbrev pub at_level : ℕ → Phrase → List ℕ
at_level needed x = if nat_lt x.level needed then codes "(" ++ x.text ++ codes ")" else x.text

-- what binds tightest: a literal, a name, a call
abbrev pub atom : List ℕ → Phrase
atom text = record { level = 8; text = text }

-- `f(x)`
abbrev pub call_one : List ℕ → Phrase → Phrase
call_one f x = atom (f ++ codes "(" ++ at_level 1 x ++ codes ")")

-- `f(x, y)`
abbrev pub call_two : List ℕ → Phrase → Phrase → Phrase
call_two f x y = atom (f ++ codes "(" ++ at_level 1 x ++ codes ", " ++ at_level 1 y ++ codes ")")

-- an operator before its operand
abbrev pub prefixed : List ℕ → Phrase → Phrase
prefixed op x = record { level = 7; text = op ++ at_level 7 x }

-- an operator between its operands: its level, and the levels that its operands need
abbrev pub between : ℕ → ℕ → ℕ → List ℕ → Phrase → Phrase → Phrase
between level left right op x y =
    record { level = level; text = at_level left x ++ op ++ at_level right y }

-- an operation with one operand
abbrev pub unary : UnName → Phrase → Phrase
unary un.Neg = prefixed (codes "-")
unary un.Not = prefixed (codes "!")
unary un.Abs = call_one (codes "abs")
unary un.Sqrt = call_one (codes "sqrt")
unary un.ToFixed = call_one (codes "fixed")
unary un.Trunc = call_one (codes "trunc")

-- an operation with two operands
abbrev pub binary : BinName → Phrase → Phrase → Phrase
binary bin.Or = between 2 2 3 (codes " || ")
binary bin.And = between 3 3 4 (codes " && ")
binary bin.Lt = between 4 5 5 (codes " < ")
binary bin.Le = between 4 5 5 (codes " <= ")
binary bin.Gt = between 4 5 5 (codes " > ")
binary bin.Ge = between 4 5 5 (codes " >= ")
binary bin.Eq = between 4 5 5 (codes " == ")
binary bin.Ne = between 4 5 5 (codes " != ")
binary bin.Add = between 5 5 6 (codes " + ")
binary bin.Sub = between 5 5 6 (codes " - ")
binary bin.Mul = between 6 6 7 (codes " * ")
binary bin.Div = between 6 6 7 (codes " / ")
binary bin.Rem = between 6 6 7 (codes " % ")
binary bin.Min = call_two (codes "min")
binary bin.Max = call_two (codes "max")

-- `c ? x : y`
abbrev pub choice : Phrase → Phrase → Phrase → Phrase
choice c x y =
    record {
      level = 1;
      text = at_level 2 c ++ codes " ? " ++ at_level 1 x ++ codes " : " ++ at_level 1 y;
    }

-- an expression of each kind, whose operands are phrases
abbrev pub phrase_step : ExprTree-F Phrase → Phrase
phrase_step (Lit number) = atom (literal number.digits)
phrase_step (True at) = atom (codes "true")
phrase_step (False at) = atom (codes "false")
phrase_step (Name name) = atom name.text
phrase_step (OfThis name at) = atom (codes "this." ++ name.text)
phrase_step (OfLoop loop name) = atom (loop.text ++ codes "." ++ name.text)
phrase_step (Unary op x at) = unary op x
phrase_step (Binary op x y at) = binary op x y
phrase_step (Choice c x y at) = choice c x y
phrase_step (Rand at) = atom (codes "rand()")

-- the text of an expression with its level
abbrev pub phrase_of : ExprTree → Phrase
phrase_of = fold-ExprTree Phrase phrase_step

-- the text of an expression where a level is needed
abbrev pub operand : ℕ → ExprTree → List ℕ
operand needed x = at_level needed (phrase_of x)

-- the text of an expression that stands alone, as a condition or a value
abbrev pub expression : ExprTree → List ℕ
expression x = operand 1 x
