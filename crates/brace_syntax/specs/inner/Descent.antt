-- What each function of the parser computes. Only the crate's own functions cite this.
use Rattle.std.specs.Prelude.{ℕ, zero, suc, List, [], ◌∷◌, ◌++◌, length, Bool, true, false, if◌then◌else◌, Option, Some, None, Ok, nat_eq, option_and_then}
use Rattle.brace_tok.specs.declared.kinds.TokKind.{TokKind}
use Rattle.brace_tok.specs.declared.kinds.TokKind.TheVariants as k
use Rattle.brace_syntax.specs.Tables.{either, both, compares, adds, multiplies, prefixes}
use Rattle.brace_syntax.specs.inner.Cursor.{Input, kind, Parser, ◌>>=◌, ◌>>◌, pure, refuse, peek, pass, eat, sees, expect, name, number, type_name, combinator}
use Rattle.brace_syntax.specs.declared.tree.Number.{Number}
use Rattle.brace_syntax.specs.declared.tree.UnName.{UnName}
use Rattle.brace_syntax.specs.declared.tree.BinName.{BinName}
use Rattle.brace_syntax.specs.declared.tree.ExprTree.{ExprTree}
use Rattle.brace_syntax.specs.declared.tree.ExprTree.TheVariants as e
use Rattle.brace_syntax.specs.declared.tree.UnName.TheVariants as un
use Rattle.brace_syntax.specs.declared.tree.BinName.TheVariants as bin
use Rattle.brace_syntax.specs.declared.tree.StmtTree.{StmtTree}
use Rattle.brace_syntax.specs.declared.tree.StmtTree.TheVariants as s
use Rattle.brace_syntax.specs.declared.tree.GiftTree.{GiftTree}
use Rattle.brace_syntax.specs.declared.tree.MemberTree.{MemberTree}
use Rattle.brace_syntax.specs.declared.tree.MemberTree.TheVariants as m
use Rattle.brace_syntax.specs.declared.tree.ClassTree.{ClassTree}
use Rattle.brace_syntax.specs.declared.tree.Tree.{Tree}
use Rattle.brace_syntax.specs.declared.stmt.Heading.{Heading}
use Rattle.brace_syntax.specs.declared.mark.Mark.TheVariants as mark
use Rattle.brace_syntax.specs.declared.operators.Level.{Level}
use Rattle.brace_syntax.specs.declared.operators.Level.TheVariants as level
use Rattle.brace_syntax.specs.declared.expr.Start.{Start}
use Rattle.brace_syntax.specs.declared.expr.Start.TheVariants.{Whole, Operand}

-- as many turns as there are tokens
abbrev pub turns : Input → ℕ
turns i = length i.rest

-- the operations of a level
abbrev pub joins : Level → TokKind → Option BinName
joins level.Product = multiplies
joins level.Total = adds
joins level.Comparison = compares
joins level.Conjunction = both
joins level.Disjunction = either

-- how often a level joins at most, where so many tokens are left: a comparison stands alone
abbrev pub most : Level → ℕ → ℕ
most level.Comparison left = 1
most _ left = left

-- what the table says of the next token
abbrev pub next_by : {A : Type 0} → (TokKind → Option A) → Parser (Option A)
next_by table = λ i. Ok (option_and_then table (kind i), i)

-- goes on by what was found, or else in the other way
abbrev pub where_some : {A B : Type 0} → Option A → (A → Parser B) → Parser B → Parser B
where_some None found missing = missing
where_some (Some x) found missing = found x

-- after `this`
unfoldable pub of_this : Parser ExprTree
of_this = do
  at ← pass
  expect mark.Dot
  found ← name
  pure (e.OfThis found at)

-- a name, or two with a point between them
unfoldable pub named : Parser ExprTree
named = do
  first ← name
  is_loop ← eat mark.Dot
  if is_loop then (do second ← name; pure (e.OfLoop first second)) else pure (e.Name first)

-- a number
unfoldable pub literal : Parser ExprTree
literal = number >>= (λ n. pure (e.Lit n))

-- `rand()`
unfoldable pub random : Parser ExprTree
random = do
  at ← pass
  expect mark.OpenParen
  expect mark.CloseParen
  pure (e.Rand at)

-- The parameter reads an expression from either start.
module _ (expr : Start → Parser ExprTree) where
  -- `f(x)`
  unfoldable pub one_argument : UnName → Parser ExprTree
  one_argument called = do
    at ← pass
    expect mark.OpenParen
    x ← expr Whole
    expect mark.CloseParen
    pure (e.Unary called x at)

  -- `f(x, y)`
  unfoldable pub two_arguments : BinName → Parser ExprTree
  two_arguments called = do
    at ← pass
    expect mark.OpenParen
    x ← expr Whole
    expect mark.Comma
    y ← expr Whole
    expect mark.CloseParen
    pure (e.Binary called x y at)

  -- `(x)`
  unfoldable pub enclosed : Parser ExprTree
  enclosed = do
    pass
    x ← expr Whole
    expect mark.CloseParen
    pure x

  -- what binds tightest, by the kind of its first token
  abbrev pub primary_by : Option TokKind → Parser ExprTree
  primary_by (Some k.KwTrue) = pass >>= (λ at. pure (e.True at))
  primary_by (Some k.KwFalse) = pass >>= (λ at. pure (e.False at))
  primary_by (Some k.OpenParen) = enclosed
  primary_by (Some k.KwThis) = of_this
  primary_by (Some k.Word) = named
  primary_by (Some k.KwAbs) = one_argument un.Abs
  primary_by (Some k.KwSqrt) = one_argument un.Sqrt
  primary_by (Some k.KwFixed) = one_argument un.ToFixed
  primary_by (Some k.KwTrunc) = one_argument un.Trunc
  primary_by (Some k.KwMin) = two_arguments bin.Min
  primary_by (Some k.KwMax) = two_arguments bin.Max
  primary_by (Some k.KwRand) = random
  primary_by _ = literal

  -- what binds tightest
  unfoldable pub primary : Parser ExprTree
  primary = peek >>= primary_by

  -- `-x`, `!x`, or what binds tightest
  unfoldable pub prefixed : Parser ExprTree
  prefixed = do
    found ← next_by prefixes
    where_some found (λ op. do at ← pass; x ← expr Operand; pure (e.Unary op x at)) primary

  -- The number bounds the turns.
  unfoldable pub climb : (TokKind → Option BinName) → Parser ExprTree → ℕ → ExprTree
      → Parser ExprTree
  climb table operand zero left = pure left
  climb table operand (suc n) left = do
    found ← next_by table
    where_some found
        (λ op. do at ← pass; right ← operand; climb table operand n (e.Binary op left right at))
        (pure left)

  -- an operand of a level, and what is joined to it
  abbrev of_level : Level → Parser ExprTree → Parser ExprTree
  of_level at operand = do
    left ← operand
    (λ i. climb (joins at) operand (most at (turns i)) left i)

  -- factors
  unfoldable pub product : Parser ExprTree
  product = of_level level.Product prefixed

  -- summands
  unfoldable pub total : Parser ExprTree
  total = of_level level.Total product

  -- one sum, or two that are compared
  unfoldable pub comparison : Parser ExprTree
  comparison = of_level level.Comparison total

  -- what `&&` joins
  unfoldable pub conjunction : Parser ExprTree
  conjunction = of_level level.Conjunction comparison

  -- what `||` joins
  unfoldable pub disjunction : Parser ExprTree
  disjunction = of_level level.Disjunction conjunction

  -- the expressions of a level
  abbrev pub joined : Level → Parser ExprTree
  joined level.Product = product
  joined level.Total = total
  joined level.Comparison = comparison
  joined level.Conjunction = conjunction
  joined level.Disjunction = disjunction

  -- the operands of a level
  abbrev pub operand : Level → Parser ExprTree
  operand level.Product = prefixed
  operand level.Total = product
  operand level.Comparison = total
  operand level.Conjunction = comparison
  operand level.Disjunction = conjunction

  -- `c ? x : y`, or what `||` joins
  unfoldable pub choice : Parser ExprTree
  choice = do
    w ← disjunction
    is_asked ← (λ i. Ok (sees mark.Question i, i))
    if is_asked then (do
      at ← pass
      x ← expr Whole
      expect mark.Colon
      y ← expr Whole
      pure (e.Choice w x y at)) else pure w

  -- an expression from either start
  abbrev pub begun : Start → Parser ExprTree
  begun Whole = choice
  begun Operand = prefixed

-- with expressions nested no deeper than the number
unfoldable pub expr : ℕ → Start → Parser ExprTree
expr zero start = refuse
expr (suc depth) start = begun (expr depth) start

-- Each nested expression has fewer tokens, so their count is deep enough.
unfoldable pub expression : Parser ExprTree
expression = λ i. expr (turns i) Whole i

-- ---- statements

-- `n <- x;` from the arrow on
unfoldable pub assigned : Parser ExprTree
assigned = do
  expect mark.Arrow
  x ← expression
  expect mark.Semicolon
  pure x

-- after `const`
unfoldable pub constant : Parser StmtTree
constant = do
  at ← pass
  t ← type_name
  found ← name
  expect mark.Assign
  x ← expression
  expect mark.Semicolon
  pure (s.Const t found x at)

-- `this.n <- x;`
unfoldable pub assign_this : Parser StmtTree
assign_this = do
  at ← pass
  expect mark.Dot
  found ← name
  x ← assigned
  pure (s.AssignThis found x at)

-- `n <- x;` or `q.n <- x;`
unfoldable pub assign : Parser StmtTree
assign = do
  first ← name
  is_loop ← eat mark.Dot
  if is_loop then (do second ← name; x ← assigned; pure (s.AssignLoop first second x))
      else (do x ← assigned; pure (s.Assign first x))

-- in parentheses
unfoldable pub condition : Parser ExprTree
condition = do
  expect mark.OpenParen
  x ← expression
  expect mark.CloseParen
  pure x

-- what stands before the block of `foreach`: its place, and the three names
unfoldable pub ranging : Parser Heading
ranging = do
  at ← pass
  expect mark.OpenParen
  class ← name
  variable ← name
  expect mark.Colon
  expect mark.Extent
  expect mark.Less
  other ← name
  expect mark.Greater
  expect mark.CloseParen
  pure (record { class = class; variable = variable; other = other; at = at })

-- The parameter reads a block.
module _ (block : Parser (List StmtTree)) where
  -- `if (c) { .. }`, with an `else` or without
  unfoldable pub when : Parser StmtTree
  when = do
    at ← pass
    x ← condition
    first ← block
    is_either ← eat mark.Else
    if is_either then (do other ← block; pure (s.If x first (Some other) at))
        else pure (s.If x first None at)

  -- `foreach (C q : Extent<D>) { .. }`
  unfoldable pub foreach : Parser StmtTree
  foreach = do
    h ← ranging
    each ← block
    pure (s.Foreach h.class h.variable h.other each h.at)

  -- a statement, by the kind of its first token
  abbrev pub statement_by : Option TokKind → Parser StmtTree
  statement_by (Some k.KwConst) = constant
  statement_by (Some k.KwIf) = when
  statement_by (Some k.KwForeach) = foreach
  statement_by (Some k.KwThis) = assign_this
  statement_by _ = assign

  -- a statement
  unfoldable pub statement : Parser StmtTree
  statement = peek >>= statement_by

  -- up to the closing brace. The number bounds the turns.
  unfoldable pub statements : ℕ → List StmtTree → Parser (List StmtTree)
  statements zero found = refuse
  statements (suc n) found = do
    is_end ← eat mark.CloseBrace
    if is_end then pure found else (do x ← statement; statements n (found ++ x ∷ []))

  -- statements in braces
  unfoldable pub braced : Parser (List StmtTree)
  braced = do
    expect mark.OpenBrace
    (λ i. statements (turns i) [] i)

-- with blocks nested no deeper than the number
unfoldable pub block_to : ℕ → Parser (List StmtTree)
block_to zero = refuse
block_to (suc depth) = braced (block_to depth)

-- Each nested block has fewer tokens, so their count is deep enough.
unfoldable pub block : Parser (List StmtTree)
block = λ i. block_to (turns i) i

-- ---- members and classes

-- `[r];`
unfoldable pub range : Parser Number
range = do
  expect mark.OpenBracket
  n ← number
  expect mark.CloseBracket
  expect mark.Semicolon
  pure n

-- `#visible[r];`
unfoldable pub visible : Parser MemberTree
visible = do
  at ← pass
  n ← range
  pure (m.Visible n at)

-- `#reach[r];`
unfoldable pub reach : Parser MemberTree
reach = do
  at ← pass
  n ← range
  pure (m.Reach n at)

-- the rule of a state, if it has one, and the semicolon
unfoldable pub ruled : Parser (Option ExprTree)
ruled = do
  is_ruled ← eat mark.Colon
  if is_ruled then (do x ← expression; expect mark.Semicolon; pure (Some x))
      else (do expect mark.Semicolon; pure None)

-- a state, from its word on
unfoldable pub state : Bool → ℕ → Parser MemberTree
state is_public at = do
  pass
  t ← type_name
  found ← name
  x ← ruled
  pure (m.State is_public t found x at)

-- an effect, from its word on
unfoldable pub effect : Bool → ℕ → Parser MemberTree
effect is_public at = do
  pass
  t ← type_name
  found ← name
  expect mark.Colon
  c ← combinator
  expect mark.Semicolon
  pure (m.Effect is_public t found c at)

-- a state or an effect, by the kind of its first token
abbrev pub field_by : Bool → ℕ → Option TokKind → Parser MemberTree
field_by is_public at (Some k.KwState) = state is_public at
field_by is_public at (Some k.KwEffect) = effect is_public at
field_by is_public at _ = refuse

-- a state or an effect
unfoldable pub field : Bool → ℕ → Parser MemberTree
field is_public at = peek >>= field_by is_public at

-- after `public`
unfoldable pub run : ℕ → Parser MemberTree
run at = do
  pass
  expect mark.Run
  expect mark.OpenParen
  expect mark.CloseParen
  body ← block
  pure (m.Run body at)

-- what follows `public`, by the kind of its first token
abbrev pub public_by : ℕ → Option TokKind → Parser MemberTree
public_by at (Some k.KwVoid) = run at
public_by at _ = field true at

-- a public field, or `run`
unfoldable pub public : Parser MemberTree
public = do
  at ← pass
  found ← peek
  public_by at found

-- a private field
unfoldable pub private : Parser MemberTree
private = do
  at ← pass
  field false at

-- `die when c;`
unfoldable pub die : Parser MemberTree
die = do
  at ← pass
  expect mark.When
  x ← expression
  expect mark.Semicolon
  pure (m.Die x at)

-- `n <- x;`
unfoldable pub gift : Parser GiftTree
gift = do
  state ← name
  value ← assigned
  pure (record { state = state; value = value })

-- up to the closing brace. The number bounds the turns.
unfoldable pub gifts_from : ℕ → List GiftTree → Parser (List GiftTree)
gifts_from zero found = refuse
gifts_from (suc n) found = do
  is_end ← eat mark.CloseBrace
  if is_end then pure found else (do x ← gift; gifts_from n (found ++ x ∷ []))

-- the gifts up to the closing brace
unfoldable pub gifts : Parser (List GiftTree)
gifts = λ i. gifts_from (turns i) [] i

-- `spawn when c { .. }`
unfoldable pub spawn : Parser MemberTree
spawn = do
  at ← pass
  expect mark.When
  x ← expression
  expect mark.OpenBrace
  given ← gifts
  pure (m.Spawn x given at)

-- a member, by the kind of its first token
abbrev pub member_by : Option TokKind → Parser MemberTree
member_by (Some k.Visible) = visible
member_by (Some k.Reach) = reach
member_by (Some k.KwPublic) = public
member_by (Some k.KwPrivate) = private
member_by (Some k.KwDie) = die
member_by (Some k.KwSpawn) = spawn
member_by _ = refuse

-- a member of a class
unfoldable pub member : Parser MemberTree
member = peek >>= member_by

-- up to the closing brace. The number bounds the turns.
unfoldable pub members_from : ℕ → List MemberTree → Parser (List MemberTree)
members_from zero found = refuse
members_from (suc n) found = do
  is_end ← eat mark.CloseBrace
  if is_end then pure found else (do x ← member; members_from n (found ++ x ∷ []))

-- the members up to the closing brace
unfoldable pub members : Parser (List MemberTree)
members = λ i. members_from (turns i) [] i

-- a class
unfoldable pub class : Parser ClassTree
class = do
  at ← expect mark.Class
  found ← name
  expect mark.OpenBrace
  all ← members
  pure (record { name = found; members = all; at = at })

-- no token is left
abbrev pub is_end : Parser Bool
is_end = λ i. Ok (nat_eq (length i.rest) 0, i)

-- up to the end of the tokens. The number bounds the turns.
unfoldable pub classes_from : ℕ → List ClassTree → Parser (List ClassTree)
classes_from zero found = refuse
classes_from (suc n) found = do
  x ← class
  ends ← is_end
  if ends then pure (found ++ x ∷ []) else classes_from n (found ++ x ∷ [])

-- a script
unfoldable pub script : Parser Tree
script = do
  all ← (λ i. classes_from (turns i) [] i)
  pure (record { classes = all })
