-- The grammar: how a list of tokens is cut into the parts of a tree, with a case for each row.
use Rattle.std.specs.Prelude.{◌≡◌, ℕ, List, [], ◌∷◌, ◌++◌, Option, Some, None, Bool, true, false}
use Rattle.brace_tok.specs.declared.kinds.Token.{Token}
use Rattle.brace_tok.specs.declared.kinds.TokKind.{TokKind}
use Rattle.brace_tok.specs.declared.kinds.TokKind.TheVariants as k
use Rattle.brace_syntax.specs.Tables.{Is, ident, either, both, compares, adds, multiplies, prefixes, calls_one, calls_two, combines, number, type_name}
use Rattle.brace_syntax.specs.declared.tree.Number.{Number}
use Rattle.brace_syntax.specs.declared.tree.TyName.{TyName}
use Rattle.brace_syntax.specs.declared.tree.CombName.{CombName}
use Rattle.brace_syntax.specs.declared.tree.UnName.{UnName}
use Rattle.brace_syntax.specs.declared.tree.BinName.{BinName}
use Rattle.brace_syntax.specs.declared.tree.ExprTree.{ExprTree}
use Rattle.brace_syntax.specs.declared.tree.ExprTree.TheVariants as e
use Rattle.brace_syntax.specs.declared.tree.StmtTree.{StmtTree}
use Rattle.brace_syntax.specs.declared.tree.StmtTree.TheVariants as s
use Rattle.brace_syntax.specs.declared.tree.GiftTree.{GiftTree}
use Rattle.brace_syntax.specs.declared.tree.MemberTree.{MemberTree}
use Rattle.brace_syntax.specs.declared.tree.MemberTree.TheVariants as m
use Rattle.brace_syntax.specs.declared.tree.ClassTree.{ClassTree}
use Rattle.brace_syntax.specs.declared.tree.Tree.{Tree}

-- the rows of expressions, from the loosest binding to the tightest
pub data Row : Type 0 where
  choices ors ands comparisons sums products prefixed primaries : Row

-- the row that the operands of a row belong to
abbrev pub operands : Row → Option Row
operands choices = Some ors
operands ors = Some ands
operands ands = Some comparisons
operands comparisons = Some sums
operands sums = Some products
operands products = Some prefixed
operands prefixed = Some primaries
operands primaries = None

-- the operations of the rows that repeat
abbrev pub repeats : Row → TokKind → Option BinName
repeats ors kind = either kind
repeats ands kind = both kind
repeats sums kind = adds kind
repeats products kind = multiplies kind
repeats _ kind = None

-- these tokens are an expression of this row
pub data ReadsExpr (src : List ℕ) : Row → List Token → ExprTree → Type 0 where
  -- an operand of the row, alone
  alone : (row inner : Row) (a : List Token) (x : ExprTree)
      → operands row ≡ Some inner
      → ReadsExpr src inner a x
      → ReadsExpr src row a x
  -- one operation more; what stands before it is grouped first
  joined : (row inner : Row) (a b : List Token) (op : Token) (name : BinName) (x y : ExprTree)
      → operands row ≡ Some inner → repeats row op.kind ≡ Some name
      → ReadsExpr src row a x → ReadsExpr src inner b y
      → ReadsExpr src row (a ++ op ∷ b) (e.Binary name x y op.from)
  -- a comparison of two sums
  compared : (a b : List Token) (op : Token) (name : BinName) (x y : ExprTree)
      → compares op.kind ≡ Some name
      → ReadsExpr src sums a x → ReadsExpr src sums b y
      → ReadsExpr src comparisons (a ++ op ∷ b) (e.Binary name x y op.from)
  -- `c ? x : y`
  chosen : (a b c : List Token) (question colon : Token) (w x y : ExprTree)
      → Is k.Question question → Is k.Colon colon
      → ReadsExpr src ors a w → ReadsExpr src choices b x → ReadsExpr src choices c y
      → ReadsExpr src choices (a ++ question ∷ b ++ colon ∷ c) (e.Choice w x y question.from)
  -- `-x`, `!x`
  prefix : (a : List Token) (op : Token) (name : UnName) (x : ExprTree)
      → prefixes op.kind ≡ Some name
      → ReadsExpr src prefixed a x
      → ReadsExpr src prefixed (op ∷ a) (e.Unary name x op.from)
  literal : (tok : Token) (n : Number)
      → number tok ≡ Some n
      → ReadsExpr src primaries (tok ∷ []) (e.Lit n)
  truth : (tok : Token) → Is k.KwTrue tok → ReadsExpr src primaries (tok ∷ []) (e.True tok.from)
  falsity : (tok : Token) → Is k.KwFalse tok → ReadsExpr src primaries (tok ∷ []) (e.False tok.from)
  -- parentheses, which the tree does not keep
  enclosed : (a : List Token) (opening closing : Token) (x : ExprTree)
      → Is k.OpenParen opening → Is k.CloseParen closing
      → ReadsExpr src choices a x
      → ReadsExpr src primaries (opening ∷ a ++ closing ∷ []) x
  -- `this.n`
  of_this : (this dot name : Token)
      → Is k.KwThis this → Is k.Dot dot → Is k.Word name
      → ReadsExpr src primaries (this ∷ dot ∷ name ∷ []) (e.OfThis (ident src name) this.from)
  named : (name : Token)
      → Is k.Word name
      → ReadsExpr src primaries (name ∷ []) (e.Name (ident src name))
  -- `q.n`
  of_loop : (loop dot name : Token)
      → Is k.Word loop → Is k.Dot dot → Is k.Word name
      → ReadsExpr src primaries (loop ∷ dot ∷ name ∷ [])
      (e.OfLoop (ident src loop) (ident src name))
  called_one : (a : List Token) (word opening closing : Token) (name : UnName) (x : ExprTree)
      → calls_one word.kind ≡ Some name → Is k.OpenParen opening → Is k.CloseParen closing
      → ReadsExpr src choices a x
      → ReadsExpr src primaries (word ∷ opening ∷ a ++ closing ∷ []) (e.Unary name x word.from)
  called_two : (a b : List Token) (word opening comma closing : Token) (name : BinName)
      (x y : ExprTree)
      → calls_two word.kind ≡ Some name → Is k.OpenParen opening → Is k.Comma comma
      → Is k.CloseParen closing
      → ReadsExpr src choices a x → ReadsExpr src choices b y
      → ReadsExpr src primaries (word ∷ opening ∷ a ++ comma ∷ b ++ closing ∷ [])
      (e.Binary name x y word.from)
  random : (word opening closing : Token)
      → Is k.KwRand word → Is k.OpenParen opening → Is k.CloseParen closing
      → ReadsExpr src primaries (word ∷ opening ∷ closing ∷ []) (e.Rand word.from)

mutual
  -- these tokens are a statement
  pub data ReadsStmt (src : List ℕ) : List Token → StmtTree → Type 0 where
    -- `const T n = x;`
    const : (a : List Token) (word type name equals semicolon : Token) (t : TyName) (x : ExprTree)
        → Is k.KwConst word → type_name src type ≡ Some t → Is k.Word name → Is k.Assign equals
        → Is k.Semicolon semicolon
        → ReadsExpr src choices a x
        → ReadsStmt src (word ∷ type ∷ name ∷ equals ∷ a ++ semicolon ∷ [])
        (s.Const t (ident src name) x word.from)
    -- `if (c) { .. }`
    when : (a b : List Token) (word opening closing : Token) (x : ExprTree) (block : List StmtTree)
        → Is k.KwIf word → Is k.OpenParen opening → Is k.CloseParen closing
        → ReadsExpr src choices a x → ReadsBlock src b block
        → ReadsStmt src (word ∷ opening ∷ a ++ closing ∷ b) (s.If x block None word.from)
    -- `if (c) { .. } else { .. }`
    either_way : (a b c : List Token) (word opening closing otherwise : Token) (x : ExprTree)
        (block other : List StmtTree)
        → Is k.KwIf word → Is k.OpenParen opening → Is k.CloseParen closing → Is k.KwElse otherwise
        → ReadsExpr src choices a x → ReadsBlock src b block → ReadsBlock src c other
        → ReadsStmt src (word ∷ opening ∷ a ++ closing ∷ b ++ otherwise ∷ c)
        (s.If x block (Some other) word.from)
    -- `foreach (C q : Extent<D>) { .. }`
    foreach : (a : List Token)
        (word opening class variable colon extent less other greater closing : Token)
        (block : List StmtTree)
        → Is k.KwForeach word → Is k.OpenParen opening → Is k.Word class → Is k.Word variable
        → Is k.Colon colon → Is k.KwExtent extent → Is k.Less less → Is k.Word other
        → Is k.Greater greater → Is k.CloseParen closing
        → ReadsBlock src a block
        → ReadsStmt src (word ∷ opening ∷ class ∷ variable ∷ colon ∷ extent ∷ less ∷ other
        ∷ greater ∷ closing ∷ a)
        (s.Foreach (ident src class) (ident src variable) (ident src other) block word.from)
    -- `this.n <- x;`
    assign_this : (a : List Token) (this dot name arrow semicolon : Token) (x : ExprTree)
        → Is k.KwThis this → Is k.Dot dot → Is k.Word name → Is k.Arrow arrow
        → Is k.Semicolon semicolon
        → ReadsExpr src choices a x
        → ReadsStmt src (this ∷ dot ∷ name ∷ arrow ∷ a ++ semicolon ∷ [])
        (s.AssignThis (ident src name) x this.from)
    -- `n <- x;`
    assign : (a : List Token) (name arrow semicolon : Token) (x : ExprTree)
        → Is k.Word name → Is k.Arrow arrow → Is k.Semicolon semicolon
        → ReadsExpr src choices a x
        → ReadsStmt src (name ∷ arrow ∷ a ++ semicolon ∷ []) (s.Assign (ident src name) x)
    -- `q.n <- x;`
    assign_loop : (a : List Token) (loop dot name arrow semicolon : Token) (x : ExprTree)
        → Is k.Word loop → Is k.Dot dot → Is k.Word name → Is k.Arrow arrow
        → Is k.Semicolon semicolon
        → ReadsExpr src choices a x
        → ReadsStmt src (loop ∷ dot ∷ name ∷ arrow ∷ a ++ semicolon ∷ [])
        (s.AssignLoop (ident src loop) (ident src name) x)

  -- these tokens are statements, one after another
  pub data ReadsStmts (src : List ℕ) : List Token → List StmtTree → Type 0 where
    none : ReadsStmts src [] []
    more : (a b : List Token) (x : StmtTree) (xs : List StmtTree)
        → ReadsStmt src a x → ReadsStmts src b xs → ReadsStmts src (a ++ b) (x ∷ xs)

  -- these tokens are statements in braces
  pub data ReadsBlock (src : List ℕ) : List Token → List StmtTree → Type 0 where
    braced : (a : List Token) (opening closing : Token) (xs : List StmtTree)
        → Is k.OpenBrace opening → Is k.CloseBrace closing
        → ReadsStmts src a xs
        → ReadsBlock src (opening ∷ a ++ closing ∷ []) xs

-- these tokens are a field of a member that begins at a place and is public or not
pub data ReadsField (src : List ℕ) (is_public : Bool) (at : ℕ) : List Token → MemberTree
    → Type 0 where
  -- `state T n;`
  state : (word type name semicolon : Token) (t : TyName)
      → Is k.KwState word → type_name src type ≡ Some t → Is k.Word name → Is k.Semicolon semicolon
      → ReadsField src is_public at (word ∷ type ∷ name ∷ semicolon ∷ [])
      (m.State is_public t (ident src name) None at)
  -- `state T n : x;`
  ruled : (a : List Token) (word type name colon semicolon : Token) (t : TyName) (x : ExprTree)
      → Is k.KwState word → type_name src type ≡ Some t → Is k.Word name → Is k.Colon colon
      → Is k.Semicolon semicolon
      → ReadsExpr src choices a x
      → ReadsField src is_public at (word ∷ type ∷ name ∷ colon ∷ a ++ semicolon ∷ [])
      (m.State is_public t (ident src name) (Some x) at)
  -- `effect T n : c;`
  effect : (word type name colon combinator semicolon : Token) (t : TyName) (c : CombName)
      → Is k.KwEffect word → type_name src type ≡ Some t → Is k.Word name → Is k.Colon colon
      → combines combinator.kind ≡ Some c → Is k.Semicolon semicolon
      → ReadsField src is_public at (word ∷ type ∷ name ∷ colon ∷ combinator ∷ semicolon ∷ [])
      (m.Effect is_public t (ident src name) c at)

-- these tokens are a gift, of which a child's state has its value
pub data ReadsGift (src : List ℕ) : List Token → GiftTree → Type 0 where
  -- `n <- x;`
  gift : (a : List Token) (name arrow semicolon : Token) (x : ExprTree)
      → Is k.Word name → Is k.Arrow arrow → Is k.Semicolon semicolon
      → ReadsExpr src choices a x
      → ReadsGift src (name ∷ arrow ∷ a ++ semicolon ∷ [])
      (record { state = ident src name; value = x })

-- these tokens are gifts, one after another
pub data ReadsGifts (src : List ℕ) : List Token → List GiftTree → Type 0 where
  none : ReadsGifts src [] []
  more : (a b : List Token) (x : GiftTree) (xs : List GiftTree)
      → ReadsGift src a x → ReadsGifts src b xs → ReadsGifts src (a ++ b) (x ∷ xs)

-- these tokens are a member of a class
pub data ReadsMember (src : List ℕ) : List Token → MemberTree → Type 0 where
  -- `#visible[r];`
  visible : (word opening range closing semicolon : Token) (n : Number)
      → Is k.Visible word → Is k.OpenBracket opening → number range ≡ Some n
      → Is k.CloseBracket closing → Is k.Semicolon semicolon
      → ReadsMember src (word ∷ opening ∷ range ∷ closing ∷ semicolon ∷ []) (m.Visible n word.from)
  -- `#reach[r];`
  reach : (word opening range closing semicolon : Token) (n : Number)
      → Is k.Reach word → Is k.OpenBracket opening → number range ≡ Some n
      → Is k.CloseBracket closing → Is k.Semicolon semicolon
      → ReadsMember src (word ∷ opening ∷ range ∷ closing ∷ semicolon ∷ []) (m.Reach n word.from)
  public : (a : List Token) (word : Token) (x : MemberTree)
      → Is k.KwPublic word
      → ReadsField src true word.from a x
      → ReadsMember src (word ∷ a) x
  private : (a : List Token) (word : Token) (x : MemberTree)
      → Is k.KwPrivate word
      → ReadsField src false word.from a x
      → ReadsMember src (word ∷ a) x
  -- `public void run() { .. }`
  run : (a : List Token) (word void run opening closing : Token) (block : List StmtTree)
      → Is k.KwPublic word → Is k.KwVoid void → Is k.KwRun run → Is k.OpenParen opening
      → Is k.CloseParen closing
      → ReadsBlock src a block
      → ReadsMember src (word ∷ void ∷ run ∷ opening ∷ closing ∷ a) (m.Run block word.from)
  -- `die when c;`
  die : (a : List Token) (word when semicolon : Token) (x : ExprTree)
      → Is k.KwDie word → Is k.KwWhen when → Is k.Semicolon semicolon
      → ReadsExpr src choices a x
      → ReadsMember src (word ∷ when ∷ a ++ semicolon ∷ []) (m.Die x word.from)
  -- `spawn when c { .. }`
  spawn : (a b : List Token) (word when opening closing : Token) (x : ExprTree) (gs : List GiftTree)
      → Is k.KwSpawn word → Is k.KwWhen when → Is k.OpenBrace opening → Is k.CloseBrace closing
      → ReadsExpr src choices a x → ReadsGifts src b gs
      → ReadsMember src (word ∷ when ∷ a ++ opening ∷ b ++ closing ∷ []) (m.Spawn x gs word.from)

-- these tokens are members, one after another
pub data ReadsMembers (src : List ℕ) : List Token → List MemberTree → Type 0 where
  none : ReadsMembers src [] []
  more : (a b : List Token) (x : MemberTree) (xs : List MemberTree)
      → ReadsMember src a x → ReadsMembers src b xs → ReadsMembers src (a ++ b) (x ∷ xs)

-- these tokens are a class
pub data ReadsClass (src : List ℕ) : List Token → ClassTree → Type 0 where
  -- `class C { .. }`
  class : (a : List Token) (word name opening closing : Token) (members : List MemberTree)
      → Is k.KwClass word → Is k.Word name → Is k.OpenBrace opening → Is k.CloseBrace closing
      → ReadsMembers src a members
      → ReadsClass src (word ∷ name ∷ opening ∷ a ++ closing ∷ [])
      (record { name = ident src name; members = members; at = word.from })

-- these tokens are one class or more, one after another
pub data ReadsClasses (src : List ℕ) : List Token → List ClassTree → Type 0 where
  last : (a : List Token) (x : ClassTree) → ReadsClass src a x → ReadsClasses src a (x ∷ [])
  more : (a b : List Token) (x : ClassTree) (xs : List ClassTree)
      → ReadsClass src a x → ReadsClasses src b xs → ReadsClasses src (a ++ b) (x ∷ xs)

-- the tokens of a source are this script
abbrev pub Reads : List ℕ → List Token → Tree → Type 0
Reads src toks tree = ReadsClasses src toks tree.classes
