-- The canonical text of a script as a row of pieces: what is a token stands for itself, and what parts tokens is blanks.
use Rattle.std.proofs.Common.{ℕ, zero, suc, nat_lt, ◌+◌, ◌/◌, ◌%◌, Bool, true, false, if◌then◌else◌, List, [], ◌∷◌, ◌++◌, map, flat_map, Option, Some, None, codes, ℤ, pos, negsuc, unsigned_abs}
use Rattle.std.specs.Fmt.{decimal}
use Rattle.brace_num.specs.Spelling.{six_digits}
use Rattle.brace_tok.specs.Pieces.{Piece, blank, word, whole, fraction, hash, sign}
use Rattle.brace_syntax.specs.declared.tree.Digits.{Digits}
use Rattle.brace_syntax.specs.declared.tree.Digits.TheVariants.{Int, Fixed}
use Rattle.brace_syntax.specs.declared.tree.UnName.{UnName}
use Rattle.brace_syntax.specs.declared.tree.UnName.TheVariants as un
use Rattle.brace_syntax.specs.declared.tree.BinName.{BinName}
use Rattle.brace_syntax.specs.declared.tree.BinName.TheVariants as bin
use Rattle.brace_syntax.specs.declared.tree.TyName.{TyName}
use Rattle.brace_syntax.specs.declared.tree.TyName.TheVariants as ty
use Rattle.brace_syntax.specs.declared.tree.CombName.{CombName}
use Rattle.brace_syntax.specs.declared.tree.CombName.TheVariants as comb
use Rattle.brace_syntax.specs.declared.tree.ExprTree.{ExprTree}
use Rattle.brace_syntax.specs.declared.tree.ExprTree.TheOpen.{ExprTree-F, Lit, True, False, Name, OfThis, OfLoop, Unary, Binary, Choice, Rand}
use Rattle.brace_syntax.specs.declared.tree.ExprTree.TheFolds.{fold-ExprTree}
use Rattle.brace_syntax.specs.declared.tree.StmtTree.{StmtTree}
use Rattle.brace_syntax.specs.declared.tree.StmtTree.TheOpen.{StmtTree-F, Const, If, Foreach, Assign, AssignThis, AssignLoop}
use Rattle.brace_syntax.specs.declared.tree.StmtTree.TheFolds.{fold-StmtTree}
use Rattle.brace_syntax.specs.declared.tree.GiftTree.{GiftTree}
use Rattle.brace_syntax.specs.declared.tree.MemberTree.{MemberTree}
use Rattle.brace_syntax.specs.declared.tree.MemberTree.TheVariants as member
use Rattle.brace_syntax.specs.declared.tree.ClassTree.{ClassTree}
use Rattle.brace_syntax.specs.declared.tree.Tree.{Tree}
use Rattle.brace_show.specs.Literals.{shortened}

abbrev pub Row : Type 0
Row = List Piece

abbrev pub space : Row
space = blank 32 ∷ []

abbrev pub mark : List ℕ → Row
mark marks = sign marks ∷ []

abbrev pub letters : List ℕ → Row
letters text = word text ∷ []

abbrev pub sign_row : ℤ → Row
sign_row (pos n) = []
sign_row (negsuc n) = mark (codes "-")

abbrev pub literal_row : Digits → Row
literal_row (Int z) = sign_row z ++ whole (decimal (unsigned_abs z)) ∷ []
literal_row (Fixed z) = sign_row z ++ fraction (decimal (unsigned_abs z / 1000000)) (shortened (six_digits (unsigned_abs z % 1000000))) ∷ []

-- the pieces of an expression, and its level
pub record Phrased : Type 0 where
  pub level : ℕ
  pub row : Row

abbrev pub row_at : ℕ → Phrased → Row
row_at needed x = if nat_lt x.level needed then mark (codes "(") ++ x.row ++ mark (codes ")") else x.row

abbrev pub atom_row : Row → Phrased
atom_row row = record { level = 8; row = row }

abbrev pub call_one_row : List ℕ → Phrased → Phrased
call_one_row f x = atom_row (letters f ++ mark (codes "(") ++ row_at 1 x ++ mark (codes ")"))

abbrev pub call_two_row : List ℕ → Phrased → Phrased → Phrased
call_two_row f x y = atom_row (letters f ++ mark (codes "(") ++ row_at 1 x ++ mark (codes ",") ++ space ++ row_at 1 y ++ mark (codes ")"))

abbrev pub prefixed_row : List ℕ → Phrased → Phrased
prefixed_row op x = record { level = 7; row = mark op ++ row_at 7 x }

abbrev pub between_row : ℕ → ℕ → ℕ → List ℕ → Phrased → Phrased → Phrased
between_row level left right op x y = record { level = level; row = row_at left x ++ space ++ mark op ++ space ++ row_at right y }

abbrev pub unary_row : UnName → Phrased → Phrased
unary_row un.Neg = prefixed_row (codes "-")
unary_row un.Not = prefixed_row (codes "!")
unary_row un.Abs = call_one_row (codes "abs")
unary_row un.Sqrt = call_one_row (codes "sqrt")
unary_row un.ToFixed = call_one_row (codes "fixed")
unary_row un.Trunc = call_one_row (codes "trunc")

abbrev pub binary_row : BinName → Phrased → Phrased → Phrased
binary_row bin.Or = between_row 2 2 3 (codes "||")
binary_row bin.And = between_row 3 3 4 (codes "&&")
binary_row bin.Lt = between_row 4 5 5 (codes "<")
binary_row bin.Le = between_row 4 5 5 (codes "<=")
binary_row bin.Gt = between_row 4 5 5 (codes ">")
binary_row bin.Ge = between_row 4 5 5 (codes ">=")
binary_row bin.Eq = between_row 4 5 5 (codes "==")
binary_row bin.Ne = between_row 4 5 5 (codes "!=")
binary_row bin.Add = between_row 5 5 6 (codes "+")
binary_row bin.Sub = between_row 5 5 6 (codes "-")
binary_row bin.Mul = between_row 6 6 7 (codes "*")
binary_row bin.Div = between_row 6 6 7 (codes "/")
binary_row bin.Rem = between_row 6 6 7 (codes "%")
binary_row bin.Min = call_two_row (codes "min")
binary_row bin.Max = call_two_row (codes "max")

abbrev pub choice_row : Phrased → Phrased → Phrased → Phrased
choice_row c x y =
    record { level = 1; row = row_at 2 c ++ space ++ mark (codes "?") ++ space ++ row_at 1 x ++ space ++ mark (codes ":") ++ space ++ row_at 1 y }

abbrev pub phrased_step : ExprTree-F Phrased → Phrased
phrased_step (Lit number) = atom_row (literal_row number.digits)
phrased_step (True at) = atom_row (letters (codes "true"))
phrased_step (False at) = atom_row (letters (codes "false"))
phrased_step (Name name) = atom_row (letters name.text)
phrased_step (OfThis name at) = atom_row (letters (codes "this") ++ mark (codes ".") ++ letters name.text)
phrased_step (OfLoop loop name) = atom_row (letters loop.text ++ mark (codes ".") ++ letters name.text)
phrased_step (Unary op x at) = unary_row op x
phrased_step (Binary op x y at) = binary_row op x y
phrased_step (Choice c x y at) = choice_row c x y
phrased_step (Rand at) = atom_row (letters (codes "rand") ++ mark (codes "(") ++ mark (codes ")"))

abbrev pub phrased_of : ExprTree → Phrased
phrased_of = fold-ExprTree Phrased phrased_step

abbrev pub operand_row : ℕ → ExprTree → Row
operand_row needed x = row_at needed (phrased_of x)

abbrev pub expression_row : ExprTree → Row
expression_row x = operand_row 1 x

-- a line of pieces behind a margin of so many blanks
abbrev pub margin_row : ℕ → Row
margin_row zero = []
margin_row (suc n) = blank 32 ∷ margin_row n

abbrev pub line_row : ℕ → Row → Row
line_row margin row = margin_row margin ++ row ++ blank 10 ∷ []

abbrev pub type_row : TyName → Row
type_row ty.Int = letters (codes "int")
type_row ty.Fixed = letters (codes "fixed")
type_row ty.Bool = letters (codes "bool")
type_row (ty.Other name) = letters name.text

abbrev pub combinator_row : CombName → Row
combinator_row comb.Sum = letters (codes "sum")
combinator_row comb.Min = letters (codes "min")
combinator_row comb.Max = letters (codes "max")
combinator_row comb.Count = letters (codes "count")
combinator_row comb.Or = letters (codes "or")

abbrev pub block_row : List (ℕ → Row) → ℕ → Row
block_row statements margin = flat_map (λ s. s (margin + 2)) statements

abbrev pub otherwise_row : Option (List (ℕ → Row)) → ℕ → Row
otherwise_row None margin = []
otherwise_row (Some statements) margin =
    line_row margin (mark (codes "}") ++ space ++ letters (codes "else") ++ space ++ mark (codes "{")) ++ block_row statements margin

abbrev pub closing_row : ℕ → Row
closing_row margin = line_row margin (mark (codes "}"))

abbrev pub statement_row_step : StmtTree-F (ℕ → Row) → ℕ → Row
statement_row_step (Const type name x at) margin =
    line_row margin (letters (codes "const") ++ space ++ type_row type ++ space ++ letters name.text ++ space ++ mark (codes "=") ++ space ++ expression_row x ++ mark (codes ";"))
statement_row_step (If condition statements other at) margin =
    line_row margin (letters (codes "if") ++ space ++ mark (codes "(") ++ expression_row condition ++ mark (codes ")") ++ space ++ mark (codes "{"))
    ++ block_row statements margin ++ otherwise_row other margin ++ closing_row margin
statement_row_step (Foreach class variable other statements at) margin =
    line_row margin
    (letters (codes "foreach") ++ space ++ mark (codes "(") ++ letters class.text ++ space ++ letters variable.text ++ space ++ mark (codes ":") ++ space
    ++ letters (codes "Extent") ++ mark (codes "<") ++ letters other.text ++ mark (codes ">") ++ mark (codes ")") ++ space ++ mark (codes "{"))
    ++ block_row statements margin ++ closing_row margin
statement_row_step (Assign name x) margin =
    line_row margin (letters name.text ++ space ++ mark (codes "<-") ++ space ++ expression_row x ++ mark (codes ";"))
statement_row_step (AssignThis name x at) margin =
    line_row margin (letters (codes "this") ++ mark (codes ".") ++ letters name.text ++ space ++ mark (codes "<-") ++ space ++ expression_row x ++ mark (codes ";"))
statement_row_step (AssignLoop loop name x) margin =
    line_row margin (letters loop.text ++ mark (codes ".") ++ letters name.text ++ space ++ mark (codes "<-") ++ space ++ expression_row x ++ mark (codes ";"))

abbrev pub statement_row : StmtTree → ℕ → Row
statement_row = fold-StmtTree (ℕ → Row) statement_row_step

abbrev pub sharing_row : Bool → Row
sharing_row true = letters (codes "public")
sharing_row false = letters (codes "private")

abbrev pub rule_row : Option ExprTree → Row
rule_row None = []
rule_row (Some x) = space ++ mark (codes ":") ++ space ++ expression_row x

abbrev pub range_row : List ℕ → Digits → Row
range_row directive digits = hash directive ∷ mark (codes "[") ++ literal_row digits ++ mark (codes "]") ++ mark (codes ";")

abbrev pub gift_row : ℕ → GiftTree → Row
gift_row margin gift = line_row margin (letters gift.state.text ++ space ++ mark (codes "<-") ++ space ++ expression_row gift.value ++ mark (codes ";"))

abbrev pub die_row : ExprTree → Row
die_row x = letters (codes "die") ++ space ++ letters (codes "when") ++ space ++ expression_row x ++ mark (codes ";")

abbrev pub spawn_row : ExprTree → Row
spawn_row x = letters (codes "spawn") ++ space ++ letters (codes "when") ++ space ++ expression_row x ++ space ++ mark (codes "{")

abbrev pub member_row : ℕ → MemberTree → Row
member_row margin (member.Visible range at) = line_row margin (range_row (codes "visible") range.digits)
member_row margin (member.Reach range at) = line_row margin (range_row (codes "reach") range.digits)
member_row margin (member.State shared type name x at) =
    line_row margin (sharing_row shared ++ space ++ letters (codes "state") ++ space ++ type_row type ++ space ++ letters name.text ++ rule_row x ++ mark (codes ";"))
member_row margin (member.Effect shared type name comb at) =
    line_row margin
    (sharing_row shared ++ space ++ letters (codes "effect") ++ space ++ type_row type ++ space ++ letters name.text ++ space ++ mark (codes ":") ++ space
    ++ combinator_row comb ++ mark (codes ";"))
member_row margin (member.Run statements at) =
    line_row margin
    (letters (codes "public") ++ space ++ letters (codes "void") ++ space ++ letters (codes "run") ++ mark (codes "(") ++ mark (codes ")") ++ space ++ mark (codes "{"))
    ++ block_row (map statement_row statements) margin ++ closing_row margin
member_row margin (member.Die x at) = line_row margin (die_row x)
member_row margin (member.Spawn x gifts at) = line_row margin (spawn_row x) ++ flat_map (gift_row (margin + 2)) gifts ++ closing_row margin

abbrev pub class_row : ClassTree → Row
class_row class =
    line_row 0 (letters (codes "class") ++ space ++ letters class.name.text ++ space ++ mark (codes "{")) ++ flat_map (member_row 2) class.members ++ closing_row 0

abbrev pub script_row : Tree → Row
script_row tree = flat_map class_row tree.classes
