-- The rows of pieces of a script have its canonical text.
use Rattle.std.proofs.Common.{◌≡◌, ◌∙◌, sym, ap, subst, refl, ℕ, zero, suc, nat_lt, ◌+◌, Bool, true, false, if◌then◌else◌, List, [], ◌∷◌, ◌++◌, map, flat_map, Option, Some, None, codes, negsuc, append_assoc, append-nil, arith}
use Rattle.brace_tok.specs.Spells.{text_of}
use Rattle.brace_tok.specs.Pieces.{blank, hash, bytes_of}
use Rattle.brace_syntax.specs.declared.tree.Digits.{Digits}
use Rattle.brace_syntax.specs.declared.tree.Digits.TheVariants.{Int, Fixed}
use Rattle.brace_syntax.specs.declared.tree.UnName.{UnName}
use Rattle.brace_syntax.specs.declared.tree.UnName.TheVariants as un
use Rattle.brace_syntax.specs.declared.tree.BinName.{BinName}
use Rattle.brace_syntax.specs.declared.tree.BinName.TheVariants as bin
use Rattle.brace_syntax.specs.declared.tree.TyName.{TyName}
use Rattle.brace_syntax.specs.declared.tree.TyName.TheVariants as ty
use Rattle.brace_syntax.specs.declared.tree.CombName.{CombName}
use Rattle.brace_syntax.specs.declared.tree.CombName.TheVariants as comb
use Rattle.brace_syntax.specs.declared.tree.ExprTree.{ExprTree}
use Rattle.brace_syntax.specs.declared.tree.ExprTree.TheOpen.{ExprTree-F, Lit, Name, OfThis, OfLoop, Unary, Binary, Choice}
use Rattle.brace_syntax.specs.declared.tree.ExprTree.TheFolds.{map-ExprTree, fold-roll-ExprTree, ind-ExprTree}
use Rattle.brace_syntax.specs.declared.tree.StmtTree.{StmtTree}
use Rattle.brace_syntax.specs.declared.tree.StmtTree.TheOpen.{StmtTree-F, Const, If, Foreach, Assign, AssignThis, AssignLoop}
use Rattle.brace_syntax.specs.declared.tree.StmtTree.TheFolds.{map-StmtTree, fold-roll-StmtTree, ind-StmtTree}
use Rattle.brace_syntax.specs.declared.tree.GiftTree.{GiftTree}
use Rattle.brace_syntax.specs.declared.tree.MemberTree.{MemberTree}
use Rattle.brace_syntax.specs.declared.tree.MemberTree.TheVariants as member
use Rattle.brace_syntax.specs.declared.tree.ClassTree.{ClassTree}
use Rattle.brace_syntax.specs.declared.tree.Tree.{Tree}
use Rattle.brace_show.specs.Literals.{literal}
use Rattle.brace_show.specs.Canonical.{line, deeper, type_text, combinator, block, statement_step, statement, sharing, rule, gift_text, member_text, class_text, canonical}
use Rattle.brace_show.specs.Expressions.{Phrase, atom, at_level, call_one, call_two, prefixed, between, unary, binary, choice, phrase_step, phrase_of, expression}
use Rattle.brace_show.proofs.Rows.{Row, space, mark, letters, literal_row, Phrased, row_at, call_one_row, call_two_row, prefixed_row, between_row, unary_row, binary_row, choice_row, phrased_step, phrased_of, expression_row, margin_row, line_row, type_row, combinator_row, block_row, statement_row_step, statement_row, sharing_row, rule_row, gift_row, member_row, class_row, script_row}

pub text_append : (a b : Row) → text_of (a ++ b) ≡ text_of a ++ text_of b
text_append [] b = refl
text_append (p ∷ a) b = ap (λ t. bytes_of p ++ t) (text_append a b) ∙ sym (append_assoc (bytes_of p) (text_of a) (text_of b))

-- a row with others behind it
abbrev pub run : Row → List Row → Row
run row [] = row
run row (r ∷ rows) = run (row ++ r) rows

pub run_is : (row : Row) (rows : List Row) → run row rows ≡ row ++ run [] rows
run_is row [] = sym (append-nil row)
run_is row (r ∷ rows) = run_is (row ++ r) rows ∙ append_assoc row r (run [] rows) ∙ ap (λ t. row ++ t) (sym (run_is r rows))

-- a row and its text
record Said : Type 0 where
  row : Row
  text : List ℕ
  same : text_of row ≡ text

abbrev said : (row : Row) (text : List ℕ) → text_of row ≡ text → Said
said row text e = record { row = row; text = text; same = e }

abbrev lettered : List ℕ → Said
lettered name = said (letters name) name (append-nil name)

abbrev follow : Said → Said → Said
follow a b = said (a.row ++ b.row) (a.text ++ b.text) (text_append a.row b.row ∙ ap (λ u. u ++ text_of b.row) a.same ∙ ap (λ u. a.text ++ u) b.same)

-- rows whose texts are known, behind a row
abbrev ended : Said → List Row → Said
ended a rows = said (run a.row rows) (a.text ++ text_of (run [] rows))
    (ap text_of (run_is a.row rows) ∙ text_append a.row (run [] rows) ∙ ap (λ u. u ++ text_of (run [] rows)) a.same)

-- the phrase that a row of an expression is
abbrev spoken : Phrased → Phrase
spoken p = record { level = p.level; text = text_of p.row }

literal_spoken : (digits : Digits) → text_of (literal_row digits) ≡ literal digits
literal_spoken (Int (negsuc n)) = ap (λ t. 45 ∷ t) (append-nil _)
literal_spoken (Fixed (negsuc n)) = ap (λ t. 45 ∷ t) (append-nil _)
literal_spoken _ = append-nil _

at_spoken : (needed : ℕ) (p : Phrased) → text_of (row_at needed p) ≡ at_level needed (spoken p)
at_spoken needed p =
    elim (nat_lt p.level needed) as (λ b. text_of (if b then mark (codes "(") ++ p.row ++ mark (codes ")") else p.row) ≡ (if b then codes "(" ++ text_of p.row ++ codes ")" else text_of p.row)) [
      | true ↦ simp (text_append, append_assoc)
      | false ↦ refl
    ]

abbrev placed : ℕ → Phrased → Said
placed needed p = said (row_at needed p) (at_level needed (spoken p)) (at_spoken needed p)

prefixed_spoken : (op : List ℕ) (p : Phrased) → spoken (prefixed_row op p) ≡ prefixed op (spoken p)
prefixed_spoken op p = ap (λ t. record { level = 7; text = op ++ t }) (at_spoken 7 p)

one_spoken : (f : List ℕ) (p : Phrased) → spoken (call_one_row f p) ≡ call_one f (spoken p)
one_spoken f p = ap atom (ended (follow (ended (lettered f) (mark (codes "(") ∷ [])) (placed 1 p)) (mark (codes ")") ∷ [])).same

two_spoken : (f : List ℕ) (p q : Phrased) → spoken (call_two_row f p q) ≡ call_two f (spoken p) (spoken q)
two_spoken f p q =
    ap atom (ended (follow (ended (follow (ended (lettered f) (mark (codes "(") ∷ [])) (placed 1 p)) (mark (codes ",") ∷ space ∷ [])) (placed 1 q)) (mark (codes ")") ∷ [])).same

between_spoken : (level left right : ℕ) (op : List ℕ) (p q : Phrased)
    → spoken (between_row level left right op p q) ≡ between level left right (32 ∷ (op ++ codes " ")) (spoken p) (spoken q)
between_spoken level left right op p q =
    ap (λ t. record { level = level; text = t }) (follow (ended (placed left p) (space ∷ mark op ∷ space ∷ [])) (placed right q)).same

choice_spoken : (c p q : Phrased) → spoken (choice_row c p q) ≡ choice (spoken c) (spoken p) (spoken q)
choice_spoken c p q =
    ap (λ t. record { level = 1; text = t })
    (follow (ended (follow (ended (placed 2 c) (space ∷ mark (codes "?") ∷ space ∷ [])) (placed 1 p)) (space ∷ mark (codes ":") ∷ space ∷ [])) (placed 1 q)).same

unary_spoken : (op : UnName) (p : Phrased) → spoken (unary_row op p) ≡ unary op (spoken p)
unary_spoken un.Neg p = prefixed_spoken (codes "-") p
unary_spoken un.Not p = prefixed_spoken (codes "!") p
unary_spoken un.Abs p = one_spoken (codes "abs") p
unary_spoken un.Sqrt p = one_spoken (codes "sqrt") p
unary_spoken un.ToFixed p = one_spoken (codes "fixed") p
unary_spoken un.Trunc p = one_spoken (codes "trunc") p

binary_spoken : (op : BinName) (p q : Phrased) → spoken (binary_row op p q) ≡ binary op (spoken p) (spoken q)
binary_spoken bin.Or p q = between_spoken 2 2 3 (codes "||") p q
binary_spoken bin.And p q = between_spoken 3 3 4 (codes "&&") p q
binary_spoken bin.Lt p q = between_spoken 4 5 5 (codes "<") p q
binary_spoken bin.Le p q = between_spoken 4 5 5 (codes "<=") p q
binary_spoken bin.Gt p q = between_spoken 4 5 5 (codes ">") p q
binary_spoken bin.Ge p q = between_spoken 4 5 5 (codes ">=") p q
binary_spoken bin.Eq p q = between_spoken 4 5 5 (codes "==") p q
binary_spoken bin.Ne p q = between_spoken 4 5 5 (codes "!=") p q
binary_spoken bin.Add p q = between_spoken 5 5 6 (codes "+") p q
binary_spoken bin.Sub p q = between_spoken 5 5 6 (codes "-") p q
binary_spoken bin.Mul p q = between_spoken 6 6 7 (codes "*") p q
binary_spoken bin.Div p q = between_spoken 6 6 7 (codes "/") p q
binary_spoken bin.Rem p q = between_spoken 6 6 7 (codes "%") p q
binary_spoken bin.Min p q = two_spoken (codes "min") p q
binary_spoken bin.Max p q = two_spoken (codes "max") p q

-- a phrase of each kind
step_spoken : (x : ExprTree-F Phrased) → spoken (phrased_step x) ≡ phrase_step (map-ExprTree Phrased Phrase spoken x)
step_spoken (Lit number) = ap atom (literal_spoken number.digits)
step_spoken (Name name) = ap atom (append-nil name.text)
step_spoken (OfThis name at) = ap atom (simp append-nil)
step_spoken (OfLoop loop name) = ap atom (follow (ended (lettered loop.text) (mark (codes ".") ∷ [])) (lettered name.text)).same
step_spoken (Unary op p at) = unary_spoken op p
step_spoken (Binary op p q at) = binary_spoken op p q
step_spoken (Choice c p q at) = choice_spoken c p q
step_spoken _ = refl

abbrev IsSpoken : ExprTree → Type 0
IsSpoken x = spoken (phrased_of x) ≡ phrase_of x

abbrev tree_of : (x : ExprTree) × IsSpoken x → ExprTree
tree_of e = e.0

-- the operands' phrases are what their rows are, so the expression's is
step_agrees : (y : ExprTree-F ((x : ExprTree) × IsSpoken x))
    → map-ExprTree Phrased Phrase spoken (map-ExprTree ExprTree Phrased phrased_of (map-ExprTree ((x : ExprTree) × IsSpoken x) ExprTree tree_of y))
    ≡ map-ExprTree ExprTree Phrase phrase_of (map-ExprTree ((x : ExprTree) × IsSpoken x) ExprTree tree_of y)
step_agrees (Unary op p at) = ap (λ v. Unary op v at) p.1
step_agrees (Binary op p q at) = rw (p.1, q.1) refl
step_agrees (Choice c p q at) = rw (c.1, p.1, q.1) refl
step_agrees _ = refl

-- the phrase of an expression is what its row is
pub phrase_spoken : (x : ExprTree) → spoken (phrased_of x) ≡ phrase_of x
phrase_spoken = ind-ExprTree IsSpoken (λ x y is.
    let agrees : map-ExprTree Phrased Phrase spoken (map-ExprTree ExprTree Phrased phrased_of x) ≡ map-ExprTree ExprTree Phrase phrase_of x =
    subst (λ z. map-ExprTree Phrased Phrase spoken (map-ExprTree ExprTree Phrased phrased_of z) ≡ map-ExprTree ExprTree Phrase phrase_of z) is (step_agrees y) in
    ap spoken (fold-roll-ExprTree Phrased phrased_step x) ∙ step_spoken (map-ExprTree ExprTree Phrased phrased_of x) ∙ ap phrase_step agrees ∙ sym (fold-roll-ExprTree Phrase phrase_step x))

pub expression_text : (x : ExprTree) → text_of (expression_row x) ≡ expression x
expression_text x = at_spoken 1 (phrased_of x) ∙ ap (at_level 1) (phrase_spoken x)

-- a line behind a margin of so many blanks
abbrev margin_of : ℕ → List ℕ
margin_of n = text_of (margin_row n)

deeper_margin : (n : ℕ) → margin_of (n + 2) ≡ deeper (margin_of n)
deeper_margin zero = refl
deeper_margin (suc n) = let e : suc n + 2 ≡ suc (n + 2) = omega arith in ap margin_of e ∙ ap (λ t. 32 ∷ t) (deeper_margin n)

abbrev margined : ℕ → Said
margined n = said (margin_row n) (margin_of n) refl

line_text : (n : ℕ) (a : Said) → text_of (line_row n a.row) ≡ line (margin_of n) a.text
line_text n a = (ended (follow (margined n) a) ((blank 10 ∷ []) ∷ [])).same

abbrev valued : ExprTree → Said
valued x = said (expression_row x) (expression x) (expression_text x)

type_said : (type : TyName) → text_of (type_row type) ≡ type_text type
type_said (ty.Other name) = append-nil name.text
type_said _ = refl

combinator_said : (comb : CombName) → text_of (combinator_row comb) ≡ combinator comb
combinator_said comb.Sum = refl
combinator_said _ = refl

sharing_said : (shared : Bool) → text_of (sharing_row shared) ≡ sharing shared
sharing_said true = refl
sharing_said false = refl

rule_said : (x : Option ExprTree) → text_of (rule_row x) ≡ rule x
rule_said None = refl
rule_said (Some x) = ap (λ t. codes " : " ++ t) (expression_text x)

abbrev typed : TyName → Said
typed type = said (type_row type) (type_text type) (type_said type)

flat_text : {A : Type 0} (f : A → Row) (g : A → List ℕ) → ((x : A) → text_of (f x) ≡ g x) → (xs : List A) → text_of (flat_map f xs) ≡ flat_map g xs
flat_text f g e [] = refl
flat_text f g e (x ∷ xs) = (follow (said (f x) (g x) (e x)) (said (flat_map f xs) (flat_map g xs) (flat_text f g e xs))).same

-- statements
abbrev IsPrinted : StmtTree → Type 0
IsPrinted s = (n : ℕ) → text_of (statement_row s n) ≡ statement s (margin_of n)

abbrev Printed : Type 0
Printed = (s : StmtTree) × IsPrinted s

abbrev stmt_of : Printed → StmtTree
stmt_of e = e.0

block_said : (ys : List Printed) (n : ℕ) → text_of (block_row (map statement_row (map stmt_of ys)) n) ≡ block (map statement (map stmt_of ys)) (margin_of n)
block_said [] n = refl
block_said (y ∷ ys) n =
    (follow (said (statement_row y.0 (n + 2)) (statement y.0 (deeper (margin_of n))) (y.1 (n + 2) ∙ ap (statement y.0) (deeper_margin n)))
    (said (block_row (map statement_row (map stmt_of ys)) n) (block (map statement (map stmt_of ys)) (margin_of n)) (block_said ys n))).same

abbrev blocked : List Printed → ℕ → Said
blocked ys n = said (block_row (map statement_row (map stmt_of ys)) n) (block (map statement (map stmt_of ys)) (margin_of n)) (block_said ys n)

abbrev lined : ℕ → Said → Said
lined n a = said (line_row n a.row) (line (margin_of n) a.text) (line_text n a)

abbrev closed : ℕ → Said
closed n = lined n (said (mark (codes "}")) (codes "}") refl)

abbrev tested : ExprTree → Said
tested x = ended (follow (said (letters (codes "if") ++ space ++ mark (codes "(")) (codes "if (") refl) (valued x)) (mark (codes ")") ∷ space ∷ mark (codes "{") ∷ [])

abbrev else_line : Said
else_line = said (mark (codes "}") ++ space ++ letters (codes "else") ++ space ++ mark (codes "{")) (codes "} else {") refl

abbrev assigned : Said → ExprTree → Said
assigned target x = ended (follow (ended target (space ∷ mark (codes "<-") ∷ space ∷ [])) (valued x)) (mark (codes ";") ∷ [])

step_printed : (y : StmtTree-F Printed) (n : ℕ)
    → text_of (statement_row_step (map-StmtTree StmtTree (ℕ → Row) statement_row (map-StmtTree Printed StmtTree stmt_of y)) n)
    ≡ statement_step (map-StmtTree StmtTree (List ℕ → List ℕ) statement (map-StmtTree Printed StmtTree stmt_of y)) (margin_of n)
step_printed (Const type name x at) n =
    line_text n (ended (follow (ended (follow (ended (follow (said (letters (codes "const") ++ space) (codes "const ") refl) (typed type)) (space ∷ [])) (lettered name.text))
    (space ∷ mark (codes "=") ∷ space ∷ [])) (valued x)) (mark (codes ";") ∷ []))
step_printed (If condition ys None at) n = (follow (follow (follow (lined n (tested condition)) (blocked ys n)) (said [] [] refl)) (closed n)).same
step_printed (If condition ys (Some other) at) n =
    (follow (follow (follow (lined n (tested condition)) (blocked ys n)) (follow (lined n else_line) (blocked other n))) (closed n)).same
step_printed (Foreach class variable other ys at) n =
    (follow (follow (lined n (ended (follow (ended (follow (ended (follow (said (letters (codes "foreach") ++ space ++ mark (codes "(")) (codes "foreach (") refl)
    (lettered class.text)) (space ∷ [])) (lettered variable.text))
    (space ∷ mark (codes ":") ∷ space ∷ letters (codes "Extent") ∷ mark (codes "<") ∷ [])) (lettered other.text))
    (mark (codes ">") ∷ mark (codes ")") ∷ space ∷ mark (codes "{") ∷ []))) (blocked ys n)) (closed n)).same
step_printed (Assign name x) n = line_text n (assigned (lettered name.text) x)
step_printed (AssignThis name x at) n = line_text n (assigned (follow (said (letters (codes "this") ++ mark (codes ".")) (codes "this.") refl) (lettered name.text)) x)
step_printed (AssignLoop loop name x) n = line_text n (assigned (follow (ended (lettered loop.text) (mark (codes ".") ∷ [])) (lettered name.text)) x)

-- the text of a statement
pub statement_text : (s : StmtTree) (n : ℕ) → text_of (statement_row s n) ≡ statement s (margin_of n)
statement_text = ind-StmtTree IsPrinted (λ x y is n.
    let step : text_of (statement_row_step (map-StmtTree StmtTree (ℕ → Row) statement_row x) n) ≡ statement_step (map-StmtTree StmtTree (List ℕ → List ℕ) statement x) (margin_of n) =
    subst (λ z. text_of (statement_row_step (map-StmtTree StmtTree (ℕ → Row) statement_row z) n) ≡ statement_step (map-StmtTree StmtTree (List ℕ → List ℕ) statement z) (margin_of n)) is (step_printed y n) in
    ap (λ f. text_of (f n)) (fold-roll-StmtTree (ℕ → Row) statement_row_step x) ∙ step ∙ sym (ap (λ f. f (margin_of n)) (fold-roll-StmtTree (List ℕ → List ℕ) statement_step x)))

-- members and classes
abbrev ranged : (row : Row) (text : List ℕ) → text_of row ≡ text → Digits → Said
ranged row text e digits = ended (follow (said row text e) (said (literal_row digits) (literal digits) (literal_spoken digits))) (mark (codes "]") ∷ mark (codes ";") ∷ [])

abbrev shared_as : Bool → Said
shared_as shared = said (sharing_row shared) (sharing shared) (sharing_said shared)

statements_said : (xs : List StmtTree) (n : ℕ) → text_of (block_row (map statement_row xs) n) ≡ block (map statement xs) (margin_of n)
statements_said [] n = refl
statements_said (x ∷ xs) n =
    (follow (said (statement_row x (n + 2)) (statement x (deeper (margin_of n))) (statement_text x (n + 2) ∙ ap (statement x) (deeper_margin n)))
    (said (block_row (map statement_row xs) n) (block (map statement xs) (margin_of n)) (statements_said xs n))).same

gift_said : (n : ℕ) (gift : GiftTree) → text_of (gift_row n gift) ≡ gift_text (margin_of n) gift
gift_said n gift = line_text n (assigned (lettered gift.state.text) gift.value)

abbrev whened : (row : Row) (text : List ℕ) → text_of row ≡ text → ExprTree → List Row → Said
whened row text e x rows = ended (follow (said row text e) (valued x)) rows

member_said : (n : ℕ) (m : MemberTree) → text_of (member_row n m) ≡ member_text (margin_of n) m
member_said n (member.Visible range at) = line_text n (ranged (hash (codes "visible") ∷ mark (codes "[")) (codes "#visible[") refl range.digits)
member_said n (member.Reach range at) = line_text n (ranged (hash (codes "reach") ∷ mark (codes "[")) (codes "#reach[") refl range.digits)
member_said n (member.State shared type name x at) =
    line_text n (ended (follow (follow (ended (follow (ended (shared_as shared) (space ∷ letters (codes "state") ∷ space ∷ [])) (typed type)) (space ∷ [])) (lettered name.text))
    (said (rule_row x) (rule x) (rule_said x))) (mark (codes ";") ∷ []))
member_said n (member.Effect shared type name comb at) =
    line_text n (ended (follow (ended (follow (ended (follow (ended (shared_as shared) (space ∷ letters (codes "effect") ∷ space ∷ [])) (typed type)) (space ∷ [])) (lettered name.text))
    (space ∷ mark (codes ":") ∷ space ∷ [])) (said (combinator_row comb) (combinator comb) (combinator_said comb))) (mark (codes ";") ∷ []))
member_said n (member.Run statements at) =
    (follow (follow (lined n (said (letters (codes "public") ++ space ++ letters (codes "void") ++ space ++ letters (codes "run") ++ mark (codes "(") ++ mark (codes ")") ++ space ++ mark (codes "{"))
    (codes "public void run() {") refl))
    (said (block_row (map statement_row statements) n) (block (map statement statements) (margin_of n)) (statements_said statements n)))
    (closed n)).same
member_said n (member.Die x at) =
    line_text n (whened (letters (codes "die") ++ space ++ letters (codes "when") ++ space) (codes "die when ") refl x (mark (codes ";") ∷ []))
member_said n (member.Spawn x gifts at) =
    (follow (follow (lined n (whened (letters (codes "spawn") ++ space ++ letters (codes "when") ++ space) (codes "spawn when ") refl x (space ∷ mark (codes "{") ∷ [])))
    (said (flat_map (gift_row (n + 2)) gifts) (flat_map (gift_text (deeper (margin_of n))) gifts)
    (flat_text (gift_row (n + 2)) (gift_text (deeper (margin_of n))) (λ g. gift_said (n + 2) g ∙ ap (λ m. gift_text m g) (deeper_margin n)) gifts)))
    (closed n)).same

class_said : (class : ClassTree) → text_of (class_row class) ≡ class_text class
class_said class =
    (follow (follow (lined 0 (ended (follow (said (letters (codes "class") ++ space) (codes "class ") refl) (lettered class.name.text)) (space ∷ mark (codes "{") ∷ [])))
    (said (flat_map (member_row 2) class.members) (flat_map (member_text (deeper [])) class.members) (flat_text (member_row 2) (member_text (deeper [])) (member_said 2) class.members)))
    (closed 0)).same

-- the text of a script's row is its canonical text
pub row_text : (tree : Tree) → text_of (script_row tree) ≡ canonical tree
row_text tree = flat_text class_row class_text class_said tree.classes
