-- The pieces of a sound script stand: each is the longest at its place, and no fault.
use Rattle.std.proofs.Common.{◌≡◌, ◌∙◌, sym, ap, subst, refl, ℕ, zero, suc, nat_le, ◌+◌, Bool, true, false, not, ◌&&◌, List, [], ◌∷◌, ◌++◌, length, map, flat_map, Option, Some, None, is_some, codes}
use Rattle.std.specs.List.{list_all}
use Rattle.std.proofs.lemmas.Bool.{and_parts, and_from}
use Rattle.brace_num.specs.Names.{is_letter, begins, is_word, is_name}
use Rattle.brace_tok.specs.Tables.{symbol, directive}
use Rattle.brace_tok.specs.Pieces.{blank, hash}
use Rattle.brace_tok.specs.Spells.{text_of, is_row}
use Rattle.brace_syntax.specs.declared.tree.Digits.{Digits}
use Rattle.brace_syntax.specs.declared.tree.ExprTree.{ExprTree}
use Rattle.brace_syntax.specs.declared.tree.TyName.{TyName}
use Rattle.brace_syntax.specs.declared.tree.TyName.TheVariants as ty
use Rattle.brace_syntax.specs.declared.tree.CombName.{CombName}
use Rattle.brace_syntax.specs.declared.tree.CombName.TheVariants as comb
use Rattle.brace_syntax.specs.declared.tree.StmtTree.{StmtTree}
use Rattle.brace_syntax.specs.declared.tree.StmtTree.TheOpen.{StmtTree-F, Const, If, Foreach, Assign, AssignThis, AssignLoop}
use Rattle.brace_syntax.specs.declared.tree.StmtTree.TheFolds.{map-StmtTree, fold-roll-StmtTree, ind-StmtTree}
use Rattle.brace_syntax.specs.declared.tree.GiftTree.{GiftTree}
use Rattle.brace_syntax.specs.declared.tree.MemberTree.{MemberTree}
use Rattle.brace_syntax.specs.declared.tree.MemberTree.TheVariants as member
use Rattle.brace_syntax.specs.declared.tree.ClassTree.{ClassTree}
use Rattle.brace_syntax.specs.declared.tree.Tree.{Tree}
use Rattle.brace_show.proofs.Sound.{digits_are, type_is, expr_sound, all_sound, stmt_sound_step, stmt_sound, rule_sound, gift_sound, member_sound, class_sound, script_sound}
use Rattle.brace_tok.proofs.Named.{name_word, name_short}
use Rattle.brace_show.proofs.Rows.{Row, space, mark, letters, literal_row, expression_row, margin_row, line_row, type_row, combinator_row, block_row, closing_row, statement_row_step, statement_row, sharing_row, rule_row, range_row, gift_row, die_row, spawn_row, member_row, class_row, script_row}
use Rattle.brace_show.proofs.RowText.{run}
use Rattle.brace_show.proofs.PieceStands.{row_split, run_split, Stands, Stood, follow, ended, any, no_word, stops, lone, open_stands, word_stands, lettered, named, literal_stands}
use Rattle.brace_show.proofs.ExprStands.{other, begins_no_word, pointed, valued}

-- lines
margin_stands : (n : ℕ) (after : List ℕ) → is_row (margin_row n) after ≡ true
margin_stands zero after = refl
margin_stands (suc n) after = and_from _ _ refl (margin_stands n after)

line_stands : (n : ℕ) (row : Row) (after : List ℕ) → is_row row (10 ∷ after) ≡ true → is_row (line_row n row) after ≡ true
line_stands n row after e = row_split (margin_row n ++ row) (blank 10 ∷ []) after (row_split (margin_row n) row (10 ∷ after) (margin_stands n _) e) refl

-- a line whose end is known
ended_line : (n : ℕ) (a : Stood) (rows : List Row) (after : List ℕ) → is_row (run [] rows) (10 ∷ after) ≡ true → a.need (text_of (run [] rows) ++ 10 ∷ after) ≡ true
    → is_row (line_row n (run a.row rows)) after ≡ true
ended_line n a rows after s m = line_stands n (run a.row rows) after (run_split a.row rows (10 ∷ after) (a.stands _ m) s)

closing_stands : (n : ℕ) (after : List ℕ) → is_row (closing_row n) after ≡ true
unfolding symbol
closing_stands n after = line_stands n (mark (codes "}")) after refl

type_stands : (type : TyName) → type_is type ≡ true → Stands no_word (type_row type)
type_stands ty.Int e = word_stands (codes "int") refl refl
type_stands ty.Fixed e = word_stands (codes "fixed") refl refl
type_stands ty.Bool e = word_stands (codes "bool") refl refl
type_stands (ty.Other name) e = (named name.text e).stands

abbrev typed : (type : TyName) → type_is type ≡ true → Stood
typed type e = record { need = no_word; row = type_row type; stands = type_stands type e }

-- a row that ends with a blank, or another that anything may follow
abbrev spaced : (row : Row) → ((after : List ℕ) → is_row row after ≡ true) → Stood
spaced row s = record { need = any; row = row; stands = λ after h. s after }

abbrev no_arrow : List ℕ → Bool
no_arrow after = not (begins (λ b. is_some (symbol (60 ∷ b ∷ []))) after)

less_stands : Stands no_arrow (mark (codes "<"))
unfolding symbol
less_stands after h = and_from _ _ (and_from _ _ (and_from true _ refl (and_from _ _ h refl)) refl) refl

less_letter : (b : ℕ) → is_letter b ≡ true → is_some (symbol (60 ∷ b ∷ [])) ≡ false
unfolding symbol
less_letter b e = rw (other is_letter b 61 e refl, other is_letter b 45 e refl) refl

less_meets : (f : List ℕ) → is_word f ≡ true → (rest after : List ℕ) → no_arrow ((f ++ rest) ++ after) ≡ true
less_meets [] e rest after = absurd (cc)
less_meets (b ∷ f) e rest after = ap not (less_letter b ((and_parts (is_letter b) _ e).0))

flat_stands : {A : Type 0} (f : A → Row) (test : A → Bool) → ((x : A) → test x ≡ true → (after : List ℕ) → is_row (f x) after ≡ true)
    → (xs : List A) → list_all test xs ≡ true → (after : List ℕ) → is_row (flat_map f xs) after ≡ true
flat_stands f test s [] e after = refl
flat_stands f test s (x ∷ xs) e after =
    row_split (f x) (flat_map f xs) after (s x ((and_parts (test x) _ e).0) _) (flat_stands f test s xs ((and_parts (test x) _ e).1) after)

-- statements
abbrev IsStanding : StmtTree → Type 0
IsStanding s = stmt_sound s ≡ true → (n : ℕ) (after : List ℕ) → is_row (statement_row s n) after ≡ true

abbrev Standing : Type 0
Standing = (s : StmtTree) × IsStanding s

abbrev stmt_of : Standing → StmtTree
stmt_of e = e.0

block_stands : (ys : List Standing) → all_sound (map stmt_sound (map stmt_of ys)) ≡ true → (n : ℕ) (after : List ℕ) → is_row (block_row (map statement_row (map stmt_of ys)) n) after ≡ true
block_stands [] e n after = refl
block_stands (y ∷ ys) e n after =
    row_split (statement_row y.0 (n + 2)) (block_row (map statement_row (map stmt_of ys)) n) after
    (y.1 ((and_parts (stmt_sound y.0) _ e).0) (n + 2) _) (block_stands ys ((and_parts (stmt_sound y.0) _ e).1) n after)

assign_stands : (n : ℕ) (target : Stood) (x : ExprTree) → expr_sound x ≡ true → ((after : List ℕ) → target.need (32 ∷ after) ≡ true) → (after : List ℕ)
    → is_row (line_row n (target.row ++ space ++ mark (codes "<-") ++ space ++ expression_row x ++ mark (codes ";"))) after ≡ true
unfolding symbol
assign_stands n target x e m after =
    ended_line n (follow (ended target (space ∷ mark (codes "<-") ∷ space ∷ []) any (λ after h. refl) (λ after h. m _)) (valued x e) (λ after h. refl)) (mark (codes ";") ∷ []) after refl refl

if_stands : (n : ℕ) (x : ExprTree) → expr_sound x ≡ true → (after : List ℕ)
    → is_row (line_row n (letters (codes "if") ++ space ++ mark (codes "(") ++ expression_row x ++ mark (codes ")") ++ space ++ mark (codes "{"))) after ≡ true
unfolding symbol
if_stands n x e after =
    ended_line n (follow (ended (spaced (letters (codes "if") ++ space) (λ after. refl)) (mark (codes "(") ∷ []) any open_stands (λ after h. refl)) (valued x e) (λ after h. refl))
    (mark (codes ")") ∷ space ∷ mark (codes "{") ∷ []) after refl refl

else_stands : (n : ℕ) (after : List ℕ) → is_row (line_row n (mark (codes "}") ++ space ++ letters (codes "else") ++ space ++ mark (codes "{"))) after ≡ true
unfolding symbol
else_stands n after = line_stands n _ after refl

const_stands : (n : ℕ) (type : TyName) (name : List ℕ) (x : ExprTree) → type_is type ≡ true → is_name name ≡ true → expr_sound x ≡ true → (after : List ℕ)
    → is_row (line_row n (letters (codes "const") ++ space ++ type_row type ++ space ++ letters name ++ space ++ mark (codes "=") ++ space ++ expression_row x ++ mark (codes ";"))) after ≡ true
unfolding symbol
const_stands n type name x t m e after =
    let first = ended (follow (spaced (letters (codes "const") ++ space) (λ after. refl)) (typed type t) (λ after h. refl)) (space ∷ []) any (λ after h. refl) (λ after h. refl) in
    let second = ended (follow first (named name m) (λ after h. refl)) (space ∷ mark (codes "=") ∷ space ∷ []) any (λ after h. refl) (λ after h. refl) in
    ended_line n (follow second (valued x e) (λ after h. refl)) (mark (codes ";") ∷ []) after refl refl

foreach_stands : (n : ℕ) (class variable other : List ℕ) → is_name class ≡ true → is_name variable ≡ true → is_name other ≡ true → (after : List ℕ)
    → is_row (line_row n (letters (codes "foreach") ++ space ++ mark (codes "(") ++ letters class ++ space ++ letters variable ++ space ++ mark (codes ":") ++ space
    ++ letters (codes "Extent") ++ mark (codes "<") ++ letters other ++ mark (codes ">") ++ mark (codes ")") ++ space ++ mark (codes "{"))) after ≡ true
unfolding symbol
foreach_stands n class variable other c v o after =
    let first = ended (spaced (letters (codes "foreach") ++ space) (λ after. refl)) (mark (codes "(") ∷ []) any open_stands (λ after h. refl) in
    let second = ended (follow first (named class c) (λ after h. refl)) (space ∷ []) any (λ after h. refl) (λ after h. refl) in
    let third = ended (follow second (named variable v) (λ after h. refl)) (space ∷ mark (codes ":") ∷ space ∷ []) any (λ after h. refl) (λ after h. refl) in
    let fourth = ended (follow third (lettered (codes "Extent") refl refl) (λ after h. refl)) (mark (codes "<") ∷ []) no_arrow less_stands (λ after h. refl) in
    ended_line n (follow fourth (named other o) (λ after h. less_meets other (name_word other o) [] after))
    (mark (codes ">") ∷ mark (codes ")") ∷ space ∷ mark (codes "{") ∷ []) after refl refl

abbrev tested_row : ExprTree → Row
tested_row x = letters (codes "if") ++ space ++ mark (codes "(") ++ expression_row x ++ mark (codes ")") ++ space ++ mark (codes "{")

abbrev foreach_row : List ℕ → List ℕ → List ℕ → Row
foreach_row class variable other =
    letters (codes "foreach") ++ space ++ mark (codes "(") ++ letters class ++ space ++ letters variable ++ space ++ mark (codes ":") ++ space
    ++ letters (codes "Extent") ++ mark (codes "<") ++ letters other ++ mark (codes ">") ++ mark (codes ")") ++ space ++ mark (codes "{")

step_stands : (y : StmtTree-F Standing) → stmt_sound_step (map-StmtTree StmtTree Bool stmt_sound (map-StmtTree Standing StmtTree stmt_of y)) ≡ true → (n : ℕ) (after : List ℕ)
    → is_row (statement_row_step (map-StmtTree StmtTree (ℕ → Row) statement_row (map-StmtTree Standing StmtTree stmt_of y)) n) after ≡ true
step_stands (Const type name x at) e n after =
    let front = (and_parts (type_is type && is_name name.text) (expr_sound x) e).0 in
    const_stands n type name.text x ((and_parts _ (is_name name.text) front).0) ((and_parts (type_is type) _ front).1) ((and_parts (type_is type && is_name name.text) _ e).1) after
step_stands (If x ys None at) e n after =
    let front = (and_parts (expr_sound x && all_sound (map stmt_sound (map stmt_of ys))) true e).0 in
    let first = line_row n (tested_row x) in
    let block = block_row (map statement_row (map stmt_of ys)) n in
    row_split (first ++ block ++ []) (closing_row n) after
    (row_split (first ++ block) [] _ (row_split first block _ (if_stands n x ((and_parts _ _ front).0) _) (block_stands ys ((and_parts (expr_sound x) _ front).1) n _)) refl)
    (closing_stands n after)
step_stands (If x ys (Some others) at) e n after =
    let front = (and_parts (expr_sound x && all_sound (map stmt_sound (map stmt_of ys))) (all_sound (map stmt_sound (map stmt_of others))) e).0 in
    let first = line_row n (tested_row x) in
    let block = block_row (map statement_row (map stmt_of ys)) n in
    let second = line_row n (mark (codes "}") ++ space ++ letters (codes "else") ++ space ++ mark (codes "{")) in
    let other_block = block_row (map statement_row (map stmt_of others)) n in
    row_split (first ++ block ++ (second ++ other_block)) (closing_row n) after
    (row_split (first ++ block) (second ++ other_block) _
    (row_split first block _ (if_stands n x ((and_parts _ _ front).0) _) (block_stands ys ((and_parts (expr_sound x) _ front).1) n _))
    (row_split second other_block _ (else_stands n _)
    (block_stands others ((and_parts (expr_sound x && all_sound (map stmt_sound (map stmt_of ys))) _ e).1) n _)))
    (closing_stands n after)
step_stands (Foreach class variable other ys at) e n after =
    let three = (and_parts (is_name class.text && is_name variable.text && is_name other.text) (all_sound (map stmt_sound (map stmt_of ys))) e).0 in
    let two = (and_parts (is_name class.text && is_name variable.text) (is_name other.text) three).0 in
    let block = block_row (map statement_row (map stmt_of ys)) n in
    let first = line_row n (foreach_row class.text variable.text other.text) in
    row_split (first ++ block) (closing_row n) after
    (row_split first block _
    (foreach_stands n class.text variable.text other.text ((and_parts _ (is_name variable.text) two).0) ((and_parts (is_name class.text) _ two).1)
    ((and_parts (is_name class.text && is_name variable.text) _ three).1) _)
    (block_stands ys ((and_parts (is_name class.text && is_name variable.text && is_name other.text) _ e).1) n _))
    (closing_stands n after)
step_stands (Assign name x) e n after =
    assign_stands n (named name.text ((and_parts _ (expr_sound x) e).0)) x ((and_parts (is_name name.text) _ e).1) (λ after. refl) after
step_stands (AssignThis name x at) e n after =
    assign_stands n (pointed (codes "this") name.text refl refl ((and_parts _ (expr_sound x) e).0)) x ((and_parts (is_name name.text) _ e).1) (λ after. refl) after
step_stands (AssignLoop loop name x) e n after =
    let front = (and_parts (is_name loop.text && is_name name.text) (expr_sound x) e).0 in
    let l = (and_parts (is_name loop.text) (is_name name.text) front).0 in
    assign_stands n (pointed loop.text name.text (name_word loop.text l) (name_short loop.text l) ((and_parts (is_name loop.text) _ front).1)) x
    ((and_parts (is_name loop.text && is_name name.text) _ e).1) (λ after. refl) after

-- a sound statement stands before anything
statement_stands : (s : StmtTree) → stmt_sound s ≡ true → (n : ℕ) (after : List ℕ) → is_row (statement_row s n) after ≡ true
statement_stands = ind-StmtTree IsStanding (λ x y is e n after.
    let step : stmt_sound_step (map-StmtTree StmtTree Bool stmt_sound x) ≡ true → is_row (statement_row_step (map-StmtTree StmtTree (ℕ → Row) statement_row x) n) after ≡ true =
    subst (λ z. stmt_sound_step (map-StmtTree StmtTree Bool stmt_sound z) ≡ true → is_row (statement_row_step (map-StmtTree StmtTree (ℕ → Row) statement_row z) n) after ≡ true) is
    (λ f. step_stands y f n after) in
    ap (λ f. is_row (f n) after) (fold-roll-StmtTree (ℕ → Row) statement_row_step x) ∙ step (sym (fold-roll-StmtTree Bool stmt_sound_step x) ∙ e))

-- members
sharing_stands : (shared : Bool) → Stands no_word (sharing_row shared)
sharing_stands true = word_stands (codes "public") refl refl
sharing_stands false = word_stands (codes "private") refl refl

abbrev sharing : Bool → Stood
sharing shared = record { need = no_word; row = sharing_row shared; stands = sharing_stands shared }

combinator_stands : (comb : CombName) → Stands no_word (combinator_row comb)
combinator_stands comb.Sum = word_stands (codes "sum") refl refl
combinator_stands comb.Min = word_stands (codes "min") refl refl
combinator_stands comb.Max = word_stands (codes "max") refl refl
combinator_stands comb.Count = word_stands (codes "count") refl refl
combinator_stands comb.Or = word_stands (codes "or") refl refl

rule_stands : (x : Option ExprTree) → rule_sound x ≡ true → Stands stops (rule_row x)
unfolding symbol
rule_stands None e after h = refl
rule_stands (Some x) e after h = (follow (spaced (space ++ mark (codes ":") ++ space) (λ after. refl)) (valued x e) (λ after h. refl)).stands after h

rule_meets : (x : Option ExprTree) (after : List ℕ) → stops after ≡ true → no_word (text_of (rule_row x) ++ after) ≡ true
rule_meets None after h = begins_no_word after h
rule_meets (Some x) after h = refl

bracket_stands : Stands any (mark (codes "["))
unfolding symbol
bracket_stands = lone (codes "[") refl (λ b. refl) (λ after. refl)

range_stands : (n : ℕ) (name : List ℕ) (digits : Digits) → ((after : List ℕ) → is_row (hash name ∷ []) (91 ∷ after) ≡ true) → digits_are digits ≡ true → (after : List ℕ)
    → is_row (line_row n (range_row name digits)) after ≡ true
unfolding symbol
range_stands n name digits s e after =
    let front = spaced (hash name ∷ mark (codes "[")) (λ after. row_split (hash name ∷ []) (mark (codes "[")) after (s after) (bracket_stands after refl)) in
    ended_line n (follow front (record { need = stops; row = literal_row digits; stands = literal_stands digits e }) (λ after h. refl)) (mark (codes "]") ∷ mark (codes ";") ∷ []) after refl refl

abbrev field : (shared : Bool) (kind : List ℕ) (type : TyName) (name : List ℕ) → ((after : List ℕ) → is_row (space ++ letters kind ++ space) after ≡ true)
    → type_is type ≡ true → is_name name ≡ true → Stood
field shared kind type name s t m =
    let first = ended (sharing shared) (space ∷ letters kind ∷ space ∷ []) any (λ after h. s after) (λ after h. refl) in
    let second = ended (follow first (typed type t) (λ after h. refl)) (space ∷ []) any (λ after h. refl) (λ after h. refl) in
    follow second (named name m) (λ after h. refl)

statements_stand : (xs : List StmtTree) → all_sound (map stmt_sound xs) ≡ true → (n : ℕ) (after : List ℕ) → is_row (block_row (map statement_row xs) n) after ≡ true
statements_stand [] e n after = refl
statements_stand (x ∷ xs) e n after =
    row_split (statement_row x (n + 2)) (block_row (map statement_row xs) n) after
    (statement_stands x ((and_parts (stmt_sound x) _ e).0) (n + 2) _) (statements_stand xs ((and_parts (stmt_sound x) _ e).1) n after)

gift_stands : (n : ℕ) (gift : GiftTree) → gift_sound gift ≡ true → (after : List ℕ) → is_row (gift_row n gift) after ≡ true
gift_stands n gift e after =
    assign_stands n (named gift.state.text ((and_parts _ (expr_sound gift.value) e).0)) gift.value ((and_parts (is_name gift.state.text) _ e).1) (λ after. refl) after

die_stands : (n : ℕ) (x : ExprTree) → expr_sound x ≡ true → (after : List ℕ) → is_row (line_row n (die_row x)) after ≡ true
unfolding symbol
die_stands n x e after =
    ended_line n (follow (spaced (letters (codes "die") ++ space ++ letters (codes "when") ++ space) (λ after. refl)) (valued x e) (λ after h. refl))
    (mark (codes ";") ∷ []) after refl refl

spawn_stands : (n : ℕ) (x : ExprTree) → expr_sound x ≡ true → (after : List ℕ) → is_row (line_row n (spawn_row x)) after ≡ true
unfolding symbol
spawn_stands n x e after =
    ended_line n (follow (spaced (letters (codes "spawn") ++ space ++ letters (codes "when") ++ space) (λ after. refl)) (valued x e) (λ after h. refl))
    (space ∷ mark (codes "{") ∷ []) after refl refl

member_stands : (n : ℕ) (m : MemberTree) → member_sound m ≡ true → (after : List ℕ) → is_row (member_row n m) after ≡ true
unfolding symbol directive
member_stands n (member.Visible range at) e after = range_stands n (codes "visible") range.digits (λ after. refl) e after
member_stands n (member.Reach range at) e after = range_stands n (codes "reach") range.digits (λ after. refl) e after
member_stands n (member.State shared type name x at) e after =
    let front = (and_parts (type_is type && is_name name.text) (rule_sound x) e).0 in
    let fields = field shared (codes "state") type name.text (λ after. refl) ((and_parts _ (is_name name.text) front).0) ((and_parts (type_is type) _ front).1) in
    let ruled : Stood = record { need = stops; row = rule_row x; stands = rule_stands x ((and_parts (type_is type && is_name name.text) _ e).1) } in
    ended_line n (follow fields ruled (rule_meets x)) (mark (codes ";") ∷ []) after refl refl
member_stands n (member.Effect shared type name comb at) e after =
    let fields = field shared (codes "effect") type name.text (λ after. refl) ((and_parts _ (is_name name.text) e).0) ((and_parts (type_is type) _ e).1) in
    ended_line n (follow (ended fields (space ∷ mark (codes ":") ∷ space ∷ []) any (λ after h. refl) (λ after h. refl))
    (record { need = no_word; row = combinator_row comb; stands = combinator_stands comb }) (λ after h. refl)) (mark (codes ";") ∷ []) after refl refl
member_stands n (member.Run statements at) e after =
    let first = line_row n (letters (codes "public") ++ space ++ letters (codes "void") ++ space ++ letters (codes "run") ++ mark (codes "(") ++ mark (codes ")") ++ space ++ mark (codes "{")) in
    let block = block_row (map statement_row statements) n in
    row_split (first ++ block) (closing_row n) after (row_split first block _ (line_stands n _ _ refl) (statements_stand statements e n _)) (closing_stands n after)
member_stands n (member.Die x at) e after = die_stands n x e after
member_stands n (member.Spawn x gifts at) e after =
    let block = flat_map (gift_row (n + 2)) gifts in
    row_split (line_row n (spawn_row x) ++ block) (closing_row n) after
    (row_split (line_row n (spawn_row x)) block _ (spawn_stands n x ((and_parts _ (list_all gift_sound gifts) e).0) _)
    (flat_stands (gift_row (n + 2)) gift_sound (gift_stands (n + 2)) gifts ((and_parts (expr_sound x) _ e).1) _))
    (closing_stands n after)

class_line_stands : (name : List ℕ) → is_name name ≡ true → (after : List ℕ)
    → is_row (line_row 0 (letters (codes "class") ++ space ++ letters name ++ space ++ mark (codes "{"))) after ≡ true
unfolding symbol
class_line_stands name m after =
    ended_line 0 (follow (spaced (letters (codes "class") ++ space) (λ after. refl)) (named name m) (λ after h. refl)) (space ∷ mark (codes "{") ∷ []) after refl refl

class_stands : (class : ClassTree) → class_sound class ≡ true → (after : List ℕ) → is_row (class_row class) after ≡ true
class_stands class e after =
    let first = line_row 0 (letters (codes "class") ++ space ++ letters class.name.text ++ space ++ mark (codes "{")) in
    let block = flat_map (member_row 2) class.members in
    row_split (first ++ block) (closing_row 0) after
    (row_split first block _ (class_line_stands class.name.text ((and_parts _ (list_all member_sound class.members) e).0) (text_of block ++ (text_of (closing_row 0) ++ after)))
    (flat_stands (member_row 2) member_sound (member_stands 2) class.members ((and_parts (is_name class.name.text) _ e).1) _))
    (closing_stands 0 after)

-- the row of a sound script stands
pub row_stands : (tree : Tree) → script_sound tree ≡ true → is_row (script_row tree) [] ≡ true
row_stands tree e = flat_stands class_row class_sound class_stands tree.classes ((and_parts (nat_le 1 (length tree.classes)) _ e).1) []
