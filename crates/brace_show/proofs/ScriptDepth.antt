-- The tokens of the canonical text are nowhere too deep where those that the script was read from are not.
use Rattle.std.proofs.Common.{◌≡◌, refl, sym, ap, ◌∙◌, subst, ℕ, ◌+◌, ◌≤◌, nat_le, List, [], ◌∷◌, ◌++◌, length, map, flat_map, Bool, true, false, ◌&&◌, Some, None, arith, append_assoc, codes}
use Rattle.std.specs.List.{list_all}
use Rattle.std.proofs.lemmas.List.{append-nil}
use Rattle.std.proofs.lemmas.Bool.{and_parts}
use Rattle.brace_num.specs.Names.{is_name}
use Rattle.brace_tok.specs.Tables.{reserved, symbol, directive}
use Rattle.brace_tok.specs.Pieces.{word, hash, sign}
use Rattle.brace_tok.specs.Roles.{role_at, token}
use Rattle.brace_tok.specs.Spells.{Spells, tokens_from}
use Rattle.brace_tok.specs.declared.kinds.Token.{Token}
use Rattle.brace_tok.specs.declared.kinds.TokKind.{TokKind}
use Rattle.brace_tok.specs.declared.kinds.TokKind.TheVariants as k
use Rattle.brace_tok.proofs.Unique.{one_list}
use Rattle.brace_syntax.specs.Depth.{opened_by, counted_by, NowhereDeep}
use Rattle.brace_syntax.specs.Tables.{Is, ident, number, type_name, type_at, combines}
use Rattle.brace_syntax.specs.Reads as g
use Rattle.brace_syntax.specs.Reads.{ReadsExpr, ReadsStmt, ReadsStmts, ReadsBlock, ReadsField, ReadsGift, ReadsGifts, ReadsMember, ReadsMembers, ReadsClass, ReadsClasses, Reads}
use Rattle.brace_syntax.specs.declared.tree.Ident.{Ident}
use Rattle.brace_syntax.specs.declared.tree.Number.{Number}
use Rattle.brace_syntax.specs.declared.tree.Digits.{Digits}
use Rattle.brace_syntax.specs.declared.tree.TyName.{TyName}
use Rattle.brace_syntax.specs.declared.tree.TyName.TheVariants as ty
use Rattle.brace_syntax.specs.declared.tree.CombName.{CombName}
use Rattle.brace_syntax.specs.declared.tree.CombName.TheVariants as comb
use Rattle.brace_syntax.specs.declared.tree.ExprTree.{ExprTree}
use Rattle.brace_syntax.specs.declared.tree.StmtTree.{StmtTree}
use Rattle.brace_syntax.specs.declared.tree.StmtTree.TheVariants as s
use Rattle.brace_syntax.specs.declared.tree.StmtTree.TheOpen as stmt
use Rattle.brace_syntax.specs.declared.tree.StmtTree.TheViews.{roll-StmtTree}
use Rattle.brace_syntax.specs.declared.tree.StmtTree.TheFolds.{fold-roll-StmtTree, map-StmtTree}
use Rattle.brace_syntax.specs.declared.tree.GiftTree.{GiftTree}
use Rattle.brace_syntax.specs.declared.tree.MemberTree.{MemberTree}
use Rattle.brace_syntax.specs.declared.tree.ClassTree.{ClassTree}
use Rattle.brace_syntax.specs.declared.tree.Tree.{Tree}
use Rattle.brace_show.specs.Canonical.{canonical}
use Rattle.brace_show.proofs.Rows.{Row, letters, mark, space, expression_row, type_row, combinator_row, block_row, closing_row, statement_row_step, statement_row, sharing_row, range_row, gift_row, member_row, class_row, script_row}
use Rattle.brace_show.proofs.Sound.{digits_are, type_is, expr_sound, all_sound, stmt_sound_step, stmt_sound, gift_sound, member_sound, class_sound}
use Rattle.brace_show.proofs.SoundReadings.{readings_are_sound}
use Rattle.brace_show.proofs.RowText.{row_text}
use Rattle.brace_show.proofs.RowStands.{row_stands}
use Rattle.brace_show.proofs.Calm.{Calm, few_open, none_calm, shallow_calm, calm_shallow, past_token, past_close, past_end, Runs, ◌⊕◌, plain, counts, blank_runs, line_runs, opens, closes, semicolon_runs, begins, ends}
use Rattle.brace_show.proofs.ExprDepth.{Passed, expr_passed, past_rest, number_rests, literal_runs, name_runs}

-- what is read where no operator has come yet, and a row that runs there
abbrev Moves : List Token → (ℕ → Row) → Type 0
Moves a row = (o : ℕ) (rest : List Token) → Calm o 0 (a ++ rest) → Calm o 0 rest × ((margin : ℕ) → Runs o 0 (row margin) o 0)

-- what stands in braces, where one more is open than here
abbrev Fills : List Token → (ℕ → Row) → Type 0
Fills a row = (o c : ℕ) (rest : List Token) → Calm o c (a ++ rest) → (o + 1 ≤ 64) × Calm o 0 rest × ((margin : ℕ) → Runs (o + 1) 0 (row margin) (o + 1) 0)

closing_runs : (o margin : ℕ) → o + 1 ≤ 64 → Runs (o + 1) 0 (closing_row margin) o 0
closing_runs o margin l = line_runs margin (o + 1) 0 o 0 _ (ends o 0 l (omega arith))

-- an expression before a semicolon
value_passed : (src : List ℕ) (a : List Token) (x : ExprTree) (semicolon : Token) → expr_sound x ≡ true → ReadsExpr src g.choices a x → (o c : ℕ) (rest : List Token)
    → Calm o c ((a ++ semicolon ∷ []) ++ rest) → Passed o c (expression_row x) (semicolon ∷ rest)
value_passed src a x semicolon sound r o c rest h = expr_passed src a x sound r o c (semicolon ∷ rest) (subst (Calm o c) (append_assoc a (semicolon ∷ []) rest) h)

arrow_runs : (o c : ℕ) → Runs o c (mark (codes "<-")) o c
unfolding symbol
arrow_runs o c = plain k.Arrow (sign (codes "<-")) o c (λ from. refl) refl refl

colon_runs : (o c : ℕ) → Runs o c (mark (codes ":")) o c
unfolding symbol
colon_runs o c = plain k.Colon (sign (codes ":")) o c (λ from. refl) refl refl

dot_runs : (o c : ℕ) → Runs o c (mark (codes ".")) o c
unfolding symbol
dot_runs o c = plain k.Dot (sign (codes ".")) o c (λ from. refl) refl refl

this_runs : (o c : ℕ) → Runs o c (letters (codes "this")) o c
unfolding reserved
this_runs o c = plain k.KwThis (word (codes "this")) o c (λ from. refl) refl refl

when_runs : (o c : ℕ) → Runs o c (letters (codes "when")) o c
unfolding reserved
when_runs o c = plain k.KwWhen (word (codes "when")) o c (λ from. refl) refl refl

type_runs : (t : TyName) → type_is t ≡ true → (o c : ℕ) → Runs o c (type_row t) o c
unfolding reserved
type_runs ty.Int h o c = plain k.KwInt (word (codes "int")) o c (λ from. refl) refl refl
type_runs ty.Fixed h o c = plain k.KwFixed (word (codes "fixed")) o c (λ from. refl) refl refl
type_runs ty.Bool h o c = plain k.KwBool (word (codes "bool")) o c (λ from. refl) refl refl
type_runs (ty.Other name) h o c = name_runs name.text h o c

combinator_runs : (t : CombName) (o c : ℕ) → Runs o c (combinator_row t) o c
unfolding reserved
combinator_runs comb.Sum o c = plain k.KwSum (word (codes "sum")) o c (λ from. refl) refl refl
combinator_runs comb.Min o c = plain k.KwMin (word (codes "min")) o c (λ from. refl) refl refl
combinator_runs comb.Max o c = plain k.KwMax (word (codes "max")) o c (λ from. refl) refl refl
combinator_runs comb.Count o c = plain k.KwCount (word (codes "count")) o c (λ from. refl) refl refl
combinator_runs comb.Or o c = plain k.KwOr (word (codes "or")) o c (λ from. refl) refl refl

sharing_runs : (b : Bool) (o c : ℕ) → Runs o c (sharing_row b) o c
unfolding reserved
sharing_runs true o c = plain k.KwPublic (word (codes "public")) o c (λ from. refl) refl refl
sharing_runs false o c = plain k.KwPrivate (word (codes "private")) o c (λ from. refl) refl refl

-- the token of a type, and how an effect is joined, are no bracket and no operator
type_rests : (name : Ident) (kind : TokKind) (t : TyName) → type_at name kind ≡ Some t → (o c : ℕ) → (opened_by o kind ≡ o) × (counted_by c kind ≡ c)
type_rests name k.KwInt t h o c = (refl, refl)
type_rests name k.KwFixed t h o c = (refl, refl)
type_rests name k.KwBool t h o c = (refl, refl)
type_rests name k.Word t h o c = (refl, refl)
type_rests name kind t h o c = absurd (cc)

combines_rests : (kind : TokKind) (t : CombName) → combines kind ≡ Some t → (o c : ℕ) → (opened_by o kind ≡ o) × (counted_by c kind ≡ c)
combines_rests k.KwSum t h o c = (refl, refl)
combines_rests k.KwMin t h o c = (refl, refl)
combines_rests k.KwMax t h o c = (refl, refl)
combines_rests k.KwCount t h o c = (refl, refl)
combines_rests k.KwOr t h o c = (refl, refl)
combines_rests kind t h o c = absurd (cc)

-- ---- statements

-- a statement's row and soundness by its kind
stmt_as : (P : (ℕ → Row) → Type 0) (x : stmt.StmtTree-F StmtTree) (t : StmtTree) → roll-StmtTree x ≡ t → stmt_sound t ≡ true
    → (stmt_sound_step (map-StmtTree StmtTree Bool stmt_sound x) ≡ true → P (statement_row_step (map-StmtTree StmtTree (ℕ → Row) statement_row x))) → P (statement_row t)
stmt_as P x t h sound f =
    subst P (sym (fold-roll-StmtTree (ℕ → Row) statement_row_step x) ∙ ap statement_row h) (f (sym (fold-roll-StmtTree Bool stmt_sound_step x) ∙ (ap stmt_sound h ∙ sound)))

abbrev block_sound : List StmtTree → Bool
block_sound xs = all_sound (map stmt_sound xs)

const_moves : (src : List ℕ) (a : List Token) (w type name equals semicolon : Token) (t : TyName) (x : ExprTree) (at : ℕ)
    → Is k.KwConst w → type_name src type ≡ Some t → Is k.Word name → Is k.Assign equals → Is k.Semicolon semicolon → ReadsExpr src g.choices a x
    → stmt_sound_step (stmt.Const t (ident src name) x at) ≡ true → Moves (w ∷ type ∷ name ∷ equals ∷ a ++ semicolon ∷ []) (statement_row_step (stmt.Const t (ident src name) x at))
unfolding symbol reserved
const_moves src a w type name equals semicolon t x at hw ht hn he hs r sound o rest h =
    let n : List ℕ = (ident src name).text in
    let both : (type_is t && is_name n) ≡ true = (and_parts (type_is t && is_name n) (expr_sound x) sound).0 in
    let h1 = past_token k.KwConst w _ o 0 hw h in
    let h2 = past_rest type _ o 0 (type_rests (ident src type) type.kind t ht) h1 in
    let h3 = past_token k.Assign equals _ o 0 he (past_token k.Word name _ o 0 hn h2) in
    let v = value_passed src a x semicolon ((and_parts (type_is t && is_name n) (expr_sound x) sound).1) r o 0 rest h3 in (
      past_token k.Semicolon semicolon rest o v.count hs v.calm,
      λ margin. line_runs margin o 0 o 0 _ (
          plain k.KwConst (word (codes "const")) o 0 (λ from. refl) refl refl ⊕ blank_runs 32 o 0 ⊕ type_runs t ((and_parts (type_is t) (is_name n) both).0) o 0 ⊕ blank_runs 32 o 0
          ⊕ name_runs n ((and_parts (type_is t) (is_name n) both).1) o 0 ⊕ blank_runs 32 o 0 ⊕ plain k.Assign (sign (codes "=")) o 0 (λ from. refl) refl refl ⊕ blank_runs 32 o 0
          ⊕ v.runs ⊕ semicolon_runs o v.count v.few),
    )

assign_moves : (src : List ℕ) (a : List Token) (name arrow semicolon : Token) (x : ExprTree)
    → Is k.Word name → Is k.Arrow arrow → Is k.Semicolon semicolon → ReadsExpr src g.choices a x → is_name (ident src name).text ≡ true → expr_sound x ≡ true
    → Moves (name ∷ arrow ∷ a ++ semicolon ∷ []) (statement_row_step (stmt.Assign (ident src name) x))
assign_moves src a name arrow semicolon x hn ha hs r named sound o rest h =
    let h2 = past_token k.Arrow arrow _ o 0 ha (past_token k.Word name _ o 0 hn h) in
    let v = value_passed src a x semicolon sound r o 0 rest h2 in (
      past_token k.Semicolon semicolon rest o v.count hs v.calm,
      λ margin. line_runs margin o 0 o 0 _ (
          name_runs (ident src name).text named o 0 ⊕ blank_runs 32 o 0 ⊕ arrow_runs o 0 ⊕ blank_runs 32 o 0 ⊕ v.runs ⊕ semicolon_runs o v.count v.few),
    )

-- the same of a name behind an owner and a point
owned_moves : (src : List ℕ) (a : List Token) (kind : TokKind) (owner dot name arrow semicolon : Token) (x : ExprTree) (front : Row)
    → Is kind owner → ((o c : ℕ) → (opened_by o kind ≡ o) × (counted_by c kind ≡ c)) → ((o c : ℕ) → Runs o c front o c)
    → Is k.Dot dot → Is k.Word name → Is k.Arrow arrow → Is k.Semicolon semicolon → ReadsExpr src g.choices a x → is_name (ident src name).text ≡ true → expr_sound x ≡ true
    → (o : ℕ) (rest : List Token) → Calm o 0 ((owner ∷ dot ∷ name ∷ arrow ∷ a ++ semicolon ∷ []) ++ rest)
    → Calm o 0 rest × Runs o 0 (front ++ mark (codes ".") ++ letters (ident src name).text ++ space ++ mark (codes "<-") ++ space ++ expression_row x ++ mark (codes ";")) o 0
owned_moves src a kind owner dot name arrow semicolon x front ho hk fr hd hn ha hs r named sound o rest h =
    let h1 = past_rest owner _ o 0 (subst (λ (z : TokKind). (o c : ℕ) → (opened_by o z ≡ o) × (counted_by c z ≡ c)) (sym ho) hk) h in
    let h2 = past_token k.Word name _ o 0 hn (past_token k.Dot dot _ o 0 hd h1) in
    let v = value_passed src a x semicolon sound r o 0 rest (past_token k.Arrow arrow _ o 0 ha h2) in (
      past_token k.Semicolon semicolon rest o v.count hs v.calm,
      fr o 0 ⊕ dot_runs o 0 ⊕ name_runs (ident src name).text named o 0 ⊕ blank_runs 32 o 0 ⊕ arrow_runs o 0 ⊕ blank_runs 32 o 0 ⊕ v.runs ⊕ semicolon_runs o v.count v.few,
    )

-- `if (c) {`, before what is read behind it
if_passed : (src : List ℕ) (a : List Token) (w opening closing : Token) (x : ExprTree) → Is k.KwIf w → Is k.OpenParen opening → Is k.CloseParen closing → ReadsExpr src g.choices a x → expr_sound x ≡ true
    → (o : ℕ) (rest : List Token) → Calm o 0 (w ∷ opening ∷ (a ++ (closing ∷ rest)))
    → (c : ℕ) × (Calm o c rest × ((margin : ℕ) → o + 1 ≤ 64 → Runs o 0 (letters (codes "if") ++ space ++ mark (codes "(") ++ expression_row x ++ mark (codes ")") ++ space ++ mark (codes "{")) (o + 1) 0))
unfolding reserved
if_passed src a w opening closing x hw ho hc r sound o rest h =
    let v = expr_passed src a x sound r (o + 1) 0 (closing ∷ rest) (past_token k.OpenParen opening _ o 0 ho (past_token k.KwIf w _ o 0 hw h)) in (
      v.count,
      (
        past_close closing rest o v.count hc v.calm,
        λ margin l.
            plain k.KwIf (word (codes "if")) o 0 (λ from. refl) refl refl ⊕ blank_runs 32 o 0 ⊕ opens o 0 ⊕ v.runs ⊕ closes o v.count l ⊕ blank_runs 32 o v.count ⊕ begins o v.count v.few,
      ),
    )

nothing_runs : (o c : ℕ) → Runs o c [] o c
nothing_runs o c = record { calm = λ from rest h. h }

else_runs : (o : ℕ) → o + 1 ≤ 64 → Runs (o + 1) 0 (mark (codes "}") ++ space ++ letters (codes "else") ++ space ++ mark (codes "{")) (o + 1) 0
unfolding reserved
else_runs o l = ends o 0 l (omega arith) ⊕ blank_runs 32 o 0 ⊕ plain k.KwElse (word (codes "else")) o 0 (λ from. refl) refl refl ⊕ blank_runs 32 o 0 ⊕ begins o 0 (omega arith)

foreach_runs : (o : ℕ) (class variable other : List ℕ) → is_name class ≡ true → is_name variable ≡ true → is_name other ≡ true → o + 1 ≤ 64
    → Runs o 0 (letters (codes "foreach") ++ space ++ mark (codes "(") ++ letters class ++ space ++ letters variable ++ space ++ mark (codes ":") ++ space
    ++ letters (codes "Extent") ++ mark (codes "<") ++ letters other ++ mark (codes ">") ++ mark (codes ")") ++ space ++ mark (codes "{")) (o + 1) 0
unfolding reserved symbol
foreach_runs o class variable other hc hv ho l =
    let p : ℕ = o + 1 in
    plain k.KwForeach (word (codes "foreach")) o 0 (λ from. refl) refl refl ⊕ blank_runs 32 o 0 ⊕ opens o 0 ⊕ name_runs class hc p 0 ⊕ blank_runs 32 p 0 ⊕ name_runs variable hv p 0 ⊕ blank_runs 32 p 0
    ⊕ colon_runs p 0 ⊕ blank_runs 32 p 0 ⊕ plain k.KwExtent (word (codes "Extent")) p 0 (λ from. refl) refl refl ⊕ counts k.Less (sign (codes "<")) p 0 (λ from. refl) refl refl
    ⊕ name_runs other ho p (0 + 1) ⊕ counts k.Greater (sign (codes ">")) p (0 + 1) (λ from. refl) refl refl ⊕ closes o (0 + 1 + 1) l ⊕ blank_runs 32 o (0 + 1 + 1) ⊕ begins o (0 + 1 + 1) (omega arith)

mutual
  stmt_moves : (src : List ℕ) (a : List Token) (x : StmtTree) → ReadsStmt src a x → stmt_sound x ≡ true → Moves a (statement_row x)
  stmt_moves src _ _ (g.const a w type name equals semicolon t x hw ht hn he hs r) sound =
      stmt_as (Moves (w ∷ type ∷ name ∷ equals ∷ a ++ semicolon ∷ [])) (stmt.Const t (ident src name) x w.from) _ (s.rolls-Const t (ident src name) x w.from) sound
      (const_moves src a w type name equals semicolon t x w.from hw ht hn he hs r)
  stmt_moves src _ _ (g.assign a name arrow semicolon x hn ha hs r) sound =
      stmt_as (Moves (name ∷ arrow ∷ a ++ semicolon ∷ [])) (stmt.Assign (ident src name) x) _ (s.rolls-Assign (ident src name) x) sound (λ b.
      assign_moves src a name arrow semicolon x hn ha hs r ((and_parts (is_name (ident src name).text) (expr_sound x) b).0) ((and_parts (is_name (ident src name).text) (expr_sound x) b).1))
  stmt_moves src _ _ (g.assign_this a this dot name arrow semicolon x ht hd hn ha hs r) sound =
      stmt_as (Moves (this ∷ dot ∷ name ∷ arrow ∷ a ++ semicolon ∷ [])) (stmt.AssignThis (ident src name) x this.from) _ (s.rolls-AssignThis (ident src name) x this.from) sound (λ b o rest h.
      let u = owned_moves src a k.KwThis this dot name arrow semicolon x (letters (codes "this")) ht (λ p q. (refl, refl)) this_runs hd hn ha hs r
      ((and_parts (is_name (ident src name).text) (expr_sound x) b).0) ((and_parts (is_name (ident src name).text) (expr_sound x) b).1) o rest h in
      (u.0, λ margin. line_runs margin o 0 o 0 _ u.1))
  stmt_moves src _ _ (g.assign_loop a loop dot name arrow semicolon x hl hd hn ha hs r) sound =
      stmt_as (Moves (loop ∷ dot ∷ name ∷ arrow ∷ a ++ semicolon ∷ [])) (stmt.AssignLoop (ident src loop) (ident src name) x) _ (s.rolls-AssignLoop (ident src loop) (ident src name) x) sound (λ b o rest h.
      let l : List ℕ = (ident src loop).text in
      let n : List ℕ = (ident src name).text in
      let b' : (is_name l && is_name n) ≡ true = (and_parts (is_name l && is_name n) (expr_sound x) b).0 in
      let u = owned_moves src a k.Word loop dot name arrow semicolon x (letters l) hl (λ p q. (refl, refl)) (name_runs l ((and_parts (is_name l) (is_name n) b').0)) hd hn ha hs r
      ((and_parts (is_name l) (is_name n) b').1) ((and_parts (is_name l && is_name n) (expr_sound x) b).1) o rest h in
      (u.0, λ margin. line_runs margin o 0 o 0 _ u.1))
  stmt_moves src _ _ (g.when a b w opening closing x block hw ho hc r rb) sound =
      stmt_as (Moves (w ∷ opening ∷ a ++ closing ∷ b)) (stmt.If x block None w.from) _ (s.rolls-If x block None w.from) sound (λ q o rest h.
      let q' : (expr_sound x && block_sound block) ≡ true = (and_parts (expr_sound x && block_sound block) true q).0 in
      let u = if_passed src a w opening closing x hw ho hc r ((and_parts (expr_sound x) (block_sound block) q').0) o (b ++ rest) (subst (λ z. Calm o 0 (w ∷ opening ∷ z)) (append_assoc a (closing ∷ b) rest) h) in
      let v = block_moves src b block rb ((and_parts (expr_sound x) (block_sound block) q').1) o u.0 rest u.1.0 in
      (v.1, λ margin. line_runs margin o 0 (o + 1) 0 _ (u.1.1 margin v.0) ⊕ v.2 margin ⊕ nothing_runs (o + 1) 0 ⊕ closing_runs o margin v.0))
  stmt_moves src _ _ (g.either_way a b d w opening closing otherwise x block other hw ho hc he r rb rd) sound =
      stmt_as (Moves ((w ∷ opening ∷ a ++ closing ∷ b) ++ otherwise ∷ d)) (stmt.If x block (Some other) w.from) _ (s.rolls-If x block (Some other) w.from) sound (λ q o rest h.
      let q' : (expr_sound x && block_sound block) ≡ true = (and_parts (expr_sound x && block_sound block) (block_sound other) q).0 in
      let behind : List Token = otherwise ∷ (d ++ rest) in
      let cut : ((a ++ (closing ∷ b)) ++ (otherwise ∷ d)) ++ rest ≡ a ++ (closing ∷ (b ++ behind)) = append_assoc (a ++ (closing ∷ b)) (otherwise ∷ d) rest ∙ append_assoc a (closing ∷ b) behind in
      let u = if_passed src a w opening closing x hw ho hc r ((and_parts (expr_sound x) (block_sound block) q').0) o (b ++ behind) (subst (λ z. Calm o 0 (w ∷ opening ∷ z)) cut h) in
      let v = block_moves src b block rb ((and_parts (expr_sound x) (block_sound block) q').1) o u.0 behind u.1.0 in
      let y = block_moves src d other rd ((and_parts (expr_sound x && block_sound block) (block_sound other) q).1) o 0 rest (past_token k.KwElse otherwise (d ++ rest) o 0 he v.1) in
      (y.1, λ margin. line_runs margin o 0 (o + 1) 0 _ (u.1.1 margin v.0) ⊕ v.2 margin ⊕ (line_runs margin (o + 1) 0 (o + 1) 0 _ (else_runs o v.0) ⊕ y.2 margin) ⊕ closing_runs o margin v.0))
  stmt_moves src _ _ (g.foreach a w opening class variable colon extent less other greater closing block h1 h2 h3 h4 h5 h6 h7 h8 h9 h10 rb) sound =
      stmt_as (Moves (w ∷ opening ∷ class ∷ variable ∷ colon ∷ extent ∷ less ∷ other ∷ greater ∷ closing ∷ a)) (stmt.Foreach (ident src class) (ident src variable) (ident src other) block w.from) _
      (s.rolls-Foreach (ident src class) (ident src variable) (ident src other) block w.from) sound (λ q o rest h.
      let nc : List ℕ = (ident src class).text in
      let nv : List ℕ = (ident src variable).text in
      let no : List ℕ = (ident src other).text in
      let q2 : (is_name nc && is_name nv && is_name no) ≡ true = (and_parts (is_name nc && is_name nv && is_name no) (block_sound block) q).0 in
      let q1 : (is_name nc && is_name nv) ≡ true = (and_parts (is_name nc && is_name nv) (is_name no) q2).0 in
      let p : ℕ = o + 1 in
      let t2 = past_token k.OpenParen opening _ o 0 h2 (past_token k.KwForeach w _ o 0 h1 h) in
      let t4 = past_token k.Word variable _ p 0 h4 (past_token k.Word class _ p 0 h3 t2) in
      let t6 = past_token k.KwExtent extent _ p 0 h6 (past_token k.Colon colon _ p 0 h5 t4) in
      let t8 = past_token k.Word other _ p (0 + 1) h8 (past_token k.Less less _ p 0 h7 t6) in
      let t10 = past_close closing (a ++ rest) o (0 + 1 + 1) h10 (past_token k.Greater greater _ p (0 + 1) h9 t8) in
      let v = block_moves src a block rb ((and_parts (is_name nc && is_name nv && is_name no) (block_sound block) q).1) o (0 + 1 + 1) rest t10 in (
        v.1,
        λ margin. line_runs margin o 0 (o + 1) 0 _ (foreach_runs o nc nv no ((and_parts (is_name nc) (is_name nv) q1).0) ((and_parts (is_name nc) (is_name nv) q1).1)
            ((and_parts (is_name nc && is_name nv) (is_name no) q2).1) v.0) ⊕ v.2 margin ⊕ closing_runs o margin v.0,
      ))

  stmts_moves : (src : List ℕ) (a : List Token) (xs : List StmtTree) → ReadsStmts src a xs → block_sound xs ≡ true → Moves a (λ margin. flat_map (λ row. row margin) (map statement_row xs))
  stmts_moves src _ _ g.none sound o rest h = (h, λ margin. nothing_runs o 0)
  stmts_moves src _ _ (g.more a b x xs r rs) sound o rest h =
      let u = stmt_moves src a x r ((and_parts (stmt_sound x) (block_sound xs) sound).0) o (b ++ rest) (subst (Calm o 0) (append_assoc a b rest) h) in
      let v = stmts_moves src b xs rs ((and_parts (stmt_sound x) (block_sound xs) sound).1) o rest u.0 in
      (v.0, λ margin. u.1 margin ⊕ v.1 margin)

  block_moves : (src : List ℕ) (a : List Token) (xs : List StmtTree) → ReadsBlock src a xs → block_sound xs ≡ true → Fills a (block_row (map statement_row xs))
  block_moves src _ _ (g.braced a opening closing xs ho hc rs) sound o c rest h =
      let h1 : Calm (o + 1) 0 ((a ++ closing ∷ []) ++ rest) = past_token k.OpenBrace opening _ o c ho h in
      let v = stmts_moves src a xs rs sound (o + 1) (closing ∷ rest) (subst (Calm (o + 1) 0) (append_assoc a (closing ∷ []) rest) h1) in
      (few_open (o + 1) 0 _ h1, past_end closing rest o 0 hc v.0, λ margin. v.1 (margin + 2))

-- ---- members, classes and scripts

abbrev member_rows : MemberTree → ℕ → Row
member_rows x margin = member_row margin x

state_front : (b : Bool) (t : TyName) (name : List ℕ) → (type_is t && is_name name) ≡ true → (o : ℕ) → Runs o 0 (sharing_row b ++ space ++ letters (codes "state") ++ space ++ type_row t ++ space ++ letters name) o 0
unfolding reserved
state_front b t name h o =
    sharing_runs b o 0 ⊕ blank_runs 32 o 0 ⊕ plain k.KwState (word (codes "state")) o 0 (λ from. refl) refl refl ⊕ blank_runs 32 o 0 ⊕ type_runs t ((and_parts (type_is t) (is_name name) h).0) o 0 ⊕ blank_runs 32 o 0
    ⊕ name_runs name ((and_parts (type_is t) (is_name name) h).1) o 0

field_moves : (src : List ℕ) (b : Bool) (at : ℕ) (a : List Token) (x : MemberTree) → ReadsField src b at a x → member_sound x ≡ true → Moves a (member_rows x)
unfolding reserved
field_moves src b at _ _ (g.state w type name semicolon t hw ht hn hs) sound o rest h =
    let h2 = past_rest type _ o 0 (type_rests (ident src type) type.kind t ht) (past_token k.KwState w _ o 0 hw h) in
    let n : List ℕ = (ident src name).text in (
      past_token k.Semicolon semicolon rest o 0 hs (past_token k.Word name _ o 0 hn h2),
      λ margin. line_runs margin o 0 o 0 _ (
          state_front b t n ((and_parts (type_is t && is_name n) true sound).0) o ⊕ nothing_runs o 0 ⊕ semicolon_runs o 0 (omega arith)),
    )
field_moves src b at _ _ (g.ruled a w type name colon semicolon t x hw ht hn hc hs r) sound o rest h =
    let h2 = past_rest type _ o 0 (type_rests (ident src type) type.kind t ht) (past_token k.KwState w _ o 0 hw h) in
    let h4 = past_token k.Colon colon _ o 0 hc (past_token k.Word name _ o 0 hn h2) in
    let n : List ℕ = (ident src name).text in
    let v = value_passed src a x semicolon ((and_parts (type_is t && is_name n) (expr_sound x) sound).1) r o 0 rest h4 in (
      past_token k.Semicolon semicolon rest o v.count hs v.calm,
      λ margin. line_runs margin o 0 o 0 _ (
          state_front b t n ((and_parts (type_is t && is_name n) (expr_sound x) sound).0) o ⊕ (blank_runs 32 o 0 ⊕ colon_runs o 0 ⊕ blank_runs 32 o 0 ⊕ v.runs) ⊕ semicolon_runs o v.count v.few),
    )
field_moves src b at _ _ (g.effect w type name colon joins semicolon t c hw ht hn hc hj hs) sound o rest h =
    let h2 = past_rest type _ o 0 (type_rests (ident src type) type.kind t ht) (past_token k.KwEffect w _ o 0 hw h) in
    let h4 = past_token k.Colon colon _ o 0 hc (past_token k.Word name _ o 0 hn h2) in
    let n : List ℕ = (ident src name).text in (
      past_token k.Semicolon semicolon rest o 0 hs (past_rest joins _ o 0 (combines_rests joins.kind c hj) h4),
      λ margin. line_runs margin o 0 o 0 _ (
          sharing_runs b o 0 ⊕ blank_runs 32 o 0 ⊕ plain k.KwEffect (word (codes "effect")) o 0 (λ from. refl) refl refl ⊕ blank_runs 32 o 0 ⊕ type_runs t ((and_parts (type_is t) (is_name n) sound).0) o 0 ⊕ blank_runs 32 o 0
          ⊕ name_runs n ((and_parts (type_is t) (is_name n) sound).1) o 0 ⊕ blank_runs 32 o 0 ⊕ colon_runs o 0 ⊕ blank_runs 32 o 0 ⊕ combinator_runs c o 0 ⊕ semicolon_runs o 0 (omega arith)),
    )

gift_moves : (src : List ℕ) (a : List Token) (x : GiftTree) → ReadsGift src a x → gift_sound x ≡ true → Moves a (λ margin. gift_row margin x)
gift_moves src _ _ (g.gift a name arrow semicolon x hn ha hs r) sound =
    assign_moves src a name arrow semicolon x hn ha hs r ((and_parts (is_name (ident src name).text) (expr_sound x) sound).0) ((and_parts (is_name (ident src name).text) (expr_sound x) sound).1)

gifts_moves : (src : List ℕ) (a : List Token) (xs : List GiftTree) → ReadsGifts src a xs → list_all gift_sound xs ≡ true → Moves a (λ margin. flat_map (gift_row margin) xs)
gifts_moves src _ _ g.none sound o rest h = (h, λ margin. nothing_runs o 0)
gifts_moves src _ _ (g.more a b x xs r rs) sound o rest h =
    let u = gift_moves src a x r ((and_parts (gift_sound x) (list_all gift_sound xs) sound).0) o (b ++ rest) (subst (Calm o 0) (append_assoc a b rest) h) in
    let v = gifts_moves src b xs rs ((and_parts (gift_sound x) (list_all gift_sound xs) sound).1) o rest u.0 in
    (v.0, λ margin. u.1 margin ⊕ v.1 margin)

-- a directive
range_runs : (kind : TokKind) (name : List ℕ) (d : Digits) → ((from : ℕ) → role_at from (hash name) ≡ token kind) → ((o c : ℕ) → (opened_by o kind ≡ o) × (counted_by c kind ≡ c)) → digits_are d ≡ true → (o : ℕ)
    → Runs o 0 (range_row name d) o 0
unfolding symbol
range_runs kind name d role f sound o =
    plain kind (hash name) o 0 role (f o 0).0 (f o 0).1 ⊕ plain k.OpenBracket (sign (codes "[")) o 0 (λ from. refl) refl refl ⊕ literal_runs d sound o 0
    ⊕ plain k.CloseBracket (sign (codes "]")) o 0 (λ from. refl) refl refl ⊕ semicolon_runs o 0 (omega arith)

range_passed : (kind : TokKind) (w opening range closing semicolon : Token) (n : Number) → Is kind w → ((o c : ℕ) → (opened_by o kind ≡ o) × (counted_by c kind ≡ c))
    → Is k.OpenBracket opening → number range ≡ Some n → Is k.CloseBracket closing → Is k.Semicolon semicolon
    → (o : ℕ) (rest : List Token) → Calm o 0 (w ∷ opening ∷ range ∷ closing ∷ semicolon ∷ rest) → Calm o 0 rest
range_passed kind w opening range closing semicolon n hw f ho hn hc hs o rest h =
    let h1 = past_rest w _ o 0 (subst (λ (z : TokKind). (o c : ℕ) → (opened_by o z ≡ o) × (counted_by c z ≡ c)) (sym hw) f) h in
    let h3 = past_rest range _ o 0 (number_rests range.from range.kind n hn) (past_token k.OpenBracket opening _ o 0 ho h1) in
    past_token k.Semicolon semicolon rest o 0 hs (past_token k.CloseBracket closing _ o 0 hc h3)

member_moves : (src : List ℕ) (a : List Token) (x : MemberTree) → ReadsMember src a x → member_sound x ≡ true → Moves a (member_rows x)
unfolding reserved directive
member_moves src _ _ (g.visible w opening range closing semicolon n hw ho hn hc hs) sound o rest h =
    (range_passed k.Visible w opening range closing semicolon n hw (λ p q. (refl, refl)) ho hn hc hs o rest h, λ margin. line_runs margin o 0 o 0 _ (range_runs k.Visible (codes "visible") n.digits (λ from. refl) (λ p q. (refl, refl)) sound o))
member_moves src _ _ (g.reach w opening range closing semicolon n hw ho hn hc hs) sound o rest h =
    (range_passed k.Reach w opening range closing semicolon n hw (λ p q. (refl, refl)) ho hn hc hs o rest h, λ margin. line_runs margin o 0 o 0 _ (range_runs k.Reach (codes "reach") n.digits (λ from. refl) (λ p q. (refl, refl)) sound o))
member_moves src _ _ (g.public a w x hw r) sound o rest h = field_moves src true w.from a x r sound o rest (past_token k.KwPublic w (a ++ rest) o 0 hw h)
member_moves src _ _ (g.private a w x hw r) sound o rest h = field_moves src false w.from a x r sound o rest (past_token k.KwPrivate w (a ++ rest) o 0 hw h)
member_moves src _ _ (g.run a w void run opening closing block hw hv hr ho hc rb) sound o rest h =
    let h3 = past_token k.KwRun run _ o 0 hr (past_token k.KwVoid void _ o 0 hv (past_token k.KwPublic w _ o 0 hw h)) in
    let h5 = past_close closing (a ++ rest) o 0 hc (past_token k.OpenParen opening _ o 0 ho h3) in
    let v = block_moves src a block rb sound o 0 rest h5 in (
      v.1,
      λ margin. line_runs margin o 0 (o + 1) 0 _ (
          plain k.KwPublic (word (codes "public")) o 0 (λ from. refl) refl refl ⊕ blank_runs 32 o 0 ⊕ plain k.KwVoid (word (codes "void")) o 0 (λ from. refl) refl refl ⊕ blank_runs 32 o 0
          ⊕ plain k.KwRun (word (codes "run")) o 0 (λ from. refl) refl refl ⊕ opens o 0 ⊕ closes o 0 v.0 ⊕ blank_runs 32 o 0 ⊕ begins o 0 (omega arith)) ⊕ v.2 margin ⊕ closing_runs o margin v.0,
    )
member_moves src _ _ (g.die a w when semicolon x hw hn hs r) sound o rest h =
    let h2 = past_token k.KwWhen when _ o 0 hn (past_token k.KwDie w _ o 0 hw h) in
    let v = value_passed src a x semicolon sound r o 0 rest h2 in (
      past_token k.Semicolon semicolon rest o v.count hs v.calm,
      λ margin. line_runs margin o 0 o 0 _ (
          plain k.KwDie (word (codes "die")) o 0 (λ from. refl) refl refl ⊕ blank_runs 32 o 0 ⊕ when_runs o 0 ⊕ blank_runs 32 o 0 ⊕ v.runs ⊕ semicolon_runs o v.count v.few),
    )
member_moves src _ _ (g.spawn a b w when opening closing x gifts hw hn ho hc r rs) sound o rest h =
    let h2 = past_token k.KwWhen when _ o 0 hn (past_token k.KwSpawn w _ o 0 hw h) in
    let cut : ((a ++ (opening ∷ b)) ++ (closing ∷ [])) ++ rest ≡ a ++ (opening ∷ (b ++ (closing ∷ rest))) = append_assoc (a ++ (opening ∷ b)) (closing ∷ []) rest ∙ append_assoc a (opening ∷ b) (closing ∷ rest) in
    let v = expr_passed src a x ((and_parts (expr_sound x) (list_all gift_sound gifts) sound).0) r o 0 (opening ∷ (b ++ (closing ∷ rest))) (subst (Calm o 0) cut h2) in
    let h3 : Calm (o + 1) 0 (b ++ (closing ∷ rest)) = past_token k.OpenBrace opening _ o v.count ho v.calm in
    let l : o + 1 ≤ 64 = few_open (o + 1) 0 _ h3 in
    let y = gifts_moves src b gifts rs ((and_parts (expr_sound x) (list_all gift_sound gifts) sound).1) (o + 1) (closing ∷ rest) h3 in (
      past_end closing rest o 0 hc y.0,
      λ margin. line_runs margin o 0 (o + 1) 0 _ (
          plain k.KwSpawn (word (codes "spawn")) o 0 (λ from. refl) refl refl ⊕ blank_runs 32 o 0 ⊕ when_runs o 0 ⊕ blank_runs 32 o 0 ⊕ v.runs ⊕ blank_runs 32 o v.count ⊕ begins o v.count v.few) ⊕ y.1 (margin + 2) ⊕ closing_runs o margin l,
    )

members_moves : (src : List ℕ) (a : List Token) (xs : List MemberTree) → ReadsMembers src a xs → list_all member_sound xs ≡ true → Moves a (λ margin. flat_map (member_row margin) xs)
members_moves src _ _ g.none sound o rest h = (h, λ margin. nothing_runs o 0)
members_moves src _ _ (g.more a b x xs r rs) sound o rest h =
    let u = member_moves src a x r ((and_parts (member_sound x) (list_all member_sound xs) sound).0) o (b ++ rest) (subst (Calm o 0) (append_assoc a b rest) h) in
    let v = members_moves src b xs rs ((and_parts (member_sound x) (list_all member_sound xs) sound).1) o rest u.0 in
    (v.0, λ margin. u.1 margin ⊕ v.1 margin)

class_moves : (src : List ℕ) (a : List Token) (x : ClassTree) → ReadsClass src a x → class_sound x ≡ true → Moves a (λ margin. class_row x)
unfolding reserved
class_moves src _ _ (g.class a w name opening closing members hw hn ho hc rs) sound o rest h =
    let n : List ℕ = (ident src name).text in
    let h3 : Calm (o + 1) 0 ((a ++ closing ∷ []) ++ rest) = past_token k.OpenBrace opening _ o 0 ho (past_token k.Word name _ o 0 hn (past_token k.KwClass w _ o 0 hw h)) in
    let l : o + 1 ≤ 64 = few_open (o + 1) 0 _ h3 in
    let y = members_moves src a members rs ((and_parts (is_name n) (list_all member_sound members) sound).1) (o + 1) (closing ∷ rest) (subst (Calm (o + 1) 0) (append_assoc a (closing ∷ []) rest) h3) in (
      past_end closing rest o 0 hc y.0,
      λ margin. line_runs 0 o 0 (o + 1) 0 _ (
          plain k.KwClass (word (codes "class")) o 0 (λ from. refl) refl refl ⊕ blank_runs 32 o 0 ⊕ name_runs n ((and_parts (is_name n) (list_all member_sound members) sound).0) o 0 ⊕ blank_runs 32 o 0 ⊕ begins o 0 (omega arith))
          ⊕ y.1 2 ⊕ closing_runs o 0 l,
    )

classes_moves : (src : List ℕ) (a : List Token) (xs : List ClassTree) → ReadsClasses src a xs → list_all class_sound xs ≡ true → Moves a (λ margin. flat_map class_row xs)
classes_moves src _ _ (g.last a x r) sound o rest h =
    let u = class_moves src a x r ((and_parts (class_sound x) true sound).0) o rest h in
    (u.0, λ margin. u.1 margin ⊕ nothing_runs o 0)
classes_moves src _ _ (g.more a b x xs r rs) sound o rest h =
    let u = class_moves src a x r ((and_parts (class_sound x) (list_all class_sound xs) sound).0) o (b ++ rest) (subst (Calm o 0) (append_assoc a b rest) h) in
    let v = classes_moves src b xs rs ((and_parts (class_sound x) (list_all class_sound xs) sound).1) o rest u.0 in
    (v.0, λ margin. u.1 margin ⊕ v.1 margin)

pub canonical_is_shallow : (src : List ℕ) (toks : List Token) (tree : Tree) → Spells src toks → Reads src toks tree → NowhereDeep toks → (again : List Token) → Spells (canonical tree) again → NowhereDeep again
canonical_is_shallow src toks tree spelled read shallow again spelled_again =
    let sound = readings_are_sound src toks tree spelled read in
    let found : List Token = tokens_from 0 (script_row tree) in
    let only : again ≡ found = one_list (canonical tree) again found spelled_again (script_row tree, sym (row_text tree), row_stands tree sound, refl) in
    let u = classes_moves src toks tree.classes read ((and_parts (nat_le 1 (length tree.classes)) (list_all class_sound tree.classes) sound).1) 0 [] (subst (Calm 0 0) (sym (append-nil toks)) (shallow_calm toks shallow)) in
    let calm : Calm 0 0 (found ++ []) = (u.1 0).calm 0 [] none_calm in
    subst NowhereDeep (sym only) (calm_shallow found (subst (Calm 0 0) (append-nil found) calm))
