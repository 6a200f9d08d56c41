-- The pieces of statements are read back as those statements, apart from places.
use Rattle.std.proofs.Common.{◌≡◌, refl, sym, ap, ◌∙◌, subst, ℕ, ◌+◌, List, [], ◌∷◌, ◌++◌, map, Bool, true, ◌&&◌, append_assoc, Option, Some, None, codes}
use Rattle.std.proofs.lemmas.List.{append-nil}
use Rattle.std.proofs.lemmas.Bool.{and_parts}
use Rattle.brace_num.specs.Names.{is_name}
use Rattle.brace_tok.specs.Tables.{reserved, symbol}
use Rattle.brace_tok.specs.Pieces.{blank, word, sign}
use Rattle.brace_tok.specs.declared.kinds.Token.{Token}
use Rattle.brace_tok.specs.declared.kinds.TokKind.TheVariants as k
use Rattle.brace_syntax.specs.Tables.{Is, ident, type_name, type_at}
use Rattle.brace_syntax.specs.Reads as g
use Rattle.brace_syntax.specs.Reads.{ReadsStmt, ReadsStmts, ReadsBlock}
use Rattle.brace_syntax.specs.declared.tree.Ident.{Ident}
use Rattle.brace_syntax.specs.declared.tree.TyName.{TyName}
use Rattle.brace_syntax.specs.declared.tree.TyName.TheVariants as ty
use Rattle.brace_syntax.specs.declared.tree.ExprTree.{ExprTree}
use Rattle.brace_syntax.specs.declared.tree.StmtTree.{StmtTree}
use Rattle.brace_syntax.specs.declared.tree.StmtTree.TheVariants as s
use Rattle.brace_syntax.specs.declared.tree.StmtTree.TheOpen as stmt
use Rattle.brace_syntax.specs.declared.tree.StmtTree.TheViews.{roll-StmtTree}
use Rattle.brace_syntax.specs.declared.tree.StmtTree.TheFolds.{fold-roll-StmtTree, ind-StmtTree, map-StmtTree}
use Rattle.brace_show.specs.Canonical.{type_text}
use Rattle.brace_show.specs.Alike.{ident_at_0, type_at_0, expr_at_0, stmt_step, stmt_at_0}
use Rattle.brace_show.proofs.Rows.{Row, space, mark, letters, expression_row, margin_row, line_row, type_row, block_row, closing_row, statement_row_step, statement_row}
use Rattle.brace_show.proofs.Sound.{type_is, expr_sound, all_sound, stmt_sound_step, stmt_sound}
use Rattle.brace_show.proofs.Laid.{Laid, split, say, past, past_margin, laid_as, line_cut, past_line, on_line, done}
use Rattle.brace_show.proofs.ExprReads.{Found, expression_reads, say_name}

abbrev pub FoundStmt : List ℕ → StmtTree → List Token → Type 0
FoundStmt src v toks = (x : StmtTree) × ReadsStmt src toks x × (v ≡ stmt_at_0 x)

abbrev pub FoundStmts : List ℕ → List StmtTree → List Token → Type 0
FoundStmts src vs toks = (xs : List StmtTree) × ReadsStmts src toks xs × (vs ≡ map stmt_at_0 xs)

abbrev pub FoundBlock : List ℕ → List StmtTree → List Token → Type 0
FoundBlock src vs toks = (xs : List StmtTree) × ReadsBlock src toks xs × (vs ≡ map stmt_at_0 xs)

-- behind each margin, wherever they stand, the pieces are read as this statement
abbrev pub GoodStmt : (ℕ → Row) → StmtTree → Type 0
GoodStmt f v = (margin : ℕ) (src : List ℕ) (toks : List Token) → Laid src (f margin) toks → FoundStmt src v toks

pub data Goods : List (ℕ → Row) → List StmtTree → Type 0 where
  none : Goods [] []
  more : (f : ℕ → Row) (v : StmtTree) (fs : List (ℕ → Row)) (vs : List StmtTree) → GoodStmt f v → Goods fs vs → Goods (f ∷ fs) (v ∷ vs)

pub goods_read : (fs : List (ℕ → Row)) (vs : List StmtTree) → Goods fs vs → (margin : ℕ) (src : List ℕ) (toks : List Token) → Laid src (block_row fs margin) toks → FoundStmts src vs toks
goods_read _ _ none margin src toks l = done (FoundStmts src []) src toks l ([], g.none, refl)
goods_read _ _ (more f v fs vs h hs) margin src toks l =
    split (FoundStmts src (v ∷ vs)) src (f (margin + 2)) (block_row fs margin) toks l (λ a b la lb.
    let x = h (margin + 2) src a la in
    let xs = goods_read fs vs hs margin src b lb in
    (x.0 ∷ xs.0, g.more a b x.0 xs.0 x.1 xs.1, ap (λ z. z ∷ vs) x.2 ∙ ap (λ z. stmt_at_0 x.0 ∷ z) xs.2))

-- a block in braces, with what stands behind it
block_then : (C : List Token → Type 0) (fs : List (ℕ → Row)) (vs : List StmtTree) → Goods fs vs → (margin : ℕ) (rest : Row) (src : List ℕ) (toks : List Token)
    → Laid src (sign (codes "{") ∷ blank 10 ∷ (block_row fs margin ++ (margin_row margin ++ (sign (codes "}") ∷ rest)))) toks
    → ((a b : List Token) → FoundBlock src vs a → Laid src rest b → C (a ++ b)) → C toks
unfolding symbol
block_then C fs vs h margin rest src toks l f =
    say C k.OpenBrace src (sign (codes "{")) _ toks (λ from. refl) l (λ opening t1 ho _ l1.
    split (λ z. C (opening ∷ z)) src (block_row fs margin) (margin_row margin ++ (sign (codes "}") ∷ rest)) t1 (past src 10 _ t1 l1) (λ a t2 la l2.
    say (λ z. C (opening ∷ (a ++ z))) k.CloseBrace src (sign (codes "}")) rest t2 (λ from. refl) (past_margin src margin (sign (codes "}") ∷ rest) t2 l2) (λ closing b hc _ lb.
    let xs = goods_read fs vs h margin src a la in
    subst (λ z. C (opening ∷ z)) (append_assoc a (closing ∷ []) b)
    (f (opening ∷ (a ++ closing ∷ [])) b (xs.0, g.braced a opening closing xs.0 ho hc xs.1, xs.2) lb))))

-- a block in braces at the end
pub last_block : (fs : List (ℕ → Row)) (vs : List StmtTree) → Goods fs vs → (margin : ℕ) (src : List ℕ) (toks : List Token)
    → Laid src (sign (codes "{") ∷ blank 10 ∷ (block_row fs margin ++ closing_row margin)) toks → FoundBlock src vs toks
last_block fs vs h margin src toks l =
    let cut : closing_row margin ≡ margin_row margin ++ (sign (codes "}") ∷ blank 10 ∷ []) = append_assoc (margin_row margin) (mark (codes "}")) (blank 10 ∷ []) in
    block_then (FoundBlock src vs) fs vs h margin (blank 10 ∷ []) src toks
    (laid_as src _ _ toks (ap (λ z. sign (codes "{") ∷ blank 10 ∷ (block_row fs margin ++ z)) cut) l) (λ a b found lb.
    done (λ z. FoundBlock src vs (a ++ z)) src b (past src 10 [] b lb) (subst (FoundBlock src vs) (sym (append-nil a)) found))

-- an expression before a semicolon at the end of a line
pub value_then : (C : List Token → Type 0) (x : ExprTree) → expr_sound x ≡ true → (src : List ℕ) (toks : List Token)
    → Laid src ((expression_row x ++ mark (codes ";")) ++ (blank 10 ∷ [])) toks
    → ((a : List Token) (semicolon : Token) → Found src g.choices (expr_at_0 x) a → Is k.Semicolon semicolon → C (a ++ (semicolon ∷ []))) → C toks
unfolding symbol
value_then C x sound src toks l f =
    split C src (expression_row x) (sign (codes ";") ∷ blank 10 ∷ []) toks (laid_as src _ _ toks (append_assoc (expression_row x) (mark (codes ";")) (blank 10 ∷ [])) l) (λ a t1 la l1.
    say (λ z. C (a ++ z)) k.Semicolon src (sign (codes ";")) (blank 10 ∷ []) t1 (λ from. refl) l1 (λ semicolon t2 hs _ l2.
    done (λ z. C (a ++ semicolon ∷ z)) src t2 (past src 10 [] t2 l2) (f a semicolon (expression_reads x sound src a la) hs)))

-- types
pub type_word : (t : TyName) → type_row t ≡ letters (type_text t)
type_word ty.Int = refl
type_word _ = refl

pub say_type : (C : List Token → Type 0) (src : List ℕ) (t : TyName) (row : Row) (toks : List Token) → type_is t ≡ true → Laid src (word (type_text t) ∷ row) toks
    → ((tok : Token) (rest : List Token) (u : TyName) → type_name src tok ≡ Some u → type_at_0 t ≡ type_at_0 u → Laid src row rest → C (tok ∷ rest)) → C toks
unfolding reserved
say_type C src ty.Int row toks h l f = say C k.KwInt src (word (codes "int")) row toks (λ from. refl) l (λ tok rest is _ l1. f tok rest ty.Int (ap (type_at (ident src tok)) is) refl l1)
say_type C src ty.Fixed row toks h l f = say C k.KwFixed src (word (codes "fixed")) row toks (λ from. refl) l (λ tok rest is _ l1. f tok rest ty.Fixed (ap (type_at (ident src tok)) is) refl l1)
say_type C src ty.Bool row toks h l f = say C k.KwBool src (word (codes "bool")) row toks (λ from. refl) l (λ tok rest is _ l1. f tok rest ty.Bool (ap (type_at (ident src tok)) is) refl l1)
say_type C src (ty.Other name) row toks h l f =
    say_name C src name row toks h l (λ tok rest is same l1. f tok rest (ty.Other (ident src tok)) (ap (type_at (ident src tok)) is) (ap (λ (z : Ident). ty.Other z) same) l1)

-- what stmt_at_0 makes of each node
at_0 : (x : stmt.StmtTree-F StmtTree) (t : StmtTree) → roll-StmtTree x ≡ t → stmt_at_0 t ≡ stmt_step (map-StmtTree StmtTree StmtTree stmt_at_0 x)
at_0 x t h = ap stmt_at_0 (sym h) ∙ fold-roll-StmtTree StmtTree stmt_step x

assign_good : (name : Ident) (x : ExprTree) → is_name name.text ≡ true → expr_sound x ≡ true → GoodStmt (statement_row_step (stmt.Assign name x)) (s.Assign (ident_at_0 name) (expr_at_0 x))
unfolding symbol
assign_good name x hn hx margin src toks l =
    let C : List Token → Type 0 = FoundStmt src (s.Assign (ident_at_0 name) (expr_at_0 x)) in
    say_name C src name _ toks hn (on_line src margin _ toks l) (λ tok t1 is same l1.
    say (λ z. C (tok ∷ z)) k.Arrow src (sign (codes "<-")) _ t1 (λ from. refl) (past src 32 _ t1 l1) (λ arrow t2 ha _ l2.
    value_then (λ z. C (tok ∷ arrow ∷ z)) x hx src t2 (past src 32 _ t2 l2) (λ a semicolon found hs.
    let i : Ident = ident src tok in (
      s.Assign i found.0,
      g.assign a tok arrow semicolon found.0 is ha hs found.1,
      ap (λ (z : Ident). s.Assign z (expr_at_0 x)) same ∙ (ap (λ (z : ExprTree). s.Assign (ident_at_0 i) z) found.2 ∙ sym (at_0 (stmt.Assign i found.0) (s.Assign i found.0) (s.rolls-Assign i found.0))),
    ))))

assign_this_good : (name : Ident) (x : ExprTree) (at : ℕ) → is_name name.text ≡ true → expr_sound x ≡ true → GoodStmt (statement_row_step (stmt.AssignThis name x at)) (s.AssignThis (ident_at_0 name) (expr_at_0 x) 0)
unfolding symbol reserved
assign_this_good name x at hn hx margin src toks l =
    let C : List Token → Type 0 = FoundStmt src (s.AssignThis (ident_at_0 name) (expr_at_0 x) 0) in
    say C k.KwThis src (word (codes "this")) _ toks (λ from. refl) (on_line src margin _ toks l) (λ this t1 ht _ l1.
    say (λ z. C (this ∷ z)) k.Dot src (sign (codes ".")) _ t1 (λ from. refl) l1 (λ dot t2 hd _ l2.
    say_name (λ z. C (this ∷ dot ∷ z)) src name _ t2 hn l2 (λ tok t3 is same l3.
    say (λ z. C (this ∷ dot ∷ tok ∷ z)) k.Arrow src (sign (codes "<-")) _ t3 (λ from. refl) (past src 32 _ t3 l3) (λ arrow t4 ha _ l4.
    value_then (λ z. C (this ∷ dot ∷ tok ∷ arrow ∷ z)) x hx src t4 (past src 32 _ t4 l4) (λ a semicolon found hs.
    let i : Ident = ident src tok in (
      s.AssignThis i found.0 this.from,
      g.assign_this a this dot tok arrow semicolon found.0 ht hd is ha hs found.1,
      ap (λ (z : Ident). s.AssignThis z (expr_at_0 x) 0) same ∙ (ap (λ (z : ExprTree). s.AssignThis (ident_at_0 i) z 0) found.2
          ∙ sym (at_0 (stmt.AssignThis i found.0 this.from) (s.AssignThis i found.0 this.from) (s.rolls-AssignThis i found.0 this.from))),
    ))))))

assign_loop_good : (loop name : Ident) (x : ExprTree) → is_name loop.text ≡ true → is_name name.text ≡ true → expr_sound x ≡ true
    → GoodStmt (statement_row_step (stmt.AssignLoop loop name x)) (s.AssignLoop (ident_at_0 loop) (ident_at_0 name) (expr_at_0 x))
unfolding symbol
assign_loop_good loop name x hl hn hx margin src toks l =
    let C : List Token → Type 0 = FoundStmt src (s.AssignLoop (ident_at_0 loop) (ident_at_0 name) (expr_at_0 x)) in
    say_name C src loop _ toks hl (on_line src margin _ toks l) (λ first t1 hf same1 l1.
    say (λ z. C (first ∷ z)) k.Dot src (sign (codes ".")) _ t1 (λ from. refl) l1 (λ dot t2 hd _ l2.
    say_name (λ z. C (first ∷ dot ∷ z)) src name _ t2 hn l2 (λ tok t3 is same l3.
    say (λ z. C (first ∷ dot ∷ tok ∷ z)) k.Arrow src (sign (codes "<-")) _ t3 (λ from. refl) (past src 32 _ t3 l3) (λ arrow t4 ha _ l4.
    value_then (λ z. C (first ∷ dot ∷ tok ∷ arrow ∷ z)) x hx src t4 (past src 32 _ t4 l4) (λ a semicolon found hs.
    let i : Ident = ident src first in
    let j : Ident = ident src tok in (
      s.AssignLoop i j found.0,
      g.assign_loop a first dot tok arrow semicolon found.0 hf hd is ha hs found.1,
      ap (λ (z : Ident). s.AssignLoop z (ident_at_0 name) (expr_at_0 x)) same1 ∙ (ap (λ (z : Ident). s.AssignLoop (ident_at_0 i) z (expr_at_0 x)) same ∙ (ap (λ (z : ExprTree). s.AssignLoop (ident_at_0 i) (ident_at_0 j) z) found.2
          ∙ sym (at_0 (stmt.AssignLoop i j found.0) (s.AssignLoop i j found.0) (s.rolls-AssignLoop i j found.0)))),
    ))))))

const_good : (t : TyName) (name : Ident) (x : ExprTree) (at : ℕ) → type_is t ≡ true → is_name name.text ≡ true → expr_sound x ≡ true
    → GoodStmt (statement_row_step (stmt.Const t name x at)) (s.Const (type_at_0 t) (ident_at_0 name) (expr_at_0 x) 0)
unfolding symbol reserved
const_good t name x at ht hn hx margin src toks l =
    let C : List Token → Type 0 = FoundStmt src (s.Const (type_at_0 t) (ident_at_0 name) (expr_at_0 x) 0) in
    let typed : Row → Row = λ r. line_row margin (letters (codes "const") ++ space ++ r ++ space ++ letters name.text ++ space ++ mark (codes "=") ++ space ++ expression_row x ++ mark (codes ";")) in
    say C k.KwConst src (word (codes "const")) _ toks (λ from. refl) (on_line src margin _ toks (laid_as src _ _ toks (ap typed (type_word t)) l)) (λ const t1 hc _ l1.
    say_type (λ z. C (const ∷ z)) src t _ t1 ht (past src 32 _ t1 l1) (λ type t2 u hu same1 l2.
    say_name (λ z. C (const ∷ type ∷ z)) src name _ t2 hn (past src 32 _ t2 l2) (λ tok t3 is same l3.
    say (λ z. C (const ∷ type ∷ tok ∷ z)) k.Assign src (sign (codes "=")) _ t3 (λ from. refl) (past src 32 _ t3 l3) (λ equals t4 he _ l4.
    value_then (λ z. C (const ∷ type ∷ tok ∷ equals ∷ z)) x hx src t4 (past src 32 _ t4 l4) (λ a semicolon found hs.
    let i : Ident = ident src tok in (
      s.Const u i found.0 const.from,
      g.const a const type tok equals semicolon u found.0 hc hu is he hs found.1,
      ap (λ (z : TyName). s.Const z (ident_at_0 name) (expr_at_0 x) 0) same1 ∙ (ap (λ (z : Ident). s.Const (type_at_0 u) z (expr_at_0 x) 0) same ∙ (ap (λ (z : ExprTree). s.Const (type_at_0 u) (ident_at_0 i) z 0) found.2
          ∙ sym (at_0 (stmt.Const u i found.0 const.from) (s.Const u i found.0 const.from) (s.rolls-Const u i found.0 const.from)))),
    ))))))

-- `if (c)`, with what stands behind it
condition_then : (C : List Token → Type 0) (c : ExprTree) → expr_sound c ≡ true → (rest : Row) (src : List ℕ) (toks : List Token)
    → Laid src (word (codes "if") ∷ blank 32 ∷ sign (codes "(") ∷ ((((expression_row c ++ mark (codes ")")) ++ space) ++ mark (codes "{")) ++ rest)) toks
    → ((a b : List Token) (word opening closing : Token) → Is k.KwIf word → Is k.OpenParen opening → Is k.CloseParen closing → Found src g.choices (expr_at_0 c) a
    → Laid src (sign (codes "{") ∷ rest) b → C (word ∷ opening ∷ (a ++ (closing ∷ b)))) → C toks
unfolding symbol reserved
condition_then C c hc rest src toks l f =
    let cut : (((expression_row c ++ mark (codes ")")) ++ space) ++ mark (codes "{")) ++ rest ≡ expression_row c ++ (sign (codes ")") ∷ blank 32 ∷ sign (codes "{") ∷ rest) =
    append_assoc ((expression_row c ++ mark (codes ")")) ++ space) (mark (codes "{")) rest
    ∙ (append_assoc (expression_row c ++ mark (codes ")")) space (sign (codes "{") ∷ rest) ∙ append_assoc (expression_row c) (mark (codes ")")) (blank 32 ∷ sign (codes "{") ∷ rest)) in
    say C k.KwIf src (word (codes "if")) _ toks (λ from. refl) l (λ if_ t1 hi _ l1.
    say (λ z. C (if_ ∷ z)) k.OpenParen src (sign (codes "(")) _ t1 (λ from. refl) (past src 32 _ t1 l1) (λ opening t2 ho _ l2.
    split (λ z. C (if_ ∷ opening ∷ z)) src (expression_row c) (sign (codes ")") ∷ blank 32 ∷ sign (codes "{") ∷ rest) t2 (laid_as src _ _ t2 cut l2) (λ a t3 la l3.
    say (λ z. C (if_ ∷ opening ∷ (a ++ z))) k.CloseParen src (sign (codes ")")) _ t3 (λ from. refl) l3 (λ closing b hc' _ lb.
    f a b if_ opening closing hi ho hc' (expression_reads c hc src a la) (past src 32 _ b lb)))))

abbrev condition_row : ExprTree → Row
condition_row c = letters (codes "if") ++ space ++ mark (codes "(") ++ expression_row c ++ mark (codes ")") ++ space ++ mark (codes "{")

if-at_0 : (c : ExprTree) (xs : List StmtTree) (other : Option (List StmtTree)) (at : ℕ) (u : ExprTree) (vs : List StmtTree) (w : Option (List StmtTree)) → u ≡ expr_at_0 c → vs ≡ map stmt_at_0 xs
    → stmt_step (map-StmtTree StmtTree StmtTree stmt_at_0 (stmt.If c xs other at)) ≡ s.If (expr_at_0 c) (map stmt_at_0 xs) w 0 → s.If u vs w 0 ≡ stmt_at_0 (s.If c xs other at)
if-at_0 c xs other at u vs w h h' h'' =
    ap (λ (z : ExprTree). s.If z vs w 0) h ∙ (ap (λ (z : List StmtTree). s.If (expr_at_0 c) z w 0) h' ∙ sym (at_0 (stmt.If c xs other at) (s.If c xs other at) (s.rolls-If c xs other at) ∙ h''))

when_good : (c : ExprTree) (fs : List (ℕ → Row)) (vs : List StmtTree) (at : ℕ) → expr_sound c ≡ true → Goods fs vs → GoodStmt (statement_row_step (stmt.If c fs None at)) (s.If (expr_at_0 c) vs None 0)
when_good c fs vs at hc h margin src toks l =
    let line : Row = line_row margin (condition_row c) in
    let cut : ((line ++ block_row fs margin) ++ []) ++ closing_row margin ≡ line ++ (block_row fs margin ++ closing_row margin) =
    append_assoc (line ++ block_row fs margin) [] (closing_row margin) ∙ append_assoc line (block_row fs margin) (closing_row margin) in
    condition_then (FoundStmt src (s.If (expr_at_0 c) vs None 0)) c hc (blank 10 ∷ (block_row fs margin ++ closing_row margin)) src toks
    (past_line src margin (condition_row c) (block_row fs margin ++ closing_row margin) toks (laid_as src _ _ toks cut l)) (λ a b if_ opening closing hi ho hc' x lb.
    let xs = last_block fs vs h margin src b lb in (
      s.If x.0 xs.0 None if_.from,
      g.when a b if_ opening closing x.0 xs.0 hi ho hc' x.1 xs.1,
      if-at_0 x.0 xs.0 None if_.from (expr_at_0 c) vs None x.2 xs.2 refl,
    ))

abbrev else_row : Row
else_row = mark (codes "}") ++ space ++ letters (codes "else") ++ space ++ mark (codes "{")

either_way_good : (c : ExprTree) (fs hs : List (ℕ → Row)) (vs ws : List StmtTree) (at : ℕ) → expr_sound c ≡ true → Goods fs vs → Goods hs ws
    → GoodStmt (statement_row_step (stmt.If c fs (Some hs) at)) (s.If (expr_at_0 c) vs (Some ws) 0)
unfolding reserved
either_way_good c fs hs vs ws at hc h h' margin src toks l =
    let line : Row = line_row margin (condition_row c) in
    let last : Row = block_row hs margin ++ closing_row margin in
    let tail : Row = blank 32 ∷ word (codes "else") ∷ blank 32 ∷ sign (codes "{") ∷ blank 10 ∷ last in
    let rest : Row = block_row fs margin ++ (margin_row margin ++ (sign (codes "}") ∷ tail)) in
    let else_cut : (line_row margin else_row ++ block_row hs margin) ++ closing_row margin ≡ margin_row margin ++ (sign (codes "}") ∷ tail) =
    append_assoc (line_row margin else_row) (block_row hs margin) (closing_row margin) ∙ line_cut margin else_row last in
    let cut : ((line ++ block_row fs margin) ++ (line_row margin else_row ++ block_row hs margin)) ++ closing_row margin ≡ line ++ rest =
    append_assoc (line ++ block_row fs margin) (line_row margin else_row ++ block_row hs margin) (closing_row margin)
    ∙ (append_assoc line (block_row fs margin) ((line_row margin else_row ++ block_row hs margin) ++ closing_row margin) ∙ ap (λ z. line ++ (block_row fs margin ++ z)) else_cut) in
    let C : List Token → Type 0 = FoundStmt src (s.If (expr_at_0 c) vs (Some ws) 0) in
    condition_then C c hc (blank 10 ∷ rest) src toks (past_line src margin (condition_row c) rest toks (laid_as src _ _ toks cut l)) (λ a ts if_ opening closing hi ho hc' x l1.
    block_then (λ z. C (if_ ∷ opening ∷ (a ++ (closing ∷ z)))) fs vs h margin tail src ts l1 (λ b t2 xs l2.
    say (λ z. C (if_ ∷ opening ∷ (a ++ (closing ∷ (b ++ z))))) k.KwElse src (word (codes "else")) _ t2 (λ from. refl) (past src 32 _ t2 l2) (λ otherwise d he _ l3.
    let ys = last_block hs ws h' margin src d (past src 32 _ d l3) in
    subst (λ z. C (if_ ∷ opening ∷ z)) (append_assoc a (closing ∷ b) (otherwise ∷ d)) (
      s.If x.0 xs.0 (Some ys.0) if_.from,
      g.either_way a b d if_ opening closing otherwise x.0 xs.0 ys.0 hi ho hc' he x.1 xs.1 ys.1,
      if-at_0 x.0 xs.0 (Some ys.0) if_.from (expr_at_0 c) vs (Some ws) x.2 xs.2 (ap (λ (z : List StmtTree). s.If (expr_at_0 x.0) (map stmt_at_0 xs.0) (Some z) 0) (sym ys.2)),
    ))))

abbrev foreach_row : Ident → Ident → Ident → Row
foreach_row class variable other =
    letters (codes "foreach") ++ space ++ mark (codes "(") ++ letters class.text ++ space ++ letters variable.text ++ space ++ mark (codes ":") ++ space
    ++ letters (codes "Extent") ++ mark (codes "<") ++ letters other.text ++ mark (codes ">") ++ mark (codes ")") ++ space ++ mark (codes "{")

foreach_good : (class variable other : Ident) (fs : List (ℕ → Row)) (vs : List StmtTree) (at : ℕ) → is_name class.text ≡ true → is_name variable.text ≡ true → is_name other.text ≡ true → Goods fs vs
    → GoodStmt (statement_row_step (stmt.Foreach class variable other fs at)) (s.Foreach (ident_at_0 class) (ident_at_0 variable) (ident_at_0 other) vs 0)
unfolding symbol reserved
foreach_good class variable other fs vs at hc hv hd h margin src toks l =
    let row : Row = foreach_row class variable other in
    let cut : (line_row margin row ++ block_row fs margin) ++ closing_row margin ≡ line_row margin row ++ (block_row fs margin ++ closing_row margin) = append_assoc (line_row margin row) (block_row fs margin) (closing_row margin) in
    let C : List Token → Type 0 = FoundStmt src (s.Foreach (ident_at_0 class) (ident_at_0 variable) (ident_at_0 other) vs 0) in
    say C k.KwForeach src (word (codes "foreach")) _ toks (λ from. refl) (past_line src margin row (block_row fs margin ++ closing_row margin) toks (laid_as src _ _ toks cut l)) (λ w t1 h1 _ l1.
    say (λ z. C (w ∷ z)) k.OpenParen src (sign (codes "(")) _ t1 (λ from. refl) (past src 32 _ t1 l1) (λ opening t2 h2 _ l2.
    say_name (λ z. C (w ∷ opening ∷ z)) src class _ t2 hc l2 (λ tc t3 h3 same_class l3.
    say_name (λ z. C (w ∷ opening ∷ tc ∷ z)) src variable _ t3 hv (past src 32 _ t3 l3) (λ tv t4 h4 same_variable l4.
    say (λ z. C (w ∷ opening ∷ tc ∷ tv ∷ z)) k.Colon src (sign (codes ":")) _ t4 (λ from. refl) (past src 32 _ t4 l4) (λ colon t5 h5 _ l5.
    say (λ z. C (w ∷ opening ∷ tc ∷ tv ∷ colon ∷ z)) k.KwExtent src (word (codes "Extent")) _ t5 (λ from. refl) (past src 32 _ t5 l5) (λ extent t6 h6 _ l6.
    say (λ z. C (w ∷ opening ∷ tc ∷ tv ∷ colon ∷ extent ∷ z)) k.Less src (sign (codes "<")) _ t6 (λ from. refl) l6 (λ less t7 h7 _ l7.
    say_name (λ z. C (w ∷ opening ∷ tc ∷ tv ∷ colon ∷ extent ∷ less ∷ z)) src other _ t7 hd l7 (λ td t8 h8 same_other l8.
    say (λ z. C (w ∷ opening ∷ tc ∷ tv ∷ colon ∷ extent ∷ less ∷ td ∷ z)) k.Greater src (sign (codes ">")) _ t8 (λ from. refl) l8 (λ greater t9 h9 _ l9.
    say (λ z. C (w ∷ opening ∷ tc ∷ tv ∷ colon ∷ extent ∷ less ∷ td ∷ greater ∷ z)) k.CloseParen src (sign (codes ")")) _ t9 (λ from. refl) l9 (λ closing a h10 _ la.
    let xs = last_block fs vs h margin src a (past src 32 _ a la) in
    let i : Ident = ident src tc in
    let j : Ident = ident src tv in
    let o : Ident = ident src td in (
      s.Foreach i j o xs.0 w.from,
      g.foreach a w opening tc tv colon extent less td greater closing xs.0 h1 h2 h3 h4 h5 h6 h7 h8 h9 h10 xs.1,
      ap (λ (z : Ident). s.Foreach z (ident_at_0 variable) (ident_at_0 other) vs 0) same_class ∙ (ap (λ (z : Ident). s.Foreach (ident_at_0 i) z (ident_at_0 other) vs 0) same_variable
          ∙ (ap (λ (z : Ident). s.Foreach (ident_at_0 i) (ident_at_0 j) z vs 0) same_other ∙ (ap (λ (z : List StmtTree). s.Foreach (ident_at_0 i) (ident_at_0 j) (ident_at_0 o) z 0) xs.2
          ∙ sym (at_0 (stmt.Foreach i j o xs.0 w.from) (s.Foreach i j o xs.0 w.from) (s.rolls-Foreach i j o xs.0 w.from))))),
    )))))))))))

abbrev SoundIsGood : StmtTree → Type 0
SoundIsGood x = stmt_sound x ≡ true → GoodStmt (statement_row x) (stmt_at_0 x)

rolled : (x : stmt.StmtTree-F StmtTree)
    → (stmt_sound_step (map-StmtTree StmtTree Bool stmt_sound x) ≡ true
    → GoodStmt (statement_row_step (map-StmtTree StmtTree (ℕ → Row) statement_row x)) (stmt_step (map-StmtTree StmtTree StmtTree stmt_at_0 x)))
    → SoundIsGood (roll-StmtTree x)
rolled x f h =
    let tree : StmtTree = roll-StmtTree x in
    subst (λ p. GoodStmt p (stmt_at_0 tree)) (sym (fold-roll-StmtTree (ℕ → Row) statement_row_step x))
    (subst (λ v. GoodStmt (statement_row_step (map-StmtTree StmtTree (ℕ → Row) statement_row x)) v) (sym (fold-roll-StmtTree StmtTree stmt_step x))
    (f (sym (fold-roll-StmtTree Bool stmt_sound_step x) ∙ h)))

goods_of : (xs : List ((x : StmtTree) × SoundIsGood x)) → all_sound (map stmt_sound (map (λ z. z.0) xs)) ≡ true → Goods (map statement_row (map (λ z. z.0) xs)) (map stmt_at_0 (map (λ z. z.0) xs))
goods_of [] h = none
goods_of (x ∷ xs) h =
    more (statement_row x.0) (stmt_at_0 x.0) _ _ (x.1 ((and_parts (stmt_sound x.0) (all_sound (map stmt_sound (map (λ z. z.0) xs))) h).0))
    (goods_of xs ((and_parts (stmt_sound x.0) (all_sound (map stmt_sound (map (λ z. z.0) xs))) h).1))

each_good : (y : stmt.StmtTree-F ((x : StmtTree) × SoundIsGood x)) → SoundIsGood (roll-StmtTree (map-StmtTree ((x : StmtTree) × SoundIsGood x) StmtTree (λ z. z.0) y))
each_good (stmt.Const t name x at) = rolled (stmt.Const t name x at) (λ h.
    let h' : (type_is t && is_name name.text) ≡ true = (and_parts (type_is t && is_name name.text) (expr_sound x) h).0 in
    const_good t name x at ((and_parts (type_is t) (is_name name.text) h').0) ((and_parts (type_is t) (is_name name.text) h').1) ((and_parts (type_is t && is_name name.text) (expr_sound x) h).1))
each_good (stmt.If c xs None at) = rolled (stmt.If c (map (λ z. z.0) xs) None at) (λ h.
    let sounds : Bool = all_sound (map stmt_sound (map (λ z. z.0) xs)) in
    let h' : (expr_sound c && sounds) ≡ true = (and_parts (expr_sound c && sounds) true h).0 in
    when_good c _ _ at ((and_parts (expr_sound c) sounds h').0) (goods_of xs ((and_parts (expr_sound c) sounds h').1)))
each_good (stmt.If c xs (Some ys) at) = rolled (stmt.If c (map (λ z. z.0) xs) (Some (map (λ z. z.0) ys)) at) (λ h.
    let sounds : Bool = all_sound (map stmt_sound (map (λ z. z.0) xs)) in
    let others : Bool = all_sound (map stmt_sound (map (λ z. z.0) ys)) in
    let h' : (expr_sound c && sounds) ≡ true = (and_parts (expr_sound c && sounds) others h).0 in
    either_way_good c _ _ _ _ at ((and_parts (expr_sound c) sounds h').0) (goods_of xs ((and_parts (expr_sound c) sounds h').1)) (goods_of ys ((and_parts (expr_sound c && sounds) others h).1)))
each_good (stmt.Foreach class variable other xs at) = rolled (stmt.Foreach class variable other (map (λ z. z.0) xs) at) (λ h.
    let sounds : Bool = all_sound (map stmt_sound (map (λ z. z.0) xs)) in
    let h2 : (is_name class.text && is_name variable.text && is_name other.text) ≡ true = (and_parts (is_name class.text && is_name variable.text && is_name other.text) sounds h).0 in
    let h1 : (is_name class.text && is_name variable.text) ≡ true = (and_parts (is_name class.text && is_name variable.text) (is_name other.text) h2).0 in
    foreach_good class variable other _ _ at ((and_parts (is_name class.text) (is_name variable.text) h1).0) ((and_parts (is_name class.text) (is_name variable.text) h1).1)
    ((and_parts (is_name class.text && is_name variable.text) (is_name other.text) h2).1)
    (goods_of xs ((and_parts (is_name class.text && is_name variable.text && is_name other.text) sounds h).1)))
each_good (stmt.Assign name x) = rolled (stmt.Assign name x) (λ h. assign_good name x ((and_parts (is_name name.text) (expr_sound x) h).0) ((and_parts (is_name name.text) (expr_sound x) h).1))
each_good (stmt.AssignThis name x at) = rolled (stmt.AssignThis name x at) (λ h.
    assign_this_good name x at ((and_parts (is_name name.text) (expr_sound x) h).0) ((and_parts (is_name name.text) (expr_sound x) h).1))
each_good (stmt.AssignLoop loop name x) = rolled (stmt.AssignLoop loop name x) (λ h.
    let h' : (is_name loop.text && is_name name.text) ≡ true = (and_parts (is_name loop.text && is_name name.text) (expr_sound x) h).0 in
    assign_loop_good loop name x ((and_parts (is_name loop.text) (is_name name.text) h').0) ((and_parts (is_name loop.text) (is_name name.text) h').1) ((and_parts (is_name loop.text && is_name name.text) (expr_sound x) h).1))

pub stmt_good : (x : StmtTree) → stmt_sound x ≡ true → GoodStmt (statement_row x) (stmt_at_0 x)
stmt_good = ind-StmtTree SoundIsGood (λ x y is. subst (λ z. SoundIsGood (roll-StmtTree z)) is (each_good y))

stmts_good : (xs : List StmtTree) → all_sound (map stmt_sound xs) ≡ true → Goods (map statement_row xs) (map stmt_at_0 xs)
stmts_good [] h = none
stmts_good (x ∷ xs) h =
    more (statement_row x) (stmt_at_0 x) _ _ (stmt_good x ((and_parts (stmt_sound x) (all_sound (map stmt_sound xs)) h).0))
    (stmts_good xs ((and_parts (stmt_sound x) (all_sound (map stmt_sound xs)) h).1))

-- a block of statements at the end
pub block_reads : (xs : List StmtTree) → all_sound (map stmt_sound xs) ≡ true → (margin : ℕ) (src : List ℕ) (toks : List Token)
    → Laid src (sign (codes "{") ∷ blank 10 ∷ (block_row (map statement_row xs) margin ++ closing_row margin)) toks → FoundBlock src (map stmt_at_0 xs) toks
block_reads xs h margin src toks l = last_block (map statement_row xs) (map stmt_at_0 xs) (stmts_good xs h) margin src toks l
