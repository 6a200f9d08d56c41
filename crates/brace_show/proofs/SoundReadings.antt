-- A script that is read from a text has names that words spell, and numbers that literals spell.
use Rattle.std.proofs.Common.{◌≡◌, refl, sym, ap, ◌∙◌, ℕ, ◌+◌, nat_le, cond, List, [], ◌∷◌, ◌++◌, length, map, Bool, true, false, ◌&&◌, Option, Some, None, pos, All, arith}
use Rattle.std.specs.Prelude.{IsTrue}
use Rattle.std.specs.List.{list_all}
use Rattle.std.specs.Str.{bytes_eq}
use Rattle.std.specs.Str.Parse.{digits_value}
use Rattle.std.proofs.lemmas.Bool.{le-leb, and_parts, and_from}
use Rattle.std.proofs.lemmas.Option.{same_Some}
use Rattle.std.proofs.lemmas.List.Elements.{All-head, All-rest}
use Rattle.brace_num.specs.Names.{is_name}
use Rattle.brace_tok.specs.Tables.{found, words, directives, symbols, reserved, directive, symbol}
use Rattle.brace_tok.specs.Pieces.{Piece, word, whole, fraction, hash, sign, bytes_of}
use Rattle.brace_tok.specs.Roles.{Role, nothing, token, refused, role_at, token_or, name_or, word_kind, whole_kind, fixed_kind, millionths}
use Rattle.brace_tok.specs.Spells.{token_at, tokens_from, Spells}
use Rattle.brace_tok.specs.Names.{IsNamed, text_at}
use Rattle.brace_tok.specs.declared.kinds.Token.{Token}
use Rattle.brace_tok.specs.declared.kinds.TokKind.{TokKind}
use Rattle.brace_tok.specs.declared.kinds.TokKind.TheVariants as k
use Rattle.brace_tok.specs.declared.fault.TokFault.{TokFault}
use Rattle.brace_tok.specs.declared.fault.TokFault.TheVariants as fault
use Rattle.brace_tok.proofs.Named.{spells_names}
use Rattle.brace_syntax.specs.Tables.{Is, ident, number, number_at, type_name, type_at}
use Rattle.brace_syntax.specs.Reads as g
use Rattle.brace_syntax.specs.Reads.{ReadsExpr, ReadsStmt, ReadsStmts, ReadsBlock, ReadsField, ReadsGift, ReadsGifts, ReadsMember, ReadsMembers, ReadsClass, ReadsClasses, Reads}
use Rattle.brace_syntax.specs.declared.tree.Ident.{Ident}
use Rattle.brace_syntax.specs.declared.tree.Number.{Number}
use Rattle.brace_syntax.specs.declared.tree.TyName.{TyName}
use Rattle.brace_syntax.specs.declared.tree.ExprTree.{ExprTree}
use Rattle.brace_syntax.specs.declared.tree.ExprTree.TheVariants as node
use Rattle.brace_syntax.specs.declared.tree.ExprTree.TheOpen as expr
use Rattle.brace_syntax.specs.declared.tree.ExprTree.TheViews.{roll-ExprTree}
use Rattle.brace_syntax.specs.declared.tree.ExprTree.TheFolds.{fold-roll-ExprTree, map-ExprTree}
use Rattle.brace_syntax.specs.declared.tree.StmtTree.{StmtTree}
use Rattle.brace_syntax.specs.declared.tree.StmtTree.TheVariants as s
use Rattle.brace_syntax.specs.declared.tree.StmtTree.TheOpen as stmt
use Rattle.brace_syntax.specs.declared.tree.StmtTree.TheViews.{roll-StmtTree}
use Rattle.brace_syntax.specs.declared.tree.StmtTree.TheFolds.{fold-roll-StmtTree, map-StmtTree}
use Rattle.brace_syntax.specs.declared.tree.GiftTree.{GiftTree}
use Rattle.brace_syntax.specs.declared.tree.MemberTree.{MemberTree}
use Rattle.brace_syntax.specs.declared.tree.ClassTree.{ClassTree}
use Rattle.brace_syntax.specs.declared.tree.Tree.{Tree}
use Rattle.brace_show.proofs.Sound.{fits_word, digits_are, type_is, expr_sound_step, expr_sound, all_sound, stmt_sound_step, stmt_sound, gift_sound, member_sound, class_sound, script_sound}

-- a number of a token is one that a literal spells
abbrev kind_fits : TokKind → Bool
kind_fits (k.Int z) = fits_word z
kind_fits (k.Fixed z) = fits_word z
kind_fits kind = true

abbrev found_fits : Option TokKind → Bool
found_fits None = true
found_fits (Some kind) = kind_fits kind

abbrev role_fits : Role → Bool
role_fits nothing = true
role_fits (token kind) = kind_fits kind
role_fits (refused f) = true

said_fits : (f : TokFault) (o : Option TokKind) → found_fits o ≡ true → role_fits (token_or f o) ≡ true
said_fits f None h = refl
said_fits f (Some kind) h = h

table_fits : (table : List (List ℕ × TokKind)) (text : List ℕ) → list_all (λ entry. kind_fits entry.1) table ≡ true → found_fits (found table text) ≡ true
table_fits [] text h = refl
table_fits (entry ∷ table) text h =
    elim (bytes_eq entry.0 text) as (λ v. found_fits (cond v (Some entry.1) (found table text)) ≡ true) [
      | true ↦ (and_parts (kind_fits entry.1) (list_all (λ en. kind_fits en.1) table) h).0
      | false ↦ table_fits table text ((and_parts (kind_fits entry.1) (list_all (λ en. kind_fits en.1) table) h).1)
    ]

name_fits : (o : Option TokKind) → found_fits o ≡ true → kind_fits (name_or o) ≡ true
name_fits None h = refl
name_fits (Some kind) h = h

guarded : (b : Bool) (kind : TokKind) → (b ≡ true → kind_fits kind ≡ true) → found_fits (cond b (Some kind) None) ≡ true
guarded true kind h = h refl
guarded false kind h = refl

role_at_fits : (from : ℕ) (p : Piece) → role_fits (role_at from p) ≡ true
unfolding reserved directive symbol
role_at_fits from (word text) = said_fits (fault.LongWord from) (word_kind text) (guarded (nat_le (length text) 64) (name_or (found words text)) (λ h. name_fits (found words text) (table_fits words text refl)))
role_at_fits from (whole text) = said_fits (fault.WideLiteral from) (whole_kind text) (guarded (nat_le (digits_value 10 text) 9223372036854775807) (k.Int (pos (digits_value 10 text))) (λ h. h))
role_at_fits from (fraction text decimals) =
    let n : ℕ = millionths text decimals in
    said_fits (fault.WideLiteral from) (fixed_kind text decimals) (guarded (nat_le (length decimals) 6 && nat_le n 9223372036854775807) (k.Fixed (pos n)) (λ h. (and_parts (nat_le (length decimals) 6) (nat_le n 9223372036854775807) h).1))
role_at_fits from (hash text) = said_fits (fault.BadByte from) (found directives text) (table_fits directives text refl)
role_at_fits from (sign text) = said_fits (fault.BadByte from) (found symbols text) (table_fits symbols text refl)
role_at_fits from _ = refl

abbrev fits : Token → Bool
fits tok = kind_fits tok.kind

token_fits : (from to : ℕ) (said : Role) (toks : List Token) → role_fits said ≡ true → list_all fits toks ≡ true → list_all fits (token_at from to said ++ toks) ≡ true
token_fits from to nothing toks h hs = hs
token_fits from to (token kind) toks h hs = and_from (kind_fits kind) (list_all fits toks) h hs
token_fits from to (refused f) toks h hs = hs

row_fits : (from : ℕ) (row : List Piece) → list_all fits (tokens_from from row) ≡ true
row_fits from [] = refl
row_fits from (p ∷ row) = token_fits from (from + length (bytes_of p)) (role_at from p) _ (role_at_fits from p) (row_fits (from + length (bytes_of p)) row)

-- where it is a word its text is a name, where it is a literal its number is one
abbrev kind_sound : List ℕ → TokKind → Bool
kind_sound text k.Word = is_name text
kind_sound text (k.Int z) = fits_word z
kind_sound text (k.Fixed z) = fits_word z
kind_sound text kind = true

abbrev Sounds : List ℕ → List Token → Type 0
Sounds src [] = Unit {0}
Sounds src (tok ∷ toks) = (kind_sound (text_at src tok) tok.kind ≡ true) × Sounds src toks

kind_is_sound : (text : List ℕ) (kind : TokKind) → (kind ≡ k.Word → IsTrue (is_name text)) → kind_fits kind ≡ true → kind_sound text kind ≡ true
kind_is_sound text k.Word n h = n refl
kind_is_sound text (k.Int z) n h = h
kind_is_sound text (k.Fixed z) n h = h
kind_is_sound text kind n h = refl

sounds_of : (src : List ℕ) (toks : List Token) → All (IsNamed src) toks → list_all fits toks ≡ true → Sounds src toks
sounds_of src [] n h = tt
sounds_of src (tok ∷ toks) n h = (
  kind_is_sound (text_at src tok) tok.kind (All-head (IsNamed src) tok toks n) ((and_parts (fits tok) (list_all fits toks) h).0),
  sounds_of src toks (All-rest (IsNamed src) tok toks (tok ∷ toks) refl n) ((and_parts (fits tok) (list_all fits toks) h).1),
)

spells_sounds : (src : List ℕ) (toks : List Token) → Spells src toks → Sounds src toks
spells_sounds src toks (row, e, ok, t) = sounds_of src toks (spells_names src toks (row, e, ok, t)) (ap (λ (z : List Token). list_all fits z) t ∙ row_fits 0 row)

left : (src : List ℕ) (a b : List Token) → Sounds src (a ++ b) → Sounds src a
left src [] b h = tt
left src (tok ∷ a) b (h, hs) = (h, left src a b hs)

right : (src : List ℕ) (a b : List Token) → Sounds src (a ++ b) → Sounds src b
right src [] b h = h
right src (tok ∷ a) b (h, hs) = right src a b hs

-- what tokens say
name_sound : (src : List ℕ) (tok : Token) → Is k.Word tok → kind_sound (text_at src tok) tok.kind ≡ true → is_name (text_at src tok) ≡ true
name_sound src tok is h = sym (ap (kind_sound (text_at src tok)) is) ∙ h

number_sound_at : (text : List ℕ) (from : ℕ) (kind : TokKind) (n : Number) → number_at from kind ≡ Some n → kind_sound text kind ≡ true → digits_are n.digits ≡ true
number_sound_at text from (k.Int z) n is h = sym (ap (λ (m : Number). digits_are m.digits) (same_Some _ _ is)) ∙ h
number_sound_at text from (k.Fixed z) n is h = sym (ap (λ (m : Number). digits_are m.digits) (same_Some _ _ is)) ∙ h
number_sound_at text from kind n is h = absurd (cc)

number_sound : (src : List ℕ) (tok : Token) (n : Number) → number tok ≡ Some n → kind_sound (text_at src tok) tok.kind ≡ true → digits_are n.digits ≡ true
number_sound src tok n is h = number_sound_at (text_at src tok) tok.from tok.kind n is h

type_sound_at : (name : Ident) (kind : TokKind) (t : TyName) → type_at name kind ≡ Some t → kind_sound name.text kind ≡ true → type_is t ≡ true
type_sound_at name k.KwInt t is h = sym (ap type_is (same_Some _ _ is))
type_sound_at name k.KwFixed t is h = sym (ap type_is (same_Some _ _ is))
type_sound_at name k.KwBool t is h = sym (ap type_is (same_Some _ _ is))
type_sound_at name k.Word t is h = sym (ap type_is (same_Some _ _ is)) ∙ h
type_sound_at name kind t is h = absurd (cc)

type_sound : (src : List ℕ) (tok : Token) (t : TyName) → type_name src tok ≡ Some t → kind_sound (text_at src tok) tok.kind ≡ true → type_is t ≡ true
type_sound src tok t is h = type_sound_at (ident src tok) tok.kind t is h

-- expressions
sound_expr : (x : expr.ExprTree-F ExprTree) (t : ExprTree) → roll-ExprTree x ≡ t → expr_sound_step (map-ExprTree ExprTree Bool expr_sound x) ≡ true → expr_sound t ≡ true
sound_expr x t h done = ap expr_sound (sym h) ∙ (fold-roll-ExprTree Bool expr_sound_step x ∙ done)

expr_reading : (src : List ℕ) (r : g.Row) (toks : List Token) (x : ExprTree) → ReadsExpr src r toks x → Sounds src toks → expr_sound x ≡ true
expr_reading src _ _ _ (g.alone row inner a x e r) h = expr_reading src inner a x r h
expr_reading src _ _ _ (g.joined row inner a b op name x y e e' r r') h =
    sound_expr (expr.Binary name x y op.from) _ (node.rolls-Binary name x y op.from)
    (and_from (expr_sound x) (expr_sound y) (expr_reading src row a x r (left src a (op ∷ b) h)) (expr_reading src inner b y r' (right src a (op ∷ b) h).1))
expr_reading src _ _ _ (g.compared a b op name x y e r r') h =
    sound_expr (expr.Binary name x y op.from) _ (node.rolls-Binary name x y op.from)
    (and_from (expr_sound x) (expr_sound y) (expr_reading src g.sums a x r (left src a (op ∷ b) h)) (expr_reading src g.sums b y r' (right src a (op ∷ b) h).1))
expr_reading src _ _ _ (g.chosen a b c question colon w x y e e' r r' r'') h =
    let front : Sounds src (a ++ (question ∷ b)) = left src (a ++ (question ∷ b)) (colon ∷ c) h in
    sound_expr (expr.Choice w x y question.from) _ (node.rolls-Choice w x y question.from)
    (and_from (expr_sound w && expr_sound x) (expr_sound y)
    (and_from (expr_sound w) (expr_sound x) (expr_reading src g.ors a w r (left src a (question ∷ b) front)) (expr_reading src g.choices b x r' (right src a (question ∷ b) front).1))
    (expr_reading src g.choices c y r'' (right src (a ++ (question ∷ b)) (colon ∷ c) h).1))
expr_reading src _ _ _ (g.prefix a op name x e r) h = sound_expr (expr.Unary name x op.from) _ (node.rolls-Unary name x op.from) (expr_reading src g.prefixed a x r h.1)
expr_reading src _ _ _ (g.literal tok n e) h = sound_expr (expr.Lit n) _ (node.rolls-Lit n) (number_sound src tok n e h.0)
expr_reading src _ _ _ (g.truth tok e) h = sound_expr (expr.True tok.from) _ (node.rolls-True tok.from) refl
expr_reading src _ _ _ (g.falsity tok e) h = sound_expr (expr.False tok.from) _ (node.rolls-False tok.from) refl
expr_reading src _ _ _ (g.enclosed a opening closing x e e' r) h = expr_reading src g.choices a x r (left src a (closing ∷ []) h.1)
expr_reading src _ _ _ (g.of_this this dot name e e' e'') h = sound_expr (expr.OfThis (ident src name) this.from) _ (node.rolls-OfThis (ident src name) this.from) (name_sound src name e'' h.1.1.0)
expr_reading src _ _ _ (g.named name e) h = sound_expr (expr.Name (ident src name)) _ (node.rolls-Name (ident src name)) (name_sound src name e h.0)
expr_reading src _ _ _ (g.of_loop loop dot name e e' e'') h =
    sound_expr (expr.OfLoop (ident src loop) (ident src name)) _ (node.rolls-OfLoop (ident src loop) (ident src name))
    (and_from (is_name (text_at src loop)) (is_name (text_at src name)) (name_sound src loop e h.0) (name_sound src name e'' h.1.1.0))
expr_reading src _ _ _ (g.called_one a w opening closing name x e e' e'' r) h =
    sound_expr (expr.Unary name x w.from) _ (node.rolls-Unary name x w.from) (expr_reading src g.choices a x r (left src a (closing ∷ []) h.1.1))
expr_reading src _ _ _ (g.called_two a b w opening comma closing name x y e e' e'' e''' r r') h =
    let inner : Sounds src (a ++ (comma ∷ b)) = left src (a ++ (comma ∷ b)) (closing ∷ []) h.1.1 in
    sound_expr (expr.Binary name x y w.from) _ (node.rolls-Binary name x y w.from)
    (and_from (expr_sound x) (expr_sound y) (expr_reading src g.choices a x r (left src a (comma ∷ b) inner)) (expr_reading src g.choices b y r' (right src a (comma ∷ b) inner).1))
expr_reading src _ _ _ (g.random w opening closing e e' e'') h = sound_expr (expr.Rand w.from) _ (node.rolls-Rand w.from) refl

-- statements
sound_stmt : (x : stmt.StmtTree-F StmtTree) (t : StmtTree) → roll-StmtTree x ≡ t → stmt_sound_step (map-StmtTree StmtTree Bool stmt_sound x) ≡ true → stmt_sound t ≡ true
sound_stmt x t h done = ap stmt_sound (sym h) ∙ (fold-roll-StmtTree Bool stmt_sound_step x ∙ done)

abbrev sound_block : List StmtTree → Bool
sound_block xs = all_sound (map stmt_sound xs)

mutual
  stmt_reading : (src : List ℕ) (toks : List Token) (x : StmtTree) → ReadsStmt src toks x → Sounds src toks → stmt_sound x ≡ true
  stmt_reading src _ _ (g.const a w type name equals semicolon t x e e' e'' e3 e4 r) h =
      sound_stmt (stmt.Const t (ident src name) x w.from) _ (s.rolls-Const t (ident src name) x w.from)
      (and_from (type_is t && is_name (text_at src name)) (expr_sound x) (and_from (type_is t) (is_name (text_at src name)) (type_sound src type t e' h.1.0) (name_sound src name e'' h.1.1.0))
      (expr_reading src g.choices a x r (left src a (semicolon ∷ []) h.1.1.1.1)))
  stmt_reading src _ _ (g.when a b w opening closing x block e e' e'' r rb) h =
      sound_stmt (stmt.If x block None w.from) _ (s.rolls-If x block None w.from)
      (and_from (expr_sound x && sound_block block) true (and_from (expr_sound x) (sound_block block) (expr_reading src g.choices a x r (left src a (closing ∷ b) h.1.1)) (block_reading src b block rb (right src a (closing ∷ b) h.1.1).1)) refl)
  stmt_reading src _ _ (g.either_way a b c w opening closing otherwise x block other e e' e'' e3 r rb rc) h =
      let front : Sounds src (a ++ (closing ∷ b)) = left src (a ++ (closing ∷ b)) (otherwise ∷ c) h.1.1 in
      sound_stmt (stmt.If x block (Some other) w.from) _ (s.rolls-If x block (Some other) w.from)
      (and_from (expr_sound x && sound_block block) (sound_block other)
      (and_from (expr_sound x) (sound_block block) (expr_reading src g.choices a x r (left src a (closing ∷ b) front)) (block_reading src b block rb (right src a (closing ∷ b) front).1))
      (block_reading src c other rc (right src (a ++ (closing ∷ b)) (otherwise ∷ c) h.1.1).1))
  stmt_reading src _ _ (g.foreach a w opening class variable colon extent less other greater closing block e e1 e2 e3 e4 e5 e6 e7 e8 e9 r) h =
      sound_stmt (stmt.Foreach (ident src class) (ident src variable) (ident src other) block w.from) _ (s.rolls-Foreach (ident src class) (ident src variable) (ident src other) block w.from)
      (and_from (is_name (text_at src class) && is_name (text_at src variable) && is_name (text_at src other)) (sound_block block)
      (and_from (is_name (text_at src class) && is_name (text_at src variable)) (is_name (text_at src other))
      (and_from (is_name (text_at src class)) (is_name (text_at src variable)) (name_sound src class e2 h.1.1.0) (name_sound src variable e3 h.1.1.1.0)) (name_sound src other e7 h.1.1.1.1.1.1.1.0))
      (block_reading src a block r h.1.1.1.1.1.1.1.1.1.1))
  stmt_reading src _ _ (g.assign_this a this dot name arrow semicolon x e e1 e2 e3 e4 r) h =
      sound_stmt (stmt.AssignThis (ident src name) x this.from) _ (s.rolls-AssignThis (ident src name) x this.from)
      (and_from (is_name (text_at src name)) (expr_sound x) (name_sound src name e2 h.1.1.0) (expr_reading src g.choices a x r (left src a (semicolon ∷ []) h.1.1.1.1)))
  stmt_reading src _ _ (g.assign a name arrow semicolon x e e1 e2 r) h =
      sound_stmt (stmt.Assign (ident src name) x) _ (s.rolls-Assign (ident src name) x)
      (and_from (is_name (text_at src name)) (expr_sound x) (name_sound src name e h.0) (expr_reading src g.choices a x r (left src a (semicolon ∷ []) h.1.1)))
  stmt_reading src _ _ (g.assign_loop a loop dot name arrow semicolon x e e1 e2 e3 e4 r) h =
      sound_stmt (stmt.AssignLoop (ident src loop) (ident src name) x) _ (s.rolls-AssignLoop (ident src loop) (ident src name) x)
      (and_from (is_name (text_at src loop) && is_name (text_at src name)) (expr_sound x)
      (and_from (is_name (text_at src loop)) (is_name (text_at src name)) (name_sound src loop e h.0) (name_sound src name e2 h.1.1.0)) (expr_reading src g.choices a x r (left src a (semicolon ∷ []) h.1.1.1.1)))

  stmts_reading : (src : List ℕ) (toks : List Token) (xs : List StmtTree) → ReadsStmts src toks xs → Sounds src toks → sound_block xs ≡ true
  stmts_reading src _ _ g.none h = refl
  stmts_reading src _ _ (g.more a b x xs r rs) h = and_from (stmt_sound x) (sound_block xs) (stmt_reading src a x r (left src a b h)) (stmts_reading src b xs rs (right src a b h))

  block_reading : (src : List ℕ) (toks : List Token) (xs : List StmtTree) → ReadsBlock src toks xs → Sounds src toks → sound_block xs ≡ true
  block_reading src _ _ (g.braced a opening closing xs e e' rs) h = stmts_reading src a xs rs (left src a (closing ∷ []) h.1)

-- members, classes and scripts
field_reading : (src : List ℕ) (shared : Bool) (at : ℕ) (toks : List Token) (x : MemberTree) → ReadsField src shared at toks x → Sounds src toks → member_sound x ≡ true
field_reading src shared at _ _ (g.state w type name semicolon t e e1 e2 e3) h =
    and_from (type_is t && is_name (text_at src name)) true (and_from (type_is t) (is_name (text_at src name)) (type_sound src type t e1 h.1.0) (name_sound src name e2 h.1.1.0)) refl
field_reading src shared at _ _ (g.ruled a w type name colon semicolon t x e e1 e2 e3 e4 r) h =
    and_from (type_is t && is_name (text_at src name)) (expr_sound x) (and_from (type_is t) (is_name (text_at src name)) (type_sound src type t e1 h.1.0) (name_sound src name e2 h.1.1.0))
    (expr_reading src g.choices a x r (left src a (semicolon ∷ []) h.1.1.1.1))
field_reading src shared at _ _ (g.effect w type name colon joins semicolon t c e e1 e2 e3 e4 e5) h = and_from (type_is t) (is_name (text_at src name)) (type_sound src type t e1 h.1.0) (name_sound src name e2 h.1.1.0)

gift_reading : (src : List ℕ) (toks : List Token) (x : GiftTree) → ReadsGift src toks x → Sounds src toks → gift_sound x ≡ true
gift_reading src _ _ (g.gift a name arrow semicolon x e e1 e2 r) h =
    and_from (is_name (text_at src name)) (expr_sound x) (name_sound src name e h.0) (expr_reading src g.choices a x r (left src a (semicolon ∷ []) h.1.1))

gifts_reading : (src : List ℕ) (toks : List Token) (xs : List GiftTree) → ReadsGifts src toks xs → Sounds src toks → list_all gift_sound xs ≡ true
gifts_reading src _ _ g.none h = refl
gifts_reading src _ _ (g.more a b x xs r rs) h =
    and_from (gift_sound x) (list_all gift_sound xs) (gift_reading src a x r (left src a b h)) (gifts_reading src b xs rs (right src a b h))

member_reading : (src : List ℕ) (toks : List Token) (x : MemberTree) → ReadsMember src toks x → Sounds src toks → member_sound x ≡ true
member_reading src _ _ (g.visible w opening range closing semicolon n e e1 e2 e3 e4) h = number_sound src range n e2 h.1.1.0
member_reading src _ _ (g.reach w opening range closing semicolon n e e1 e2 e3 e4) h = number_sound src range n e2 h.1.1.0
member_reading src _ _ (g.public a w x e r) h = field_reading src true w.from a x r h.1
member_reading src _ _ (g.private a w x e r) h = field_reading src false w.from a x r h.1
member_reading src _ _ (g.run a w void run opening closing block e e1 e2 e3 e4 r) h = block_reading src a block r h.1.1.1.1.1
member_reading src _ _ (g.die a w when semicolon x e e1 e2 r) h = expr_reading src g.choices a x r (left src a (semicolon ∷ []) h.1.1)
member_reading src _ _ (g.spawn a b w when opening closing x gifts e e1 e2 e3 r rs) h =
    let front : Sounds src (a ++ (opening ∷ b)) = left src (a ++ (opening ∷ b)) (closing ∷ []) h.1.1 in
    and_from (expr_sound x) (list_all gift_sound gifts) (expr_reading src g.choices a x r (left src a (opening ∷ b) front))
    (gifts_reading src b gifts rs (right src a (opening ∷ b) front).1)

members_reading : (src : List ℕ) (toks : List Token) (xs : List MemberTree) → ReadsMembers src toks xs → Sounds src toks → list_all member_sound xs ≡ true
members_reading src _ _ g.none h = refl
members_reading src _ _ (g.more a b x xs r rs) h = and_from (member_sound x) (list_all member_sound xs) (member_reading src a x r (left src a b h)) (members_reading src b xs rs (right src a b h))

class_reading : (src : List ℕ) (toks : List Token) (x : ClassTree) → ReadsClass src toks x → Sounds src toks → class_sound x ≡ true
class_reading src _ _ (g.class a w name opening closing members e e1 e2 e3 r) h =
    and_from (is_name (text_at src name)) (list_all member_sound members) (name_sound src name e1 h.1.0) (members_reading src a members r (left src a (closing ∷ []) h.1.1.1))

classes_reading : (src : List ℕ) (toks : List Token) (xs : List ClassTree) → ReadsClasses src toks xs → Sounds src toks → (nat_le 1 (length xs) && list_all class_sound xs) ≡ true
classes_reading src _ _ (g.last a x r) h = and_from (class_sound x) true (class_reading src a x r h) refl
classes_reading src _ _ (g.more a b x xs r rs) h =
    and_from (nat_le 1 (length (x ∷ xs))) (class_sound x && list_all class_sound xs) (le-leb 1 (length (x ∷ xs)) (omega arith))
    (and_from (class_sound x) (list_all class_sound xs) (class_reading src a x r (left src a b h)) ((and_parts (nat_le 1 (length xs)) (list_all class_sound xs) (classes_reading src b xs rs (right src a b h))).1))

pub readings_are_sound : (src : List ℕ) (toks : List Token) (tree : Tree) → Spells src toks → Reads src toks tree → script_sound tree ≡ true
readings_are_sound src toks tree spelled read = classes_reading src toks tree.classes read (spells_sounds src toks spelled)
