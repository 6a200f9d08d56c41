-- The rows of statements find what the grammar reads.
use Rattle.std.proofs.Common.{◌≡◌, refl, sym, ap, ◌∙◌, ℕ, zero, suc, ◌+◌, ◌<◌, ◌≤◌, List, [], ◌∷◌, ◌++◌, length, false, arith, append_assoc, length-append}
use Rattle.std.specs.Prelude.{Some, None, Ok}
use Rattle.std.proofs.lemmas.Option.{same_Some}
use Rattle.std.proofs.lemmas.List.{append-nil}
use Rattle.brace_tok.specs.declared.kinds.Token.{Token}
use Rattle.brace_tok.specs.declared.kinds.TokKind.{TokKind}
use Rattle.brace_tok.specs.declared.kinds.TokKind.TheVariants as k
use Rattle.brace_syntax.specs.declared.mark.Mark.{Mark}
use Rattle.brace_syntax.specs.declared.mark.Mark.TheVariants as m
use Rattle.brace_syntax.specs.declared.tree.TyName.{TyName}
use Rattle.brace_syntax.specs.declared.tree.ExprTree.{ExprTree}
use Rattle.brace_syntax.specs.declared.tree.StmtTree.{StmtTree}
use Rattle.brace_syntax.specs.declared.tree.StmtTree.TheVariants as stmt
use Rattle.brace_syntax.specs.Tables.{Is, ident, type_name}
use Rattle.brace_syntax.specs.inner.Cursor.{Parser, Outcome, kind, next, place, first, sees, mark_of}
use Rattle.brace_syntax.specs.Reads as g
use Rattle.brace_syntax.specs.Reads.{ReadsExpr, ReadsStmt, ReadsStmts, ReadsBlock}
use Rattle.brace_syntax.specs.inner.Descent as d
use Rattle.brace_syntax.proofs.Inversions.{not_eaten}
use Rattle.brace_syntax.proofs.Forward.{at, then_, if_true, if_false, sees_it, sees_no_mark, after_it, expects, names, types}
use Rattle.brace_syntax.proofs.Levels.{begins, not_next, not_seen}
use Rattle.brace_syntax.proofs.ExprFound.{shut, inner_length, expression-found}

abbrev pub FindsBlock : List ℕ → ℕ → Parser (List StmtTree) → Type 0
FindsBlock src bound p = (a rest : List Token) (xs : List StmtTree) → length a ≤ bound → ReadsBlock src a xs → p (at src (a ++ rest)) ≡ Ok (xs, at src rest)

pub assigned-found : (src : List ℕ) (a rest : List Token) (arrow semicolon : Token) (x : ExprTree) → Is k.Arrow arrow → Is k.Semicolon semicolon → ReadsExpr src g.choices a x
    → d.assigned (at src (arrow ∷ ((a ++ semicolon ∷ []) ++ rest))) ≡ Ok (x, at src rest)
unfolding d.assigned
assigned-found src a rest arrow semicolon x h h' r =
    then_ _ _ _ _ _ (expects m.Arrow src arrow ((a ++ semicolon ∷ []) ++ rest) h)
    (then_ _ _ _ _ _ (ap (λ (z : List Token). d.expression (at src z)) (shut a semicolon rest) ∙ expression-found src a (semicolon ∷ rest) x (begins k.Semicolon semicolon rest 7 h' (omega arith)) r)
    (then_ _ _ _ _ _ (expects m.Semicolon src semicolon rest h') refl))

constant-found : (src : List ℕ) (a rest : List Token) (word type name equals semicolon : Token) (t : TyName) (x : ExprTree) → type_name src type ≡ Some t → Is k.Word name → Is k.Assign equals → Is k.Semicolon semicolon → ReadsExpr src g.choices a x
    → d.constant (at src ((word ∷ type ∷ name ∷ equals ∷ a ++ semicolon ∷ []) ++ rest)) ≡ Ok (stmt.Const t (ident src name) x word.from, at src rest)
unfolding d.constant place next first
constant-found src a rest word type name equals semicolon t x ht hn he hs r =
    then_ _ _ _ _ _ (types src type (name ∷ equals ∷ ((a ++ semicolon ∷ []) ++ rest)) t ht)
    (then_ _ _ _ _ _ (names src name (equals ∷ ((a ++ semicolon ∷ []) ++ rest)) hn)
    (then_ _ _ _ _ _ (expects m.Assign src equals ((a ++ semicolon ∷ []) ++ rest) he)
    (then_ _ _ _ _ _ (ap (λ (z : List Token). d.expression (at src z)) (shut a semicolon rest) ∙ expression-found src a (semicolon ∷ rest) x (begins k.Semicolon semicolon rest 7 hs (omega arith)) r)
    (then_ _ _ _ _ _ (expects m.Semicolon src semicolon rest hs) refl))))

assign_this-found : (src : List ℕ) (a rest : List Token) (this dot name arrow semicolon : Token) (x : ExprTree) → Is k.Dot dot → Is k.Word name → Is k.Arrow arrow → Is k.Semicolon semicolon → ReadsExpr src g.choices a x
    → d.assign_this (at src ((this ∷ dot ∷ name ∷ arrow ∷ a ++ semicolon ∷ []) ++ rest)) ≡ Ok (stmt.AssignThis (ident src name) x this.from, at src rest)
unfolding d.assign_this place next first
assign_this-found src a rest this dot name arrow semicolon x hd hn ha hs r =
    then_ _ _ _ _ _ (expects m.Dot src dot (name ∷ arrow ∷ ((a ++ semicolon ∷ []) ++ rest)) hd)
    (then_ _ _ _ _ _ (names src name (arrow ∷ ((a ++ semicolon ∷ []) ++ rest)) hn)
    (then_ _ _ _ _ _ (assigned-found src a rest arrow semicolon x ha hs r) refl))

no_dot : (src : List ℕ) (arrow : Token) (rest : List Token) → Is k.Arrow arrow → sees m.Dot (at src (arrow ∷ rest)) ≡ false
no_dot src arrow rest h = not_next m.Dot src (arrow ∷ rest) (begins k.Arrow arrow rest 1 h (omega arith))

assign-found : (src : List ℕ) (a rest : List Token) (name arrow semicolon : Token) (x : ExprTree) → Is k.Word name → Is k.Arrow arrow → Is k.Semicolon semicolon → ReadsExpr src g.choices a x
    → d.assign (at src ((name ∷ arrow ∷ a ++ semicolon ∷ []) ++ rest)) ≡ Ok (stmt.Assign (ident src name) x, at src rest)
unfolding d.assign
assign-found src a rest name arrow semicolon x hn ha hs r =
    let free = no_dot src arrow ((a ++ semicolon ∷ []) ++ rest) ha in
    then_ _ _ _ _ _ (names src name (arrow ∷ ((a ++ semicolon ∷ []) ++ rest)) hn)
    (if_false _ _ _ _ _ _ free (not_eaten m.Dot (at src (arrow ∷ ((a ++ semicolon ∷ []) ++ rest))) free)
    (then_ _ _ _ _ _ (assigned-found src a rest arrow semicolon x ha hs r) refl))

assign_loop-found : (src : List ℕ) (a rest : List Token) (loop dot name arrow semicolon : Token) (x : ExprTree) → Is k.Word loop → Is k.Dot dot → Is k.Word name → Is k.Arrow arrow → Is k.Semicolon semicolon → ReadsExpr src g.choices a x
    → d.assign (at src ((loop ∷ dot ∷ name ∷ arrow ∷ a ++ semicolon ∷ []) ++ rest)) ≡ Ok (stmt.AssignLoop (ident src loop) (ident src name) x, at src rest)
unfolding d.assign
assign_loop-found src a rest loop dot name arrow semicolon x hl hd hn ha hs r =
    let left : List Token = name ∷ arrow ∷ ((a ++ semicolon ∷ []) ++ rest) in
    then_ _ _ _ _ _ (names src loop (dot ∷ name ∷ arrow ∷ ((a ++ semicolon ∷ []) ++ rest)) hl)
    (if_true _ _ _ _ _ _ (sees_it m.Dot src dot left hd) (after_it m.Dot src dot left hd)
    (then_ _ _ _ _ _ (names src name (arrow ∷ ((a ++ semicolon ∷ []) ++ rest)) hn)
    (then_ _ _ _ _ _ (assigned-found src a rest arrow semicolon x ha hs r) refl)))

condition-found : (src : List ℕ) (a rest : List Token) (opening closing : Token) (x : ExprTree) → Is k.OpenParen opening → Is k.CloseParen closing → ReadsExpr src g.choices a x
    → d.condition (at src (opening ∷ (a ++ closing ∷ rest))) ≡ Ok (x, at src rest)
unfolding d.condition
condition-found src a rest opening closing x h h' r =
    then_ _ _ _ _ _ (expects m.OpenParen src opening (a ++ closing ∷ rest) h)
    (then_ _ _ _ _ _ (expression-found src a (closing ∷ rest) x (begins k.CloseParen closing rest 7 h' (omega arith)) r)
    (then_ _ _ _ _ _ (expects m.CloseParen src closing rest h') refl))

ranging-found : (src : List ℕ) (rest : List Token) (word opening class variable colon extent less other greater closing : Token)
    → Is k.OpenParen opening → Is k.Word class → Is k.Word variable → Is k.Colon colon → Is k.KwExtent extent → Is k.Less less → Is k.Word other → Is k.Greater greater → Is k.CloseParen closing
    → d.ranging (at src (word ∷ opening ∷ class ∷ variable ∷ colon ∷ extent ∷ less ∷ other ∷ greater ∷ closing ∷ rest))
    ≡ Ok (record { class = ident src class; variable = ident src variable; other = ident src other; at = word.from }, at src rest)
unfolding d.ranging place next first
ranging-found src rest word opening class variable colon extent less other greater closing ho hc hv hcolon he hl h2 hg h =
    then_ _ _ _ _ _ (expects m.OpenParen src opening (class ∷ variable ∷ colon ∷ extent ∷ less ∷ other ∷ greater ∷ closing ∷ rest) ho)
    (then_ _ _ _ _ _ (names src class (variable ∷ colon ∷ extent ∷ less ∷ other ∷ greater ∷ closing ∷ rest) hc)
    (then_ _ _ _ _ _ (names src variable (colon ∷ extent ∷ less ∷ other ∷ greater ∷ closing ∷ rest) hv)
    (then_ _ _ _ _ _ (expects m.Colon src colon (extent ∷ less ∷ other ∷ greater ∷ closing ∷ rest) hcolon)
    (then_ _ _ _ _ _ (expects m.Extent src extent (less ∷ other ∷ greater ∷ closing ∷ rest) he)
    (then_ _ _ _ _ _ (expects m.Less src less (other ∷ greater ∷ closing ∷ rest) hl)
    (then_ _ _ _ _ _ (names src other (greater ∷ closing ∷ rest) h2)
    (then_ _ _ _ _ _ (expects m.Greater src greater (closing ∷ rest) hg)
    (then_ _ _ _ _ _ (expects m.CloseParen src closing rest h) refl))))))))

-- a statement begins with no mark
starts : (src : List ℕ) (wanted : Mark) (a rest : List Token) (x : StmtTree) → ReadsStmt src a x → sees wanted (at src (a ++ rest)) ≡ false
starts src wanted _ rest _ (g.const a word type name equals semicolon t x e _ _ _ _ _) = sees_no_mark wanted src word _ (ap mark_of e)
starts src wanted _ rest _ (g.when a b word opening closing x block e _ _ _ _) = sees_no_mark wanted src word _ (ap mark_of e)
starts src wanted _ rest _ (g.either_way a b c word opening closing otherwise x block other e _ _ _ _ _ _) = sees_no_mark wanted src word _ (ap mark_of e)
starts src wanted _ rest _ (g.foreach a word opening class variable colon extent less other greater closing block e _ _ _ _ _ _ _ _ _ _) = sees_no_mark wanted src word _ (ap mark_of e)
starts src wanted _ rest _ (g.assign_this a this dot name arrow semicolon x e _ _ _ _ _) = sees_no_mark wanted src this _ (ap mark_of e)
starts src wanted _ rest _ (g.assign a name arrow semicolon x e _ _ _) = sees_no_mark wanted src name _ (ap mark_of e)
starts src wanted _ rest _ (g.assign_loop a loop dot name arrow semicolon x e _ _ _ _ _) = sees_no_mark wanted src loop _ (ap mark_of e)

pub some_tokens : (src : List ℕ) (a : List Token) (x : StmtTree) → ReadsStmt src a x → 0 < length a
some_tokens src _ _ (g.const a word type name equals semicolon t x _ _ _ _ _ _) = omega arith
some_tokens src _ _ _ = omega arith

no_else_kind : (src : List ℕ) (closing : Token) (rest : List Token) → Is k.CloseBrace closing → kind (at src (closing ∷ rest)) ≡ Some k.KwElse → ⊥
unfolding kind first
no_else_kind src closing rest h e = let q : closing.kind ≡ k.KwElse = same_Some _ _ e in cc

no_else : (src : List ℕ) (b rest : List Token) (closing : Token) (xs : List StmtTree) → Is k.CloseBrace closing → ReadsStmts src b xs → sees m.Else (at src (b ++ closing ∷ rest)) ≡ false
no_else src _ rest closing _ h g.none = not_seen m.Else (at src (closing ∷ rest)) (no_else_kind src closing rest h)
no_else src _ rest closing _ h (g.more a b x xs r rs) = ap (λ (z : List Token). sees m.Else (at src z)) (append_assoc a b (closing ∷ rest)) ∙ starts src m.Else a (b ++ closing ∷ rest) x r

module _ (src : List ℕ) (depth : ℕ) (block : Parser (List StmtTree)) (hb : FindsBlock src depth block) where
  when-found : (a b rest : List Token) (word opening closing : Token) (x : ExprTree) (xs : List StmtTree) → Is k.OpenParen opening → Is k.CloseParen closing → ReadsExpr src g.choices a x → length b ≤ depth → ReadsBlock src b xs
      → sees m.Else (at src rest) ≡ false → d.when block (at src ((word ∷ opening ∷ a ++ closing ∷ b) ++ rest)) ≡ Ok (stmt.If x xs None word.from, at src rest)
  unfolding d.when place next first
  when-found a b rest word opening closing x xs h h' r l rb free =
      then_ _ _ _ _ _ (ap (λ (z : List Token). d.condition (at src (opening ∷ z))) (append_assoc a (closing ∷ b) rest) ∙ condition-found src a (b ++ rest) opening closing x h h' r)
      (then_ _ _ _ _ _ (hb b rest xs l rb)
      (if_false _ _ _ _ _ _ free (not_eaten m.Else (at src rest) free) refl))

  either_way-found : (a b c rest : List Token) (word opening closing otherwise : Token) (x : ExprTree) (xs ys : List StmtTree) → Is k.OpenParen opening → Is k.CloseParen closing → Is k.KwElse otherwise → ReadsExpr src g.choices a x
      → length b ≤ depth → length c ≤ depth → ReadsBlock src b xs → ReadsBlock src c ys
      → d.when block (at src ((word ∷ opening ∷ a ++ closing ∷ b ++ otherwise ∷ c) ++ rest)) ≡ Ok (stmt.If x xs (Some ys) word.from, at src rest)
  unfolding d.when place next first
  either_way-found a b c rest word opening closing otherwise x xs ys h h' h'' r l l' rb rc =
      let cut : ((a ++ closing ∷ b) ++ otherwise ∷ c) ++ rest ≡ a ++ (closing ∷ (b ++ (otherwise ∷ (c ++ rest)))) = append_assoc (a ++ closing ∷ b) (otherwise ∷ c) rest ∙ append_assoc a (closing ∷ b) (otherwise ∷ c ++ rest) in
      then_ _ _ _ _ _ (ap (λ (z : List Token). d.condition (at src (opening ∷ z))) cut ∙ condition-found src a (b ++ (otherwise ∷ (c ++ rest))) opening closing x h h' r)
      (then_ _ _ _ _ _ (hb b (otherwise ∷ (c ++ rest)) xs l rb)
      (if_true _ _ _ _ _ _ (sees_it m.Else src otherwise (c ++ rest) h'') (after_it m.Else src otherwise (c ++ rest) h'')
      (then_ _ _ _ _ _ (hb c rest ys l' rc) refl)))

  statement_at : (what : TokKind) (tok : Token) (rest : List Token) (r : Outcome StmtTree) → Is what tok → d.statement_by block (Some what) (at src (tok ∷ rest)) ≡ r → d.statement block (at src (tok ∷ rest)) ≡ r
  unfolding d.statement kind first
  statement_at what tok rest r h e = ap (λ (z : TokKind). d.statement_by block (Some z) (at src (tok ∷ rest))) h ∙ e

  foreach-found : (a rest : List Token) (word opening class variable colon extent less other greater closing : Token) (xs : List StmtTree)
      → Is k.OpenParen opening → Is k.Word class → Is k.Word variable → Is k.Colon colon → Is k.KwExtent extent → Is k.Less less → Is k.Word other → Is k.Greater greater → Is k.CloseParen closing → length a ≤ depth → ReadsBlock src a xs
      → d.foreach block (at src (word ∷ opening ∷ class ∷ variable ∷ colon ∷ extent ∷ less ∷ other ∷ greater ∷ closing ∷ (a ++ rest)))
      ≡ Ok (stmt.Foreach (ident src class) (ident src variable) (ident src other) xs word.from, at src rest)
  unfolding d.foreach
  foreach-found a rest word opening class variable colon extent less other greater closing xs ho hc hv hcolon he hl h2 hg h l r =
      then_ _ _ _ _ _ (ranging-found src (a ++ rest) word opening class variable colon extent less other greater closing ho hc hv hcolon he hl h2 hg h)
      (then_ _ _ _ _ _ (hb a rest xs l r) refl)

  statement-found : (a rest : List Token) (x : StmtTree) → length a ≤ depth → sees m.Else (at src rest) ≡ false → ReadsStmt src a x → d.statement block (at src (a ++ rest)) ≡ Ok (x, at src rest)
  statement-found _ rest _ l free (g.const a word type name equals semicolon t x e e1 e2 e3 e4 r) =
      statement_at k.KwConst word _ _ e (constant-found src a rest word type name equals semicolon t x e1 e2 e3 e4 r)
  statement-found _ rest _ l free (g.when a b word opening closing x xs e e1 e2 r rb) =
      statement_at k.KwIf word _ _ e (when-found a b rest word opening closing x xs e1 e2 r (omega (arith, l, length-append a (closing ∷ b))) rb free)
  statement-found _ rest _ l free (g.either_way a b c word opening closing otherwise x xs ys e e1 e2 e3 r rb rc) =
      let long : length a + length b + length c + 4 ≤ depth = omega (arith, l, length-append (a ++ closing ∷ b) (otherwise ∷ c), length-append a (closing ∷ b)) in
      statement_at k.KwIf word _ _ e (either_way-found a b c rest word opening closing otherwise x xs ys e1 e2 e3 r (omega (arith, long)) (omega (arith, long)) rb rc)
  statement-found _ rest _ l free (g.foreach a word opening class variable colon extent less other greater closing xs e e1 e2 e3 e4 e5 e6 e7 e8 e9 r) =
      statement_at k.KwForeach word _ _ e (foreach-found a rest word opening class variable colon extent less other greater closing xs e1 e2 e3 e4 e5 e6 e7 e8 e9 (omega (arith, l)) r)
  statement-found _ rest _ l free (g.assign_this a this dot name arrow semicolon x e e1 e2 e3 e4 r) =
      statement_at k.KwThis this _ _ e (assign_this-found src a rest this dot name arrow semicolon x e1 e2 e3 e4 r)
  statement-found _ rest _ l free (g.assign a name arrow semicolon x e e1 e2 r) =
      statement_at k.Word name _ _ e (assign-found src a rest name arrow semicolon x e e1 e2 r)
  statement-found _ rest _ l free (g.assign_loop a loop dot name arrow semicolon x e e1 e2 e3 e4 r) =
      statement_at k.Word loop _ _ e (assign_loop-found src a rest loop dot name arrow semicolon x e e1 e2 e3 e4 r)

  statements-found : (n : ℕ) (found : List StmtTree) (b rest : List Token) (closing : Token) (xs : List StmtTree) → length b < n → length b ≤ depth → Is k.CloseBrace closing → ReadsStmts src b xs
      → d.statements block n found (at src (b ++ closing ∷ rest)) ≡ Ok (found ++ xs, at src rest)
  unfolding d.statements
  statements-found zero found b rest closing xs l l' h r = absurd (omega arith)
  statements-found (suc n) found _ rest closing _ l l' h g.none =
      if_true _ _ _ _ _ _ (sees_it m.CloseBrace src closing rest h) (after_it m.CloseBrace src closing rest h)
      (ap (λ (z : List StmtTree). let r : Outcome (List StmtTree) = Ok (z, at src rest) in r) (sym (append-nil found)))
  statements-found (suc n) found _ rest closing _ l l' h (g.more a b x xs r rs) =
      let cut : (a ++ b) ++ closing ∷ rest ≡ a ++ (b ++ closing ∷ rest) = append_assoc a b (closing ∷ rest) in
      let free : sees m.CloseBrace (at src ((a ++ b) ++ closing ∷ rest)) ≡ false = ap (λ (z : List Token). sees m.CloseBrace (at src z)) cut ∙ starts src m.CloseBrace a (b ++ closing ∷ rest) x r in
      let long : length a + length b ≤ depth = omega (arith, l', length-append a b) in
      if_false _ _ _ _ _ _ free (not_eaten m.CloseBrace (at src ((a ++ b) ++ closing ∷ rest)) free ∙ ap (at src) cut)
      (then_ _ _ _ _ _ (statement-found a (b ++ closing ∷ rest) x (omega (arith, long)) (no_else src b rest closing xs h rs) r)
      (statements-found n (found ++ x ∷ []) b rest closing xs (omega (arith, l, length-append a b, some_tokens src a x r)) (omega (arith, long)) h rs
      ∙ ap (λ (z : List StmtTree). let r : Outcome (List StmtTree) = Ok (z, at src rest) in r) (append_assoc found (x ∷ []) xs)))

  braced-found : FindsBlock src (suc depth) (d.braced block)
  unfolding d.braced
  braced-found _ rest _ l (g.braced a opening closing xs e e' rs) =
      then_ _ _ _ _ _ (expects m.OpenBrace src opening ((a ++ closing ∷ []) ++ rest) e)
      (ap (λ (z : List Token). d.statements block (length z) [] (at src z)) (shut a closing rest)
      ∙ statements-found (length (a ++ closing ∷ rest)) [] a rest closing xs (omega (arith, length-append a (closing ∷ rest))) (omega (arith, l, inner_length a closing)) e' rs)

no_block : (src : List ℕ) (a : List Token) (xs : List StmtTree) → ReadsBlock src a xs → 0 < length a
no_block src _ _ (g.braced a opening closing xs e e' rs) = omega arith

block_to-found : (src : List ℕ) (depth : ℕ) → FindsBlock src depth (d.block_to depth)
unfolding d.block_to
block_to-found src zero a rest xs l r = absurd (omega (arith, l, no_block src a xs r))
block_to-found src (suc depth) a rest xs l r = braced-found src depth (d.block_to depth) (block_to-found src depth) a rest xs l r

pub block-found : (src : List ℕ) (a rest : List Token) (xs : List StmtTree) → ReadsBlock src a xs → d.block (at src (a ++ rest)) ≡ Ok (xs, at src rest)
unfolding d.block
block-found src a rest xs r = block_to-found src (length (a ++ rest)) a rest xs (omega (arith, length-append a rest)) r
