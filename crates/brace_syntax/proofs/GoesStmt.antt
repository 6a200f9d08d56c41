-- How the rows of statements go.
use Rattle.std.proofs.Common.{◌≡◌, refl, sym, ap, subst, ◌∙◌, ℕ, zero, suc, ◌<◌, ◌≤◌, List, [], ◌∷◌, ◌++◌, length, arith, append_assoc, append-nil}
use Rattle.std.specs.Prelude.{Some, None, if◌then◌else◌}
use Rattle.brace_tok.specs.declared.kinds.Token.{Token}
use Rattle.brace_tok.specs.declared.kinds.TokKind.{TokKind}
use Rattle.brace_tok.specs.declared.kinds.TokKind.TheVariants as k
use Rattle.brace_syntax.specs.declared.mark.Mark.TheVariants as m
use Rattle.brace_syntax.specs.declared.tree.ExprTree.{ExprTree}
use Rattle.brace_syntax.specs.declared.tree.StmtTree.{StmtTree}
use Rattle.brace_syntax.specs.declared.tree.StmtTree.TheVariants as stmt
use Rattle.brace_syntax.specs.declared.stmt.Heading.{Heading}
use Rattle.brace_syntax.specs.Tables.{Is, ident}
use Rattle.brace_syntax.specs.inner.Cursor.{Parser, next, place, first, sees, after, pure, ◌>>=◌}
use Rattle.brace_syntax.specs.Reads as g
use Rattle.brace_syntax.specs.Reads.{ReadsExpr, ReadsStmt, ReadsStmts, ReadsBlock}
use Rattle.brace_syntax.specs.inner.Descent as d
use Rattle.brace_syntax.proofs.Forward.{at}
use Rattle.brace_syntax.proofs.ExprFound.{shut}
use Rattle.brace_syntax.proofs.StmtFound.{some_tokens}
use Rattle.brace_syntax.proofs.Goes.{Goes, Runs, Begun, wider, alone, ended, done, stops, passes, bound, maps, kind_then, name_then, type_then, expect_then, eat_then, a_token}
use Rattle.brace_syntax.proofs.GoesExpr.{expression-goes}

-- ---- items up to a closing brace

-- the items that are read now come after those found before, and a closing brace ends them
pub record Ended {A : Type 0} (Many : List Token → List A → Type 0) (found : List A) (toks : List Token) (xs : List A) : Type 0 where
  pub more : List A
  pub body : List Token
  pub closing : Token
  pub found_is : xs ≡ found ++ more
  pub whole : toks ≡ body ++ (closing ∷ [])
  pub is_closing : Is k.CloseBrace closing
  pub reads : Many body more

no_more : {A : Type 0} (Many : List Token → List A → Type 0) → Many [] [] → (found : List A) (closing : Token) → Is k.CloseBrace closing → Ended Many found (closing ∷ []) found
no_more Many none found closing h = record { more = []; body = []; closing = closing; found_is = sym (append-nil found); whole = refl; is_closing = h; reads = none }

one_more : {A : Type 0} (Item : List Token → A → Type 0) (Many : List Token → List A → Type 0) → ((a b : List Token) (x : A) (xs : List A) → Item a x → Many b xs → Many (a ++ b) (x ∷ xs))
    → (found : List A) (a : List Token) (x : A) → Item a x → (b : List Token) (ys : List A) → Ended Many (found ++ x ∷ []) b ys → Ended Many found (a ++ b) ys
one_more Item Many add found a x r b ys q = record {
  more = x ∷ q.more;
  body = a ++ q.body;
  closing = q.closing;
  found_is = q.found_is ∙ append_assoc found (x ∷ []) q.more;
  whole = ap (λ (z : List Token). a ++ z) q.whole ∙ sym (append_assoc a q.body (q.closing ∷ []));
  is_closing = q.is_closing;
  reads = add a q.body x q.more r q.reads;
}

-- a closing brace, with nothing before it
pub a_closing : {A : Type 0} (Many : List Token → List A → Type 0) → Many [] [] → (found : List A) → Begun (Ended Many found) []
a_closing Many none found = record { more = a_token k.CloseBrace ∷ []; value = found; reads = no_more Many none found (a_token k.CloseBrace) refl }

-- a closing brace, or an item and then the others
pub items_by : {A : Type 0} (src : List ℕ) (Item : List Token → A → Type 0) (Many : List Token → List A → Type 0) → Many [] [] → ((a b : List Token) (x : A) (xs : List A) → Item a x → Many b xs → Many (a ++ b) (x ∷ xs))
    → ((a : List Token) (x : A) → Item a x → 0 < length a) → (n n' : ℕ) (item item' : Parser A) → Runs src Item (suc n) (suc n') item item' → (found : List A) (again again' : List A → Parser (List A))
    → ((more : List A) → Runs src (Ended Many more) n n' (again more) (again' more))
    → Runs src (Ended Many found) (suc n) (suc n')
    (λ i. (if sees m.CloseBrace i then pure found else (item >>= (λ x. again (found ++ x ∷ [])))) (after m.CloseBrace i))
    (λ i. (if sees m.CloseBrace i then pure found else (item' >>= (λ x. again' (found ++ x ∷ [])))) (after m.CloseBrace i))
items_by src Item Many none add some n n' item item' hi found again again' ha toks toks' l l' =
    eat_then m.CloseBrace toks toks' _ _ _ _
    (λ closing h _ _ _ _. done (no_more Many none found closing h))
    (λ a a' la la'. bound _ _ (hi a a' (omega arith) (omega arith)) (λ one x r b b' lb lb'.
    let long = some one x r in
    wider (ha (found ++ x ∷ []) b b' (omega arith) (omega arith)) (λ c ys q. one_more Item Many add found one x r c ys q)))

-- ---- parts of statements

-- the tokens from the arrow on
pub data Assigned (src : List ℕ) : List Token → ExprTree → Type 0 where
  assigned : (a : List Token) (arrow semicolon : Token) (x : ExprTree) → Is k.Arrow arrow → Is k.Semicolon semicolon → ReadsExpr src g.choices a x → Assigned src (arrow ∷ a ++ semicolon ∷ []) x

-- an expression in parentheses
data Enclosed (src : List ℕ) : List Token → ExprTree → Type 0 where
  enclosed : (a : List Token) (opening closing : Token) (x : ExprTree) → Is k.OpenParen opening → Is k.CloseParen closing → ReadsExpr src g.choices a x → Enclosed src (opening ∷ a ++ closing ∷ []) x

-- what stands before the block of `foreach`
data Ranging (src : List ℕ) : List Token → Heading → Type 0 where
  ranging : (word opening class variable colon extent less other greater closing : Token) → Is k.KwForeach word → Is k.OpenParen opening → Is k.Word class → Is k.Word variable → Is k.Colon colon → Is k.KwExtent extent → Is k.Less less → Is k.Word other
      → Is k.Greater greater → Is k.CloseParen closing
      → Ranging src (word ∷ opening ∷ class ∷ variable ∷ colon ∷ extent ∷ less ∷ other ∷ greater ∷ closing ∷ [])
      (record { class = ident src class; variable = ident src variable; other = ident src other; at = word.from })

module _ (src : List ℕ) where
  pub assigned-goes : (toks toks' : List Token) → Goes src (Assigned src) toks toks' (d.assigned (at src toks)) (d.assigned (at src toks'))
  unfolding d.assigned
  assigned-goes toks toks' =
      expect_then m.Arrow toks toks' _ _ (λ arrow ha a a' _ _.
      bound _ _ (expression-goes src a a') (λ inner x r b b' _ _.
      expect_then m.Semicolon b b' _ _ (λ semicolon hs _ _ _ _. done (assigned inner arrow semicolon x ha hs r))))

  constant-goes : (word : Token) → Is k.KwConst word → (toks toks' : List Token) → Goes src (ReadsStmt src) (word ∷ toks) (word ∷ toks') (d.constant (at src (word ∷ toks))) (d.constant (at src (word ∷ toks')))
  unfolding d.constant place next first
  constant-goes word h toks toks' =
      passes word (type_then toks toks' _ _ (λ type t ht a a' _ _.
      name_then a a' _ _ (λ name hn b b' _ _.
      expect_then m.Assign b b' _ _ (λ equals he c c' _ _.
      bound _ _ (expression-goes src c c') (λ inner x r e e' _ _.
      expect_then m.Semicolon e e' _ _ (λ semicolon hs _ _ _ _. done (g.const inner word type name equals semicolon t x h ht hn he hs r)))))))

  this_reads : (this dot name : Token) → Is k.KwThis this → Is k.Dot dot → Is k.Word name → (a : List Token) (x : ExprTree) → Assigned src a x → ReadsStmt src (this ∷ dot ∷ name ∷ a) (stmt.AssignThis (ident src name) x this.from)
  this_reads this dot name h hd hn _ _ (assigned a arrow semicolon x ha hs r) = g.assign_this a this dot name arrow semicolon x h hd hn ha hs r

  assign_this-goes : (this : Token) → Is k.KwThis this → (toks toks' : List Token) → Goes src (ReadsStmt src) (this ∷ toks) (this ∷ toks') (d.assign_this (at src (this ∷ toks))) (d.assign_this (at src (this ∷ toks')))
  unfolding d.assign_this place next first
  assign_this-goes this h toks toks' =
      passes this (expect_then m.Dot toks toks' _ _ (λ dot hd a a' _ _.
      name_then a a' _ _ (λ name hn b b' _ _. maps _ (assigned-goes b b') (this_reads this dot name h hd hn))))

  assign_reads : (name : Token) → Is k.Word name → (a : List Token) (x : ExprTree) → Assigned src a x → ReadsStmt src (name ∷ a) (stmt.Assign (ident src name) x)
  assign_reads name hn _ _ (assigned a arrow semicolon x ha hs r) = g.assign a name arrow semicolon x hn ha hs r

  loop_reads : (loop dot name : Token) → Is k.Word loop → Is k.Dot dot → Is k.Word name → (a : List Token) (x : ExprTree) → Assigned src a x → ReadsStmt src (loop ∷ dot ∷ name ∷ a) (stmt.AssignLoop (ident src loop) (ident src name) x)
  loop_reads loop dot name hl hd hn _ _ (assigned a arrow semicolon x ha hs r) = g.assign_loop a loop dot name arrow semicolon x hl hd hn ha hs r

  assign-goes : (toks toks' : List Token) → Goes src (ReadsStmt src) toks toks' (d.assign (at src toks)) (d.assign (at src toks'))
  unfolding d.assign
  assign-goes toks toks' =
      name_then toks toks' _ _ (λ name hn a a' _ _.
      eat_then m.Dot a a' _ _ _ _
      (λ dot hd b b' _ _. name_then b b' _ _ (λ second hs c c' _ _. maps _ (assigned-goes c c') (loop_reads name dot second hn hd hs)))
      (λ b b' _ _. maps _ (assigned-goes b b') (assign_reads name hn)))

  condition-goes : (toks toks' : List Token) → Goes src (Enclosed src) toks toks' (d.condition (at src toks)) (d.condition (at src toks'))
  unfolding d.condition
  condition-goes toks toks' =
      expect_then m.OpenParen toks toks' _ _ (λ opening ho a a' _ _.
      bound _ _ (expression-goes src a a') (λ inner x r b b' _ _.
      expect_then m.CloseParen b b' _ _ (λ closing hc _ _ _ _. done (enclosed inner opening closing x ho hc r))))

  ranging-goes : (word : Token) → Is k.KwForeach word → (toks toks' : List Token) → Goes src (Ranging src) (word ∷ toks) (word ∷ toks') (d.ranging (at src (word ∷ toks))) (d.ranging (at src (word ∷ toks')))
  unfolding d.ranging place next first
  ranging-goes word h toks toks' =
      passes word (expect_then m.OpenParen toks toks' _ _ (λ opening ho a a' _ _.
      name_then a a' _ _ (λ class hc b b' _ _.
      name_then b b' _ _ (λ variable hv c c' _ _.
      expect_then m.Colon c c' _ _ (λ colon hk e e' _ _.
      expect_then m.Extent e e' _ _ (λ extent he i i' _ _.
      expect_then m.Less i i' _ _ (λ less hl j j' _ _.
      name_then j j' _ _ (λ other h2 p p' _ _.
      expect_then m.Greater p p' _ _ (λ greater hg q q' _ _.
      expect_then m.CloseParen q q' _ _ (λ closing hz _ _ _ _. done (ranging word opening class variable colon extent less other greater closing h ho hc hv hk he hl h2 hg hz)))))))))))

  some_ranging : (a : List Token) (x : Heading) → Ranging src a x → 0 < length a
  some_ranging _ _ (ranging word opening class variable colon extent less other greater closing _ _ _ _ _ _ _ _ _ _) = omega arith

  when_reads : (word : Token) → Is k.KwIf word → (a : List Token) (x : ExprTree) → Enclosed src a x → (b : List Token) (block : List StmtTree) → ReadsBlock src b block → ReadsStmt src (word ∷ (a ++ (b ++ []))) (stmt.If x block None word.from)
  when_reads word h _ _ (enclosed a opening closing x ho hc r) b block rb =
      subst (λ (z : List Token). ReadsStmt src (word ∷ opening ∷ z) (stmt.If x block None word.from)) (ap (λ (z : List Token). a ++ (closing ∷ z)) (sym (append-nil b)) ∙ sym (shut a closing (b ++ [])))
      (g.when a b word opening closing x block h ho hc r rb)

  either_reads : (word : Token) → Is k.KwIf word → (a : List Token) (x : ExprTree) → Enclosed src a x → (b : List Token) (block : List StmtTree) → ReadsBlock src b block → (otherwise : Token) → Is k.KwElse otherwise
      → (c : List Token) (other : List StmtTree) → ReadsBlock src c other → ReadsStmt src (word ∷ (a ++ (b ++ (otherwise ∷ c)))) (stmt.If x block (Some other) word.from)
  either_reads word h _ _ (enclosed a opening closing x ho hc r) b block rb otherwise he c other rc =
      subst (λ (z : List Token). ReadsStmt src (word ∷ opening ∷ z) (stmt.If x block (Some other) word.from)) (append_assoc a (closing ∷ b) (otherwise ∷ c) ∙ sym (shut a closing (b ++ (otherwise ∷ c))))
      (g.either_way a b c word opening closing otherwise x block other h ho hc he r rb rc)

  foreach_reads : (a : List Token) (x : Heading) → Ranging src a x → (b : List Token) (block : List StmtTree) → ReadsBlock src b block → ReadsStmt src (a ++ b) (stmt.Foreach x.class x.variable x.other block x.at)
  foreach_reads _ _ (ranging word opening class variable colon extent less other greater closing h ho hc hv hk he hl h2 hg hz) b block rb =
      g.foreach b word opening class variable colon extent less other greater closing block h ho hc hv hk he hl h2 hg hz rb

  block_reads : (opening : Token) → Is k.OpenBrace opening → (b : List Token) (xs : List StmtTree) → Ended (ReadsStmts src) [] b xs → ReadsBlock src (opening ∷ b) xs
  block_reads opening h b xs q =
      subst (λ (z : List Token). ReadsBlock src (opening ∷ z) xs) (sym q.whole) (subst (λ (z : List StmtTree). ReadsBlock src (opening ∷ (q.body ++ (q.closing ∷ []))) z) (sym q.found_is) (g.braced q.body opening q.closing q.more h q.is_closing q.reads))

  module _ (n n' : ℕ) (block block' : Parser (List StmtTree)) (hb : Runs src (ReadsBlock src) n n' block block') where
    when-goes : (word : Token) → Is k.KwIf word → (toks toks' : List Token) → length toks ≤ n → length toks' ≤ n' → Goes src (ReadsStmt src) (word ∷ toks) (word ∷ toks') (d.when block (at src (word ∷ toks))) (d.when block' (at src (word ∷ toks')))
    unfolding d.when place next first
    when-goes word h toks toks' l l' =
        passes word (bound _ _ (condition-goes toks toks') (λ one x r a a' la la'.
        bound _ _ (hb a a' (omega arith) (omega arith)) (λ two xs s b b' lb lb'.
        eat_then m.Else b b' _ _ _ _
        (λ otherwise he c c' lc lc'. maps _ (hb c c' (omega arith) (omega arith)) (either_reads word h one x r two xs s otherwise he))
        (λ _ _ _ _. done (when_reads word h one x r two xs s)))))

    foreach-goes : (word : Token) → Is k.KwForeach word → (toks toks' : List Token) → length toks ≤ n → length toks' ≤ n' → Goes src (ReadsStmt src) (word ∷ toks) (word ∷ toks') (d.foreach block (at src (word ∷ toks))) (d.foreach block' (at src (word ∷ toks')))
    unfolding d.foreach
    foreach-goes word h toks toks' l l' =
        bound _ _ (ranging-goes word h toks toks') (λ one x r a a' la la'.
        let long = some_ranging one x r in
        maps _ (hb a a' (omega arith) (omega arith)) (foreach_reads one x r))

    statement_by-goes : (what : TokKind) (tok : Token) → Is what tok → (toks toks' : List Token) → length toks ≤ n → length toks' ≤ n'
        → Goes src (ReadsStmt src) (tok ∷ toks) (tok ∷ toks') (d.statement_by block (Some what) (at src (tok ∷ toks))) (d.statement_by block' (Some what) (at src (tok ∷ toks')))
    statement_by-goes k.KwConst tok h toks toks' l l' = constant-goes tok h toks toks'
    statement_by-goes k.KwIf tok h toks toks' l l' = when-goes tok h toks toks' l l'
    statement_by-goes k.KwForeach tok h toks toks' l l' = foreach-goes tok h toks toks' l l'
    statement_by-goes k.KwThis tok h toks toks' l l' = assign_this-goes tok h toks toks'
    statement_by-goes what tok h toks toks' l l' = assign-goes (tok ∷ toks) (tok ∷ toks')

    statement-goes : Runs src (ReadsStmt src) (suc n) (suc n') (d.statement block) (d.statement block')
    unfolding d.statement
    statement-goes toks toks' l l' =
        kind_then toks toks' (d.statement_by block) (d.statement_by block') (λ tok a a' la la'. statement_by-goes tok.kind tok refl a a' (omega arith) (omega arith)) (assign-goes [] [])

    statements_by : (t t' : ℕ) → suc t ≤ suc n → suc t' ≤ suc n' → (found : List StmtTree) (again again' : List StmtTree → Parser (List StmtTree)) → ((more : List StmtTree) → Runs src (Ended (ReadsStmts src) more) t t' (again more) (again' more))
        → Runs src (Ended (ReadsStmts src) found) (suc t) (suc t')
        (λ i. (if sees m.CloseBrace i then pure found else (d.statement block >>= (λ x. again (found ++ x ∷ [])))) (after m.CloseBrace i))
        (λ i. (if sees m.CloseBrace i then pure found else (d.statement block' >>= (λ x. again' (found ++ x ∷ [])))) (after m.CloseBrace i))
    statements_by t t' below below' found again again' ha =
        items_by src (ReadsStmt src) (ReadsStmts src) g.none (λ a b x xs r rs. g.more a b x xs r rs) (some_tokens src) t t' (d.statement block) (d.statement block')
        (λ toks toks' l l'. statement-goes toks toks' (omega arith) (omega arith)) found again again' ha

    statements-goes : (t t' : ℕ) → t ≤ suc n → t' ≤ suc n' → (found : List StmtTree) → Runs src (Ended (ReadsStmts src) found) t t' (d.statements block t found) (d.statements block' t' found)
    unfolding d.statements
    statements-goes zero t' below below' found [] toks' l l' = ended {others = []} (stops (a_closing (ReadsStmts src) g.none found))
    statements-goes zero t' below below' found (tok ∷ toks) toks' l l' = absurd (omega arith)
    statements-goes (suc t) zero below below' found toks [] l l' =
        alone (statements_by t zero below (omega arith) found (d.statements block t) (d.statements block' zero) (statements-goes t zero (omega arith) (omega arith)) toks [] l (omega arith))
    statements-goes (suc t) zero below below' found toks (tok ∷ toks') l l' = absurd (omega arith)
    statements-goes (suc t) (suc t') below below' found toks toks' l l' =
        statements_by t t' below below' found (d.statements block t) (d.statements block' t') (statements-goes t t' (omega arith) (omega arith)) toks toks' l l'

    braced-goes : Runs src (ReadsBlock src) (suc n) (suc n') (d.braced block) (d.braced block')
    unfolding d.braced
    braced-goes toks toks' l l' =
        expect_then m.OpenBrace toks toks' _ _ (λ opening h a a' la la'.
        wider (statements-goes (length a) (length a') (omega arith) (omega arith) [] a a' (omega arith) (omega arith)) (block_reads opening h))

  a_block : Begun (ReadsBlock src) []
  a_block = record { more = a_token k.OpenBrace ∷ a_token k.CloseBrace ∷ []; value = []; reads = g.braced [] (a_token k.OpenBrace) (a_token k.CloseBrace) [] refl refl g.none }

  block_to-goes : (n n' : ℕ) → Runs src (ReadsBlock src) n n' (d.block_to n) (d.block_to n')
  unfolding d.block_to
  block_to-goes zero n' [] toks' l l' = ended {others = []} (stops a_block)
  block_to-goes zero n' (tok ∷ toks) toks' l l' = absurd (omega arith)
  block_to-goes (suc n) zero toks [] l l' = alone (braced-goes n zero (d.block_to n) (d.block_to zero) (block_to-goes n zero) toks [] l (omega arith))
  block_to-goes (suc n) zero toks (tok ∷ toks') l l' = absurd (omega arith)
  block_to-goes (suc n) (suc n') toks toks' l l' = braced-goes n n' (d.block_to n) (d.block_to n') (block_to-goes n n') toks toks' l l'

  pub block-goes : (toks toks' : List Token) → Goes src (ReadsBlock src) toks toks' (d.block (at src toks)) (d.block (at src toks'))
  unfolding d.block
  block-goes toks toks' = block_to-goes (length toks) (length toks') toks toks' (omega arith) (omega arith)
