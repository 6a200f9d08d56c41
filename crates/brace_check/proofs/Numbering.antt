-- Sites and constants of expressions and of blocks are numbered in order; numbers that rise.
use Rattle.std.proofs.Common.{◌≡◌, refl, sym, ap, subst, ◌∙◌, ℕ, ◌+◌, Bool, true, false, List, [], ◌∷◌, ◌++◌, length, length-append, append_assoc, map, flat_map, arith, zero, suc, ◌≤◌, ◌<◌}
use Rattle.std.specs.Prelude.{Option, Some, None, option_to_list, sum, false, nat_eq, slice_get}
use Rattle.std.specs.List.{range_with_len, concat, AllByRecursion, IsDistinct}
use Rattle.std.proofs.lemmas.List.{append-nil}
use Rattle.brace_num.proofs.Rows.{row_joined}
use Rattle.brace_syntax.specs.declared.tree.ExprTree.{ExprTree}
use Rattle.brace_syntax.specs.declared.tree.ExprTree.TheVariants as e
use Rattle.brace_model.specs.declared.program.Value.TheVariants as val
use Rattle.brace_model.specs.declared.program.UnOp.{UnOp}
use Rattle.brace_model.specs.declared.program.BinOp.{BinOp}
use Rattle.brace_model.specs.declared.program.Who.TheVariants.{This}
use Rattle.brace_model.specs.declared.program.Expr.{Expr}
use Rattle.brace_model.specs.declared.program.Expr.TheVariants as expr
use Rattle.brace_model.specs.Sites.{sites_of, sites_in, constant_numbers, loop_offsets}
use Rattle.brace_model.specs.Typing.{unary_faults, binary_faults}
use Rattle.brace_model.proofs.LawEquations.{sites_of-Lit, sites_of-Field, sites_of-Total, sites_of-Local, sites_of-Unary, sites_of-Binary, sites_of-Choice, sites_of-Rand, sites_in-Const, sites_in-If, sites_in-Foreach, sites_in-Assign, constant_numbers-Const, constant_numbers-If, constant_numbers-Foreach, constant_numbers-Assign, loop_offsets-Const, loop_offsets-If, loop_offsets-Foreach, loop_offsets-Assign}
use Rattle.brace_names.proofs.Folds.{Expressions, of_expression, ProvedStmt, stmts_of, Statements, proved, stmts-proved, of-Lit, of-True, of-False, of-Name, of-OfThis, of-OfLoop, of-Unary, of-Binary, of-Choice, of-Rand, of-Const, of-when, of-either, of-Foreach, of-Assign, of-AssignThis, of-AssignLoop}
use Rattle.brace_names.specs.declared.declared.Field.TheVariants as field
use Rattle.brace_names.specs.declared.scope.Named.{Named}
use Rattle.brace_names.specs.declared.scope.Named.TheVariants as named
use Rattle.brace_names.specs.Kinds.{unary_named, binary_named}
use Rattle.brace_names.specs.Scopes.{Scope, read, read_own, of_loop, inside, past}
use Rattle.brace_names.specs.Findings.{is_summed}
use Rattle.brace_check.specs.Meanings.{Meaning, plain, site, site_if, literal, named_as, agent_of, loop_number, unary, binary, choice, expression, expression_step, followed, made, number_of, number_in, assigned, block, part, part_step}
use Rattle.brace_syntax.specs.declared.tree.StmtTree.{StmtTree}
use Rattle.brace_syntax.specs.declared.tree.StmtTree.TheVariants as s
use Rattle.brace_syntax.specs.declared.tree.StmtTree.TheOpen as layer
use Rattle.brace_syntax.specs.declared.tree.StmtTree.TheFolds.{fold-StmtTree}
use Rattle.brace_model.specs.declared.program.Who.{Who}
use Rattle.brace_model.specs.declared.program.Stmt.{Stmt}
use Rattle.brace_model.specs.declared.program.Stmt.TheVariants as stmt
use Rattle.brace_names.specs.Tables.{look}
use Rattle.brace_names.specs.Walk as walk
use Rattle.brace_names.specs.Walk.{Part, behind, constants_in, declared_in}
use Rattle.std.proofs.lemmas.List.Sums.{sum_by-cons}
use Rattle.brace_model.specs.declared.program.Ty.{Ty}
use Rattle.brace_model.specs.Query.{constants}
use Rattle.brace_model.proofs.ValueEquations.{constants-Const, constants-If, constants-Foreach, constants-Assign}
use Rattle.brace_syntax.specs.declared.tree.Ident.{Ident}
use Rattle.brace_names.proofs.StmtLemmas.{constants-cons}
use Rattle.std.specs.Ordering.{nat_cmp}
use Rattle.std.specs.declared.cmp.Ordering.TheVariants.{Less}
use Rattle.std.specs.Cmp.{nat_cmp_is}
use Rattle.std.specs.List.Sorted.{IsStrictlyIncreasing, IsStrictlySortedBy}
use Rattle.std.proofs.lemmas.Map.Keys.{IsStrictlyIncreasing-from_sorted}
use Rattle.std.proofs.lemmas.Bool.{ne_eqb}
use Rattle.brace_names.specs.Faults.{AreRising}

-- what is made of each item, joined
pub concat-map : {A : Type 0} (f : A → List ℕ) (xs : List A) → concat (map f xs) ≡ flat_map f xs
concat-map f [] = refl
concat-map f (x ∷ xs) = ap (λ (l : List ℕ). f x ++ l) (concat-map f xs)

-- the numbers of sites
abbrev pub upto : List ℕ → List ℕ
upto sites = range_with_len 0 (length sites)

-- behind any sites, the sites of a thing, as they are read off it, are numbered in turn
abbrev pub Numbered : {A : Type 0} → (A → List ℕ) → Meaning A → Type 0
Numbered sites x = (k : List ℕ) → upto k ++ sites (x k).0 ≡ upto (x k).1

-- one site more
pub one_site : (at : ℕ) → Numbered (λ (n : ℕ). n ∷ []) (site at)
one_site at k =
    let here : length k ≡ 0 + length k = omega arith in
    ap (λ (n : ℕ). upto k ++ n ∷ []) here ∙ (row_joined 0 (length k) 1 ∙ ap (range_with_len 0) (sym (length-append k (at ∷ []))))

site_if_numbered : (test : Bool) (at : ℕ) → Numbered (λ (o : Option ℕ). option_to_list o) (site_if test at)
site_if_numbered true at k = one_site at k
site_if_numbered false at k = append-nil (upto k)

-- what has no sites
pub plain_numbered : {A : Type 0} (sites : A → List ℕ) (x : A) → sites x ≡ [] → Numbered sites (plain x)
plain_numbered sites x h k = ap (λ (l : List ℕ). upto k ++ l) h ∙ append-nil (upto k)

-- something made of another, with the same sites
pub made_numbered : {A B : Type 0} (f : A → List ℕ) (g : B → List ℕ) (make : A → B) (x : Meaning A)
    → ((a : A) → g (make a) ≡ f a) → Numbered f x → Numbered g (made make x)
made_numbered f g make x same h k = ap (λ (l : List ℕ). upto k ++ l) (same (x k).0) ∙ h k

-- two things, the sites of the second behind those of the first
pub followed_numbered : {A B C : Type 0} (f : A → List ℕ) (g : B → List ℕ) (h : C → List ℕ) (both : A → B → C) (x : Meaning A) (y : Meaning B)
    → ((a : A) (b : B) → h (both a b) ≡ f a ++ g b) → Numbered f x → Numbered g y → Numbered h (followed both x y)
followed_numbered f g h both x y same hx hy k =
    let a : List ℕ = f (x k).0 in
    let b : List ℕ = g (y (x k).1).0 in
    ap (λ (l : List ℕ). upto k ++ l) (same (x k).0 (y (x k).1).0)
    ∙ (sym (append_assoc (upto k) a b) ∙ (ap (λ (l : List ℕ). l ++ b) (hx k) ∙ hy (x k).1))

named_numbered : (scope : Scope) (at : ℕ) (o : Option Named) → Numbered sites_of (named_as scope at o)
named_numbered scope at None = plain_numbered sites_of (expr.Field This 0) (sites_of-Field This 0)
named_numbered scope at (Some (named.Constant i t)) = plain_numbered sites_of (expr.Local i) (sites_of-Local i)
named_numbered scope at (Some (named.Field (field.State i t shared))) = plain_numbered sites_of (expr.Field This i) (sites_of-Field This i)
named_numbered scope at (Some (named.Field (field.Effect i t shared c))) =
    let test : Bool = is_summed scope (field.Effect i t shared c) in
    made_numbered (λ (o : Option ℕ). option_to_list o) sites_of (expr.Total i t) (site_if test at) (λ o. sites_of-Total i t o) (site_if_numbered test at)

unary_numbered : (test : Bool) (at : ℕ) (op : UnOp) (x : Meaning Expr) → Numbered sites_of x → Numbered sites_of (unary test at (expr.Unary op) x)
unary_numbered test at op x h =
    followed_numbered sites_of (λ (o : Option ℕ). option_to_list o) sites_of (λ (a : Expr) (n : Option ℕ). expr.Unary op n a) x (site_if test at)
    (λ a n. sites_of-Unary op n a) h (site_if_numbered test at)

-- the sites of two operands
abbrev operand_sites : Expr × Expr → List ℕ
operand_sites p = sites_of p.0 ++ sites_of p.1

operands_numbered : (x y : Meaning Expr) → Numbered sites_of x → Numbered sites_of y → Numbered operand_sites (followed (λ (a b : Expr). (a, b)) x y)
operands_numbered x y hx hy = followed_numbered sites_of sites_of operand_sites (λ (a b : Expr). (a, b)) x y (λ a b. refl) hx hy

binary_numbered : (test : Bool) (at : ℕ) (op : BinOp) (x y : Meaning Expr) → Numbered sites_of x → Numbered sites_of y
    → Numbered sites_of (binary test at (expr.Binary op) x y)
binary_numbered test at op x y hx hy =
    followed_numbered operand_sites (λ (o : Option ℕ). option_to_list o) sites_of (λ (p : Expr × Expr) (n : Option ℕ). expr.Binary op n p.0 p.1)
    (followed (λ (a b : Expr). (a, b)) x y) (site_if test at)
    (λ p n. sites_of-Binary op n p.0 p.1 ∙ sym (append_assoc (sites_of p.0) (sites_of p.1) (option_to_list n)))
    (operands_numbered x y hx hy) (site_if_numbered test at)

choice_numbered : (c x y : Meaning Expr) → Numbered sites_of c → Numbered sites_of x → Numbered sites_of y → Numbered sites_of (choice c x y)
choice_numbered c x y hc hx hy =
    followed_numbered sites_of operand_sites sites_of (λ (a : Expr) (p : Expr × Expr). expr.Choice a p.0 p.1) c (followed (λ (a b : Expr). (a, b)) x y)
    (λ a p. sites_of-Choice a p.0 p.1) hc (operands_numbered x y hx hy)

abbrev NumberedExpr : ExprTree → Type 0
NumberedExpr x = (scope : Scope) → Numbered sites_of (expression x scope)

-- what an expression of a kind means, in a scope
abbrev back : (x : ExprTree) (f : Scope → Meaning Expr) → expression x ≡ f → ((scope : Scope) → Numbered sites_of (f scope)) → NumberedExpr x
back x f same h scope = subst (λ (g : Scope → Meaning Expr). Numbered sites_of (g scope)) (sym same) (h scope)

kinds_numbered : Expressions NumberedExpr
kinds_numbered = record {
  lit = λ n. back (e.Lit n) _ (of-Lit expression_step n) (λ scope. plain_numbered sites_of _ (sites_of-Lit (literal n.digits)));
  true_ = λ at. back (e.True at) _ (of-True expression_step at) (λ scope. plain_numbered sites_of _ (sites_of-Lit (val.Flag true)));
  false_ = λ at. back (e.False at) _ (of-False expression_step at) (λ scope. plain_numbered sites_of _ (sites_of-Lit (val.Flag false)));
  name = λ name. back (e.Name name) _ (of-Name expression_step name) (λ scope. named_numbered scope name.at (read scope name.text));
  of_this = λ name at. back (e.OfThis name at) _ (of-OfThis expression_step name at) (λ scope. named_numbered scope at (read_own scope name.text));
  of_loop = λ variable name. back (e.OfLoop variable name) _ (of-OfLoop expression_step variable name)
      (λ scope. plain_numbered sites_of _ (sites_of-Field (agent_of (of_loop scope variable.text name.text)) (loop_number (of_loop scope variable.text name.text))));
  unary = λ op x at h. back (e.Unary op x at) _ (of-Unary expression_step op x at)
      (λ scope. unary_numbered (unary_faults (unary_named op)) at (unary_named op) (expression x scope) (h scope));
  binary = λ op x y at hx hy. back (e.Binary op x y at) _ (of-Binary expression_step op x y at)
      (λ scope. binary_numbered (binary_faults (binary_named op)) at (binary_named op) (expression x scope) (expression y scope) (hx scope) (hy scope));
  choice = λ c x y at hc hx hy. back (e.Choice c x y at) _ (of-Choice expression_step c x y at)
      (λ scope. choice_numbered (expression c scope) (expression x scope) (expression y scope) (hc scope) (hx scope) (hy scope));
  rand = λ at. back (e.Rand at) _ (of-Rand expression_step at) (λ scope. made_numbered (λ (n : ℕ). n ∷ []) sites_of expr.Rand (site at) (λ n. sites_of-Rand n) (one_site at));
}

-- the sites of an expression are numbered in finishing order
pub expression_numbered : (x : ExprTree) (scope : Scope) → Numbered sites_of (expression x scope)
expression_numbered = of_expression NumberedExpr kinds_numbered

-- the sites of a block, and of two blocks
abbrev pub block_sites : List Stmt → List ℕ
block_sites block = flat_map sites_in block

abbrev both_sites : List Stmt × List Stmt → List ℕ
both_sites p = block_sites p.0 ++ block_sites p.1

blocks_sites : (c : Expr) (p : List Stmt × List Stmt) → sites_in (stmt.If c p.0 p.1) ≡ sites_of c ++ both_sites p
blocks_sites c p =
    sites_in-If c p.0 p.1
    ∙ (ap (λ (l : List ℕ). sites_of c ++ (l ++ concat (map sites_in p.1))) (concat-map sites_in p.0)
    ∙ ap (λ (l : List ℕ). sites_of c ++ (block_sites p.0 ++ l)) (concat-map sites_in p.1))

if_numbered : (c : Meaning Expr) (a b : Meaning (List Stmt)) → Numbered sites_of c → Numbered block_sites a → Numbered block_sites b
    → Numbered sites_in (followed (λ (c : Expr) (blocks : List Stmt × List Stmt). stmt.If c blocks.0 blocks.1) c (followed (λ a b. (a, b)) a b))
if_numbered c a b hc ha hb =
    followed_numbered sites_of both_sites sites_in (λ (c : Expr) (blocks : List Stmt × List Stmt). stmt.If c blocks.0 blocks.1)
    c (followed (λ a b. (a, b)) a b) blocks_sites hc
    (followed_numbered block_sites block_sites both_sites (λ a b. (a, b)) a b (λ a b. refl) ha hb)

loop_numbered : (class at : ℕ) (body : Meaning (List Stmt)) → Numbered block_sites body
    → Numbered sites_in (made (λ b. stmt.Foreach class b at) body)
loop_numbered class at body h =
    made_numbered block_sites sites_in (λ b. stmt.Foreach class b at) body
    (λ b. sites_in-Foreach class b at ∙ concat-map sites_in b) h

said_numbered : (who : Who) (effect at : ℕ) (x : Meaning Expr) → Numbered sites_of x → Numbered sites_in (assigned who effect at x)
said_numbered who effect at x h = made_numbered sites_of sites_in (λ e. stmt.Assign who effect e at) x (λ e. sites_in-Assign who effect e at) h

bound_numbered : (n : ℕ) (x : Meaning Expr) → Numbered sites_of x → Numbered sites_in (made (stmt.Const n) x)
bound_numbered n x h = made_numbered sites_of sites_in (stmt.Const n) x (λ e. sites_in-Const n e) h

-- a statement declares so many constants, numbered from one on
pub record Declares (x : Stmt) (first count : ℕ) : Type 0 where
  pub numbers : constant_numbers x ≡ range_with_len first count
  pub many : constants x ≡ count

-- a block declares so many constants, numbered from one on
pub record BlockDeclares (b : List Stmt) (first count : ℕ) : Type 0 where
  pub numbers : flat_map constant_numbers b ≡ range_with_len first count
  pub many : sum (map constants b) ≡ count

pub none_declared : (first : ℕ) → BlockDeclares [] first 0
none_declared first = record { numbers = refl; many = refl }

more_declared : (x : Stmt) (b : List Stmt) (first c d : ℕ) → Declares x first c → BlockDeclares b (first + c) d → BlockDeclares (x ∷ b) first (c + d)
more_declared x b first c d one rest = record {
  numbers =
      ap (λ (l : List ℕ). l ++ flat_map constant_numbers b) one.numbers
      ∙ (ap (λ (l : List ℕ). range_with_len first c ++ l) rest.numbers ∙ row_joined first c d);
  many =
      sum_by-cons (λ (k : ℕ). k) (constants x) (map constants b)
      ∙ (ap (λ (k : ℕ). k + sum (map constants b)) one.many ∙ ap (λ (k : ℕ). c + k) rest.many);
}

if_declares : (x : Expr) (a b : List Stmt) (first c d : ℕ) → BlockDeclares a first c → BlockDeclares b (first + c) d → Declares (stmt.If x a b) first (c + d)
if_declares x a b first c d one other = record {
  numbers =
      constant_numbers-If x a b
      ∙ (ap (λ (l : List ℕ). l ++ concat (map constant_numbers b)) (concat-map constant_numbers a ∙ one.numbers)
      ∙ (ap (λ (l : List ℕ). range_with_len first c ++ l) (concat-map constant_numbers b ∙ other.numbers) ∙ row_joined first c d));
  many =
      constants-If x a b
      ∙ (ap (λ (k : ℕ). k + sum (map constants b)) one.many ∙ ap (λ (k : ℕ). c + k) other.many);
}

loop_declares : (class at : ℕ) (a : List Stmt) (first c : ℕ) → BlockDeclares a first c → Declares (stmt.Foreach class a at) first c
loop_declares class at a first c h = record {
  numbers = constant_numbers-Foreach class a at ∙ (concat-map constant_numbers a ∙ h.numbers);
  many = constants-Foreach class a at ∙ h.many;
}

said_declares : (who : Who) (effect : ℕ) (x : Expr) (at first : ℕ) → Declares (stmt.Assign who effect x at) first 0
said_declares who effect x at first = record { numbers = constant_numbers-Assign who effect x at; many = constants-Assign who effect x at }

bound_declares : (first : ℕ) (x : Expr) → Declares (stmt.Const first x) first 1
bound_declares first x = record { numbers = constant_numbers-Const first x; many = constants-Const first x }

-- a declaration leaves the count of constants as it is
same_count : (one : Option (Ident × Ty)) (scope : Scope) → (declared_in one scope).constants ≡ scope.constants
same_count None scope = refl
same_count (Some one) scope = refl

-- the places of the loops of a statement of a script
abbrev pub loops_step : layer.StmtTree-F (List ℕ) → List ℕ
loops_step (layer.If c a None at) = concat a
loops_step (layer.If c a (Some b) at) = concat a ++ concat b
loops_step (layer.Foreach class variable other a at) = at ∷ concat a
loops_step _ = []

abbrev pub loops : StmtTree → List ℕ
loops = fold-StmtTree (List ℕ) loops_step

abbrev pub loops_in : List StmtTree → List ℕ
loops_in = flat_map loops

if_loops : (c : Expr) (a b : List Stmt) (x y : List ℕ) → flat_map loop_offsets a ≡ x → flat_map loop_offsets b ≡ y → loop_offsets (stmt.If c a b) ≡ x ++ y
if_loops c a b x y h g =
    loop_offsets-If c a b
    ∙ (ap (λ (l : List ℕ). l ++ concat (map loop_offsets b)) (concat-map loop_offsets a ∙ h) ∙ ap (λ (l : List ℕ). x ++ l) (concat-map loop_offsets b ∙ g))

-- the numbers of a statement: its sites in finishing order, its constants in text order, the places of its loops
record PartNumbers (p : Part (Meaning Stmt)) (places : List ℕ) : Type 0 where
  numbered : (n : Scope) → Numbered sites_in (p.here n)
  declares : (n : Scope) (k : List ℕ) → Declares (p.here n k).0 n.constants p.constants
  loops_are : (n : Scope) (k : List ℕ) → loop_offsets (p.here n k).0 ≡ places

-- and of a block
pub record BlockNumbers (ps : List (Part (Meaning Stmt))) (places : List ℕ) : Type 0 where
  pub numbered : (n : Scope) → Numbered block_sites (block ps n)
  pub declares : (n : Scope) (k : List ℕ) → BlockDeclares (block ps n k).0 n.constants (constants_in ps)
  pub loops_are : (n : Scope) (k : List ℕ) → flat_map loop_offsets (block ps n k).0 ≡ places

abbrev StmtNumbers : StmtTree → Type 0
StmtNumbers x = PartNumbers (part x) (loops x)

abbrev TreesNumbers : List StmtTree → Type 0
TreesNumbers xs = BlockNumbers (map part xs) (loops_in xs)

trees_numbers : (ys : List (ProvedStmt StmtNumbers)) → TreesNumbers (stmts_of ys)
trees_numbers [] = record { numbered = λ n. plain_numbered block_sites [] refl; declares = λ n k. none_declared n.constants; loops_are = λ n k. refl }
trees_numbers (y ∷ ys) =
    let p : Part (Meaning Stmt) = part y.0 in
    let ps : List (Part (Meaning Stmt)) = map part (stmts_of ys) in
    let rest : TreesNumbers (stmts_of ys) = trees_numbers ys in
    record {
      numbered = λ n. followed_numbered sites_in block_sites block_sites (λ s rest. s ∷ rest) (p.here n) (block ps (behind p n)) (λ s rest. refl) (y.1.numbered n) (rest.numbered (behind p n));
      declares = λ n k.
          let j : List ℕ = (p.here n k).1 in
          let b : List Stmt = (block ps (behind p n) j).0 in
          subst (λ (c : ℕ). BlockDeclares ((p.here n k).0 ∷ b) n.constants c) (sym (constants-cons p ps))
          (more_declared (p.here n k).0 b n.constants p.constants (constants_in ps) (y.1.declares n k)
          (subst (λ (c : ℕ). BlockDeclares b (c + p.constants) (constants_in ps)) (same_count p.declared n) (rest.declares (behind p n) j)));
      loops_are = λ n k.
          let j : List ℕ = (p.here n k).1 in
          ap (λ (l : List ℕ). l ++ flat_map loop_offsets (block ps (behind p n) j).0) (y.1.loops_are n k) ∙ ap (λ (l : List ℕ). loops y.0 ++ l) (rest.loops_are (behind p n) j);
    }

back_numbers : (x : StmtTree) (p : Part (Meaning Stmt)) (l : List ℕ) → part x ≡ p → loops x ≡ l → PartNumbers p l → StmtNumbers x
back_numbers x p l h g is = subst (λ (p : Part (Meaning Stmt)). PartNumbers p (loops x)) (sym h) (subst (PartNumbers p) (sym g) is)

said_numbers : (p : Part (Meaning Stmt)) (who : Scope → Who) (effect : Scope → ℕ) (at : ℕ) (x : ExprTree)
    → p ≡ walk.plain 0 (λ n. assigned (who n) (effect n) at (expression x n)) → PartNumbers p []
said_numbers p who effect at x e = subst (λ (q : Part (Meaning Stmt)). PartNumbers q []) (sym e) (record {
  numbered = λ n. said_numbered (who n) (effect n) at (expression x n) (expression_numbered x n);
  declares = λ n k. said_declares (who n) (effect n) (expression x n k).0 at n.constants;
  loops_are = λ n k. loop_offsets-Assign (who n) (effect n) (expression x n k).0 at;
})

kinds_numbers : Statements StmtNumbers
kinds_numbers = record {
  const = λ type name x at. back_numbers (s.Const type name x at) _ [] (of-Const part_step type name x at) (of-Const loops_step type name x at) (record {
    numbered = λ n. bound_numbered n.constants (expression x n) (expression_numbered x n);
    declares = λ n k. bound_declares n.constants (expression x n k).0;
    loops_are = λ n k. loop_offsets-Const n.constants (expression x n k).0;
  });
  when = λ c a at. back_numbers (s.If c (stmts_of a) None at) _ (loops_in (stmts_of a)) (of-when part_step c (stmts_of a) at) (of-when loops_step c (stmts_of a) at ∙ concat-map loops (stmts_of a))
      (let one : TreesNumbers (stmts_of a) = trees_numbers a in
      let pa : List (Part (Meaning Stmt)) = map part (stmts_of a) in
      record {
        numbered = λ n. if_numbered (expression c n) (block pa n) (plain []) (expression_numbered c n) (one.numbered n) (plain_numbered block_sites [] refl);
        declares = λ n k.
            let j : List ℕ = (expression c n k).1 in
            if_declares (expression c n k).0 (block pa n j).0 [] n.constants (constants_in pa) 0 (one.declares n j) (none_declared (n.constants + constants_in pa));
        loops_are = λ n k.
            let j : List ℕ = (expression c n k).1 in
            if_loops (expression c n k).0 (block pa n j).0 [] (loops_in (stmts_of a)) [] (one.loops_are n j) refl ∙ append-nil (loops_in (stmts_of a));
      });
  either_way = λ c a b at. back_numbers (s.If c (stmts_of a) (Some (stmts_of b)) at) _ (loops_in (stmts_of a) ++ loops_in (stmts_of b)) (of-either part_step c (stmts_of a) (stmts_of b) at)
      (of-either loops_step c (stmts_of a) (stmts_of b) at
      ∙ (ap (λ (l : List ℕ). l ++ concat (map loops (stmts_of b))) (concat-map loops (stmts_of a)) ∙ ap (λ (l : List ℕ). loops_in (stmts_of a) ++ l) (concat-map loops (stmts_of b))))
      (let one : TreesNumbers (stmts_of a) = trees_numbers a in
      let other : TreesNumbers (stmts_of b) = trees_numbers b in
      let pa : List (Part (Meaning Stmt)) = map part (stmts_of a) in
      let pb : List (Part (Meaning Stmt)) = map part (stmts_of b) in
      let ca : ℕ = constants_in pa in
      record {
        numbered = λ n. if_numbered (expression c n) (block pa n) (block pb (past ca n)) (expression_numbered c n) (one.numbered n) (other.numbered (past ca n));
        declares = λ n k.
            let j : List ℕ = (expression c n k).1 in
            let i : List ℕ = (block pa n j).1 in
            if_declares (expression c n k).0 (block pa n j).0 (block pb (past ca n) i).0 n.constants ca (constants_in pb) (one.declares n j) (other.declares (past ca n) i);
        loops_are = λ n k.
            let j : List ℕ = (expression c n k).1 in
            let i : List ℕ = (block pa n j).1 in
            if_loops (expression c n k).0 (block pa n j).0 (block pb (past ca n) i).0 (loops_in (stmts_of a)) (loops_in (stmts_of b)) (one.loops_are n j) (other.loops_are (past ca n) i);
      });
  foreach = λ class variable other a at. back_numbers (s.Foreach class variable other (stmts_of a) at) _ (at ∷ loops_in (stmts_of a)) (of-Foreach part_step class variable other (stmts_of a) at)
      (of-Foreach loops_step class variable other (stmts_of a) at ∙ ap (λ (l : List ℕ). at ∷ l) (concat-map loops (stmts_of a)))
      (let one : TreesNumbers (stmts_of a) = trees_numbers a in
      let pa : List (Part (Meaning Stmt)) = map part (stmts_of a) in
      record {
        numbered = λ n. loop_numbered (number_in n class) at (block pa (inside class variable n)) (one.numbered (inside class variable n));
        declares = λ n k. loop_declares (number_in n class) at (block pa (inside class variable n) k).0 n.constants (constants_in pa) (one.declares (inside class variable n) k);
        loops_are = λ n k.
            let b : List Stmt = (block pa (inside class variable n) k).0 in
            loop_offsets-Foreach (number_in n class) b at ∙ ap (λ (l : List ℕ). at ∷ l) (concat-map loop_offsets b ∙ one.loops_are (inside class variable n) k);
      });
  assign = λ name x. back_numbers (s.Assign name x) _ [] (of-Assign part_step name x) (of-Assign loops_step name x)
      (said_numbers _ (λ n. This) (λ n. number_of (look n.home.own name.text)) name.at x refl);
  assign_this = λ name x at. back_numbers (s.AssignThis name x at) _ [] (of-AssignThis part_step name x at) (of-AssignThis loops_step name x at)
      (said_numbers _ (λ n. This) (λ n. number_of (look n.home.own name.text)) at x refl);
  assign_loop = λ variable name x. back_numbers (s.AssignLoop variable name x) _ [] (of-AssignLoop part_step variable name x) (of-AssignLoop loops_step variable name x)
      (said_numbers _ (λ n. agent_of (of_loop n variable.text name.text)) (λ n. loop_number (of_loop n variable.text name.text)) variable.at x refl);
}

pub block_numbers : (xs : List StmtTree) → TreesNumbers xs
block_numbers xs = subst TreesNumbers (stmts-proved StmtNumbers kinds_numbers xs) (trees_numbers (proved StmtNumbers kinds_numbers xs))

abbrev pub Rises : ℕ → ℕ → List ℕ → Type 0
Rises lo hi [] = lo ≤ hi
Rises lo hi (x ∷ xs) = (lo ≤ x) × Rises (x + 1) hi xs

-- from a lower bound on
pub rises_from : (lower lo hi : ℕ) (xs : List ℕ) → lower ≤ lo → Rises lo hi xs → Rises lower hi xs
rises_from lower lo hi [] under h = omega (arith, under, h)
rises_from lower lo hi (x ∷ xs) under h = (let at : lo ≤ x = h.0 in omega (arith, under, at), h.1)

-- the bounds of numbers that rise
pub bounds_rise : (lo hi : ℕ) (xs : List ℕ) → Rises lo hi xs → lo ≤ hi
bounds_rise lo hi [] h = h
bounds_rise lo hi (x ∷ xs) h =
    let at : lo ≤ x = h.0 in
    let past : x + 1 ≤ hi = bounds_rise (x + 1) hi xs h.1 in
    omega (arith, at, past)

-- numbers behind others
pub rises-joined : (lo mid hi : ℕ) (xs ys : List ℕ) → Rises lo mid xs → Rises mid hi ys → Rises lo hi (xs ++ ys)
rises-joined lo mid hi [] ys h g = rises_from lo mid hi ys h g
rises-joined lo mid hi (x ∷ xs) ys h g = (h.0, rises-joined (x + 1) mid hi xs ys h.1 g)

-- the front of numbers that rise
pub front_rises : (lo hi : ℕ) (xs ys : List ℕ) → Rises lo hi (xs ++ ys) → Rises lo hi xs
front_rises lo hi [] ys h = bounds_rise lo hi ys h
front_rises lo hi (x ∷ xs) ys h = (h.0, front_rises (x + 1) hi xs ys h.1)

-- and their end
pub back_rises : (lo hi : ℕ) (xs ys : List ℕ) → Rises lo hi (xs ++ ys) → Rises lo hi ys
back_rises lo hi [] ys h = h
back_rises lo hi (x ∷ xs) ys h =
    let at : lo ≤ x = h.0 in
    rises_from lo (x + 1) hi ys (omega (arith, at)) (back_rises (x + 1) hi xs ys h.1)

-- so many numbers in turn
pub range_rises : (n c : ℕ) → Rises n (n + c) (range_with_len n c)
range_rises n zero = omega arith
range_rises n (suc c) =
    let more : (n + 1) + c ≡ n + suc c = omega arith in
    (omega arith, subst (λ (hi : ℕ). Rises (n + 1) hi (range_with_len (n + 1) c)) more (range_rises (n + 1) c))

-- what stands behind so many numbers in turn
rises_past : (n c hi : ℕ) (xs : List ℕ) → Rises n hi (range_with_len n c ++ xs) → Rises (n + c) hi xs
rises_past n zero hi xs h = rises_from (n + 0) n hi xs (omega arith) h
rises_past n (suc c) hi xs h =
    let more : (n + 1) + c ≡ n + suc c = omega arith in
    subst (λ (lo : ℕ). Rises lo hi xs) more (rises_past (n + 1) c hi xs h.1)

pub rises_behind : (lo hi : ℕ) (xs : List ℕ) → range_with_len 0 lo ++ xs ≡ range_with_len 0 hi → Rises lo hi xs
rises_behind lo hi xs h =
    let low : 0 + lo ≡ lo = omega arith in
    let high : 0 + hi ≡ hi = omega arith in
    subst (λ (n : ℕ). Rises n hi xs) low
    (rises_past 0 lo hi xs (subst (Rises 0 hi) (sym h) (subst (λ (n : ℕ). Rises 0 n (range_with_len 0 hi)) high (range_rises 0 hi))))

-- so each number is below all behind it
pub are_rising : (lo hi : ℕ) (xs : List ℕ) → Rises lo hi xs → AreRising lo xs
are_rising lo hi [] h = tt
are_rising lo hi (x ∷ xs) h = (h.0, are_rising (x + 1) hi xs h.1)

module _ (P : ℕ → ℕ → Type 0) (each : (x y : ℕ) → x < y → P x y) where
  above : (low x : ℕ) (xs : List ℕ) → x < low → AreRising low xs → AllByRecursion (P x) xs
  above low x [] under h = tt
  above low x (y ∷ ys) under h =
      let at : low ≤ y = h.0 in
      let less : x < y = omega (arith, under, at) in
      let further : x < y + 1 = omega (arith, less) in
      (each x y less, above (y + 1) x ys further h.1)

sorted : (low : ℕ) (xs : List ℕ) → AreRising low xs → IsStrictlySortedBy nat_cmp xs
unfolding IsStrictlySortedBy
sorted low [] h = tt
sorted low (x ∷ xs) h =
    let under : x < x + 1 = omega arith in
    (above (λ x y. nat_cmp x y ≡ Less) (λ x y less. sym (nat_cmp_is x y Less less)) (x + 1) x xs under h.1, sorted (x + 1) xs h.1)

-- numbers that rise differ
pub rising_differ : (low : ℕ) (xs : List ℕ) → AreRising low xs → IsDistinct nat_eq xs
unfolding IsDistinct
rising_differ low [] h = tt
rising_differ low (x ∷ xs) h =
    let under : x < x + 1 = omega arith in
    (above (λ x y. nat_eq x y ≡ false) (λ x y less. ne_eqb x y (λ e. let same : x ≡ y = e in absurd (omega (arith, less, same)))) (x + 1) x xs under h.1, rising_differ (x + 1) xs h.1)

-- what rises between bounds increases
pub increasing_from_rises : (lo hi : ℕ) (xs : List ℕ) → Rises lo hi xs → IsStrictlyIncreasing xs
increasing_from_rises lo hi xs h = IsStrictlyIncreasing-from_sorted xs (sorted lo xs (are_rising lo hi xs h))

module _ {A : Type 0} (f : A → List ℕ) where
  -- what the first of some things has rises, where what all of them have does
  pub first_rises : (lo hi : ℕ) (xs : List A) → Rises lo hi (flat_map f xs) → Rises lo hi (flat_map f (option_to_list (slice_get xs 0)))
  first_rises lo hi [] h = h
  first_rises lo hi (x ∷ xs) h = subst (Rises lo hi) (sym (append-nil (f x))) (front_rises lo hi (f x) (flat_map f xs) h)
