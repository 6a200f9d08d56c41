-- The sites and the assignments that are counted in a script are those of its program.
use Rattle.std.proofs.Common.{◌≡◌, refl, sym, ap, subst, ◌∙◌, ℕ, ◌+◌, Bool, true, false, List, [], ◌∷◌, ◌++◌, map, flat_map, length, length-append, append_assoc, arith, suc, ◌≤◌}
use Rattle.std.specs.Prelude.{Option, Some, None, sum, if◌then◌else◌, sum_by, slice_get, option_map, unwrap_or, option_to_list}
use Rattle.std.specs.Str.{bytes_eq}
use Rattle.std.proofs.lemmas.Grind.{flat_map-append}
use Rattle.std.proofs.lemmas.List.Sums.{sum_by-cons, sum_by-append}
use Rattle.brace_syntax.specs.declared.tree.Ident.{Ident}
use Rattle.brace_syntax.specs.declared.tree.TyName.{TyName}
use Rattle.brace_syntax.specs.declared.tree.TyName.TheVariants as tyname
use Rattle.brace_syntax.specs.declared.tree.ExprTree.{ExprTree}
use Rattle.brace_syntax.specs.declared.tree.ExprTree.TheVariants as e
use Rattle.brace_syntax.specs.declared.tree.StmtTree.{StmtTree}
use Rattle.brace_syntax.specs.declared.tree.StmtTree.TheVariants as s
use Rattle.brace_names.specs.declared.fault.NameFault.{NameFault}
use Rattle.brace_names.specs.declared.fault.NameFault.TheVariants.{UnknownClass, DuplicateClass, DuplicateName, NoPosition}
use Rattle.brace_names.specs.declared.declared.Field.{Field}
use Rattle.brace_names.specs.declared.declared.Field.TheVariants as field
use Rattle.brace_names.specs.declared.scope.Named.{Named}
use Rattle.brace_names.specs.declared.scope.Named.TheVariants as named
use Rattle.brace_names.specs.declared.scope.LoopField.{LoopField}
use Rattle.brace_names.specs.declared.finding.Finding.{Finding}
use Rattle.brace_names.specs.Kinds.{unary_named, binary_named}
use Rattle.brace_names.specs.Tables.{look, repeated}
use Rattle.brace_names.specs.Scopes.{Scope, class_number, is_taken, read, read_own, of_loop, inside, past, Home, home_of, outermost}
use Rattle.brace_names.specs.Walk.{Part, behind, constants_in, part_step as walk_step, in_classes}
use Rattle.brace_names.specs.Walk as walk
use Rattle.brace_names.specs.Findings as f
use Rattle.brace_names.specs.Found as names
use Rattle.brace_names.specs.Found.{sought, declarations, class_names, too_many, position, found}
use Rattle.brace_names.specs.Faults.{site_of, assignment_of}
use Rattle.brace_names.proofs.Folds.{Expressions, of_expression, ProvedStmt, stmts_of, Statements, proved, stmts-proved, of-Lit, of-True, of-False, of-Name, of-OfThis, of-OfLoop, of-Unary, of-Binary, of-Choice, of-Rand, of-Const, of-when, of-either, of-Foreach, of-Assign, of-AssignThis, of-AssignLoop}
use Rattle.brace_names.proofs.StmtLemmas.{behind_same}
use Rattle.brace_model.specs.declared.program.Expr.{Expr}
use Rattle.brace_model.specs.declared.program.Stmt.{Stmt}
use Rattle.brace_model.specs.declared.program.Stmt.TheVariants as stmt
use Rattle.brace_model.specs.declared.program.Who.TheVariants.{This}
use Rattle.brace_model.specs.Typing.{unary_faults, binary_faults}
use Rattle.brace_model.specs.Sites.{assignments, class_assignments}
use Rattle.brace_model.proofs.LawEquations.{assignments-Const, assignments-If, assignments-Foreach, assignments-Assign}
use Rattle.brace_check.specs.Meanings.{Meaning, site_if, number_of, named_as, agent_of, loop_number, number_in, expression, expression_step, block, part, part_step}
use Rattle.brace_check.proofs.Ties.{same_part, same_blocks}
use Rattle.std.proofs.lemmas.List.{append-nil}
use Rattle.brace_syntax.specs.declared.tree.GiftTree.{GiftTree}
use Rattle.brace_syntax.specs.declared.tree.MemberTree.{MemberTree}
use Rattle.brace_syntax.specs.declared.tree.MemberTree.TheVariants as m
use Rattle.brace_syntax.specs.declared.tree.ClassTree.{ClassTree}
use Rattle.brace_syntax.specs.declared.tree.Tree.{Tree}
use Rattle.brace_names.specs.declared.fault.Which.{Which}
use Rattle.brace_names.specs.declared.fault.Which.TheVariants as which
use Rattle.brace_names.specs.Classes.{Known, known, title, fields, has_position}
use Rattle.brace_model.specs.declared.program.Spawn.{Spawn}
use Rattle.brace_model.specs.declared.program.Class.{Class}
use Rattle.brace_check.specs.declared.share.Share.{Share}
use Rattle.brace_check.specs.Programs.{gifts_in, share, shares, class_of, classes_from}

-- behind sites at some places, the sites among what is found lead to others, and there are so many assignments
pub record Told (all : List Finding) (before after : List ℕ) (count : ℕ) : Type 0 where
  pub sites : before ++ flat_map site_of all ≡ after
  pub said : length (flat_map assignment_of all) ≡ count

told_both : (xs ys : List Finding) (a b c : List ℕ) (k l : ℕ) → Told xs a b k → Told ys b c l → Told (xs ++ ys) a c (k + l)
told_both xs ys a b c k l h g = record {
  sites =
      ap (λ (p : List ℕ). a ++ p) (flat_map-append site_of xs ys)
      ∙ (sym (append_assoc a (flat_map site_of xs) (flat_map site_of ys))
      ∙ (ap (λ (p : List ℕ). p ++ flat_map site_of ys) h.sites ∙ g.sites));
  said =
      ap length (flat_map-append assignment_of xs ys)
      ∙ (length-append (flat_map assignment_of xs) (flat_map assignment_of ys)
      ∙ (ap (λ (j : ℕ). j + length (flat_map assignment_of ys)) h.said ∙ ap (λ (j : ℕ). k + j) g.said));
}

counted : (all : List Finding) (a b : List ℕ) (k l : ℕ) → k ≡ l → Told all a b k → Told all a b l
counted all a b k l e h = subst (Told all a b) e h

-- neither sites nor assignments
record Quiet (all : List Finding) : Type 0 where
  none : flat_map site_of all ≡ []
  still : flat_map assignment_of all ≡ []

told_quiet : (xs : List Finding) (a : List ℕ) → Quiet xs → Told xs a a 0
told_quiet xs a h = record { sites = ap (λ (p : List ℕ). a ++ p) h.none ∙ append-nil a; said = ap length h.still }

-- behind what has none
behind_quiet : (xs ys : List Finding) (a b : List ℕ) (l : ℕ) → Quiet xs → Told ys a b l → Told (xs ++ ys) a b l
behind_quiet xs ys a b l h g = counted (xs ++ ys) a b (0 + l) l (omega arith) (told_both xs ys a a b 0 l (told_quiet xs a h) g)

quiet_both : (xs ys : List Finding) → Quiet xs → Quiet ys → Quiet (xs ++ ys)
quiet_both xs ys h g = record {
  none = flat_map-append site_of xs ys ∙ (ap (λ (p : List ℕ). p ++ flat_map site_of ys) h.none ∙ g.none);
  still = flat_map-append assignment_of xs ys ∙ (ap (λ (p : List ℕ). p ++ flat_map assignment_of ys) h.still ∙ g.still);
}

quiet_nothing : Quiet []
quiet_nothing = record { none = refl; still = refl }

quiet_fault : (x : NameFault) → Quiet (f.fault x)
quiet_fault x = record { none = refl; still = refl }

quiet_faults : (kind : ℕ → NameFault) (ats : List ℕ) → Quiet (f.faults_at kind ats)
quiet_faults kind [] = quiet_nothing
quiet_faults kind (at ∷ ats) = quiet_both (f.fault (kind at)) (f.faults_at kind ats) (quiet_fault (kind at)) (quiet_faults kind ats)

quiet_if : (test : Bool) (xs ys : List Finding) → Quiet xs → Quiet ys → Quiet (if test then xs else ys)
quiet_if true xs ys h g = h
quiet_if false xs ys h g = g

quiet_typed : (type : TyName) → Quiet (f.typed type)
quiet_typed (tyname.Other name) = quiet_fault _
quiet_typed _ = quiet_nothing

quiet_declares : (n : Scope) (name : Ident) → Quiet (f.declares n name)
quiet_declares n name = quiet_if (is_taken n name.text) _ [] (quiet_fault _) quiet_nothing

quiet_class : (at : ℕ) (o : Option ℕ) → Quiet (f.names_class at o)
quiet_class at None = quiet_fault _
quiet_class at (Some number) = record { none = refl; still = refl }

quiet_loops : (n : Scope) (class other : Ident) → Quiet (f.loops_over n class other)
quiet_loops n class other =
    quiet_both (f.names_class class.at (class_number n class.text)) (f.names_again class other (class_number n other.text)) (quiet_class class.at (class_number n class.text))
    (quiet_if (bytes_eq class.text other.text) (f.names_class other.at (class_number n other.text)) (f.fault (UnknownClass other.at))
    (quiet_class other.at (class_number n other.text)) (quiet_fault (UnknownClass other.at)))

quiet_field : (at : ℕ) (name : Ident) (o : Option Field) → Quiet (f.names_field at name o)
quiet_field at name None = quiet_fault _
quiet_field at name (Some x) = record { none = refl; still = refl }

quiet_loop : (variable name : Ident) (o : Option LoopField) → Quiet (f.names_of_loop variable name o)
quiet_loop variable name None = quiet_fault _
quiet_loop variable name (Some x) = record { none = refl; still = refl }

told_site : (test : Bool) (at : ℕ) (k : List ℕ) → Told (f.site_if test at) k (site_if test at k).1 0
told_site true at k = record { sites = refl; said = refl }
told_site false at k = told_quiet [] k quiet_nothing

told_reads : (n : Scope) (at : ℕ) (name : Ident) (o : Option Named) (k : List ℕ) → Told (f.reads n at name o) k (named_as n at o k).1 0
told_reads n at name None k = told_quiet _ k (quiet_fault _)
told_reads n at name (Some (named.Field (field.Effect i t shared c))) k =
    behind_quiet (f.names_as name.at (f.target_of (field.Effect i t shared c))) (f.site_if (f.is_summed n (field.Effect i t shared c)) at) k _ 0
    (record { none = refl; still = refl }) (told_site (f.is_summed n (field.Effect i t shared c)) at k)
told_reads n at name _ k = told_quiet _ k (record { none = refl; still = refl })

-- an expression
abbrev ToldBy : (Scope → List Finding) → (Scope → Meaning Expr) → Type 0
ToldBy g s = (n : Scope) (k : List ℕ) → Told (g n) k (s n k).1 0

abbrev ExprTold : ExprTree → Type 0
ExprTold x = ToldBy (names.expression x) (expression x)

kind : (x : ExprTree) (g : Scope → List Finding) (s : Scope → Meaning Expr) → names.expression x ≡ g → expression x ≡ s → ToldBy g s → ExprTold x
kind x g s eg es h =
    subst (λ (g : Scope → List Finding). ToldBy g (expression x)) (sym eg) (subst (λ (s : Scope → Meaning Expr). ToldBy g s) (sym es) h)

kinds_told : Expressions ExprTold
kinds_told = record {
  lit = λ number. kind (e.Lit number) _ _ (of-Lit names.expression_step number) (of-Lit expression_step number) (λ n k. told_quiet [] k quiet_nothing);
  true_ = λ at. kind (e.True at) _ _ (of-True names.expression_step at) (of-True expression_step at) (λ n k. told_quiet [] k quiet_nothing);
  false_ = λ at. kind (e.False at) _ _ (of-False names.expression_step at) (of-False expression_step at) (λ n k. told_quiet [] k quiet_nothing);
  name = λ name. kind (e.Name name) _ _ (of-Name names.expression_step name) (of-Name expression_step name) (λ n k. told_reads n name.at name (read n name.text) k);
  of_this = λ name at. kind (e.OfThis name at) _ _ (of-OfThis names.expression_step name at) (of-OfThis expression_step name at) (λ n k. told_reads n at name (read_own n name.text) k);
  of_loop = λ variable name. kind (e.OfLoop variable name) _ _ (of-OfLoop names.expression_step variable name) (of-OfLoop expression_step variable name)
      (λ n k. told_quiet _ k (quiet_if n.in_query _ [] (quiet_loop variable name (of_loop n variable.text name.text)) quiet_nothing));
  unary = λ op x at h. kind (e.Unary op x at) _ _ (of-Unary names.expression_step op x at) (of-Unary expression_step op x at)
      (λ n k.
      let test : Bool = unary_faults (unary_named op) in
      let j : List ℕ = (expression x n k).1 in
      told_both (names.expression x n) (f.site_if test at) k j _ 0 0 (h n k) (told_site test at j));
  binary = λ op x y at h g. kind (e.Binary op x y at) _ _ (of-Binary names.expression_step op x y at) (of-Binary expression_step op x y at)
      (λ n k.
      let test : Bool = binary_faults (binary_named op) in
      let j : List ℕ = (expression x n k).1 in
      let i : List ℕ = (expression y n j).1 in
      told_both (names.expression x n ++ names.expression y n) (f.site_if test at) k i _ 0 0
      (told_both (names.expression x n) (names.expression y n) k j i 0 0 (h n k) (g n j)) (told_site test at i));
  choice = λ c x y at w h g. kind (e.Choice c x y at) _ _ (of-Choice names.expression_step c x y at) (of-Choice expression_step c x y at)
      (λ n k.
      let j : List ℕ = (expression c n k).1 in
      let i : List ℕ = (expression x n j).1 in
      told_both (names.expression c n ++ names.expression x n) (names.expression y n) k i _ 0 0
      (told_both (names.expression c n) (names.expression x n) k j i 0 0 (w n k) (h n j)) (g n i));
  rand = λ at. kind (e.Rand at) _ _ (of-Rand names.expression_step at) (of-Rand expression_step at) (λ n k. record { sites = refl; said = refl });
}

pub expression_told : (x : ExprTree) (n : Scope) (k : List ℕ) → Told (names.expression x n) k (expression x n k).1 0
expression_told = of_expression ExprTold kinds_told

-- a statement
abbrev pub said : List Stmt → ℕ
said b = sum (map assignments b)

abbrev PartTold : Part (List Finding) → Part (Meaning Stmt) → Type 0
PartTold q p = (n : Scope) (k : List ℕ) → Told (q.here n) k (p.here n k).1 (assignments (p.here n k).0)

abbrev StmtTold : StmtTree → Type 0
StmtTold x = PartTold (names.part x) (part x)

abbrev BlockTold : List StmtTree → Type 0
BlockTold xs = (n : Scope) (k : List ℕ) → Told (walk.block (map names.part xs) n) k (block (map part xs) n k).1 (said (block (map part xs) n k).0)

trees_told : (ys : List (ProvedStmt StmtTold)) → BlockTold (stmts_of ys)
trees_told [] n k = told_quiet [] k quiet_nothing
trees_told (y ∷ ys) n k =
    let q : Part (List Finding) = names.part y.0 in
    let p : Part (Meaning Stmt) = part y.0 in
    let j : List ℕ = (p.here n k).1 in
    let head : Stmt = (p.here n k).0 in
    let rest : List Stmt × List ℕ = block (map part (stmts_of ys)) (behind p n) j in
    let g : Told (walk.block (map names.part (stmts_of ys)) (behind q n)) j rest.1 (said rest.0) =
    subst (λ (l : Scope). Told (walk.block (map names.part (stmts_of ys)) l) j rest.1 (said rest.0)) (sym (behind_same q p n (same_part sought y.0))) (trees_told ys (behind p n) j) in
    counted _ _ _ (assignments head + said rest.0) (said (head ∷ rest.0)) (sym (sum_by-cons (λ (k : ℕ). k) (assignments head) (map assignments rest.0)))
    (told_both (q.here n) (walk.block (map names.part (stmts_of ys)) (behind q n)) k j rest.1 (assignments head) (said rest.0) (y.1 n k) g)

back : (x : StmtTree) (q : Part (List Finding)) (p : Part (Meaning Stmt)) → names.part x ≡ q → part x ≡ p → PartTold q p → StmtTold x
back x q p e g h = subst (λ (r : Part (List Finding)). PartTold r (part x)) (sym e) (subst (PartTold q) (sym g) h)

-- an assignment
one_told : (before : List Finding) (at : ℕ) (x : ExprTree) (n : Scope) (k : List ℕ) → Quiet before → Told ((before ++ f.assignment at) ++ names.expression x n) k (expression x n k).1 1
one_told before at x n k quiet =
    told_both (before ++ f.assignment at) (names.expression x n) k k _ 1 0
    (told_both before (f.assignment at) k k k 0 1 (told_quiet before k quiet) (record { sites = append-nil k; said = refl })) (expression_told x n k)

said_told : (at : ℕ) (name : Ident) (x : ExprTree) (n : Scope) (k : List ℕ)
    → Told (f.assigns n at name ++ names.expression x n) k (expression x n k).1 (assignments (stmt.Assign This (number_of (look n.home.own name.text)) (expression x n k).0 at))
said_told at name x n k =
    counted _ _ _ 1 _ (sym (assignments-Assign This (number_of (look n.home.own name.text)) (expression x n k).0 at))
    (one_told (f.names_field at name (look n.home.own name.text)) at x n k (quiet_field at name (look n.home.own name.text)))

if_told : (c : ExprTree) (n : Scope) (xs ys : List Finding) (a b : List Stmt) (k i l : List ℕ) → Told xs (expression c n k).1 i (said a) → Told ys i l (said b)
    → Told (names.expression c n ++ xs ++ ys) k l (assignments (stmt.If (expression c n k).0 a b))
if_told c n xs ys a b k i l h g =
    let is : assignments (stmt.If (expression c n k).0 a b) ≡ said a + said b = assignments-If (expression c n k).0 a b in
    counted _ _ _ ((0 + said a) + said b) _ (omega (arith, is))
    (told_both (names.expression c n ++ xs) ys k i l (0 + said a) (said b)
    (told_both (names.expression c n) xs k (expression c n k).1 i 0 (said a) (expression_told c n k) h) g)

kinds_said : Statements StmtTold
kinds_said = record {
  const = λ type name x at. back (s.Const type name x at) _ _ (of-Const (walk_step sought) type name x at) (of-Const part_step type name x at)
      (λ n k. counted _ _ _ 0 _ (sym (assignments-Const n.constants (expression x n k).0))
      (behind_quiet (f.typed type ++ f.declares n name) (names.expression x n) k _ 0
      (quiet_both (f.typed type) (f.declares n name) (quiet_typed type) (quiet_declares n name)) (expression_told x n k)));
  when = λ c a at. back (s.If c (stmts_of a) None at) _ _ (of-when (walk_step sought) c (stmts_of a) at) (of-when part_step c (stmts_of a) at)
      (λ n k.
      let j : List ℕ = (expression c n k).1 in
      let one : List Stmt × List ℕ = block (map part (stmts_of a)) n j in
      if_told c n (walk.block (map names.part (stmts_of a)) n) [] one.0 [] k one.1 one.1 (trees_told a n j) (told_quiet [] one.1 quiet_nothing));
  either_way = λ c a b at. back (s.If c (stmts_of a) (Some (stmts_of b)) at) _ _ (of-either (walk_step sought) c (stmts_of a) (stmts_of b) at) (of-either part_step c (stmts_of a) (stmts_of b) at)
      (λ n k.
      let j : List ℕ = (expression c n k).1 in
      let one : List Stmt × List ℕ = block (map part (stmts_of a)) n j in
      let later : Scope = past (constants_in (map part (stmts_of a))) n in
      let other : List Stmt × List ℕ = block (map part (stmts_of b)) later one.1 in
      if_told c n (walk.block (map names.part (stmts_of a)) n) (walk.block (map names.part (stmts_of b)) (past (constants_in (map names.part (stmts_of a))) n))
      one.0 other.0 k one.1 other.1 (trees_told a n j)
      (subst (λ (c : ℕ). Told (walk.block (map names.part (stmts_of b)) (past c n)) one.1 other.1 (said other.0)) (sym (same_blocks sought (stmts_of a))) (trees_told b later one.1)));
  foreach = λ class variable other a at. back (s.Foreach class variable other (stmts_of a) at) _ _
      (of-Foreach (walk_step sought) class variable other (stmts_of a) at) (of-Foreach part_step class variable other (stmts_of a) at)
      (λ n k.
      let body : List Stmt × List ℕ = block (map part (stmts_of a)) (inside class variable n) k in
      counted _ _ _ (said body.0) _ (sym (assignments-Foreach (number_in n class) body.0 at))
      (behind_quiet (f.loops_over n class other ++ f.declares n variable) (walk.block (map names.part (stmts_of a)) (inside class variable n)) k body.1 (said body.0)
      (quiet_both (f.loops_over n class other) (f.declares n variable) (quiet_loops n class other) (quiet_declares n variable)) (trees_told a (inside class variable n) k)));
  assign = λ name x. back (s.Assign name x) _ _ (of-Assign (walk_step sought) name x) (of-Assign part_step name x) (λ n k. said_told name.at name x n k);
  assign_this = λ name x at. back (s.AssignThis name x at) _ _ (of-AssignThis (walk_step sought) name x at) (of-AssignThis part_step name x at) (λ n k. said_told at name x n k);
  assign_loop = λ variable name x. back (s.AssignLoop variable name x) _ _ (of-AssignLoop (walk_step sought) variable name x) (of-AssignLoop part_step variable name x)
      (λ n k.
      let o : Option LoopField = of_loop n variable.text name.text in
      counted _ _ _ 1 _ (sym (assignments-Assign (agent_of o) (loop_number o) (expression x n k).0 variable.at))
      (one_told (f.names_of_loop variable name o) variable.at x n k (quiet_loop variable name o)));
}

block_told : (xs : List StmtTree) → BlockTold xs
block_told xs = subst BlockTold (stmts-proved StmtTold kinds_said xs) (trees_told (proved StmtTold kinds_said xs))

-- the gifts of a `spawn`
gifts_told : (gifts : List GiftTree) (n : Scope) (k : List ℕ) → Told (flat_map (names.gift n) gifts) k (gifts_in gifts n k).1 (length (gifts_in gifts n k).0)
gifts_told [] n k = told_quiet [] k quiet_nothing
gifts_told (g ∷ gifts) n k =
    let j : List ℕ = (expression g.value n k).1 in
    let many : ℕ = length (gifts_in gifts n j).0 in
    let more : 1 + many ≡ suc many = omega arith in
    counted _ _ _ (1 + many) _ more
    (told_both (names.gift n g) (flat_map (names.gift n) gifts) k j _ 1 many
    (one_told (f.names_field g.state.at g.state (look n.home.own g.state.text)) g.state.at g.value n k (quiet_field g.state.at g.state (look n.home.own g.state.text)))
    (gifts_told gifts n j))

-- how many assignments a share has
abbrev given : List Spawn → ℕ
given = sum_by (λ (p : Spawn). length p.gifts)

abbrev share_said : Share → ℕ
share_said s = sum_by said s.queries + given s.spawn

module _ (home : Home) where
  member_told : (x : MemberTree) (k : List ℕ) → Told (names.member home x) k (share home x k).1 (share_said (share home x k).0)
  member_told (m.State shared type name None at) k = told_quiet _ k (quiet_both (f.typed type) [] (quiet_typed type) quiet_nothing)
  member_told (m.State shared type name (Some x) at) k =
      behind_quiet (f.typed type) (names.expression x (outermost home false)) k _ 0 (quiet_typed type) (expression_told x (outermost home false) k)
  member_told (m.Effect shared type name c at) k = told_quiet _ k (quiet_typed type)
  member_told (m.Run xs at) k =
      let q : ℕ = said (block (map part xs) (outermost home true) k).0 in
      let total : q ≡ (0 + q) + 0 = omega arith in
      counted _ _ _ q ((0 + q) + 0) total (block_told xs (outermost home true) k)
  member_told (m.Die x at) k = expression_told x (outermost home false) k
  member_told (m.Spawn x gifts at) k =
      let n : Scope = outermost home false in
      let j : List ℕ = (expression x n k).1 in
      let i : List ℕ = (gifts_in gifts n j).1 in
      let many : ℕ = length (gifts_in gifts n j).0 in
      let all : List Finding = flat_map (names.gift n) gifts in
      let again : List Finding = f.faults_at DuplicateName (repeated (names.states_given n gifts)) in
      counted _ _ _ (0 + ((many + 0) + 0)) (0 + (0 + many)) (omega arith)
      (told_both (names.expression x n) ((all ++ again) ++ f.site at) k j _ 0 ((many + 0) + 0) (expression_told x n k)
      (told_both (all ++ again) (f.site at) j i _ (many + 0) 0
      (told_both all again j i i many 0 (gifts_told gifts n j) (told_quiet again i (quiet_faults DuplicateName (repeated (names.states_given n gifts)))))
      (record { sites = refl; said = refl })))
  member_told _ k = told_quiet [] k quiet_nothing

  members_told : (xs : List MemberTree) (k : List ℕ) → Told (flat_map (names.member home) xs) k (shares home xs k).1 (share_said (shares home xs k).0)
  members_told [] k = told_quiet [] k quiet_nothing
  members_told (x ∷ xs) k =
      let j : List ℕ = (share home x k).1 in
      let a : Share = (share home x k).0 in
      let b : Share = (shares home xs j).0 in
      let p : sum_by said (a.queries ++ b.queries) ≡ sum_by said a.queries + sum_by said b.queries = sum_by-append said a.queries b.queries in
      let r : given (a.spawn ++ b.spawn) ≡ given a.spawn + given b.spawn = sum_by-append (λ (p : Spawn). length p.gifts) a.spawn b.spawn in
      let total : (sum_by said a.queries + given a.spawn) + (sum_by said b.queries + given b.spawn) ≡ sum_by said (a.queries ++ b.queries) + given (a.spawn ++ b.spawn) = omega (arith, p, r) in
      counted _ _ _ (share_said a + share_said b) _ total
      (told_both (names.member home x) (flat_map (names.member home) xs) k j _ (share_said a) (share_said b) (member_told x k) (members_told xs j))

-- the first of them
first_said : (queries : List (List Stmt)) → said (unwrap_or (slice_get queries 0) []) ≤ sum_by said queries
first_said [] = omega arith
first_said (b ∷ queries) = let whole : sum_by said (b ∷ queries) ≡ said b + sum_by said queries = sum_by-cons said b queries in omega (arith, whole)

first_given : (spawns : List Spawn) → given (option_to_list (slice_get spawns 0)) ≤ given spawns
first_given [] = omega arith
first_given (p ∷ spawns) =
    let whole : given (p ∷ spawns) ≡ length p.gifts + given spawns = sum_by-cons (λ (p : Spawn). length p.gifts) p spawns in
    let alone : given (p ∷ []) ≡ length p.gifts + 0 = sum_by-cons (λ (p : Spawn). length p.gifts) p [] in
    omega (arith, whole, alone)

-- the classes of a script: no more assignments than are found
record ClassesTold (all : Known) (number : ℕ) (classes : List ClassTree) (k : List ℕ) : Type 0 where
  count : ℕ
  told : Told (in_classes names.member all number classes) k (classes_from all number classes k).1 count
  under : sum_by class_assignments (classes_from all number classes k).0 ≤ count

classes_told : (all : Known) (number : ℕ) (classes : List ClassTree) (k : List ℕ) → ClassesTold all number classes k
classes_told all number [] k = record { count = 0; told = told_quiet [] k quiet_nothing; under = omega arith }
classes_told all number (class ∷ classes) k =
    let home : Home = home_of all number class in
    let s : Share = (shares home class.members k).0 in
    let j : List ℕ = (class_of home class k).1 in
    let rest : ClassesTold all (number + 1) classes j = classes_told all (number + 1) classes j in
    let c : Class = (class_of home class k).0 in
    let later : List Class = (classes_from all (number + 1) classes j).0 in
    let q : said (unwrap_or (slice_get s.queries 0) []) ≤ sum_by said s.queries = first_said s.queries in
    let g : given (option_to_list (slice_get s.spawn 0)) ≤ given s.spawn = first_given s.spawn in
    let whole : sum_by class_assignments (c ∷ later) ≡ (said (unwrap_or (slice_get s.queries 0) []) + given (option_to_list (slice_get s.spawn 0))) + sum_by class_assignments later =
    sum_by-cons class_assignments c later in
    let few : sum_by class_assignments later ≤ rest.count = rest.under in
    record {
      count = share_said s + rest.count;
      told = told_both (flat_map (names.member home) class.members) (in_classes names.member all (number + 1) classes) k j _ (share_said s) rest.count (members_told home class.members k) rest.told;
      under = omega (arith, q, g, whole, few);
    }

-- what is found before the members
quiet_past : (w : Which) (o : Option Ident) → Quiet (too_many w o)
quiet_past w None = quiet_nothing
quiet_past w (Some name) = quiet_fault _

quiet_declared : (class : ClassTree) → Quiet (declarations class)
quiet_declared class =
    let again : List Finding = f.faults_at DuplicateName (repeated (map title class.members)) in
    let more : List Finding = too_many which.Fields (option_map (λ (one : Ident × Field). one.0) (slice_get (fields class) 64)) in
    quiet_both (again ++ more) (position class)
    (quiet_both again more (quiet_faults DuplicateName (repeated (map title class.members))) (quiet_past which.Fields (option_map (λ (one : Ident × Field). one.0) (slice_get (fields class) 64))))
    (quiet_if (has_position class) [] (f.fault (NoPosition class.name.at)) quiet_nothing (quiet_fault (NoPosition class.name.at)))

quiet_declarations : (classes : List ClassTree) → Quiet (flat_map declarations classes)
quiet_declarations [] = quiet_nothing
quiet_declarations (class ∷ classes) = quiet_both (declarations class) (flat_map declarations classes) (quiet_declared class) (quiet_declarations classes)

quiet_names : (ids : List Ident) → Quiet (class_names ids)
quiet_names ids =
    quiet_both (f.faults_at DuplicateClass (repeated ids)) (too_many which.Classes (slice_get ids 16)) (quiet_faults DuplicateClass (repeated ids)) (quiet_past which.Classes (slice_get ids 16))

module _ (tree : Tree) where
  abbrev told_in : ClassesTold (known tree.classes) 0 tree.classes []
  told_in = classes_told (known tree.classes) 0 tree.classes []

  abbrev meant : List Class × List ℕ
  meant = classes_from (known tree.classes) 0 tree.classes []

  all_told : Told (found tree) [] meant.1 told_in.count
  all_told =
      let ids : List Ident = map (λ (class : ClassTree). class.name) tree.classes in
      behind_quiet (class_names ids ++ flat_map declarations tree.classes) (in_classes names.member (known tree.classes) 0 tree.classes) [] _ told_in.count
      (quiet_both (class_names ids) (flat_map declarations tree.classes) (quiet_names ids) (quiet_declarations tree.classes)) told_in.told

  -- the sites that are counted are those of the program
  pub counted_sites : flat_map site_of (found tree) ≡ meant.1
  counted_sites = all_told.sites

  -- and it has no more assignments than are counted
  pub few_assignments : (limit : ℕ) → length (flat_map assignment_of (found tree)) ≤ limit → sum_by class_assignments meant.0 ≤ limit
  few_assignments limit few =
      let same : length (flat_map assignment_of (found tree)) ≡ told_in.count = all_told.said in
      let under : sum_by class_assignments meant.0 ≤ told_in.count = told_in.under in
      omega (arith, few, same, under)
