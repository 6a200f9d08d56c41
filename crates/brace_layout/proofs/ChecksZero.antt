-- An expression and a class at place 0 have the type, the faults and the meaning of the expression and of the class, at place 0.
use Rattle.std.proofs.Common.{◌≡◌, refl, sym, ap, subst, ◌∙◌, ℕ, ◌+◌, Bool, true, false, List, [], ◌∷◌, ◌++◌, map, flat_map}
use Rattle.std.specs.Prelude.{not, ◌||◌, ◌==◌, Option, Some, None, option_map, Result, Ok, Err, nat_le, ℤ, codes, slice_get, unwrap_or}
use Rattle.std.proofs.lemmas.List.{length-map}
use Rattle.brace_syntax.specs.declared.tree.ExprTree.{ExprTree}
use Rattle.brace_syntax.specs.declared.tree.ExprTree.TheVariants as e
use Rattle.brace_show.specs.Alike.{ident_at_0, number_at_0, expr_step, expr_at_0, type_at_0, gift_at_0, member_at_0}
use Rattle.brace_model.specs.declared.program.Ty.{Ty}
use Rattle.brace_model.specs.declared.program.Expr.{Expr}
use Rattle.brace_model.specs.declared.program.Expr.TheVariants as expr
use Rattle.brace_model.specs.Typing.{same_type, only, unary_type, binary_type, choice_type, unary_faults, binary_faults}
use Rattle.brace_names.specs.declared.declared.Field.TheVariants as field
use Rattle.brace_names.specs.declared.scope.Named.{Named}
use Rattle.brace_names.specs.declared.scope.Named.TheVariants as named
use Rattle.brace_names.specs.declared.scope.LoopField.{LoopField}
use Rattle.brace_names.specs.Kinds.{unary_named, binary_named, type_named, comb_named}
use Rattle.brace_names.specs.Scopes.{Scope, read, read_own, of_loop, class_number, inside, past, Home, home_of, outermost}
use Rattle.brace_names.specs.Findings.{is_summed}
use Rattle.brace_names.proofs.Folds.{Expressions, of_expression, of-Lit, of-True, of-False, of-Name, of-OfThis, of-OfLoop, of-Unary, of-Binary, of-Choice, of-Rand, ProvedStmt, stmts_of, Statements, proved, stmts-proved, of-Const, of-when, of-either, of-Foreach, of-Assign, of-AssignThis, of-AssignLoop}
use Rattle.brace_check.specs.declared.fault.CheckFault.{CheckFault}
use Rattle.brace_check.specs.declared.fault.CheckFault.TheVariants.{OtherAgentInUpdate, ReadsEffectInQuery, PrivateOfOtherClass, WrongType, NestedTooDeep, BadRange, WrongCombinator}
use Rattle.brace_check.specs.Types.{field_type, is_shared, named_type, with_type, typed_at, type_step, type_of, place_step, place}
use Rattle.brace_check.specs.Findings.{fault_if, reads, crosses, reads_of_loop, misfits, assigns, nests, loops_over, wanted, gives, given_type, millionths, joins}
use Rattle.brace_check.specs.Found as found
use Rattle.brace_check.specs.Found.{valued, says, sought}
use Rattle.brace_check.specs.Meanings as means
use Rattle.brace_check.specs.Meanings.{Meaning, plain, site, site_if, made, followed, named_as, number_of, agent_of, loop_number, number_in, expression, block, part, part_step}
use Rattle.brace_layout.specs.Unplaced.{check_fault_at_0, stmt_step, stmt_at_0, class_at_0}
use Rattle.brace_layout.proofs.WalkZero as walk
use Rattle.brace_layout.proofs.NamesUnplaced.{nought, home_zero, known_zero}
use Rattle.brace_syntax.specs.declared.tree.StmtTree.{StmtTree}
use Rattle.brace_syntax.specs.declared.tree.StmtTree.TheVariants as s
use Rattle.brace_show.specs.Alike as tree
use Rattle.brace_model.specs.declared.program.Ty.TheVariants as ty
use Rattle.brace_model.specs.declared.program.Who.{Who}
use Rattle.brace_model.specs.declared.program.Who.TheVariants.{This}
use Rattle.brace_model.specs.declared.program.Stmt.{Stmt}
use Rattle.brace_model.specs.declared.program.Stmt.TheVariants as stmt
use Rattle.brace_model.specs.declared.program.Stmt.TheOpen as model
use Rattle.brace_model.specs.declared.program.Stmt.TheFolds.{fold-roll-Stmt}
use Rattle.brace_names.specs.declared.declared.Field.{Field}
use Rattle.brace_names.specs.Tables.{look}
use Rattle.brace_names.specs.Walk.{Part, behind, constants_in}
use Rattle.brace_layout.proofs.WalkZero.{Unplaced, Declares, constant_declares, plain_declares, more_constants, type_zero, many, block_zeroed}
use mathlib.Core.List.{map-append}
use Rattle.brace_syntax.specs.declared.tree.TyName.{TyName}
use Rattle.brace_syntax.specs.declared.tree.CombName.{CombName}
use Rattle.brace_syntax.specs.declared.tree.GiftTree.{GiftTree}
use Rattle.brace_syntax.specs.declared.tree.MemberTree.{MemberTree}
use Rattle.brace_syntax.specs.declared.tree.MemberTree.TheVariants as m
use Rattle.brace_syntax.specs.declared.tree.ClassTree.{ClassTree}
use Rattle.brace_model.specs.declared.program.Gift.{Gift}
use Rattle.brace_model.specs.declared.program.Spawn.{Spawn}
use Rattle.brace_model.specs.declared.program.Effect.{Effect}
use Rattle.brace_model.specs.declared.program.Class.{Class}
use Rattle.brace_names.specs.Classes.{Known, known}
use Rattle.brace_check.specs.declared.share.Share.{Share}
use Rattle.brace_check.specs.Programs.{rule, gifts_in, spawn_of, no_share, share, shared_by, shares, effect_of, visible_of, reach_of, first_or_0, place_of, class_with, class_of, classes_from}

-- a type, or a fault at place 0
abbrev typing_at_0 : Result Ty ℕ → Result Ty ℕ
typing_at_0 (Ok t) = Ok t
typing_at_0 (Err at) = Err 0

abbrev pub faults_at_0 : List CheckFault → List CheckFault
faults_at_0 = map check_fault_at_0

pub faults_both : (xs ys a b : List CheckFault) → faults_at_0 xs ≡ a → faults_at_0 ys ≡ b → faults_at_0 (xs ++ ys) ≡ a ++ b
faults_both = walk.both check_fault_at_0

pub fault_zero : (test : Bool) (x y : CheckFault) → check_fault_at_0 x ≡ y → faults_at_0 (fault_if test x) ≡ fault_if test y
fault_zero true x y h = ap (λ (z : CheckFault). z ∷ []) h
fault_zero false x y h = refl

abbrev pub itself : {A : Type 0} → A → A
itself x = x

-- what is the same, with its sites at place 0 behind sites at place 0
pub record MeantZero {A : Type 0} (at_0 : A → A) (a b : Meaning A) : Type 0 where
  pub sites : (k : List ℕ) → map nought (a k).1 ≡ (b (map nought k)).1
  pub means : (k : List ℕ) → at_0 (a k).0 ≡ (b (map nought k)).0

site_zero : (at : ℕ) → MeantZero itself (site at) (site 0)
site_zero at = record { sites = λ k. map-append nought k (at ∷ []); means = λ k. sym (length-map k nought) }

site_if_zero : (test : Bool) (at : ℕ) → MeantZero itself (site_if test at) (site_if test 0)
site_if_zero true at = record { sites = λ k. map-append nought k (at ∷ []); means = λ k. ap (only true) (sym (length-map k nought)) }
site_if_zero false at = record { sites = λ k. refl; means = λ k. ap (only false) (sym (length-map k nought)) }

module _ {A B C : Type 0} (f : A → A) (g : B → B) (h : C → C) where
  followed_zero : (join meet : A → B → C) → ((x : A) (y : B) → h (join x y) ≡ meet (f x) (g y)) → (a b : Meaning A) (c d : Meaning B) → MeantZero f a b → MeantZero g c d
      → MeantZero h (followed join a c) (followed meet b d)
  followed_zero join meet joins a b c d one other = record {
    sites = λ k. other.sites (a k).1 ∙ ap (λ (l : List ℕ). (d l).1) (one.sites k);
    means = λ k.
        let first : A × List ℕ = b (map nought k) in
        joins (a k).0 (c (a k).1).0
        ∙ (ap (λ (v : A). meet v (g (c (a k).1).0)) (one.means k)
        ∙ (ap (meet first.0) (other.means (a k).1) ∙ ap (λ (l : List ℕ). meet first.0 (d l).0) (one.sites k)));
  }

module _ {A B : Type 0} (f : A → A) (g : B → B) where
  made_zero : (make build : A → B) → ((x : A) → g (make x) ≡ build (f x)) → (a b : Meaning A) → MeantZero f a b → MeantZero g (made make a) (made build b)
  made_zero make build makes a b h = record { sites = h.sites; means = λ k. makes (a k).0 ∙ ap build (h.means k) }

nothing_zero : {A : Type 0} (f : A → A) (x y : A) → f x ≡ y → MeantZero f (plain x) (plain y)
nothing_zero f x y e = record { sites = λ k. refl; means = λ k. e }

-- what an expression comes to in a scope: its type, what is found in it, and what it means
record Sense : Type 0 where
  types : Scope → Result Ty ℕ
  faults : Scope → List CheckFault
  meant : Scope → Meaning Expr

abbrev sense : ExprTree → Sense
sense x = record { types = type_of x; faults = found.expression x; meant = means.expression x }

sense_is : (x : ExprTree) (t : Scope → Result Ty ℕ) (f : Scope → List CheckFault) (m : Scope → Meaning Expr) → type_of x ≡ t → found.expression x ≡ f → means.expression x ≡ m
    → sense x ≡ record { types = t; faults = f; meant = m }
sense_is x t f m a b c =
    ap (λ (t : Scope → Result Ty ℕ). record { types = t; faults = found.expression x; meant = means.expression x }) a
    ∙ (ap (λ (f : Scope → List CheckFault). record { types = t; faults = f; meant = means.expression x }) b
    ∙ ap (λ (m : Scope → Meaning Expr). record { types = t; faults = f; meant = m }) c)

record SenseZero (p q : Sense) : Type 0 where
  typed : (n : Scope) → typing_at_0 (p.types n) ≡ q.types n
  found_ : (n : Scope) → faults_at_0 (p.faults n) ≡ q.faults n
  meant : (n : Scope) → MeantZero itself (p.meant n) (q.meant n)

record ExprZero (x : ExprTree) : Type 0 where
  senses : SenseZero (sense x) (sense (expr_at_0 x))
  placed : place (expr_at_0 x) ≡ 0

-- types
typed_zero : (at : ℕ) (o : Option Ty) → typing_at_0 (typed_at at o) ≡ typed_at 0 o
typed_zero at None = refl
typed_zero at (Some t) = refl

typed_with_zero : (f g : Ty → Result Ty ℕ) → ((t : Ty) → typing_at_0 (f t) ≡ g t) → (r s : Result Ty ℕ) → typing_at_0 r ≡ s → typing_at_0 (with_type f r) ≡ with_type g s
typed_with_zero f g same (Ok t) s h = same t ∙ ap (with_type g) h
typed_with_zero f g same (Err at) s h = ap (with_type g) h

-- faults
reads_zero : (n : Scope) (at : ℕ) (o : Option Named) → faults_at_0 (reads n at o) ≡ reads n 0 o
reads_zero n at (Some (named.Field (field.Effect i t shared c))) = fault_zero n.in_query (ReadsEffectInQuery at) (ReadsEffectInQuery 0) refl
reads_zero n at _ = refl

pub crosses_zero : (n : Scope) (at : ℕ) (o : Option LoopField) → faults_at_0 (crosses n at o) ≡ crosses n 0 o
crosses_zero n at None = refl
crosses_zero n at (Some x) = fault_zero (not (is_shared x.field || x.class == n.home.number)) (PrivateOfOtherClass at) (PrivateOfOtherClass 0) refl

of_loop_zero : (n : Scope) (at : ℕ) (o : Option LoopField) → faults_at_0 (reads_of_loop n at o) ≡ reads_of_loop n 0 o
of_loop_zero n at o =
    let field_ : Option Named = option_map (λ x. named.Field x.field) o in
    walk.either check_fault_at_0 n.in_query _ (OtherAgentInUpdate at ∷ []) _ (OtherAgentInUpdate 0 ∷ [])
    (faults_both (reads n at field_) (crosses n at o) (reads n 0 field_) (crosses n 0 o) (reads_zero n at field_) (crosses_zero n at o)) refl

-- meanings
still : (x : Expr) → MeantZero itself (plain x) (plain x)
still x = nothing_zero itself x x refl

named_zero : (n : Scope) (at : ℕ) (o : Option Named) → MeantZero itself (named_as n at o) (named_as n 0 o)
named_zero n at (Some (named.Field (field.Effect i t shared c))) =
    let test : Bool = is_summed n (field.Effect i t shared c) in
    made_zero itself itself (expr.Total i t) (expr.Total i t) (λ o. refl) (site_if test at) (site_if test 0) (site_if_zero test at)
named_zero n at _ = still _

unary_zero : (test : Bool) (at : ℕ) (op : Option ℕ → Expr → Expr) (x y : Meaning Expr) → MeantZero itself x y → MeantZero itself (means.unary test at op x) (means.unary test 0 op y)
unary_zero test at op x y h =
    followed_zero itself itself itself (λ a n. op n a) (λ a n. op n a) (λ a n. refl) x y (site_if test at) (site_if test 0) h (site_if_zero test at)

abbrev operands : Meaning Expr → Meaning Expr → Meaning (Expr × Expr)
operands x y = followed (λ a b. (a, b)) x y

operands_zero : (x y a b : Meaning Expr) → MeantZero itself x a → MeantZero itself y b → MeantZero itself (operands x y) (operands a b)
operands_zero x y a b h g = followed_zero itself itself itself (λ a b. (a, b)) (λ a b. (a, b)) (λ a b. refl) x a y b h g

binary_zero : (test : Bool) (at : ℕ) (op : Option ℕ → Expr → Expr → Expr) (x y a b : Meaning Expr) → MeantZero itself x a → MeantZero itself y b
    → MeantZero itself (means.binary test at op x y) (means.binary test 0 op a b)
binary_zero test at op x y a b h g =
    let both : Expr × Expr → Option ℕ → Expr = λ p n. op n p.0 p.1 in
    followed_zero itself itself itself both both (λ p n. refl) (operands x y) (operands a b) (site_if test at) (site_if test 0) (operands_zero x y a b h g) (site_if_zero test at)

choice_zero : (w x y v a b : Meaning Expr) → MeantZero itself w v → MeantZero itself x a → MeantZero itself y b → MeantZero itself (means.choice w x y) (means.choice v a b)
choice_zero w x y v a b h g d =
    let both : Expr → Expr × Expr → Expr = λ c p. expr.Choice c p.0 p.1 in
    followed_zero itself itself itself both both (λ c p. refl) w v (operands x y) (operands a b) h (operands_zero x y a b g d)

through : (x y : ExprTree) (p q : Sense) → sense x ≡ p → expr_at_0 x ≡ y → sense y ≡ q → place y ≡ 0 → SenseZero p q → ExprZero x
through x y p q a b c d h = record {
  senses = subst (λ (r : Sense). SenseZero r (sense (expr_at_0 x))) (sym a) (subst (λ (r : Sense). SenseZero p r) (sym (ap sense b ∙ c)) h);
  placed = ap place b ∙ d;
}

senses_zero : Expressions ExprZero
senses_zero = record {
  lit = λ n. through (e.Lit n) (e.Lit (number_at_0 n)) _ _ (sense_is (e.Lit n) _ _ _ (of-Lit type_step n) (of-Lit found.expression_step n) (of-Lit means.expression_step n)) (of-Lit expr_step n) (sense_is (e.Lit (number_at_0 n)) _ _ _ (of-Lit type_step (number_at_0 n)) (of-Lit found.expression_step (number_at_0 n)) (of-Lit means.expression_step (number_at_0 n))) (of-Lit place_step (number_at_0 n))
      (record { typed = λ c. refl; found_ = λ c. refl; meant = λ c. still _ });
  true_ = λ at. through (e.True at) (e.True 0) _ _ (sense_is (e.True at) _ _ _ (of-True type_step at) (of-True found.expression_step at) (of-True means.expression_step at)) (of-True expr_step at) (sense_is (e.True 0) _ _ _ (of-True type_step 0) (of-True found.expression_step 0) (of-True means.expression_step 0)) (of-True place_step 0) (record { typed = λ c. refl; found_ = λ c. refl; meant = λ c. still _ });
  false_ = λ at. through (e.False at) (e.False 0) _ _ (sense_is (e.False at) _ _ _ (of-False type_step at) (of-False found.expression_step at) (of-False means.expression_step at)) (of-False expr_step at) (sense_is (e.False 0) _ _ _ (of-False type_step 0) (of-False found.expression_step 0) (of-False means.expression_step 0)) (of-False place_step 0) (record { typed = λ c. refl; found_ = λ c. refl; meant = λ c. still _ });
  name = λ name. through (e.Name name) (e.Name (ident_at_0 name)) _ _ (sense_is (e.Name name) _ _ _ (of-Name type_step name) (of-Name found.expression_step name) (of-Name means.expression_step name)) (of-Name expr_step name) (sense_is (e.Name (ident_at_0 name)) _ _ _ (of-Name type_step (ident_at_0 name)) (of-Name found.expression_step (ident_at_0 name)) (of-Name means.expression_step (ident_at_0 name))) (of-Name place_step (ident_at_0 name)) (record {
    typed = λ c. typed_zero name.at (option_map named_type (read c name.text));
    found_ = λ c. reads_zero c name.at (read c name.text);
    meant = λ c. named_zero c name.at (read c name.text);
  });
  of_this = λ name at. through (e.OfThis name at) (e.OfThis (ident_at_0 name) 0) _ _ (sense_is (e.OfThis name at) _ _ _ (of-OfThis type_step name at) (of-OfThis found.expression_step name at) (of-OfThis means.expression_step name at)) (of-OfThis expr_step name at) (sense_is (e.OfThis (ident_at_0 name) 0) _ _ _ (of-OfThis type_step (ident_at_0 name) 0) (of-OfThis found.expression_step (ident_at_0 name) 0) (of-OfThis means.expression_step (ident_at_0 name) 0)) (of-OfThis place_step (ident_at_0 name) 0) (record {
    typed = λ c. typed_zero at (option_map named_type (read_own c name.text));
    found_ = λ c. reads_zero c at (read_own c name.text);
    meant = λ c. named_zero c at (read_own c name.text);
  });
  of_loop = λ variable name. through (e.OfLoop variable name) (e.OfLoop (ident_at_0 variable) (ident_at_0 name)) _ _
      (sense_is (e.OfLoop variable name) _ _ _ (of-OfLoop type_step variable name) (of-OfLoop found.expression_step variable name) (of-OfLoop means.expression_step variable name)) (of-OfLoop expr_step variable name) (sense_is (e.OfLoop (ident_at_0 variable) (ident_at_0 name)) _ _ _ (of-OfLoop type_step (ident_at_0 variable) (ident_at_0 name)) (of-OfLoop found.expression_step (ident_at_0 variable) (ident_at_0 name)) (of-OfLoop means.expression_step (ident_at_0 variable) (ident_at_0 name))) (of-OfLoop place_step (ident_at_0 variable) (ident_at_0 name)) (record {
        typed = λ c. typed_zero variable.at (option_map (λ x. field_type x.field) (of_loop c variable.text name.text));
        found_ = λ c. of_loop_zero c variable.at (of_loop c variable.text name.text);
        meant = λ c. still _;
      });
  unary = λ op x at h. through (e.Unary op x at) (e.Unary op (expr_at_0 x) 0) _ _ (sense_is (e.Unary op x at) _ _ _ (of-Unary type_step op x at) (of-Unary found.expression_step op x at) (of-Unary means.expression_step op x at)) (of-Unary expr_step op x at) (sense_is (e.Unary op (expr_at_0 x) 0) _ _ _ (of-Unary type_step op (expr_at_0 x) 0) (of-Unary found.expression_step op (expr_at_0 x) 0) (of-Unary means.expression_step op (expr_at_0 x) 0)) (of-Unary place_step op (expr_at_0 x) 0) (record {
    typed = λ c. typed_with_zero (λ t. typed_at at (unary_type (unary_named op) t)) (λ t. typed_at 0 (unary_type (unary_named op) t)) (λ t. typed_zero at (unary_type (unary_named op) t))
        (type_of x c) (type_of (expr_at_0 x) c) (h.senses.typed c);
    found_ = λ c. h.senses.found_ c;
    meant = λ c. unary_zero (unary_faults (unary_named op)) at (expr.Unary (unary_named op)) (means.expression x c) (means.expression (expr_at_0 x) c) (h.senses.meant c);
  });
  binary = λ op x y at h g. through (e.Binary op x y at) (e.Binary op (expr_at_0 x) (expr_at_0 y) 0) _ _ (sense_is (e.Binary op x y at) _ _ _ (of-Binary type_step op x y at) (of-Binary found.expression_step op x y at) (of-Binary means.expression_step op x y at)) (of-Binary expr_step op x y at) (sense_is (e.Binary op (expr_at_0 x) (expr_at_0 y) 0) _ _ _ (of-Binary type_step op (expr_at_0 x) (expr_at_0 y) 0) (of-Binary found.expression_step op (expr_at_0 x) (expr_at_0 y) 0) (of-Binary means.expression_step op (expr_at_0 x) (expr_at_0 y) 0))
      (of-Binary place_step op (expr_at_0 x) (expr_at_0 y) 0) (record {
        typed = λ c.
            let y0 : Result Ty ℕ = type_of (expr_at_0 y) c in
            typed_with_zero (λ t. with_type (λ u. typed_at at (binary_type (binary_named op) t u)) (type_of y c)) (λ t. with_type (λ u. typed_at 0 (binary_type (binary_named op) t u)) y0)
            (λ t. typed_with_zero (λ u. typed_at at (binary_type (binary_named op) t u)) (λ u. typed_at 0 (binary_type (binary_named op) t u)) (λ u. typed_zero at (binary_type (binary_named op) t u))
            (type_of y c) y0 (g.senses.typed c)) (type_of x c) (type_of (expr_at_0 x) c) (h.senses.typed c);
        found_ = λ c. faults_both (found.expression x c) (found.expression y c) (found.expression (expr_at_0 x) c) (found.expression (expr_at_0 y) c) (h.senses.found_ c) (g.senses.found_ c);
        meant = λ c. binary_zero (binary_faults (binary_named op)) at (expr.Binary (binary_named op)) (means.expression x c) (means.expression y c)
            (means.expression (expr_at_0 x) c) (means.expression (expr_at_0 y) c) (h.senses.meant c) (g.senses.meant c);
      });
  choice = λ w x y at d h g. through (e.Choice w x y at) (e.Choice (expr_at_0 w) (expr_at_0 x) (expr_at_0 y) 0) _ _ (sense_is (e.Choice w x y at) _ _ _ (of-Choice type_step w x y at) (of-Choice found.expression_step w x y at) (of-Choice means.expression_step w x y at)) (of-Choice expr_step w x y at)
      (sense_is (e.Choice (expr_at_0 w) (expr_at_0 x) (expr_at_0 y) 0) _ _ _ (of-Choice type_step (expr_at_0 w) (expr_at_0 x) (expr_at_0 y) 0) (of-Choice found.expression_step (expr_at_0 w) (expr_at_0 x) (expr_at_0 y) 0) (of-Choice means.expression_step (expr_at_0 w) (expr_at_0 x) (expr_at_0 y) 0)) (of-Choice place_step (expr_at_0 w) (expr_at_0 x) (expr_at_0 y) 0) (record {
        typed = λ c.
            let x0 : Result Ty ℕ = type_of (expr_at_0 x) c in
            let y0 : Result Ty ℕ = type_of (expr_at_0 y) c in
            typed_with_zero (λ b. with_type (λ t. with_type (λ u. typed_at at (choice_type b t u)) (type_of y c)) (type_of x c)) (λ b. with_type (λ t. with_type (λ u. typed_at 0 (choice_type b t u)) y0) x0)
            (λ b. typed_with_zero (λ t. with_type (λ u. typed_at at (choice_type b t u)) (type_of y c)) (λ t. with_type (λ u. typed_at 0 (choice_type b t u)) y0)
            (λ t. typed_with_zero (λ u. typed_at at (choice_type b t u)) (λ u. typed_at 0 (choice_type b t u)) (λ u. typed_zero at (choice_type b t u)) (type_of y c) y0 (g.senses.typed c))
            (type_of x c) x0 (h.senses.typed c)) (type_of w c) (type_of (expr_at_0 w) c) (d.senses.typed c);
        found_ = λ c. faults_both (found.expression w c ++ found.expression x c) (found.expression y c) (found.expression (expr_at_0 w) c ++ found.expression (expr_at_0 x) c) (found.expression (expr_at_0 y) c)
            (faults_both (found.expression w c) (found.expression x c) (found.expression (expr_at_0 w) c) (found.expression (expr_at_0 x) c) (d.senses.found_ c) (h.senses.found_ c)) (g.senses.found_ c);
        meant = λ c. choice_zero (means.expression w c) (means.expression x c) (means.expression y c) (means.expression (expr_at_0 w) c) (means.expression (expr_at_0 x) c) (means.expression (expr_at_0 y) c)
            (d.senses.meant c) (h.senses.meant c) (g.senses.meant c);
      });
  rand = λ at. through (e.Rand at) (e.Rand 0) _ _ (sense_is (e.Rand at) _ _ _ (of-Rand type_step at) (of-Rand found.expression_step at) (of-Rand means.expression_step at)) (of-Rand expr_step at) (sense_is (e.Rand 0) _ _ _ (of-Rand type_step 0) (of-Rand found.expression_step 0) (of-Rand means.expression_step 0)) (of-Rand place_step 0)
      (record { typed = λ c. refl; found_ = λ c. refl; meant = λ c. made_zero itself itself expr.Rand expr.Rand (λ n. refl) (site at) (site 0) (site_zero at) });
}

expression_zero : (x : ExprTree) → ExprZero x
expression_zero = of_expression ExprZero senses_zero

pub meant_zero : (x : ExprTree) (n : Scope) → MeantZero itself (means.expression x n) (means.expression (expr_at_0 x) n)
meant_zero x n = (expression_zero x).senses.meant n

-- a value of which a type may be asked
misfits_zero : (want : Option Ty) (at : ℕ) (r s : Result Ty ℕ) → typing_at_0 r ≡ s → faults_at_0 (misfits want at r) ≡ misfits want 0 s
misfits_zero None at (Err place) s h = ap (misfits None 0) h
misfits_zero (Some want) at (Err place) s h = ap (misfits (Some want) 0) h
misfits_zero None at (Ok t) s h = ap (misfits None 0) h
misfits_zero (Some want) at (Ok t) s h = fault_zero (not (same_type want t)) (WrongType at) (WrongType 0) refl ∙ ap (misfits (Some want) 0) h

pub valued_zero : (want : Option Ty) (x : ExprTree) (n : Scope) → faults_at_0 (valued want x n) ≡ valued want (expr_at_0 x) n
valued_zero want x n =
    let h : ExprZero x = expression_zero x in
    faults_both (found.expression x n) (misfits want (place x) (type_of x n)) (found.expression (expr_at_0 x) n) (misfits want (place (expr_at_0 x)) (type_of (expr_at_0 x) n)) (h.senses.found_ n)
    (misfits_zero want (place x) (type_of x n) (type_of (expr_at_0 x) n) (h.senses.typed n) ∙ ap (λ (at : ℕ). misfits want at (type_of (expr_at_0 x) n)) (sym h.placed))

-- what the checks look for
assigns_zero : (at : ℕ) (o : Option Field) → faults_at_0 (assigns at o) ≡ assigns 0 o
assigns_zero at (Some (field.State i t shared)) = refl
assigns_zero at _ = refl

over_zero : (at : ℕ) (o : Option ℕ) → faults_at_0 (loops_over at o) ≡ loops_over 0 o
over_zero at None = refl
over_zero at (Some class) = refl

says_zero : (at : ℕ) (o : Option Field) (x : ExprTree) (n : Scope) → faults_at_0 (says at o x n) ≡ says 0 o (expr_at_0 x) n
says_zero at o x n = faults_both (assigns at o) (valued (wanted o) x n) (assigns 0 o) (valued (wanted o) (expr_at_0 x) n) (assigns_zero at o) (valued_zero (wanted o) x n)

pub sought_unplaced : Unplaced check_fault_at_0 sought
sought_unplaced = record {
  constant = λ type name x n. valued_zero (Some (type_named type)) x n ∙ ap (λ (t : Ty). valued (Some t) (expr_at_0 x) n) (sym (type_zero type));
  condition = λ x n. valued_zero (Some ty.Bool) x n;
  head = λ class variable other at n.
      faults_both (nests n at) (loops_over class.at (class_number n class.text)) (nests n 0) (loops_over 0 (class_number n class.text))
      (fault_zero (nat_le 2 n.loops) (NestedTooDeep at) (NestedTooDeep 0) refl) (over_zero class.at (class_number n class.text));
  assigned = λ at name x n. says_zero at (look n.home.own name.text) x n;
  assigned_of_loop = λ variable name x n.
      let o : Option LoopField = of_loop n variable.text name.text in
      faults_both (crosses n variable.at o) (says variable.at (option_map (λ x. x.field) o) x n) (crosses n 0 o) (says 0 (option_map (λ x. x.field) o) (expr_at_0 x) n)
      (crosses_zero n variable.at o) (says_zero variable.at (option_map (λ x. x.field) o) x n);
}

-- statements of programs at offset 0
zero-Const : (n : ℕ) (x : Expr) → stmt_at_0 (stmt.Const n x) ≡ stmt.Const n x
zero-Const n x = ap stmt_at_0 (sym (stmt.rolls-Const n x)) ∙ fold-roll-Stmt Stmt stmt_step (model.Const n x)

zero-If : (c : Expr) (a b : List Stmt) → stmt_at_0 (stmt.If c a b) ≡ stmt.If c (map stmt_at_0 a) (map stmt_at_0 b)
zero-If c a b = ap stmt_at_0 (sym (stmt.rolls-If c a b)) ∙ fold-roll-Stmt Stmt stmt_step (model.If c a b)

zero-Foreach : (class : ℕ) (body : List Stmt) (at : ℕ) → stmt_at_0 (stmt.Foreach class body at) ≡ stmt.Foreach class (map stmt_at_0 body) 0
zero-Foreach class body at = ap stmt_at_0 (sym (stmt.rolls-Foreach class body at)) ∙ fold-roll-Stmt Stmt stmt_step (model.Foreach class body at)

zero-Assign : (who : Who) (effect : ℕ) (x : Expr) (at : ℕ) → stmt_at_0 (stmt.Assign who effect x at) ≡ stmt.Assign who effect x 0
zero-Assign who effect x at = ap stmt_at_0 (sym (stmt.rolls-Assign who effect x at)) ∙ fold-roll-Stmt Stmt stmt_step (model.Assign who effect x at)

-- a statement and the same at place 0
record PartZero (p p0 : Part (Meaning Stmt)) : Type 0 where
  declares : Declares p0 p
  means : (n : Scope) → MeantZero stmt_at_0 (p.here n) (p0.here n)

record BlockZero (ps p0s : List (Part (Meaning Stmt))) : Type 0 where
  constants : constants_in p0s ≡ constants_in ps
  means : (n : Scope) → MeantZero (map stmt_at_0) (block ps n) (block p0s n)

abbrev StmtZero : StmtTree → Type 0
StmtZero x = PartZero (part x) (part (tree.stmt_at_0 x))

abbrev TreesZero : List StmtTree → Type 0
TreesZero xs = BlockZero (map part xs) (map part (map tree.stmt_at_0 xs))

trees_zero : (ys : List (ProvedStmt StmtZero)) → TreesZero (stmts_of ys)
trees_zero [] = record { constants = refl; means = λ n. nothing_zero (map stmt_at_0) [] [] refl }
trees_zero (y ∷ ys) =
    let p : Part (Meaning Stmt) = part y.0 in
    let p0 : Part (Meaning Stmt) = part (tree.stmt_at_0 y.0) in
    let ps : List (Part (Meaning Stmt)) = map part (stmts_of ys) in
    let p0s : List (Part (Meaning Stmt)) = map part (map tree.stmt_at_0 (stmts_of ys)) in
    let rest : BlockZero ps p0s = trees_zero ys in
    record {
      constants = more_constants p0 p p0s ps y.1.declares rest.constants;
      means = λ n. followed_zero stmt_at_0 (map stmt_at_0) (map stmt_at_0) (λ s rest. s ∷ rest) (λ s rest. s ∷ rest) (λ s rest. refl)
          (p.here n) (p0.here n) (block ps (behind p n)) (block p0s (behind p0 n)) (y.1.means n)
          (subst (λ (l : Scope). MeantZero (map stmt_at_0) (block ps (behind p n)) (block p0s l)) (sym (y.1.declares.scope n)) (rest.means (behind p n)));
    }

back : (x y : StmtTree) (p p0 : Part (Meaning Stmt)) → part x ≡ p → tree.stmt_at_0 x ≡ y → part y ≡ p0 → PartZero p p0 → StmtZero x
back x y p p0 a b c h =
    subst (λ (r : Part (Meaning Stmt)). PartZero r (part (tree.stmt_at_0 x))) (sym a) (subst (λ (r : Part (Meaning Stmt)). PartZero p r) (sym (ap part b ∙ c)) h)

if_zero : (w : ExprTree) (n : Scope) (a a0 b b0 : Meaning (List Stmt)) → MeantZero (map stmt_at_0) a a0 → MeantZero (map stmt_at_0) b b0
    → MeantZero stmt_at_0 (followed (λ (c : Expr) (blocks : List Stmt × List Stmt). stmt.If c blocks.0 blocks.1) (expression w n) (followed (λ a b. (a, b)) a b))
    (followed (λ (c : Expr) (blocks : List Stmt × List Stmt). stmt.If c blocks.0 blocks.1) (expression (expr_at_0 w) n) (followed (λ a b. (a, b)) a0 b0))
if_zero w n a a0 b b0 h g =
    followed_zero itself (λ (p : List Stmt × List Stmt). (map stmt_at_0 p.0, map stmt_at_0 p.1)) stmt_at_0
    (λ c blocks. stmt.If c blocks.0 blocks.1) (λ c blocks. stmt.If c blocks.0 blocks.1) (λ c blocks. zero-If c blocks.0 blocks.1)
    (expression w n) (expression (expr_at_0 w) n) (followed (λ a b. (a, b)) a b) (followed (λ a b. (a, b)) a0 b0) (meant_zero w n)
    (followed_zero (map stmt_at_0) (map stmt_at_0) (λ (p : List Stmt × List Stmt). (map stmt_at_0 p.0, map stmt_at_0 p.1)) (λ a b. (a, b)) (λ a b. (a, b)) (λ a b. refl) a a0 b b0 h g)

said_zero : (who : Who) (effect at : ℕ) (x : ExprTree) (n : Scope)
    → MeantZero stmt_at_0 (made (λ e. stmt.Assign who effect e at) (expression x n)) (made (λ e. stmt.Assign who effect e 0) (expression (expr_at_0 x) n))
said_zero who effect at x n =
    made_zero itself stmt_at_0 (λ e. stmt.Assign who effect e at) (λ e. stmt.Assign who effect e 0) (λ e. zero-Assign who effect e at) (expression x n) (expression (expr_at_0 x) n) (meant_zero x n)

kinds_zero : Statements StmtZero
kinds_zero = record {
  const = λ type name x at. back (s.Const type name x at) (s.Const (type_at_0 type) (ident_at_0 name) (expr_at_0 x) 0) _ _
      (of-Const part_step type name x at) (of-Const tree.stmt_step type name x at) (of-Const part_step (type_at_0 type) (ident_at_0 name) (expr_at_0 x) 0) (record {
        declares = constant_declares type name _ _;
        means = λ n. made_zero itself stmt_at_0 (stmt.Const n.constants) (stmt.Const n.constants) (zero-Const n.constants) (expression x n) (expression (expr_at_0 x) n) (meant_zero x n);
      });
  when = λ w a at. back (s.If w (stmts_of a) None at) (s.If (expr_at_0 w) (map tree.stmt_at_0 (stmts_of a)) None 0) _ _
      (of-when part_step w (stmts_of a) at) (of-when tree.stmt_step w (stmts_of a) at) (of-when part_step (expr_at_0 w) (map tree.stmt_at_0 (stmts_of a)) 0)
      (let one : TreesZero (stmts_of a) = trees_zero a in
      record {
        declares = plain_declares _ _ _ _ (ap (λ (k : ℕ). k + 0) one.constants);
        means = λ n. if_zero w n (block (map part (stmts_of a)) n) (block (map part (map tree.stmt_at_0 (stmts_of a))) n) (plain []) (plain []) (one.means n) (nothing_zero (map stmt_at_0) [] [] refl);
      });
  either_way = λ w a b at. back (s.If w (stmts_of a) (Some (stmts_of b)) at) (s.If (expr_at_0 w) (map tree.stmt_at_0 (stmts_of a)) (Some (map tree.stmt_at_0 (stmts_of b))) 0) _ _
      (of-either part_step w (stmts_of a) (stmts_of b) at) (of-either tree.stmt_step w (stmts_of a) (stmts_of b) at)
      (of-either part_step (expr_at_0 w) (map tree.stmt_at_0 (stmts_of a)) (map tree.stmt_at_0 (stmts_of b)) 0)
      (let one : TreesZero (stmts_of a) = trees_zero a in
      let other : TreesZero (stmts_of b) = trees_zero b in
      let pa : List (Part (Meaning Stmt)) = map part (stmts_of a) in
      let pb : List (Part (Meaning Stmt)) = map part (stmts_of b) in
      let a0 : List (Part (Meaning Stmt)) = map part (map tree.stmt_at_0 (stmts_of a)) in
      let b0 : List (Part (Meaning Stmt)) = map part (map tree.stmt_at_0 (stmts_of b)) in
      record {
        declares = plain_declares _ _ _ _ (ap (λ (k : ℕ). k + constants_in b0) one.constants ∙ ap (λ (k : ℕ). constants_in pa + k) other.constants);
        means = λ n. if_zero w n (block pa n) (block a0 n) (block pb (past (constants_in pa) n)) (block b0 (past (constants_in a0) n)) (one.means n)
            (subst (λ (k : ℕ). MeantZero (map stmt_at_0) (block pb (past (constants_in pa) n)) (block b0 (past k n))) (sym one.constants) (other.means (past (constants_in pa) n)));
      });
  foreach = λ class variable other a at.
      back (s.Foreach class variable other (stmts_of a) at) (s.Foreach (ident_at_0 class) (ident_at_0 variable) (ident_at_0 other) (map tree.stmt_at_0 (stmts_of a)) 0) _ _
      (of-Foreach part_step class variable other (stmts_of a) at) (of-Foreach tree.stmt_step class variable other (stmts_of a) at)
      (of-Foreach part_step (ident_at_0 class) (ident_at_0 variable) (ident_at_0 other) (map tree.stmt_at_0 (stmts_of a)) 0)
      (let one : TreesZero (stmts_of a) = trees_zero a in
      record {
        declares = plain_declares _ _ _ _ one.constants;
        means = λ n. made_zero (map stmt_at_0) stmt_at_0 (λ body. stmt.Foreach (number_in n class) body at) (λ body. stmt.Foreach (number_in n class) body 0)
            (λ body. zero-Foreach (number_in n class) body at) (block (map part (stmts_of a)) (inside class variable n)) (block (map part (map tree.stmt_at_0 (stmts_of a))) (inside class variable n))
            (one.means (inside class variable n));
      });
  assign = λ name x. back (s.Assign name x) (s.Assign (ident_at_0 name) (expr_at_0 x)) _ _ (of-Assign part_step name x) (of-Assign tree.stmt_step name x) (of-Assign part_step (ident_at_0 name) (expr_at_0 x))
      (record { declares = plain_declares _ _ _ _ refl; means = λ n. said_zero This (number_of (look n.home.own name.text)) name.at x n });
  assign_this = λ name x at. back (s.AssignThis name x at) (s.AssignThis (ident_at_0 name) (expr_at_0 x) 0) _ _
      (of-AssignThis part_step name x at) (of-AssignThis tree.stmt_step name x at) (of-AssignThis part_step (ident_at_0 name) (expr_at_0 x) 0)
      (record { declares = plain_declares _ _ _ _ refl; means = λ n. said_zero This (number_of (look n.home.own name.text)) at x n });
  assign_loop = λ variable name x. back (s.AssignLoop variable name x) (s.AssignLoop (ident_at_0 variable) (ident_at_0 name) (expr_at_0 x)) _ _
      (of-AssignLoop part_step variable name x) (of-AssignLoop tree.stmt_step variable name x) (of-AssignLoop part_step (ident_at_0 variable) (ident_at_0 name) (expr_at_0 x))
      (record {
        declares = plain_declares _ _ _ _ refl;
        means = λ n. said_zero (agent_of (of_loop n variable.text name.text)) (loop_number (of_loop n variable.text name.text)) variable.at x n;
      });
}

pub block_zero : (xs : List StmtTree) (n : Scope) → MeantZero (map stmt_at_0) (block (map part xs) n) (block (map part (map tree.stmt_at_0 xs)) n)
block_zero xs n =
    subst (λ (l : List StmtTree). MeantZero (map stmt_at_0) (block (map part l) n) (block (map part (map tree.stmt_at_0 l)) n)) (stmts-proved StmtZero kinds_zero xs)
    ((trees_zero (proved StmtZero kinds_zero xs)).means n)

-- what members have, at offset 0
abbrev share_at_0 : Share → Share
share_at_0 s = record s { queries = map (map stmt_at_0) s.queries }

gives_zero : (at : ℕ) (o : Option Field) → faults_at_0 (gives at o) ≡ gives 0 o
gives_zero at (Some (field.State i t shared)) = refl
gives_zero at _ = refl

gift_zero : (n : Scope) (g : GiftTree) → faults_at_0 (found.gift n g) ≡ found.gift n (gift_at_0 g)
gift_zero n g =
    let o : Option Field = look n.home.own g.state.text in
    faults_both (gives g.state.at o) (valued (given_type o) g.value n) (gives 0 o) (valued (given_type o) (expr_at_0 g.value) n) (gives_zero g.state.at o) (valued_zero (given_type o) g.value n)

-- the faults of a member
module _ (home : Home) where
  rule_found : (type : TyName) (x : Option ExprTree) → faults_at_0 (found.rule (type_named type) x (outermost home false)) ≡ found.rule (type_named (type_at_0 type)) (option_map expr_at_0 x) (outermost home false)
  rule_found type None = refl
  rule_found type (Some x) =
      valued_zero (Some (type_named type)) x (outermost home false) ∙ ap (λ (t : Ty). valued (Some t) (expr_at_0 x) (outermost home false)) (sym (type_zero type))

  pub member_found : (x : MemberTree) → faults_at_0 (found.member home x) ≡ found.member home (member_at_0 x)
  member_found (m.Visible range at) = fault_zero _ (BadRange range.at) (BadRange 0) refl
  member_found (m.Reach range at) = fault_zero _ (BadRange range.at) (BadRange 0) refl
  member_found (m.State shared type name x at) = rule_found type x
  member_found (m.Effect shared type name c at) =
      fault_zero _ (WrongCombinator name.at) (WrongCombinator 0) refl ∙ ap (λ (t : Ty). joins (comb_named c) t 0) (sym (type_zero type))
  member_found (m.Run xs at) = block_zeroed check_fault_at_0 found.sought sought_unplaced xs (outermost home true)
  member_found (m.Die x at) = valued_zero (Some ty.Bool) x (outermost home false)
  member_found (m.Spawn x gifts at) =
      let n : Scope = outermost home false in
      faults_both (valued (Some ty.Bool) x n) (flat_map (found.gift n) gifts) (valued (Some ty.Bool) (expr_at_0 x) n) (flat_map (found.gift n) (map gift_at_0 gifts))
      (valued_zero (Some ty.Bool) x n) (many check_fault_at_0 (found.gift n) gift_at_0 gifts (gift_zero n))

-- what members mean
gifts_zero : (n : Scope) (gifts : List GiftTree) → MeantZero itself (gifts_in gifts n) (gifts_in (map gift_at_0 gifts) n)
gifts_zero n [] = nothing_zero itself [] [] refl
gifts_zero n (g ∷ gifts) =
    let given : Expr → List Gift → List Gift = λ e rest. record { state = number_of (look n.home.own g.state.text); value = e } ∷ rest in
    followed_zero itself itself itself given given (λ e rest. refl) (expression g.value n) (expression (expr_at_0 g.value) n) (gifts_in gifts n) (gifts_in (map gift_at_0 gifts) n)
    (meant_zero g.value n) (gifts_zero n gifts)

spawn_zero : (n : Scope) (x : ExprTree) (gifts : List GiftTree) (at : ℕ) → MeantZero itself (spawn_of x gifts at n) (spawn_of (expr_at_0 x) (map gift_at_0 gifts) 0 n)
spawn_zero n x gifts at =
    let pair : Expr → List Gift → Expr × List Gift = λ e given. (e, given) in
    let spawned : Expr × List Gift → ℕ → Spawn = λ inner n. record { when = inner.0; gifts = inner.1; site = n } in
    followed_zero itself itself itself spawned spawned (λ i k. refl) (followed pair (expression x n) (gifts_in gifts n)) (followed pair (expression (expr_at_0 x) n) (gifts_in (map gift_at_0 gifts) n))
    (site at) (site 0)
    (followed_zero itself itself itself pair pair (λ i k. refl) (expression x n) (expression (expr_at_0 x) n) (gifts_in gifts n) (gifts_in (map gift_at_0 gifts) n) (meant_zero x n) (gifts_zero n gifts))
    (site_zero at)

rule_zero : (n : Scope) (x : Option ExprTree) → MeantZero itself (rule x n) (rule (option_map expr_at_0 x) n)
rule_zero n None = nothing_zero itself None None refl
rule_zero n (Some x) = made_zero itself itself (λ e. Some e) (λ e. Some e) (λ e. refl) (expression x n) (expression (expr_at_0 x) n) (meant_zero x n)

abbrev with_state : Bool → List ℕ → Ty → Option Expr → Share
with_state shared name t r = record no_share { states = record { name = name; ty = t; shared = shared; rule = r } ∷ [] }

joined_zero : (a b : Share) → share_at_0 (shared_by a b) ≡ shared_by (share_at_0 a) (share_at_0 b)
joined_zero a b = ap (λ (l : List (List Stmt)). record (shared_by a b) { queries = l }) (map-append (map stmt_at_0) a.queries b.queries)

module _ (home : Home) where
  share_zero : (x : MemberTree) → MeantZero share_at_0 (share home x) (share home (member_at_0 x))
  share_zero (m.State shared type name x at) =
      made_zero itself share_at_0 (with_state shared name.text (type_named type)) (with_state shared name.text (type_named (type_at_0 type)))
      (λ r. ap (λ (t : Ty). with_state shared name.text t r) (sym (type_zero type))) (rule x (outermost home false)) (rule (option_map expr_at_0 x) (outermost home false)) (rule_zero (outermost home false) x)
  share_zero (m.Run xs at) =
      made_zero (map stmt_at_0) share_at_0 (λ query. record no_share { queries = query ∷ [] }) (λ query. record no_share { queries = query ∷ [] }) (λ query. refl)
      (block (map part xs) (outermost home true)) (block (map part (map tree.stmt_at_0 xs)) (outermost home true)) (block_zero xs (outermost home true))
  share_zero (m.Die x at) =
      made_zero itself share_at_0 (λ e. record no_share { die = e ∷ [] }) (λ e. record no_share { die = e ∷ [] }) (λ e. refl)
      (expression x (outermost home false)) (expression (expr_at_0 x) (outermost home false)) (meant_zero x (outermost home false))
  share_zero (m.Spawn x gifts at) =
      made_zero itself share_at_0 (λ s. record no_share { spawn = s ∷ [] }) (λ s. record no_share { spawn = s ∷ [] }) (λ s. refl)
      (spawn_of x gifts at (outermost home false)) (spawn_of (expr_at_0 x) (map gift_at_0 gifts) 0 (outermost home false)) (spawn_zero (outermost home false) x gifts at)
  share_zero _ = nothing_zero share_at_0 no_share no_share refl

  shares_zero : (xs : List MemberTree) → MeantZero share_at_0 (shares home xs) (shares home (map member_at_0 xs))
  shares_zero [] = nothing_zero share_at_0 no_share no_share refl
  shares_zero (x ∷ xs) =
      followed_zero share_at_0 share_at_0 share_at_0 shared_by shared_by joined_zero (share home x) (share home (member_at_0 x)) (shares home xs) (shares home (map member_at_0 xs)) (share_zero x) (shares_zero xs)

-- what a class declares
visible_zero : (xs : List MemberTree) → flat_map visible_of (map member_at_0 xs) ≡ flat_map visible_of xs
visible_zero [] = refl
visible_zero (m.Visible range at ∷ xs) = ap (λ (l : List ℤ). millionths range.digits ∷ l) (visible_zero xs)
visible_zero (_ ∷ xs) = visible_zero xs

reach_zero : (xs : List MemberTree) → flat_map reach_of (map member_at_0 xs) ≡ flat_map reach_of xs
reach_zero [] = refl
reach_zero (m.Reach range at ∷ xs) = ap (λ (l : List ℤ). millionths range.digits ∷ l) (reach_zero xs)
reach_zero (_ ∷ xs) = reach_zero xs

abbrev effect_with : Bool → List ℕ → CombName → Ty → Effect
effect_with shared name comb t = record { name = name; ty = t; shared = shared; comb = comb_named comb }

effects_zero : (xs : List MemberTree) → flat_map effect_of (map member_at_0 xs) ≡ flat_map effect_of xs
effects_zero [] = refl
effects_zero (m.Effect shared type name comb at ∷ xs) =
    ap (λ (t : Ty). effect_with shared name.text comb t ∷ flat_map effect_of (map member_at_0 xs)) (type_zero type)
    ∙ ap (λ (l : List Effect). effect_with shared name.text comb (type_named type) ∷ l) (effects_zero xs)
effects_zero (_ ∷ xs) = effects_zero xs

first_query : (queries : List (List Stmt)) → map stmt_at_0 (unwrap_or (slice_get queries 0) []) ≡ unwrap_or (slice_get (map (map stmt_at_0) queries) 0) []
first_query [] = refl
first_query (query ∷ queries) = refl

abbrev class_of_parts : List ℕ → List ℤ → List ℤ → List Effect → Share → Class
class_of_parts name visible reach effects all = record {
  name = name;
  visible = first_or_0 visible;
  reach = first_or_0 reach;
  x = place_of (codes "x") all.states;
  y = place_of (codes "y") all.states;
  states = all.states;
  effects = effects;
  query = unwrap_or (slice_get all.queries 0) [];
  die = slice_get all.die 0;
  spawn = slice_get all.spawn 0;
}

with_zero : (class : ClassTree) (s : Share) → class_at_0 (class_with class s) ≡ class_with (tree.class_at_0 class) (share_at_0 s)
with_zero class s =
    let xs : List MemberTree = class.members in
    let name : List ℕ = class.name.text in
    let t : Share = share_at_0 s in
    ap (λ (l : List Stmt). record (class_with class s) { query = l }) (first_query s.queries)
    ∙ (ap (λ (l : List ℤ). class_of_parts name l (flat_map reach_of xs) (flat_map effect_of xs) t) (sym (visible_zero xs))
    ∙ (ap (λ (l : List ℤ). class_of_parts name (flat_map visible_of (map member_at_0 xs)) l (flat_map effect_of xs) t) (sym (reach_zero xs))
    ∙ ap (λ (l : List Effect). class_of_parts name (flat_map visible_of (map member_at_0 xs)) (flat_map reach_of (map member_at_0 xs)) l t) (sym (effects_zero xs))))

class_zero : (home : Home) (class : ClassTree) → MeantZero class_at_0 (class_of home class) (class_of home (tree.class_at_0 class))
class_zero home class =
    made_zero share_at_0 class_at_0 (class_with class) (class_with (tree.class_at_0 class)) (with_zero class) (shares home class.members) (shares home (map member_at_0 class.members)) (shares_zero home class.members)

-- what classes mean
classes_zero : (all : Known) (number : ℕ) (classes : List ClassTree) → MeantZero (map class_at_0) (classes_from all number classes) (classes_from all number (map tree.class_at_0 classes))
classes_zero all number [] = nothing_zero (map class_at_0) [] [] refl
classes_zero all number (class ∷ classes) =
    let class0 : ClassTree = tree.class_at_0 class in
    followed_zero class_at_0 (map class_at_0) (map class_at_0) (λ c rest. c ∷ rest) (λ c rest. c ∷ rest) (λ c rest. refl)
    (class_of (home_of all number class) class) (class_of (home_of all number class0) class0) (classes_from all (number + 1) classes) (classes_from all (number + 1) (map tree.class_at_0 classes))
    (subst (λ (home : Home). MeantZero class_at_0 (class_of (home_of all number class) class) (class_of home class0)) (sym (home_zero all number class)) (class_zero (home_of all number class) class))
    (classes_zero all (number + 1) classes)

pub meant_script : (classes : List ClassTree) → MeantZero (map class_at_0) (classes_from (known classes) 0 classes) (classes_from (known (map tree.class_at_0 classes)) 0 (map tree.class_at_0 classes))
meant_script classes =
    subst (λ (all : Known). MeantZero (map class_at_0) (classes_from (known classes) 0 classes) (classes_from all 0 (map tree.class_at_0 classes))) (known_zero classes) (classes_zero (known classes) 0 classes)
