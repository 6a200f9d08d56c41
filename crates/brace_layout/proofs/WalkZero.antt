-- What is found in the statements of a script at place 0 is what is found in the script, at place 0, whatever is looked for.
use Rattle.std.proofs.Common.{◌≡◌, refl, sym, ap, subst, ◌∙◌, ℕ, ◌+◌, Bool, true, false, List, [], ◌∷◌, ◌++◌, map, flat_map}
use Rattle.std.specs.Prelude.{Some, None, if◌then◌else◌}
use mathlib.Core.List.{map-append}
use Rattle.brace_syntax.specs.declared.tree.Ident.{Ident}
use Rattle.brace_syntax.specs.declared.tree.TyName.{TyName}
use Rattle.brace_syntax.specs.declared.tree.TyName.TheVariants as tyname
use Rattle.brace_syntax.specs.declared.tree.ExprTree.{ExprTree}
use Rattle.brace_syntax.specs.declared.tree.StmtTree.{StmtTree}
use Rattle.brace_syntax.specs.declared.tree.StmtTree.TheVariants as s
use Rattle.brace_show.specs.Alike.{ident_at_0, type_at_0, expr_at_0, stmt_step, stmt_at_0}
use Rattle.brace_model.specs.declared.program.Ty.{Ty}
use Rattle.brace_names.specs.Kinds.{type_named}
use Rattle.brace_names.specs.Scopes.{Scope, inside, past, declaring}
use Rattle.brace_names.specs.Walk.{Part, behind, constants_in, block, Sought, part_step, part_of}
use Rattle.brace_names.proofs.Folds.{ProvedStmt, stmts_of, Statements, proved, stmts-proved, of-Const, of-when, of-either, of-Foreach, of-Assign, of-AssignThis, of-AssignLoop}
use Rattle.brace_names.proofs.StmtLemmas.{constants-cons}

-- a type keeps its kind
pub type_zero : (type : TyName) → type_named (type_at_0 type) ≡ type_named type
type_zero tyname.Int = refl
type_zero _ = refl

-- a statement and the same at place 0 declare the same
pub record Declares {A : Type 0} (p0 p : Part A) : Type 0 where
  pub constants : p0.constants ≡ p.constants
  pub scope : (n : Scope) → behind p0 n ≡ behind p n

pub constant_declares : {A : Type 0} (type : TyName) (name : Ident) (f g : Scope → A)
    → Declares (record { declared = Some (ident_at_0 name, type_named (type_at_0 type)); constants = 1; here = f }) (record { declared = Some (name, type_named type); constants = 1; here = g })
constant_declares type name f g = record { constants = refl; scope = λ n. ap (λ (t : Ty). past 1 (declaring name t n)) (type_zero type) }

pub plain_declares : {A : Type 0} (k l : ℕ) (f g : Scope → A) → k ≡ l → Declares (record { declared = None; constants = k; here = f }) (record { declared = None; constants = l; here = g })
plain_declares k l f g e = record { constants = e; scope = λ n. ap (λ (j : ℕ). past j n) e }

pub more_constants : {A : Type 0} (p0 p : Part A) (p0s ps : List (Part A)) → Declares p0 p → constants_in p0s ≡ constants_in ps → constants_in (p0 ∷ p0s) ≡ constants_in (p ∷ ps)
more_constants p0 p p0s ps h g =
    constants-cons p0 p0s ∙ (ap (λ (k : ℕ). k + constants_in p0s) h.constants ∙ (ap (λ (k : ℕ). p.constants + k) g ∙ sym (constants-cons p ps)))

module _ {A : Type 0} (at_0 : A → A) where
  abbrev pub zeroed : List A → List A
  zeroed = map at_0

  pub both : (xs ys a b : List A) → zeroed xs ≡ a → zeroed ys ≡ b → zeroed (xs ++ ys) ≡ a ++ b
  both xs ys a b h g = map-append at_0 xs ys ∙ (ap (λ (l : List A). l ++ zeroed ys) h ∙ ap (λ (l : List A). a ++ l) g)

  -- of one thing or another
  pub either : (test : Bool) (xs ys a b : List A) → zeroed xs ≡ a → zeroed ys ≡ b → zeroed (if test then xs else ys) ≡ (if test then a else b)
  either true xs ys a b h g = h
  either false xs ys a b h g = g

  -- of many things, where of each
  pub many : {X : Type 0} (f : X → List A) (x_at_0 : X → X) (xs : List X) → ((x : X) → zeroed (f x) ≡ f (x_at_0 x)) → zeroed (flat_map f xs) ≡ flat_map f (map x_at_0 xs)
  many f x_at_0 [] h = refl
  many f x_at_0 (x ∷ xs) h = both (f x) (flat_map f xs) (f (x_at_0 x)) (flat_map f (map x_at_0 xs)) (h x) (many f x_at_0 xs h)

  -- what is looked for is found at place 0 wherever it stands
  pub record Unplaced (v : Sought A) : Type 0 where
    pub constant : (type : TyName) (name : Ident) (x : ExprTree) (n : Scope) → zeroed (v.constant type name x n) ≡ v.constant (type_at_0 type) (ident_at_0 name) (expr_at_0 x) n
    pub condition : (x : ExprTree) (n : Scope) → zeroed (v.condition x n) ≡ v.condition (expr_at_0 x) n
    pub head : (class variable other : Ident) (at : ℕ) (n : Scope)
        → zeroed (v.head class variable other at n) ≡ v.head (ident_at_0 class) (ident_at_0 variable) (ident_at_0 other) 0 n
    pub assigned : (at : ℕ) (name : Ident) (x : ExprTree) (n : Scope) → zeroed (v.assigned at name x n) ≡ v.assigned 0 (ident_at_0 name) (expr_at_0 x) n
    pub assigned_of_loop : (variable name : Ident) (x : ExprTree) (n : Scope)
        → zeroed (v.assigned_of_loop variable name x n) ≡ v.assigned_of_loop (ident_at_0 variable) (ident_at_0 name) (expr_at_0 x) n

  module _ (v : Sought A) (un : Unplaced v) where
    abbrev part : StmtTree → Part (List A)
    part = part_of v

    record Zeroed (p p0 : Part (List A)) : Type 0 where
      declares : Declares p0 p
      found : (n : Scope) → zeroed (p.here n) ≡ p0.here n

    record BlockZeroed (ps p0s : List (Part (List A))) : Type 0 where
      constants : constants_in p0s ≡ constants_in ps
      found : (n : Scope) → zeroed (block ps n) ≡ block p0s n

    abbrev StmtZeroed : StmtTree → Type 0
    StmtZeroed x = Zeroed (part x) (part (stmt_at_0 x))

    abbrev TreesZeroed : List StmtTree → Type 0
    TreesZeroed xs = BlockZeroed (map part xs) (map part (map stmt_at_0 xs))

    trees_zeroed : (ys : List (ProvedStmt StmtZeroed)) → TreesZeroed (stmts_of ys)
    trees_zeroed [] = record { constants = refl; found = λ n. refl }
    trees_zeroed (y ∷ ys) =
        let p : Part (List A) = part y.0 in
        let p0 : Part (List A) = part (stmt_at_0 y.0) in
        let ps : List (Part (List A)) = map part (stmts_of ys) in
        let p0s : List (Part (List A)) = map part (map stmt_at_0 (stmts_of ys)) in
        let rest : BlockZeroed ps p0s = trees_zeroed ys in
        record {
          constants = more_constants p0 p p0s ps y.1.declares rest.constants;
          found = λ n. both (p.here n) (block ps (behind p n)) (p0.here n) (block p0s (behind p0 n)) (y.1.found n)
              (rest.found (behind p n) ∙ ap (block p0s) (sym (y.1.declares.scope n)));
        }

    back : (x y : StmtTree) (p p0 : Part (List A)) → part x ≡ p → stmt_at_0 x ≡ y → part y ≡ p0 → Zeroed p p0 → StmtZeroed x
    back x y p p0 a b c h =
        subst (λ (r : Part (List A)). Zeroed r (part (stmt_at_0 x))) (sym a) (subst (λ (r : Part (List A)). Zeroed p r) (sym (ap part b ∙ c)) h)

    kinds_zeroed : Statements StmtZeroed
    kinds_zeroed = record {
      const = λ type name x at. back (s.Const type name x at) (s.Const (type_at_0 type) (ident_at_0 name) (expr_at_0 x) 0) _ _
          (of-Const (part_step v) type name x at) (of-Const stmt_step type name x at) (of-Const (part_step v) (type_at_0 type) (ident_at_0 name) (expr_at_0 x) 0)
          (record { declares = constant_declares type name _ _; found = λ n. un.constant type name x n });
      when = λ w a at. back (s.If w (stmts_of a) None at) (s.If (expr_at_0 w) (map stmt_at_0 (stmts_of a)) None 0) _ _
          (of-when (part_step v) w (stmts_of a) at) (of-when stmt_step w (stmts_of a) at) (of-when (part_step v) (expr_at_0 w) (map stmt_at_0 (stmts_of a)) 0)
          (let one : TreesZeroed (stmts_of a) = trees_zeroed a in
          record {
            declares = plain_declares _ _ _ _ (ap (λ (k : ℕ). k + 0) one.constants);
            found = λ n. both (v.condition w n ++ block (map part (stmts_of a)) n) [] (v.condition (expr_at_0 w) n ++ block (map part (map stmt_at_0 (stmts_of a))) n) []
                (both (v.condition w n) (block (map part (stmts_of a)) n) (v.condition (expr_at_0 w) n) (block (map part (map stmt_at_0 (stmts_of a))) n) (un.condition w n) (one.found n)) refl;
          });
      either_way = λ w a b at. back (s.If w (stmts_of a) (Some (stmts_of b)) at) (s.If (expr_at_0 w) (map stmt_at_0 (stmts_of a)) (Some (map stmt_at_0 (stmts_of b))) 0) _ _
          (of-either (part_step v) w (stmts_of a) (stmts_of b) at) (of-either stmt_step w (stmts_of a) (stmts_of b) at)
          (of-either (part_step v) (expr_at_0 w) (map stmt_at_0 (stmts_of a)) (map stmt_at_0 (stmts_of b)) 0)
          (let one : TreesZeroed (stmts_of a) = trees_zeroed a in
          let other : TreesZeroed (stmts_of b) = trees_zeroed b in
          let pa : List (Part (List A)) = map part (stmts_of a) in
          let pb : List (Part (List A)) = map part (stmts_of b) in
          let a0 : List (Part (List A)) = map part (map stmt_at_0 (stmts_of a)) in
          let b0 : List (Part (List A)) = map part (map stmt_at_0 (stmts_of b)) in
          record {
            declares = plain_declares _ _ _ _ (ap (λ (k : ℕ). k + constants_in b0) one.constants ∙ ap (λ (k : ℕ). constants_in pa + k) other.constants);
            found = λ n. both (v.condition w n ++ block pa n) (block pb (past (constants_in pa) n)) (v.condition (expr_at_0 w) n ++ block a0 n) (block b0 (past (constants_in a0) n))
                (both (v.condition w n) (block pa n) (v.condition (expr_at_0 w) n) (block a0 n) (un.condition w n) (one.found n))
                (other.found (past (constants_in pa) n) ∙ ap (λ (k : ℕ). block b0 (past k n)) (sym one.constants));
          });
      foreach = λ class variable other a at.
          back (s.Foreach class variable other (stmts_of a) at) (s.Foreach (ident_at_0 class) (ident_at_0 variable) (ident_at_0 other) (map stmt_at_0 (stmts_of a)) 0) _ _
          (of-Foreach (part_step v) class variable other (stmts_of a) at) (of-Foreach stmt_step class variable other (stmts_of a) at)
          (of-Foreach (part_step v) (ident_at_0 class) (ident_at_0 variable) (ident_at_0 other) (map stmt_at_0 (stmts_of a)) 0)
          (let one : TreesZeroed (stmts_of a) = trees_zeroed a in
          record {
            declares = plain_declares _ _ _ _ one.constants;
            found = λ n. both (v.head class variable other at n) (block (map part (stmts_of a)) (inside class variable n))
                (v.head (ident_at_0 class) (ident_at_0 variable) (ident_at_0 other) 0 n) (block (map part (map stmt_at_0 (stmts_of a))) (inside class variable n))
                (un.head class variable other at n) (one.found (inside class variable n));
          });
      assign = λ name x. back (s.Assign name x) (s.Assign (ident_at_0 name) (expr_at_0 x)) _ _
          (of-Assign (part_step v) name x) (of-Assign stmt_step name x) (of-Assign (part_step v) (ident_at_0 name) (expr_at_0 x))
          (record { declares = plain_declares _ _ _ _ refl; found = λ n. un.assigned name.at name x n });
      assign_this = λ name x at. back (s.AssignThis name x at) (s.AssignThis (ident_at_0 name) (expr_at_0 x) 0) _ _
          (of-AssignThis (part_step v) name x at) (of-AssignThis stmt_step name x at) (of-AssignThis (part_step v) (ident_at_0 name) (expr_at_0 x) 0)
          (record { declares = plain_declares _ _ _ _ refl; found = λ n. un.assigned at name x n });
      assign_loop = λ variable name x. back (s.AssignLoop variable name x) (s.AssignLoop (ident_at_0 variable) (ident_at_0 name) (expr_at_0 x)) _ _
          (of-AssignLoop (part_step v) variable name x) (of-AssignLoop stmt_step variable name x) (of-AssignLoop (part_step v) (ident_at_0 variable) (ident_at_0 name) (expr_at_0 x))
          (record { declares = plain_declares _ _ _ _ refl; found = λ n. un.assigned_of_loop variable name x n });
    }

    pub block_zeroed : (xs : List StmtTree) (n : Scope) → zeroed (block (map part xs) n) ≡ block (map part (map stmt_at_0 xs)) n
    block_zeroed xs n =
        subst (λ (l : List StmtTree). zeroed (block (map part l) n) ≡ block (map part (map stmt_at_0 l)) n) (stmts-proved StmtZeroed kinds_zeroed xs)
        ((trees_zeroed (proved StmtZeroed kinds_zeroed xs)).found n)
