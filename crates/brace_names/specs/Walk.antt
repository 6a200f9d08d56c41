-- The walk over a script: the scope at each place, and what is found there, in the order of the
-- text.
use Rattle.std.specs.Prelude.{ℕ, ◌+◌, List, [], ◌∷◌, ◌++◌, flat_map, sum_by, Option, Some, None}
use Rattle.brace_model.specs.declared.program.Ty.{Ty}
use Rattle.brace_syntax.specs.declared.tree.Ident.{Ident}
use Rattle.brace_syntax.specs.declared.tree.TyName.{TyName}
use Rattle.brace_syntax.specs.declared.tree.ExprTree.{ExprTree}
use Rattle.brace_syntax.specs.declared.tree.StmtTree.{StmtTree}
use Rattle.brace_syntax.specs.declared.tree.StmtTree.TheOpen.{StmtTree-F, Const, If, Foreach, Assign, AssignThis, AssignLoop}
use Rattle.brace_syntax.specs.declared.tree.StmtTree.TheFolds.{fold-StmtTree}
use Rattle.brace_syntax.specs.declared.tree.MemberTree.{MemberTree}
use Rattle.brace_syntax.specs.declared.tree.ClassTree.{ClassTree}
use Rattle.brace_names.specs.Kinds.{type_named}
use Rattle.brace_names.specs.Classes.{Known}
use Rattle.brace_names.specs.Scopes.{Home, home_of, Scope, inside, past, declaring}

-- a statement as its block knows it: the constant that it declares there with its type, how many
-- constants stand in it, and what it comes to by the scope at its place
pub record Part (A : Type 0) : Type 0 where
  pub declared : Option (Ident × Ty)
  pub constants : ℕ
  pub here : Scope → A

-- the scope in which a constant is declared, where one is
abbrev pub declared_in : Option (Ident × Ty) → Scope → Scope
declared_in None scope = scope
declared_in (Some one) scope = declaring one.0 one.1 scope

module _ {A : Type 0} where
  -- the scope behind a statement
  abbrev pub behind : Part A → Scope → Scope
  behind part scope = past part.constants (declared_in part.declared scope)

  -- how many constants stand in a block
  abbrev pub constants_in : List (Part A) → ℕ
  constants_in = sum_by (λ part. part.constants)

  -- how many constants stand in the block of an `else`
  abbrev pub constants_otherwise : Option (List (Part A)) → ℕ
  constants_otherwise None = 0
  constants_otherwise (Some parts) = constants_in parts

  -- a statement that declares nothing
  abbrev pub plain : ℕ → (Scope → A) → Part A
  plain constants here = record { declared = None; constants = constants; here = here }

module _ {A : Type 0} where
  -- what is found in a block: each statement in the scope behind those before it
  abbrev pub block : List (Part (List A)) → Scope → List A
  block [] scope = []
  block (part ∷ parts) scope = part.here scope ++ block parts (behind part scope)

  -- what is found in the block of an `else`
  abbrev pub otherwise : Option (List (Part (List A))) → Scope → List A
  otherwise None scope = []
  otherwise (Some parts) scope = block parts scope

-- what is looked for in statements: at a constant, at the condition of an `if`, at the head of a
-- loop, and at an assignment to a name at a place or to `q.n`
pub record Sought (A : Type 0) : Type 0 where
  pub constant : TyName → Ident → ExprTree → Scope → List A
  pub condition : ExprTree → Scope → List A
  pub head : Ident → Ident → Ident → ℕ → Scope → List A
  pub assigned : ℕ → Ident → ExprTree → Scope → List A
  pub assigned_of_loop : Ident → Ident → ExprTree → Scope → List A

module _ {A : Type 0} (sought : Sought A) where
  -- a statement of each kind
  abbrev pub part_step : StmtTree-F (Part (List A)) → Part (List A)
  part_step (Const type name x at) = record {
    declared = Some (name, type_named type);
    constants = 1;
    here = sought.constant type name x;
  }
  part_step (If condition parts other at) =
      plain (constants_in parts + constants_otherwise other)
      (λ scope. sought.condition condition scope ++ block parts scope
      ++ otherwise other (past (constants_in parts) scope))
  part_step (Foreach class variable other parts at) =
      plain (constants_in parts)
      (λ scope. sought.head class variable other at scope
      ++ block parts (inside class variable scope))
  part_step (Assign name x) = plain 0 (sought.assigned name.at name x)
  part_step (AssignThis name x at) = plain 0 (sought.assigned at name x)
  part_step (AssignLoop variable name x) = plain 0 (sought.assigned_of_loop variable name x)

  -- a statement as its block knows it
  abbrev pub part_of : StmtTree → Part (List A)
  part_of = fold-StmtTree (Part (List A)) part_step

module _ {A : Type 0} (member : Home → MemberTree → List A) where
  -- what is found in the members of classes, numbered from a number on
  abbrev pub in_classes : Known → ℕ → List ClassTree → List A
  in_classes all number [] = []
  in_classes all number (class ∷ classes) =
      flat_map (member (home_of all number class)) class.members
      ++ in_classes all (number + 1) classes
