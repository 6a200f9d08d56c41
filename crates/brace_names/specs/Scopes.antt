-- What is in scope at a place of a script, and what the names there stand for.
use Rattle.std.specs.Prelude.{ℕ, ◌+◌, Bool, true, false, ◌||◌, List, [], Option, Some, None, slice_get, option_map, option_and_then}
use Rattle.brace_syntax.specs.declared.tree.Ident.{Ident}
use Rattle.brace_syntax.specs.declared.tree.MemberTree.{MemberTree}
use Rattle.brace_syntax.specs.declared.tree.MemberTree.TheVariants as m
use Rattle.brace_syntax.specs.declared.tree.ClassTree.{ClassTree}
use Rattle.brace_model.specs.declared.program.Ty.{Ty}
use Rattle.brace_names.specs.declared.declared.Field.{Field}
use Rattle.brace_names.specs.declared.scope.Local.{Local}
use Rattle.brace_names.specs.declared.scope.Local.TheVariants as local
use Rattle.brace_names.specs.declared.scope.Named.{Named}
use Rattle.brace_names.specs.declared.scope.Named.TheVariants as named
use Rattle.brace_names.specs.declared.scope.LoopField.{LoopField}
use Rattle.brace_names.specs.Tables.{look, has, with_name, table}
use Rattle.brace_names.specs.Classes.{Known, fields}

-- a class as its members see it: what the script declares, the number of the class, and its fields
pub record Home : Type 0 where
  pub known : Known
  pub number : ℕ
  pub own : List (List ℕ × Field)

-- a class of a number
abbrev pub home_of : Known → ℕ → ClassTree → Home
home_of all number class = record { known = all; number = number; own = table (fields class) }

-- what is in scope: the class, whether it is its query, the constants and loop variables, how many
-- loops stand around the place, and how many constants of the class before it
pub record Scope : Type 0 where
  pub home : Home
  pub in_query : Bool
  pub locals : List (List ℕ × Local)
  pub loops : ℕ
  pub constants : ℕ

-- the scope outside all blocks of a class
abbrev pub outermost : Home → Bool → Scope
outermost home in_query =
    record { home = home; in_query = in_query; locals = []; loops = 0; constants = 0 }

-- the member is the query of its class
abbrev pub is_query : MemberTree → Bool
is_query (m.Run statements at) = true
is_query _ = false

-- the name stands for a field of the class, a constant or a loop variable
abbrev pub is_taken : Scope → List ℕ → Bool
is_taken scope name = has scope.home.own name || has scope.locals name

-- the number of the class of a name
abbrev pub class_number : Scope → List ℕ → Option ℕ
class_number scope name = look scope.home.known.classes name

-- what a name stands for in the class of a number
abbrev pub field_in : Scope → ℕ → List ℕ → Option Field
field_in scope class name =
    option_and_then (λ own. look own name) (slice_get scope.home.known.fields class)

-- what `this.n` stands for: a field of the class
abbrev pub read_own : Scope → List ℕ → Option Named
read_own scope name = option_map (λ f. named.Field f) (look scope.home.own name)

-- a constant, where the name stands for one, or else this
abbrev pub constant_or : Option Local → Option Named → Option Named
constant_or (Some (local.Constant n t)) other = Some (named.Constant n t)
constant_or _ other = other

-- what `n` stands for in an expression: a constant in scope, or a field of the class
abbrev pub read : Scope → List ℕ → Option Named
read scope name = constant_or (look scope.locals name) (read_own scope name)

-- a field of the class of a loop variable
abbrev pub field_of : Scope → List ℕ → Option Local → Option LoopField
field_of scope name (Some (local.Loop n (Some class))) =
    option_map (λ f. record { loops = n; class = class; field = f }) (field_in scope class name)
field_of scope name _ = None

-- what `q.n` stands for: a field of the class of a loop variable in scope
abbrev pub of_loop : Scope → List ℕ → List ℕ → Option LoopField
of_loop scope variable name = field_of scope name (look scope.locals variable)

-- the scope in the block of a loop
abbrev pub inside : Ident → Ident → Scope → Scope
inside class variable scope = record scope {
  locals = with_name scope.locals variable.text
      (local.Loop scope.loops (class_number scope class.text));
  loops = scope.loops + 1;
}

-- the scope behind something in which so many constants stand
abbrev pub past : ℕ → Scope → Scope
past constants scope = record scope { constants = scope.constants + constants }

-- the scope in which a name stands for the next constant of the class, of a type
abbrev pub declaring : Ident → Ty → Scope → Scope
declaring name t scope =
    record scope {
      locals = with_name scope.locals name.text (local.Constant scope.constants t);
    }
