-- Agents in columns of words, row by row.
use Rattle.std.specs.Prelude.{◌≡◌, ◌≤◌, ℕ, ℤ, pos, List, [], map, length, Option, None, Some, IsTrue, nat_eq, slice_get, slice_index_or}
use Rattle.std.specs.List.{All, IsDistinct, list_all, range_with_len}
use Rattle.brace_num.specs.Orders.{by_key}
use Rattle.brace_model.specs.declared.program.Class.{Class}
use Rattle.brace_model.specs.declared.program.Program.{Program}
use Rattle.brace_model.specs.declared.program.Ty.{Ty}
use Rattle.brace_model.specs.declared.program.Ty.TheVariants as ty
use Rattle.brace_model.specs.declared.program.Value.{Value}
use Rattle.brace_model.specs.declared.world.Agent.{Agent}
use Rattle.brace_model.specs.Lawful.{is_lawful_agent}
use Rattle.brace_model.specs.Value.{typed}
use Rattle.brace_model.specs.World.{ids, number, value_at}
use Rattle.brace_fold.specs.declared.columns.Columns.{Columns}
use Rattle.brace_fold.specs.declared.order.Moved.{Moved}

-- the types of the states of a class
abbrev pub types_of : Option Class → List Ty
types_of None = []
types_of (Some class) = map (λ s. s.ty) class.states

-- the columns of the states
abbrev pub words_of : Columns → List (List ℤ)
words_of columns = map (λ c. c.now) columns.states.now

-- the value of a state in a row, of one of some types
abbrev pub value_in : List Ty → List (List ℤ) → ℕ → ℕ → Value
value_in types words row state = typed (slice_index_or types state ty.Int)
    (slice_index_or (slice_index_or words state []) row (pos 0))

-- the values of states of some types in a row
abbrev pub values_in : List Ty → List (List ℤ) → ℕ → List Value
values_in types words row = map (value_in types words row) (range_with_len 0 (length types))

-- the agent of a row
abbrev pub row_in : Program → Columns → ℕ → Agent
row_in program columns row =
    let class = slice_index_or columns.classes.now row 0 in
    record {
      class = class;
      id = slice_index_or columns.ids.now row 0;
      states = values_in (types_of (slice_get program.classes class)) (words_of columns) row;
    }

-- the agents of columns, row by row
abbrev pub rows_in : Program → Columns → List Agent
rows_in program columns =
    map (row_in program columns) (range_with_len 0 (length columns.ids.now))

-- agents by rising id
abbrev pub by_id : List Agent → List Agent
by_id agents = by_key (λ a. a.id) agents

-- the agents of columns by rising id
abbrev pub world_in : Program → Columns → List Agent
world_in program columns = by_id (rows_in program columns)

-- what a column has in some rows
abbrev pub IsPicked : {A : Type 0} → List ℕ → List A → List A → Type 0
IsPicked rows column out = map (slice_get column) rows ≡ map Some out

-- the columns are those of these agents, row by row
pub record AreColumns (agents : List Agent) (columns : Columns) : Type 0 where
  pub classes : columns.classes.now ≡ map (λ a. a.class) agents
  pub ids_are : columns.ids.now ≡ ids agents
  pub states : (i : ℕ) (column : List ℤ) → slice_get (words_of columns) i ≡ Some column
      → column ≡ map (λ a. number (value_at a.states i)) agents

-- the same of columns that own their words
pub record AreMoved (agents : List Agent) (moved : Moved) : Type 0 where
  pub classes : moved.classes.items ≡ map (λ a. a.class) agents
  pub ids_are : moved.ids.items ≡ ids agents
  pub states : (i : ℕ) (column : List ℤ) → slice_get moved.states.items i ≡ Some column
      → column ≡ map (λ a. number (value_at a.states i)) agents

-- no class has more states than so many
abbrev pub HasRoom : Program → ℕ → Type 0
HasRoom program count = All (λ c. length c.states ≤ count) program.classes

-- each class has as many columns as states
abbrev pub IsWide : Program → Columns → Type 0
IsWide program columns = HasRoom program (length columns.states.now)

-- columns are those of lawful agents, no two with one id
pub record AreRows (program : Program) (columns : Columns) : Type 0 where
  pub lawful : IsTrue (list_all (is_lawful_agent program) (rows_in program columns))
  pub apart : IsDistinct nat_eq (ids (rows_in program columns))
  pub are : AreColumns (rows_in program columns) columns
