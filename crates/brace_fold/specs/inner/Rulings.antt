-- Agents of one class in lanes, and what its rules come to there. Only the crate's own functions
-- cite this.
use Rattle.std.specs.Prelude.{◌≡◌, ℕ, ◌+◌, ◌<◌, ℤ, pos, Bool, false, true, not, Option, None, Some, List, [], ◌∷◌, ◌++◌, map, zip, filter, filter_map, ⊤, length, slice_get, slice_index_or, slice_set, option_copied, Ok}
use Rattle.std.specs.List.{All, AllZip, cons_option, range_with_len}
use Rattle.std.specs.Result.{result_err}
use Rattle.brace_num.specs.Exact.{clamped}
use Rattle.brace_draw.specs.Draw.{draw_value}
use Rattle.brace_model.specs.declared.program.Class.{Class}
use Rattle.brace_model.specs.declared.program.Value.{Value}
use Rattle.brace_model.specs.declared.program.Value.TheVariants.{Fixed}
use Rattle.brace_model.specs.declared.world.Agent.{Agent}
use Rattle.brace_model.specs.World.{no_value, number, value_at}
use Rattle.brace_model.specs.Value.{Scope, typed}
use Rattle.brace_model.specs.Next.{changed, holds, with_gifts, within_reach}
use Rattle.brace_code.specs.declared.code.Code.{Code}
use Rattle.brace_code.specs.declared.lane.Frame.{Frame}
use Rattle.brace_code.specs.declared.lane.Lane.{Lane}
use Rattle.brace_code.specs.Codes.{type_given}
use Rattle.brace_code.specs.Lanes.{Gives, draws_at}
use Rattle.brace_plan.specs.declared.rules.Rules.{Rules}
use Rattle.brace_plan.specs.Ruling.{gifts_of}
use Rattle.brace_plan.specs.Leaving.{leaves_by, survivor, update_by}
use Rattle.brace_fold.specs.declared.columns.Columns.{Columns}
use Rattle.brace_fold.specs.declared.outcome.Column.{Column}
use Rattle.brace_fold.specs.declared.outcome.Outcome.{Outcome}
use Rattle.brace_fold.specs.declared.surviving.Living.{Living}
use Rattle.brace_fold.specs.declared.surviving.Living.TheVariants.{First, These}
use Rattle.brace_fold.specs.declared.surviving.Words.{Words}
use Rattle.brace_fold.specs.Rows.{values_in, words_of}

-- the lane of an agent, whose words stand in a row
abbrev pub row_lane : ℕ → Lane
row_lane row = record { this = row; outer = 0; inner = 0; place = row }

-- lanes of so many agents, row by row
pub record AreLanes (count : ℕ) (lanes : List Lane) : Type 0 where
  pub long : length lanes ≡ count
  pub each : (k : ℕ) (l : Lane) → k < count → slice_index_or lanes k l ≡ row_lane k

-- the agent of a lane; another agent where its place is past the end
abbrev pub agent_at : List Agent → Agent → Lane → Agent
agent_at agents d lane = slice_index_or agents lane.place d

-- columns of agents: of their states, of their totals and of their draws
pub record AreRows (seed tick : ℕ) (totals : Agent → List ℤ) (agents : List Agent) (frame : Frame)
    : Type 0 where
  pub states : (i : ℕ) (column : List ℤ)
      → option_copied (slice_get frame.this.now i) ≡ Some column
      → column ≡ map (λ a. number (value_at a.states i)) agents
  pub outer : frame.outer.now ≡ []
  pub inner : frame.inner.now ≡ []
  pub locals : frame.locals.now ≡ []
  pub sums : (i : ℕ) (column : List ℤ)
      → option_copied (slice_get frame.totals.now i) ≡ Some column
      → column ≡ map (λ a. slice_index_or (totals a) i (pos 0)) agents
  pub draws : (site : ℕ) (column : List ℤ) → draws_at frame.draws.now site ≡ Some column
      → column ≡ map (λ a. pos (draw_value seed tick a.id site)) agents

-- a column is what code gives in each lane
pub record IsRun (frame : Frame) (lanes : List Lane) (code : Code) (column : Column)
    : Type 0 where
  pub given : column.ty ≡ type_given code
  pub words : Gives code frame lanes column.words

-- the same of a rule or a condition, where there is one
abbrev pub IsRunIf : Frame → List Lane → Option Code → Option Column → Type 0
IsRunIf frame lanes None None = ⊤
IsRunIf frame lanes (Some code) (Some column) = IsRun frame lanes code column
IsRunIf frame lanes _ _ = false ≡ true

-- what the rules of a class and its conditions come to
pub record IsOutcome (frame : Frame) (lanes : List Lane) (rules : Rules) (out : Outcome)
    : Type 0 where
  pub states : AllZip (IsRunIf frame lanes) rules.states out.states.items
  pub die : IsRunIf frame lanes rules.die out.die
  pub spawn : IsRunIf frame lanes rules.spawn out.spawn

-- the value in a row of a column
abbrev pub word_value : Column → ℕ → Value
word_value column row = typed column.ty (slice_index_or column.words row (pos 0))

-- the value of a rule in a row; without a rule a state keeps its value
abbrev pub value_in : Option Column → ℕ → Value → Value
value_in None row old = old
value_in (Some column) row old = word_value column row

-- a condition holds in a row
abbrev pub is_set : Option Column → ℕ → Bool
is_set column row = holds (Ok (value_in column row no_value))

-- the new values of states in a row
abbrev pub new_states : List (Option Column) → ℕ → List Value → List Value
new_states columns row old = map (λ p. value_in p.0 row p.1) (zip columns old)

-- the new value of one coordinate, moved into reach of an old value
abbrev pub moved_from : ℤ → ℕ → Value → List Value → List Value
moved_from reach place old new =
    slice_set new place (Fixed (clamped (number old) (number (value_at new place)) reach))

-- the values of gifts in a row
abbrev pub given_at : List Column → ℕ → List Value
given_at gifts row = map (λ column. word_value column row) gifts

-- the agent of a row, unless it dies
abbrev pub lives_in : Class → Outcome → ℕ → Agent → Option Agent
lives_in class out row a =
    survivor (is_set out.die row) class a (new_states out.states.items row a.states)

-- those that live on, of the agents of the rows from one on
abbrev pub living_from : Class → Outcome → ℕ → List Agent → List Agent
living_from class out row [] = []
living_from class out row (a ∷ agents) =
    cons_option (lives_in class out row a) (living_from class out (row + 1) agents)

-- of so many rows those whose agents live on
abbrev pub rows_left : Option Column → ℕ → List ℕ
rows_left die count = filter (λ row. not (is_set die row)) (range_with_len 0 count)

-- the rows of those that live on
abbrev pub rows_of : Living → List ℕ
rows_of (First count) = range_with_len 0 count
rows_of (These rows) = rows.items

-- the number of the value that words have in a row
abbrev pub number_in : Words → ℕ → ℤ
number_in words row = number (typed words.ty (slice_index_or words.words.now row (pos 0)))

-- the new number of a coordinate in a row of columns, moved into reach of the old one
abbrev pub moved_at : Class → List ℤ → List ℤ → ℕ → ℤ
moved_at class old new row =
    clamped (slice_index_or old row (pos 0)) (slice_index_or new row (pos 0)) class.reach

-- the same of words of a type
abbrev pub moved_in : Class → Words → Words → ℕ → ℤ
moved_in class old new row = clamped (number_in old row) (number_in new row) class.reach

-- the number of the new value of a state in a row of columns
abbrev pub new_number : Class → Class → Outcome → Columns → ℕ → ℕ → ℤ
new_number own class out columns state row =
    let old = values_in (map (λ s. s.ty) own.states) (words_of columns) row in
    number (value_at (within_reach class old (new_states out.states.items row old)) state)

-- the child of an agent, with the gifts of a row
abbrev pub child_of : Class → List Column → ℕ → Agent → Agent
child_of class gifts row a =
    changed class a (with_gifts a.states (gifts_of class.spawn) (given_at gifts row))

-- the children of the agents of lanes
pub record AreBorn (class : Class) (gifts : List Column) (agents : List Agent) (lanes : List Lane)
    (born : List Agent) : Type 0 where
  pub long : length born ≡ length lanes
  pub each : (k : ℕ) (a d : Agent) (l : Lane) → k < length lanes → slice_index_or born k a
      ≡ child_of class gifts k (agent_at agents d (slice_index_or lanes k l))

-- in the scopes of lanes nothing stops the updates of their agents, those that live on are those of
-- the rows, and the children are added
pub record Leaves (class : Class) (rules : Rules) (agents : List Agent) (lanes : List Lane)
    (scope : Lane → Scope) (d : Agent) (out : Outcome) (old new : List Agent) : Type 0 where
  pub quiet : All (λ lane.
      filter_map result_err (update_by (scope lane) rules (agent_at agents d lane)) ≡ []) lanes
  pub left : living_from class out 0 agents ≡ filter_map (λ lane.
      (leaves_by (scope lane) class rules (agent_at agents d lane)).agent) lanes
  pub born : new ≡ old ++ filter_map (λ lane.
      (leaves_by (scope lane) class rules (agent_at agents d lane)).child) lanes
