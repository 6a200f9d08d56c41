-- What figures are counted from: the agents of boxes, and their numbers, state by state.
use Rattle.std.specs.Prelude.{◌≡◌, ℕ, ◌==◌, ℤ, List, [], map, filter, Option, option_map}
use Rattle.std.specs.List.{range_with_len}
use Rattle.brace_model.specs.declared.program.BinOp.{BinOp}
use Rattle.brace_model.specs.declared.program.Value.{Value}
use Rattle.brace_model.specs.declared.program.Program.{Program}
use Rattle.brace_model.specs.declared.world.Agent.{Agent}
use Rattle.brace_model.specs.World.{number}
use Rattle.brace_cuts.specs.declared.space.Cuts.{Cuts}
use Rattle.brace_cuts.specs.Space.{parts_of}
use Rattle.brace_pieces.specs.Owned.{owned}
use Rattle.brace_watch.specs.declared.kinds.Watch.{Watch}
use Rattle.brace_watch.specs.declared.rows.Column.{Column}
use Rattle.brace_watch.specs.Figures.{meets, value_for}

-- what stands where there is no agent
abbrev pub no_agent : Agent
no_agent = record { class = 0; id = 0; states = [] }

-- the agents of each box, by its number
abbrev pub all_owned : Program → Cuts → List Agent → List (List Agent)
all_owned program cuts agents =
    map (λ p. owned program cuts p agents) (range_with_len 0 (parts_of cuts))

-- the agents of a class
abbrev pub of_class : ℕ → List Agent → List Agent
of_class class agents = filter (λ a. a.class == class) agents

-- the number that an agent has in a state, or any where none is asked for
abbrev pub number_for : Option ℕ → Agent → ℤ
number_for field a = number (value_for field a)

-- the numbers that the agents of a class have in a state
abbrev pub numbers_of : ℕ → Option ℕ → List Agent → List ℤ
numbers_of class field agents = map (number_for field) (of_class class agents)

-- a column has the numbers of some agents
abbrev pub IsColumn : List Agent → Column → Type 0
IsColumn agents c = c.numbers.items ≡ numbers_of c.class c.field agents

-- the values of those of some agents that meet a condition, whatever their class
abbrev pub values_met : Watch → List Agent → List Value
values_met watch agents = map (value_for watch.field) (filter (meets watch.test) agents)

-- the state that a condition is on
abbrev pub tested : Option (ℕ × BinOp × Value) → Option ℕ
tested test = option_map (λ t. t.0) test
