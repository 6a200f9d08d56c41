-- Two actors that meet in each of so many steps, and what a seat of one knows after so many turns.
use Rattle.std.specs.Prelude.{◌≡◌, ℕ, List, [], ◌∷◌, replicate}
use Rattle.brace_core.specs.Schedule.{Pair, Schedule}
use Rattle.brace_lanes.specs.declared.table.View.{View}
use Rattle.brace_lanes.specs.Views.{Serves}
use Rattle.brace_lanes.specs.Seats.{puts_of, takes_of}

abbrev pub pair : ℕ → ℕ → Pair
pair p q = record { from = p; to = q }

abbrev pub both : List Pair
both = pair 0 1 ∷ pair 1 0 ∷ []

abbrev pub talk : ℕ → Schedule
talk steps = record { actors = 2; steps = replicate steps both }

-- the seat serves an actor that put and took so many names
pub record HasTalked {S : Type 0} (v : View S) (setting : S) (own other puts takes : ℕ)
    : Type 0 where
  pub setting_is : v.setting ≡ setting
  pub serves : Serves v own
  pub put : puts_of v own other ≡ puts
  pub taken : takes_of v other own ≡ takes
