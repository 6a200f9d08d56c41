-- A small schedule: two parts meet in three steps, and both meet a publisher in a fourth.
use Rattle.std.specs.Prelude.{ℕ, List, [], ◌∷◌}
use Rattle.brace_core.specs.Schedule.{Pair, Schedule}

abbrev pub pair : ℕ → ℕ → Pair
pair p q = record { from = p; to = q }

abbrev pub parts : List Pair
parts = pair 0 1 ∷ pair 1 0 ∷ []

abbrev pub shows : List Pair
shows = pair 0 2 ∷ pair 2 0 ∷ pair 1 2 ∷ pair 2 1 ∷ []

abbrev pub small : Schedule
small = record { actors = 3; steps = parts ∷ parts ∷ parts ∷ shows ∷ [] }
