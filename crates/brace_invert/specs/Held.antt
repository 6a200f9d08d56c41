-- What the owner of an area holds: of the agents of a world all that are near the area.
use Rattle.std.specs.Prelude.{ℤ, pos, int_le, List, Bool, true, false, Option, Some, None, ◌≡◌}
use Rattle.std.specs.List.{Contains}
use Rattle.brace_num.specs.declared.kinds.Area.{Area}
use Rattle.brace_model.specs.declared.program.Class.{Class}
use Rattle.brace_model.specs.declared.program.Program.{Program}
use Rattle.brace_model.specs.declared.world.Agent.{Agent}
use Rattle.brace_model.specs.World.{class_of, x_of, y_of}
use Rattle.brace_num.specs.Areas.{gap_to}

-- an agent of a class has at most this gap to an area
abbrev pub stands_near : Area → ℤ → Option Class → Agent → Bool
stands_near area range None a = false
stands_near area range (Some c) a = int_le (gap_to area (x_of c a) (y_of c a)) range

-- an agent has at most this gap to an area
abbrev pub is_near : Program → Area → ℤ → Agent → Bool
is_near program area range a = stands_near area range (class_of program a) a

-- an agent stands in an area
abbrev pub is_in : Program → Area → Agent → Bool
is_in program area a = is_near program area (pos 0) a

-- of the agents of a world all that are so near an area are held
abbrev pub HoldsNear : Program → Area → ℤ → List Agent → (Agent → Bool) → Type 0
HoldsNear program area range world held =
    (a : Agent) → Contains world a → is_near program area range a ≡ true → held a ≡ true
