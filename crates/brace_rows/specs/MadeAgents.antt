-- Agents with two fixed coordinates and two fixed speeds, at places that a generator draws.
use Rattle.std.specs.Prelude.{ℕ, ◌+◌, ◌*◌, ◌/◌, ◌%◌, ◌^◌, pos, Bool, false, List, [], ◌∷◌, map, slice_get, Option, Some, None}
use Rattle.std.specs.Cmp.Lexicographic.{pointwise}
use Rattle.std.specs.Fn.{iterate}
use Rattle.std.specs.List.{range_with_len}
use Rattle.brace_num.specs.Generator.{following}
use Rattle.brace_model.specs.declared.program.Ty.TheVariants as ty
use Rattle.brace_model.specs.declared.program.Value.{Value}
use Rattle.brace_model.specs.declared.program.Value.TheVariants.{Fixed}
use Rattle.brace_model.specs.declared.program.Class.{Class}
use Rattle.brace_model.specs.declared.program.Program.{Program}
use Rattle.brace_model.specs.declared.world.Agent.{Agent}
use Rattle.brace_model.specs.Typing.{same_type}

-- the number that the n-th draw from a seed gives, counted from 1
abbrev pub drawn : ℕ → ℕ → ℕ
drawn seed n = iterate following n (seed % 2 ^ 32)

-- a 32-bit number as a part of a thousand units, in millionths
abbrev pub coordinate : ℕ → Value
coordinate g = Fixed (pos (g * 1000000000 / 2 ^ 32))

-- an agent at the place that two numbers give, with both speeds 0
abbrev pub agent_at : ℕ → ℕ → ℕ → Agent
agent_at id x y = record {
  class = 0;
  id = id;
  states = coordinate x ∷ coordinate y ∷ Fixed (pos 0) ∷ Fixed (pos 0) ∷ [];
}

-- so many agents, with the ids from 0 on; the draws in turn give x and y of each
abbrev pub made_agents : ℕ → ℕ → List Agent
made_agents seed count =
    map (λ id. agent_at id (drawn seed (2 * id + 1)) (drawn seed (2 * id + 2)))
    (range_with_len 0 count)

-- a class with four states, all of which are fixed
abbrev pub is_four_fixed : Option Class → Bool
is_four_fixed None = false
is_four_fixed (Some class) =
    pointwise same_type (map (λ s. s.ty) class.states)
    (ty.Fixed ∷ ty.Fixed ∷ ty.Fixed ∷ ty.Fixed ∷ [])

-- class number 0 is one of four fixed states
abbrev pub has_four_fixed : Program → Bool
has_four_fixed program = is_four_fixed (slice_get program.classes 0)
