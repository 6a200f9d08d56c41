-- Agents by their places among others.
use Rattle.std.specs.Prelude.{◌≡◌, ℕ, List, map, slice_get, Some}
use Rattle.brace_model.specs.declared.world.Agent.{Agent}

-- the places of some of the agents that are held, in turn
abbrev pub ArePlaces : List Agent → List Agent → List ℕ → Type 0
ArePlaces held asking places = map (λ place. slice_get held place) places ≡ map Some asking
