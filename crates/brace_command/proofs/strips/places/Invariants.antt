use Rattle.std.proofs.Common.{◌≡◌, map, take}
use Rattle.brace_model.specs.World.{x_of}
use Rattle.brace_desk.specs.Sums.{place_along}
use Rattle.brace_command.proofs.strips.places.Given as goal

abbrev pub invariant-loop-place : goal.invariant-loop-place
invariant-loop-place l = l.xs.items ≡ map (place_along x_of l.program) (take l.place l.agents)
