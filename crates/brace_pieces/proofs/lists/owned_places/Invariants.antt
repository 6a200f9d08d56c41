use Rattle.std.proofs.Common.{◌≡◌, get_or, map, take}
use Rattle.brace_model.specs.declared.world.Agent.{Agent}
use Rattle.brace_pieces.specs.Owned.{owned}
use Rattle.brace_pieces.proofs.lists.owned_places.Given as goal

abbrev pub invariant-loop-place : goal.invariant-loop-place
invariant-loop-place l = (d : Agent) → map (λ place. get_or l.agents place d) l.places.items
    ≡ owned l.program l.cuts l.p (take l.place l.agents)
