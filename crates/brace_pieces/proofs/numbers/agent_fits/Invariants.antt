use Rattle.std.proofs.Common.{◌≡◌, get_or, take, true}
use Rattle.std.specs.List.{list_all}
use Rattle.brace_num.specs.Exact.{fits}
use Rattle.brace_model.specs.declared.world.Agent.{Agent}
use Rattle.brace_model.specs.World.{number}
use Rattle.brace_pieces.proofs.numbers.agent_fits.Given as goal

abbrev pub invariant-loop-state : goal.invariant-loop-state
invariant-loop-state l = (d : Agent)
    → list_all (λ v. fits (number v)) (take l.state (get_or l.agents l.place d).states) ≡ true
