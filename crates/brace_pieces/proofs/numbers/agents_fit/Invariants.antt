use Rattle.std.proofs.Common.{◌≡◌, take, true}
use Rattle.std.specs.List.{list_all}
use Rattle.brace_pieces.specs.Numbers.{agent_fits}
use Rattle.brace_pieces.proofs.numbers.agents_fit.Given as goal

abbrev pub invariant-loop-place : goal.invariant-loop-place
invariant-loop-place l = list_all agent_fits (take l.place l.agents) ≡ true
