use Rattle.std.proofs.Common.{take}
use Rattle.brace_herd.specs.Placed.{ArePlaces}
use Rattle.brace_herd.proofs.places.all_places.Given as goal

abbrev pub invariant-loop-place : goal.invariant-loop-place
invariant-loop-place l = ArePlaces l.held (take l.place l.held) l.places.items
