use Rattle.std.proofs.Common.{take}
use Rattle.brace_pieces.specs.Owned.{owned}
use Rattle.brace_herd.specs.Placed.{ArePlaces}
use Rattle.brace_herd.proofs.places.own_places.Given as goal

abbrev pub invariant-loop-place : goal.invariant-loop-place
invariant-loop-place l = ArePlaces l.held (owned l.program l.cuts l.part (take l.place l.held)) l.places.items
