use Rattle.std.proofs.Common.{◌≡◌, map, take}
use Rattle.brace_herd.specs.declared.asking.Asked.{Asked}
use Rattle.brace_herd.proofs.asking.Scene.all_asked.Given as goal

abbrev pub invariant-loop-place : goal.invariant-loop-place
invariant-loop-place l = map (λ (one : Asked). one.place) l.asked.items ≡ take l.place-index l.places
