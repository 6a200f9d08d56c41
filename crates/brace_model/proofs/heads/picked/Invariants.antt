use Rattle.std.proofs.Common.{◌≡◌, ◌<◌, All, get_or, length, map, take}
use Rattle.brace_model.specs.declared.heads.Head.{Head}
use Rattle.brace_model.proofs.heads.picked.Given as goal

abbrev pub invariant-loop-place : goal.invariant-loop-place
invariant-loop-place l = record {
  are : (h : Head) → l.all.items ≡ map (λ p. get_or l.heads p h) (take l.place-index l.places);
  within : All (λ p. p < length l.heads) (take l.place-index l.places);
}
