use Rattle.std.proofs.Common.{◌≡◌, map, take}
use Rattle.brace_model.specs.Value.{Scope}
use Rattle.brace_fold.specs.inner.Crowds.{IsIn}
use Rattle.brace_fold.specs.inner.Sights.{cut_in}
use Rattle.brace_fold.proofs.scene.Scene.cut.Given as goal

abbrev pub invariant-loop-bound : goal.invariant-loop-bound
invariant-loop-bound l = (scope : Scope) → IsIn l.self l.crowd l.lane scope
    → l.cuts.items ≡ map (cut_in scope) (take l.bound-index l.bounds)
