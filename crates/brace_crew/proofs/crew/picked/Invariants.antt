use Rattle.std.proofs.Common.{◌≡◌, ℕ, map, take}
use Rattle.brace_pieces.specs.declared.setting.Setting.{Setting}
use Rattle.brace_desk.specs.Lots.{world_of}
use Rattle.brace_crew.specs.inner.Crews.{AreOf}
use Rattle.brace_crew.proofs.crew.picked.Given as goal

abbrev pub invariant-loop-t : goal.invariant-loop-t
invariant-loop-t l = (s : Setting) (held p : ℕ) → AreOf s held p l.ticks l.worlds
    → l.all.items ≡ map (world_of s held p) (take l.t-index l.ticks)
