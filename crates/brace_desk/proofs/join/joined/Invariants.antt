use Rattle.std.proofs.Common.{◌≡◌, ℕ, List, map}
use Rattle.std.specs.List.{range_with_len}
use Rattle.std.specs.Vec.{vec_capacity}
use Rattle.brace_pieces.specs.declared.setting.Setting.{Setting}
use Rattle.brace_pieces.specs.Settings.{parts}
use Rattle.brace_desk.specs.Lots.{brought}
use Rattle.brace_desk.proofs.JoinLemmas.{IsLeft}
use Rattle.brace_desk.proofs.join.joined.Given as goal

abbrev pub invariant-loop-lot : goal.invariant-loop-lot
invariant-loop-lot l = record {
  left : (s : Setting) (held : ℕ) (ticks : List ℕ) → l.fn.lots.items ≡ map (brought s held ticks) (range_with_len 0 (parts s))
      → IsLeft s held ticks l.lots.items l.worlds.items;
  places : vec_capacity l.lots ≡ vec_capacity l.fn.lots;
}

abbrev pub decreases-loop-lot : goal.decreases-loop-lot
decreases-loop-lot l = goal.left-loop-lot l
