use Rattle.std.proofs.Common.{◌≡◌, ◌≤◌, ℕ, map, length}
use Rattle.std.specs.Prelude.{IsTrue}
use Rattle.std.specs.List.{All, Contains, range_with_len}
use Rattle.brace_pieces.specs.declared.setting.Setting.{Setting}
use Rattle.brace_pieces.specs.Settings.{LawfulSetting, is_end, shown_ticks}
use Rattle.brace_pieces.specs.Right.{IsShown}
use Rattle.brace_desk.specs.Lots.{brought, tick_shown}
use Rattle.brace_crew.specs.inner.Crews.{AreParts}
use Rattle.brace_crew.proofs.crew.lots_left.Given as goal

abbrev pub invariant-loop-p : goal.invariant-loop-p
invariant-loop-p g l = record {
  few : l.p ≤ length l.members;
  so_far : (s : Setting) (end : ℕ) → LawfulSetting s → AreParts s l.members
      → IsTrue (is_end s end)
      → All (λ lot. IsShown s end lot.part lot.worlds) l.kept
      → All (Contains (shown_ticks s end)) l.ticks
      → l.lots.items ≡ map (brought s (tick_shown s end) l.ticks) (range_with_len 0 l.p);
}
