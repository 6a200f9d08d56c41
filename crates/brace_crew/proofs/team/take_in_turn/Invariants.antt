use Rattle.std.proofs.Common.{◌≡◌, ℕ, ◌+◌, ◌≤◌, length, map, vec_capacity}
use Rattle.std.specs.List.{All}
use Rattle.std.specs.Vec.Iter.{into_iter_items}
use Rattle.brace_pieces.specs.declared.setting.Setting.{Setting}
use Rattle.brace_pieces.specs.Settings.{parts}
use Rattle.brace_crew.specs.Members.{IsLast}
use Rattle.brace_crew.specs.inner.Crews.{all_numbers}
use Rattle.brace_crew.specs.inner.Teams.{AreRosters}
use Rattle.brace_crew.proofs.GatherLemmas.{IsTaking}
use Rattle.brace_crew.proofs.team.take_in_turn.Given as goal

abbrev pub invariant-loop-number : goal.invariant-loop-number
invariant-loop-number g l = record {
  long : length l.lists ≡ length l.initial.lists;
  few : length l.members.items ≤ l.number;
  within : l.number ≤ l.count;
  room : vec_capacity l.members ≡ vec_capacity l.initial.members;
  taking : (s : Setting) (publisher : _) → l.count ≡ parts s + 1 → AreRosters s publisher (length l.initial.lists) (all_numbers s) (map into_iter_items l.initial.lists)
      → IsTaking s publisher (length l.initial.lists) l.count l.number (map into_iter_items l.lists) l.members.items;
  last : (s : Setting) (before n : ℕ) → All (λ list. All (IsLast s before n) (into_iter_items list)) l.initial.lists
      → All (λ list. All (IsLast s before n) (into_iter_items list)) l.lists × All (IsLast s before n) l.members.items;
}
