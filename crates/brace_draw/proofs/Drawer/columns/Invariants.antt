use Rattle.std.proofs.Common.{◌≡◌, ℕ, ◌+◌, ◌*◌, ◌/◌, ◌%◌, ◌<◌, length, slice_index, slice_index_or, take, map, pos}
use Rattle.brace_draw.specs.Draw.{draw_value}
use Rattle.brace_draw.proofs.Drawer.columns.Given as goal

abbrev pub invariant-agents : goal.invariant-agents
invariant-agents l = record {
  first : take l.i l.first ≡ map (λ id. pos (draw_value l.self.seed l.tick id l.sites.0)) (take l.i l.ids);
  second : take l.i l.second ≡ map (λ id. pos (draw_value l.self.seed l.tick id l.sites.1)) (take l.i l.ids);
  one : (j : ℕ) → j < 4 → 0 < l.i % 4 → l.i / 4 * 4 + j < length l.ids
      → slice_index_or l.values.0 j (pos 0)
      ≡ pos (draw_value l.self.seed l.tick (slice_index l.ids (l.i / 4 * 4 + j)) l.sites.0);
  other : (j : ℕ) → j < 4 → 0 < l.i % 4 → l.i / 4 * 4 + j < length l.ids
      → slice_index_or l.values.1 j (pos 0)
      ≡ pos (draw_value l.self.seed l.tick (slice_index l.ids (l.i / 4 * 4 + j)) l.sites.1);
}
