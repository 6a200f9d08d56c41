use Rattle.std.proofs.Common.{◌≡◌, ℕ, ◌+◌, ◌*◌, ◌/◌, ◌%◌, ◌<◌, length, slice_index, slice_index_or, take, map, pos}
use Rattle.brace_draw.specs.Draw.{draw_value}
use Rattle.brace_draw.proofs.Drawer.column.Given as goal

abbrev pub invariant-agents : goal.invariant-agents
invariant-agents l = record {
  done : take l.i l.out ≡ map (λ id. pos (draw_value l.self.seed l.tick id l.site)) (take l.i l.ids);
  group : (j : ℕ) → j < 4 → 0 < l.i % 4 → l.i / 4 * 4 + j < length l.ids
      → slice_index_or l.values j (pos 0)
      ≡ pos (draw_value l.self.seed l.tick (slice_index l.ids (l.i / 4 * 4 + j)) l.site);
}
