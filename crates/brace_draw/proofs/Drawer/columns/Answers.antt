use Rattle.std.proofs.Common.{◌≡◌, ℕ, ◌+◌, ◌*◌, ◌/◌, ◌%◌, ◌<◌, length, slice_index, slice_index_or, pos, arith}
use Rattle.std.proofs.lemmas.Grind.{common_steps}
use Rattle.std.proofs.lemmas.Int.{ints, to_z-of_z}
use Rattle.brace_draw.specs.Draw.{draw_value}
use Rattle.brace_draw.proofs.Words.{word_low}
use Rattle.brace_draw.proofs.Drawer.columns.Goals as goal
use Rattle.brace_draw.proofs.Drawer.columns.Goals.{then-i-eq0, else-i-eq0}

pub agents-preserved : goal.agents-preserved
agents-preserved c =
    let i = c.agents.i in
    let ids = c.args.ids.now in
    let one : (j : ℕ) → j < 4 → i / 4 * 4 + j < length ids
    → slice_index_or c.if-i-eq0.values.0 j (pos 0)
    ≡ pos (draw_value c.args.self.now.seed c.args.tick (slice_index ids (i / 4 * 4 + j)) c.args.sites.0)
    = elim c.if-i-eq0.branch [
      | then-i-eq0 w ↦ λ j lane within.
          let start : i / 4 * 4 ≡ i = omega arith in
          rw (w.values-is, start) (w.four_twice-values.ensures.first j (omega arith) lane)
      | else-i-eq0 w ↦ λ j lane within. rw w.values-is (c.agents.invariant.one j lane (omega arith) within)
    ] in
    let other : (j : ℕ) → j < 4 → i / 4 * 4 + j < length ids
    → slice_index_or c.if-i-eq0.values.1 j (pos 0)
    ≡ pos (draw_value c.args.self.now.seed c.args.tick (slice_index ids (i / 4 * 4 + j)) c.args.sites.1)
    = elim c.if-i-eq0.branch [
      | then-i-eq0 w ↦ λ j lane within.
          let start : i / 4 * 4 ≡ i = omega arith in
          rw (w.values-is, start) (w.four_twice-values.ensures.second j (omega arith) lane)
      | else-i-eq0 w ↦ λ j lane within. rw w.values-is (c.agents.invariant.other j lane (omega arith) within)
    ] in
    let place : i / 4 * 4 + i % 4 ≡ i = omega arith in
    let this = rw place at (one (i % 4) (omega arith) (omega arith)) in
    let that = rw place at (other (i % 4) (omega arith) (omega arith)) in
    let same : 0 < (i + 1) % 4 → (i + 1) / 4 ≡ i / 4 = λ some. omega arith in
    record {
      first = grind (arith, common_steps, this, ints, to_z-of_z, word_low);
      second = grind (arith, common_steps, that, ints, to_z-of_z, word_low);
      one = λ j lane some within. rw (same some) (one j lane (rw (same some) at within));
      other = λ j lane some within. rw (same some) (other j lane (rw (same some) at within));
    }
