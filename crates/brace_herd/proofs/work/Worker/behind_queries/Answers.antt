use Rattle.std.proofs.Common.{◌++◌, refl, rules}
use Rattle.brace_fold.specs.Listed.{AreListed}
use Rattle.brace_pieces.specs.declared.setting.Stage.TheVariants as stage
use Rattle.brace_herd.specs.inner.Hearing.{CanSum}
use Rattle.brace_herd.specs.Holding.{IsHeld, mine}
use Rattle.brace_herd.proofs.CellLemmas.{both_moved}
use Rattle.brace_herd.proofs.HoldWork.{asked_quiet, can_sum, held_stored, holds_asked, rows_held}
use Rattle.brace_herd.proofs.WorkHeard.{tick_fits}
use Rattle.brace_herd.proofs.work.Worker.behind_queries.Goals.{In_ok-rows}
use Rattle.brace_herd.proofs.work.Worker.behind_queries.Goals as goal

-- what it holds stands in columns, and its queries can be asked there
held_in : (c : In_ok-rows) → IsHeld c.args.self.now.setting.now c.args.self.now.part c.args.tick
    (mine c.args.self.now.setting.now c.args.self.now.part c.args.tick) c.in_ok-guests.guests
    × AreListed c.args.self.now.setting.now.job.program
    (c.requires.own.those ++ c.in_ok-guests.guests) c.in_ok-rows.rows
    × CanSum c.args.self.now.setting.now c.args.self.now.queries.now c.args.tick
    c.len-count.result c.in_ok-guests.guests c.in_ok-rows.rows
held_in c =
    let w = c.args.self.now in
    let t = c.args.tick in
    let guests = c.in_ok-guests.guests in
    let rows = c.in_ok-rows.rows in
    let (held, many, listed) = rows_held w c.requires.worker t c.args.taken.now.items
    c.new.result guests guests c.len-count.result c.args.own rows c.requires.work c.new.ensures
    c.in_ok-guests.ensures.same c.requires.own (search rules) refl c.in_ok-rows.ensures.rows
    c.in_ok-rows.ensures.listed in
    let ticks =
    tick_fits w c.requires.worker t stage.Border (λ e. absurd (cc)) c.requires.work.stands in (
      held,
      listed,
      can_sum w c.requires.worker t c.len-count.result c.args.own rows guests c.requires.own held
          many listed.moved ticks,
    )

pub summed-requires : goal.summed-requires
summed-requires c =
    let (held, listed, can) = held_in (goal.at.summed-requires c).In_ok-rows in (
      c.in_ok-guests.guests,
      can,
    )

pub behind_lists-requires : goal.behind_lists-requires
behind_lists-requires c =
    let w = c.args.self.now in
    let guests = c.in_ok-guests.guests in
    let own = mine w.setting.now w.part c.args.tick in
    let those = c.requires.own.those in
    let (held, listed, can) = held_in (goal.at.behind_lists-requires c).In_ok-rows in
    record {
      worker = c.requires.worker;
      held = held_stored w c.requires.worker c.args.tick own guests held (those ++ guests)
          c.in_ok-rows.rows (both_moved own those guests c.requires.own.same) listed;
      ticks = can.ticks;
      next = c.requires.work.next_is;
    }

pub behind_sums-requires : goal.behind_sums-requires
unfolding held_in
behind_sums-requires c =
    let w = c.args.self.now in
    let t = c.args.tick in
    let (held, listed, can) = held_in (goal.at.behind_sums-requires c).In_ok-rows in
    let guests = c.in_ok-guests.guests in
    let summed = c.in-Ok.ensures guests can in
    record {
      worker = c.requires.worker;
      held = holds_asked w c.requires.worker t guests c.in-Ok.held held summed;
      quiet = asked_quiet w c.requires.worker t (mine w.setting.now w.part t) guests held
          summed.quiet;
      ticks = can.ticks;
      next = c.requires.work.next_is;
    }
