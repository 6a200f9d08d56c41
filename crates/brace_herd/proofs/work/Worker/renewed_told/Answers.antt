use Rattle.std.proofs.Common.{◌++◌, subst, sym, ℕ, List}
use Rattle.brace_num.proofs.Orders.{distinct_moved}
use Rattle.brace_model.specs.declared.world.Agent.{Agent}
use Rattle.brace_pieces.specs.declared.setting.Stage.TheVariants as stage
use Rattle.brace_herd.specs.Placed.{ArePlaces}
use Rattle.brace_herd.specs.Holding.{mine}
use Rattle.brace_herd.proofs.HoldWork.{all_told, held_apart, mine_rise, tells_mine}
use Rattle.brace_herd.proofs.WorkHeard.{tick_fits, told_there}
use Rattle.brace_herd.proofs.work.Worker.renewed_told.Goals as goal

pub renewed-requires-clause-ticks : goal.renewed-requires-clause-ticks
renewed-requires-clause-ticks c =
    tick_fits c.args.self.now c.requires.worker c.args.tick stage.Effects
    (λ e. absurd (cc)) c.requires.work.stands

pub renewed-requires-clause-held : goal.renewed-requires-clause-held
renewed-requires-clause-held c =
    let w = c.args.self.now in
    let t = c.args.tick in
    let before = c.args.held.now in
    let h = c.requires.held in
    let stand = h.holds.stand in
    let own = mine w.setting.now w.part t in
    let apart = distinct_moved (λ (a : Agent). a.id) (own ++ h.holds.guests) stand.all
    stand.moved (held_apart w c.requires.worker t own h.holds.guests h.holds.holds) in
    let places = subst (ArePlaces stand.all stand.theirs) (sym {A = List ℕ} c.deref.ensures.value)
    stand.own_stand in
    let hears = c.in_ok-join_sums.ensures stand.all stand.theirs own
    (told_there w c.requires.worker t) stand.listed.moved apart places stand.same
    (mine_rise w c.requires.worker t)
    (tells_mine w c.requires.worker t c.args.taken.now c.requires.work) in
    all_told w c.requires.worker t c.requires.plain before c.join_sums.new.said h hears
