use Rattle.std.proofs.Common.{◌≡◌, sym, ap, subst, inr}
use Rattle.brace_model.specs.FaultOrder.{least}
use Rattle.brace_pieces.specs.declared.setting.Stage.TheVariants as stage
use Rattle.brace_pieces.specs.declared.piece.Cause.TheVariants as cause
use Rattle.brace_herd.specs.Works.{IsCauseOf, found_in_work}
use Rattle.brace_herd.specs.Holding.{AreHeld, mine}
use Rattle.brace_herd.proofs.HoldWork.{held_stored, ok_always}
use Rattle.brace_herd.proofs.WorkHeard.{err_weaker, tick_fits}
use Rattle.brace_herd.proofs.work.Worker.behind_told_sums.Goals as goal

pub leaves-requires-clause-next : goal.leaves-requires-clause-next
leaves-requires-clause-next c = c.requires.work.next_is

pub returns-in-Ok-clause-passes : goal.returns-in-Ok-clause-passes
returns-in-Ok-clause-passes c = ok_always c.leaves.result _ (ap least c.in-Ok.ensures.leaves.quiet)

pub returns-in-Ok-clause-faulted : goal.returns-in-Ok-clause-faulted
returns-in-Ok-clause-faulted c =
    let w = c.args.self.now in
    err_weaker c.leaves.result (λ e. e ≡ cause.NoMemory)
    (IsCauseOf (found_in_work w.setting.now w.part stage.Effects c.args.tick))
    (λ e is. inr is) c.leaves.ensures.faulted

pub query-requires-clause-held : goal.query-requires-clause-held
query-requires-clause-held c =
    let w = c.args.self.now in
    let h = c.requires.held.holds in
    subst (AreHeld w.setting.now w.part c.args.tick) (sym c.renewed_told.ensures.rows)
    (held_stored w c.requires.worker c.args.tick (mine w.setting.now w.part c.args.tick)
    h.guests h.holds h.stand.all c.args.held.rows h.stand.moved h.stand.listed)

pub query-requires-clause-ticks : goal.query-requires-clause-ticks
query-requires-clause-ticks c =
    tick_fits c.args.self.now c.requires.worker c.args.tick stage.Effects
    (λ e. absurd (cc)) c.requires.work.stands
