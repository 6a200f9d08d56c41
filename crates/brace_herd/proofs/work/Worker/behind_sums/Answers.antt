use Rattle.std.proofs.Common.{◌≡◌, ◌∙◌, sym, ap, subst, inr, IfOk}
use Rattle.std.specs.Prelude.{if◌then◌else◌}
use Rattle.brace_model.specs.FaultOrder.{least}
use Rattle.brace_pieces.specs.declared.setting.Stage.TheVariants as stage
use Rattle.brace_pieces.specs.declared.piece.Cause.TheVariants as cause
use Rattle.brace_herd.specs.Works.{IsCauseOf, found_in_work}
use Rattle.brace_herd.specs.Holding.{mine}
use Rattle.brace_herd.specs.Ready.{IsReadyFor}
use Rattle.brace_herd.proofs.HoldWork.{all_asked, held_stored, ok_always}
use Rattle.brace_herd.proofs.WorkHeard.{err_weaker, found_inverted, found_plain}
use Rattle.brace_herd.proofs.work.Worker.behind_sums.Goals as goal

pub returns-then-not-self-clause-passes : goal.returns-then-not-self-clause-passes
returns-then-not-self-clause-passes c = ap least
    (found_plain c.args.self.now c.requires.worker c.args.tick c.if-not-self.true
    (ap least c.requires.quiet))

pub renewed-requires-clause-held : goal.renewed-requires-clause-held
renewed-requires-clause-held c =
    all_asked c.args.self.now c.requires.worker c.args.tick c.if-not-self.false c.args.held
    c.requires.held

pub returns-in-Ok-clause-ready : goal.returns-in-Ok-clause-ready
returns-in-Ok-clause-ready c =
    let w = c.args.self.now in
    subst (λ b. IfOk c.leaves.result (IsReadyFor w.setting.now w.part
    (if b then stage.Census else stage.Effects) c.args.tick))
    (sym c.if-not-self.false) c.leaves.ensures.ready

pub returns-in-Ok-clause-passes : goal.returns-in-Ok-clause-passes
returns-in-Ok-clause-passes c =
    let w = c.args.self.now in
    ok_always c.leaves.result _
    (ap least (found_inverted w c.requires.worker c.args.tick c.if-not-self.false
    (ap least c.requires.quiet) ∙ c.in-Ok.ensures.leaves.quiet))

pub returns-in-Ok-clause-faulted : goal.returns-in-Ok-clause-faulted
returns-in-Ok-clause-faulted c =
    let w = c.args.self.now in
    err_weaker c.leaves.result (λ e. e ≡ cause.NoMemory)
    (IsCauseOf (found_in_work w.setting.now w.part stage.Border c.args.tick))
    (λ e is. inr is) c.leaves.ensures.faulted

pub behind_lists-requires-clause-held : goal.behind_lists-requires-clause-held
behind_lists-requires-clause-held c =
    let w = c.args.self.now in
    let h = c.requires.held.holds in
    held_stored w c.requires.worker c.args.tick (mine w.setting.now w.part c.args.tick)
    h.guests h.holds h.stand.all c.args.held.rows h.stand.moved h.stand.listed
