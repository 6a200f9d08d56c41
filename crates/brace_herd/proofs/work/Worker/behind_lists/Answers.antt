use Rattle.std.proofs.Common.{◌∙◌, sym, ap, subst, inl, IfOk, IfErr, None, ◌≡◌}
use Rattle.std.specs.Prelude.{if◌then◌else◌}
use Rattle.brace_model.specs.FaultOrder.{least}
use Rattle.brace_pieces.specs.declared.setting.Stage.TheVariants as stage
use Rattle.brace_herd.specs.Works.{IsCauseOf, cause_of}
use Rattle.brace_herd.specs.Ready.{IsReadyFor}
use Rattle.brace_herd.proofs.WorkHeard.{asked_all, asked_least, query_is_least, found_inverted, found_plain}
use Rattle.brace_herd.proofs.work.Worker.behind_lists.Goals as goal

pub returns-in-Some-clause-faulted : goal.returns-in-Some-clause-faulted
returns-in-Some-clause-faulted c = inl (sym (ap cause_of
    (query_is_least c.args.self.now c.requires.worker c.args.tick c.in-Some.fault
    (sym (asked_least c.args.self.now c.requires.worker c.args.tick c.in_ok-held.held.items
    c.in_ok-held.heard c.in_ok-held.ensures.heard) ∙ c.in-Some.is))))

pub update-requires-clause-heard : goal.update-requires-clause-heard
update-requires-clause-heard c =
    asked_all c.args.self.now c.requires.worker c.args.tick c.if-self.true c.in_ok-held.held.items
    c.in_ok-held.heard c.in_ok-held.ensures.heard

pub returns-then-self-clause-ready : goal.returns-then-self-clause-ready
returns-then-self-clause-ready c =
    let s = c.args.self.now.setting.now in
    subst (λ b. IfOk c.update.result (IsReadyFor s c.args.self.now.part
    (if b then stage.Census else stage.Effects) c.args.tick))
    (sym c.if-self.true) c.update.ensures.ready

pub returns-then-self-clause-faulted : goal.returns-then-self-clause-faulted
returns-then-self-clause-faulted c =
    subst (λ found. IfErr c.update.result (IsCauseOf found))
    (sym (found_inverted c.args.self.now c.requires.worker c.args.tick c.if-self.true
    (sym (asked_least c.args.self.now c.requires.worker c.args.tick c.in_ok-held.held.items
    c.in_ok-held.heard c.in_ok-held.ensures.heard) ∙ c.in_default.is))) c.update.ensures.faulted

pub returns-then-self-clause-passes : goal.returns-then-self-clause-passes
returns-then-self-clause-passes c =
    subst (λ found. IfOk c.update.result (λ r. least found ≡ None))
    (sym (found_inverted c.args.self.now c.requires.worker c.args.tick c.if-self.true
    (sym (asked_least c.args.self.now c.requires.worker c.args.tick c.in_ok-held.held.items
    c.in_ok-held.heard c.in_ok-held.ensures.heard) ∙ c.in_default.is))) c.update.ensures.passes

pub returns-clause-passes : goal.returns-clause-passes
returns-clause-passes c = ap least
    (found_plain c.args.self.now c.requires.worker c.args.tick c.if-self.false
    (sym (asked_least c.args.self.now c.requires.worker c.args.tick c.in_ok-held.held.items
    c.in_ok-held.heard c.in_ok-held.ensures.heard) ∙ c.in_default.is))
