use Rattle.std.proofs.Common.{◌∙◌, ◌++◌, List, ap, subst, sym, arith}
use Rattle.std.specs.List.{fold}
use Rattle.brace_wire.specs.declared.frame.Frame.{Frame}
use Rattle.brace_wire.specs.Links.{OnLink, OnReceiver, accepted, after_round, sent_at_once, sent_late}
use Rattle.brace_wire.specs.inner.Standing.{CanBeSent, CanRound, HasPlace}
use Rattle.brace_wire.proofs.AcceptLemmas.{all_same_taken}
use Rattle.brace_wire.proofs.SendLemmas.{once_has_place, late_has_place, link_with, after_is}
use Rattle.brace_wire.proofs.link.Link.round.Goals as goal

pub send-requires-2-clause-can : goal.send-requires-2-clause-can
send-requires-2-clause-can c =
    subst (λ types. CanBeSent types c.self.inside.newer) (sym c.send.ensures.types)
    (subst (λ (l : OnLink). CanRound c.args.carrier.now.decoder.types l) (sym c.self.view_is) c.requires.can).newer

pub accept_all-requires-clause-place : goal.accept_all-requires-clause-place
accept_all-requires-clause-place c =
    let can = subst (λ (l : OnLink). CanRound c.args.carrier.now.decoder.types l) (sym c.self.view_is) c.requires.can in
    once_has_place c.args.fates.now (link_with c.self.inside.put c.self.inside.older c.self.inside.newer c.self.inside.late.items c.self.inside.receiver) can.has_place c.send-2.new.at_once.items
    (c.in_ok-send-2.ensures.at_once
    ∙ ap (λ (l : List Frame). l ++ sent_at_once c.args.fates.now c.self.inside.newer)
    (c.in_ok-send.ensures.at_once ∙ ap (λ (l : List Frame). l ++ sent_at_once c.args.fates.now c.self.inside.older) c.new-at_once.ensures.items))

pub accept_all-requires-2-clause-short : goal.accept_all-requires-2-clause-short
accept_all-requires-2-clause-short c =
    omega (
      arith,
      ap (λ (r : OnReceiver). r.taken) c.accept_all.ensures,
      all_same_taken c.self.inside.receiver c.send-2.new.at_once.items,
      c.requires.short,
      ap (λ (l : OnLink). l.receiver.taken) c.self.view_is,
    )

pub accept_all-requires-2-clause-place : goal.accept_all-requires-2-clause-place
accept_all-requires-2-clause-place c =
    let can = subst (λ (l : OnLink). CanRound c.args.carrier.now.decoder.types l) (sym c.self.view_is) c.requires.can in
    subst (λ (r : OnReceiver). HasPlace r.taken c.replace.result.items) (sym c.accept_all.ensures)
    (subst (HasPlace (fold accepted c.self.inside.receiver c.send-2.new.at_once.items).taken) (sym (ap (λ v. v.items) c.replace.ensures.value))
    (late_has_place c.args.fates.now (link_with c.self.inside.put c.self.inside.older c.self.inside.newer c.self.inside.late.items c.self.inside.receiver) can.has_place c.send-2.new.at_once.items))

pub returns-clause-made : goal.returns-clause-made
returns-clause-made c =
    let fates = c.args.fates.now in
    let l = c.self.inside in
    let once = c.in_ok-send-2.ensures.at_once
    ∙ ap (λ (fs : List Frame). fs ++ sent_at_once fates l.newer) (c.in_ok-send.ensures.at_once ∙ ap (λ (fs : List Frame). fs ++ sent_at_once fates l.older) c.new-at_once.ensures.items) in
    let late = c.in_ok-send-2.ensures.late
    ∙ ap (λ (fs : List Frame). fs ++ sent_late fates l.newer) (c.in_ok-send.ensures.late ∙ ap (λ (fs : List Frame). fs ++ sent_late fates l.older) c.new-late.ensures.items) in
    after_is fates _ c.count.new.kept c.count-2.new.kept c.replace.new.dest.items c.send-2.new.at_once.items c.accept_all.new.self c.accept_all-2.new.self c.count.ensures c.count-2.ensures
    (ap (λ v. v.items) c.replace.ensures.after ∙ late) once c.accept_all.ensures (c.accept_all-2.ensures ∙ ap (λ v. fold accepted c.accept_all.new.self v.items) c.replace.ensures.value)
    ∙ ap (after_round fates) c.self.view_is
