use Rattle.std.proofs.Common.{sym, subst}
use Rattle.brace_model.specs.declared.fault.Fault.{Fault}
use Rattle.brace_audit.specs.declared.fault.AuditFault.TheVariants as found
use Rattle.brace_audit.specs.inner.Following.{Told}
use Rattle.brace_audit.proofs.FollowLemmas.{advances, told_at_next, told_at_end, told_fault, text_at_fault, end_at_fault}
use Rattle.brace_audit.proofs.tick.advance.Goals as goal

pub returns-in-Ok-expect_tick-clause-follows : goal.returns-in-Ok-expect_tick-clause-follows
returns-in-Ok-expect_tick-clause-follows g c =
    advances _ _ _ _ _ _ _ _ _ _ _ c.requires.follows c.requires.before c.in-Ok.ensures.stepped c.in-Ok-expect_tick.ensures.goes_on

pub returns-in-Err-clause-told : goal.returns-in-Err-clause-told
returns-in-Err-clause-told g c =
    let e = c.in-Err.ensures in
    told_at_next _ _ _ _ _ _ _ _ _ c.requires.follows c.requires.before c.in-Ok.ensures.stepped e.present e.faultless e.departs

pub returns-in-Ok-expect_end-clause-told : goal.returns-in-Ok-expect_end-clause-told
returns-in-Ok-expect_end-clause-told g c =
    let i = c.requires.follows in
    let before = c.requires.before in
    let stepped = c.in-Err-Fault.ensures.faulted c.in-Err-Fault.fault c.in-Err-Fault.field-0-is in
    subst (λ (f : Fault). Told (g.S.Shelf.held c.args.shelf.now) c.args.name.now c.args.job.now (found.Fault f)) (sym c.in-Err-Fault.fault-is)
    (told_fault _ _ _ _ _ _ _ _ i (text_at_fault _ _ _ _ _ _ _ _ i before stepped) (end_at_fault _ _ _ _ _ _ _ _ i before stepped) c.in-Ok-expect_end.ensures.stops)

pub returns-in-Err-expect_end-clause-told : goal.returns-in-Err-expect_end-clause-told
returns-in-Err-expect_end-clause-told g c =
    let i = c.requires.follows in
    let before = c.requires.before in
    let e = c.in-Err-expect_end.ensures in
    let stepped = c.in-Err-Fault.ensures.faulted c.in-Err-Fault.fault c.in-Err-Fault.field-0-is in
    told_at_end _ _ _ _ _ _ _ _ _ i (text_at_fault _ _ _ _ _ _ _ _ i before stepped) (end_at_fault _ _ _ _ _ _ _ _ i before stepped) e.present e.faultless e.goes_further
