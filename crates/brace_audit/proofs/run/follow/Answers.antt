use Rattle.std.proofs.Common.{◌∙◌, ap, refl}
use Rattle.brace_io.specs.Shelves.{held_at}
use Rattle.brace_audit.proofs.FollowLemmas.{begins, told_at_first, told_at_end, told_yes, text_at_last, end_at_last}
use Rattle.brace_audit.proofs.run.follow.Goals as goal

pub returns-in-Err-clause-right : goal.returns-in-Err-clause-right
returns-in-Err-clause-right g c =
    let e = c.in-Err.ensures in
    (told_at_first _ _ _ _ _ _ c.requires.begins e.present e.faultless e.departs).right

pub loop-tick-init : goal.loop-tick-init
loop-tick-init g c =
    record {
      follows = begins _ _ _ _ _ _ _ _ c.requires.begins c.in-Ok.ensures.goes_on;
      same = refl;
      faults = refl;
    }

pub returns-in-Ok-expect_end-clause-right : goal.returns-in-Ok-expect_end-clause-right
returns-in-Ok-expect_end-clause-right g c = λ file h.
    let i = c.loop-tick.invariant in
    let held = ap (λ k. held_at k c.args.name.now) (i.same ∙ c.in-Ok.ensures.leaves.held_alone) ∙ h in
    told_yes _ _ _ file _ _ _ _ i.follows c.loop-tick-test.false c.in-Ok-expect_end.ensures.stops held

pub returns-clause-right : goal.returns-clause-right
returns-clause-right g c = λ file h.
    let i = c.loop-tick.invariant in
    let e = c.in-Err-expect_end.ensures in
    let all = c.loop-tick-test.false in
    let held = ap (λ k. held_at k c.args.name.now) (i.same ∙ c.in-Ok.ensures.leaves.held_alone) ∙ h in
    (told_at_end _ _ _ _ _ _ _ _ _ i.follows (text_at_last _ _ _ _ _ _ _ i.follows all) (end_at_last _ _ _ _ _ _ _ i.follows all) e.present e.faultless e.goes_further).right file held
