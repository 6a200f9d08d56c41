use Rattle.std.proofs.Common.{sym, subst}
use Rattle.brace_part.specs.inner.Ready.{AreKept}
use Rattle.brace_desk.specs.Lots.{tick_shown}
use Rattle.brace_crew.specs.inner.Crews.{AreOf}
use Rattle.brace_crew.proofs.LeftLemmas.{kept_are, lot_is}
use Rattle.brace_crew.proofs.crew.brought.Goals as goal

pub returns-in-None : goal.returns-in-None
returns-in-None c end ticks lawful number ends kept shows =
    let part = c.args.part.now in
    kept_are part.course.setting end lawful ticks shows c.args.p c.shown.result.now
    (subst (λ q. AreKept part.course.setting q c.shown.result.now) number
    (subst (AreKept part.course.setting part.course.actor) (sym c.shown.ensures.same) c.shown.ensures.right))

pub returns-in-Some : goal.returns-in-Some
returns-in-Some c end ticks lawful number ends kept shows =
    let s = c.args.part.now.course.setting in
    subst (AreOf s (tick_shown s end) c.args.p ticks) (sym c.as_slice.ensures)
    (lot_is s end lawful ticks shows c.args.kept.now c.args.p c.in-Some.lot.now kept c.in-Some.ensures)
