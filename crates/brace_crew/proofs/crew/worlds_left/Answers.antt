use Rattle.std.proofs.Common.{◌≡◌, ◌∙◌, sym, ap, subst, map, IfSome, All, Contains}
use Rattle.std.specs.List.{range_with_len}
use Rattle.brace_pieces.specs.Settings.{parts, shown_ticks}
use Rattle.brace_desk.specs.Calls.{ticks_left}
use Rattle.brace_desk.specs.Desks.{whole_at}
use Rattle.brace_desk.specs.Lots.{brought, tick_shown}
use Rattle.brace_crew.proofs.CrewEnds.{left_all}
use Rattle.brace_crew.proofs.crew.worlds_left.Goals as goal

pub returns : goal.returns
returns g c end ends high same kept =
    let s = c.args.setting.now in
    let held = tick_shown s end in
    let ticks = c.deref.result.now in
    let are : ticks ≡ ticks_left s c.args.tick = c.deref.ensures.value ∙ c.in_ok-ticks.ensures in
    let shows : All (Contains (shown_ticks s end)) ticks = subst (All (Contains (shown_ticks s end))) (sym are) (left_all s end c.args.tick high same) in
    let found = c.in_ok-lots_left.ensures s end c.requires.lawful c.requires.parts ends kept shows in
    let lots = subst (λ o. IfSome o (λ lots. lots.items ≡ map (brought s held ticks) (range_with_len 0 (parts s)))) c.in-Some.is found in
    c.in_ok-joined-in-Some.ensures.whole s held ticks c.requires.lawful c.numbers_fit.ensures lots ∙ ap (map (whole_at s)) are
