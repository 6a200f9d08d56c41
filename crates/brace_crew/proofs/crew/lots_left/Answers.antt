use Rattle.std.proofs.Common.{◌≡◌, ◌∙◌, sym, ap, subst, map, arith}
use Rattle.std.specs.Prelude.{IfSome, IsTrue}
use Rattle.std.specs.List.{All, Contains}
use Rattle.brace_pieces.specs.Settings.{LawfulSetting, is_end, shown_ticks}
use Rattle.brace_pieces.specs.Right.{IsShown}
use Rattle.brace_crew.specs.Members.{course_of}
use Rattle.brace_desk.specs.Lots.{world_of, tick_shown}
use Rattle.brace_crew.specs.inner.Crews.{AreOf}
use Rattle.brace_crew.proofs.LeftLemmas.{part_at, lots_more, lots_all}
use Rattle.brace_crew.proofs.crew.lots_left.Goals as goal

pub loop-p-preserved : goal.loop-p-preserved
loop-p-preserved g c = record {
  few = omega (arith, c.loop-p-test.true);
  so_far = λ s end lawful parts ends kept shows.
      let p = c.loop-p.p in
      let ticks = c.args.ticks.now in
      let part = c.in-Part.part in
      let n = c.in-Ok.part_number in
      let held = tick_shown s end in
      let number : n ≡ p = c.in-Ok.ensures.1 in
      let (of, at) = part_at s c.args.members.now p c.index-members-p.result parts c.loop-p-test.true c.index-members-p.is in
      let of_s : part.course.setting ≡ s = subst (λ m. (course_of m).setting ≡ s) c.in-Part.is of in
      let at_n : part.course.actor ≡ n = subst (λ m. (course_of m).actor ≡ p) c.in-Part.is at ∙ sym number in
      let are : AreOf s held n ticks c.brought.result.now =
      subst (λ t. LawfulSetting t → part.course.actor ≡ n → IsTrue (is_end t end) → All (λ lot. IsShown t end lot.part lot.worlds) c.args.kept.now
      → All (Contains (shown_ticks t end)) ticks → AreOf t (tick_shown t end) n ticks c.brought.result.now)
      of_s (c.brought.ensures end ticks) lawful at_n ends kept shows in
      let worlds : c.in-Some.worlds.items ≡ map (world_of s held n) ticks =
      subst (λ o. IfSome o (λ all. all.items ≡ map (world_of s held n) ticks)) c.in-Some.is (c.in_ok-worlds.ensures s held n are) in
      c.in_ok-push.ensures.items
      ∙ lots_more s held p ticks c.loop-p.lots.items _ (c.loop-p.invariant.so_far s end lawful parts ends kept shows) number
      (c.from_vec.ensures ∙ worlds ∙ ap (λ q. map (world_of s held q) ticks) number);
}

pub returns : goal.returns
returns g c s end lawful parts ends kept shows =
    lots_all s (tick_shown s end) c.loop-p.p c.args.ticks.now c.args.members.now c.loop-p.lots.items parts c.loop-p-test.false c.loop-p.invariant.few
    (c.loop-p.invariant.so_far s end lawful parts ends kept shows)
