use Rattle.std.proofs.Common.{◌≡◌, ◌∙◌, subst, arith}
use Rattle.brace_crew.specs.Benches.{AreWaiting}
use Rattle.brace_crew.proofs.BenchRounds.{same_on, later_on, used_to, all_at_end, over_done, waits_more}
use Rattle.brace_crew.proofs.bench.drive_members.Goals as goal

pub loop-idle-preserved : goal.loop-idle-preserved
loop-idle-preserved g c =
    let so = c.loop-idle.invariant in
    let e = c.make_turns.ensures in
    let start = c.args.end.now.seat in
    let before = c.loop-idle.end.seat in
    let after = c.make_turns.new.end.seat in
    record {
      counted = e.counted;
      same = same_on c.args.members.now c.loop-idle.members c.make_turns.new.members so.same e.same;
      later = later_on start before after so.later e.later;
      lanes = e.lanes ∙ so.lanes;
      few = omega (arith, c.loop-idle-test.true);
      within = λ all. e.within (so.within all);
      waits = λ some. waits_more c.args.steps start.view before.view after.view c.loop-idle.idle c.loop-idle.members c.make_turns.new.members so.later.misses so.waits c.in-Nowhere.ensures.went;
    }

pub loop-idle-preserved-in-On : goal.loop-idle-preserved-in-On
loop-idle-preserved-in-On g c =
    let so = c.loop-idle.invariant in
    let e = c.make_turns.ensures in
    record {
      counted = e.counted;
      same = same_on c.args.members.now c.loop-idle.members c.make_turns.new.members so.same e.same;
      later = later_on c.args.end.now.seat c.loop-idle.end.seat c.make_turns.new.end.seat so.later e.later;
      lanes = e.lanes ∙ so.lanes;
      few = omega arith;
      within = λ all. e.within (so.within all);
      waits = λ some. absurd (omega (arith, some));
    }

pub returns-in-Over-clause-later : goal.returns-in-Over-clause-later
returns-in-Over-clause-later g c = later_on c.args.end.now.seat c.loop-idle.end.seat c.make_turns.new.end.seat c.loop-idle.invariant.later c.make_turns.ensures.later

pub returns-in-Over-clause-within : goal.returns-in-Over-clause-within
returns-in-Over-clause-within g c all = c.make_turns.ensures.within (c.loop-idle.invariant.within all)

pub returns-in-Over-clause-done : goal.returns-in-Over-clause-done
returns-in-Over-clause-done g c is all =
    let ms = c.make_turns.new.members in
    all_at_end c.args.steps ms (c.make_turns.ensures.within (c.loop-idle.invariant.within all))
    (over_done c.args.steps c.loop-idle.end.seat.view c.make_turns.new.end.seat.view c.loop-idle.members ms c.in-Over.ensures.went)

pub returns-in-Over-clause-used_to : goal.returns-in-Over-clause-used_to
returns-in-Over-clause-used_to g c is all =
    let after = c.make_turns.new.end.seat.view in
    let ms = c.make_turns.new.members in
    used_to c.args.steps after ms c.make_turns.ensures.counted
    (all_at_end c.args.steps ms (c.make_turns.ensures.within (c.loop-idle.invariant.within all))
    (over_done c.args.steps c.loop-idle.end.seat.view after c.loop-idle.members ms c.in-Over.ensures.went))

pub returns-clause-dry : goal.returns-clause-dry
returns-clause-dry g c is =
    let so = c.loop-idle.invariant in
    let all : c.loop-idle.idle ≡ c.args.patience = omega (arith, c.loop-idle-test.false, so.few) in
    subst (λ looks. AreWaiting c.args.steps c.args.end.now.seat.view c.loop-idle.end.seat.view looks c.loop-idle.members) all
    (so.waits (omega (arith, all, c.requires.some_patience)))

pub returns-clause-within : goal.returns-clause-within
returns-clause-within g c all = c.loop-idle.invariant.within all
