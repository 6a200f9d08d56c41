use Rattle.std.proofs.Common.{◌≡◌, ◌∙◌, refl, sym, ap, subst, ◌+◌, map, length, All, arith}
use Rattle.brace_core.specs.Lanes.{puts_of, takes_of}
use Rattle.brace_core.specs.Order.{StandsAt}
use Rattle.brace_core.proofs.Starts.{stands_first}
use Rattle.brace_pieces.specs.Settings.{parts}
use Rattle.brace_pieces.specs.Steps.{steps, schedule}
use Rattle.brace_pieces.specs.Courses.{past_of}
use Rattle.brace_pieces.specs.Fronts.{OnFronts}
use Rattle.brace_pieces.proofs.ScheduleLemmas.{schedule_lawful}
use Rattle.brace_crew.specs.Members.{course_of}
use Rattle.brace_crew.specs.inner.Crews.{all_numbers}
use Rattle.brace_crew.proofs.FrontEnds.{IsDriven, is_driven, first_pasts, between_first, at_first, still, has_desk_last, goes_between, ends_told, ends_last, used_there}
use Rattle.brace_crew.proofs.RunMembers.{same_of}
use Rattle.brace_crew.proofs.crew.run_through.Goals.{After-run_in_order}
use Rattle.brace_crew.proofs.crew.run_through.Goals as goal

pub loop-end-init : goal.loop-end-init
loop-end-init g c = record {
  of = ap (λ (f : OnFronts). f.setting) c.of-fronts.ensures;
  between = between_first c.args.setting.now c.args.members.now c.of-fronts.result
      c.of-fronts.ensures;
  stands = subst (λ n. StandsAt (schedule c.args.setting.now) n
      (map (λ m. past_of (course_of m)) c.args.members.now) (puts_of c.args.lanes.now)
      (takes_of c.args.lanes.now))
      (at_first c.args.setting.now c.of-fronts.result c.of-fronts.ensures)
      (stands_first (schedule c.args.setting.now) _ (puts_of c.args.lanes.now)
      (takes_of c.args.lanes.now)
      (λ p low. first_pasts c.args.members.now c.requires.begin.first_turns p)
      c.requires.nothing_put
      (λ p q. (let none = c.requires.nothing_put p q in omega (arith, none))));
  lanes_setting = refl;
  lanes_actors = refl;
}

pub run_in_order-requires-clause-lawful : goal.run_in_order-requires-clause-lawful
run_in_order-requires-clause-lawful g c κs within = schedule_lawful c.loop-end.lanes.setting

pub run_in_order-requires-clause-settings : goal.run_in_order-requires-clause-settings
run_in_order-requires-clause-settings g c κs within =
    let so = c.loop-end.invariant in
    let are = c.requires.begin.are in
    let now = still are so.between in
    subst (λ r. All (λ m. (course_of m).setting ≡ r) c.loop-end.members) (sym (so.lanes_setting ∙ c.requires.lanes_setting)) now.settings

pub run_in_order-requires-clause-numbers : goal.run_in_order-requires-clause-numbers
run_in_order-requires-clause-numbers g c κs within =
    let so = c.loop-end.invariant in
    let are = c.requires.begin.are in
    let now = still are so.between in
    now.numbered ∙ ap all_numbers (sym (so.lanes_setting ∙ c.requires.lanes_setting))

pub run_in_order-requires-clause-lanes_for : goal.run_in_order-requires-clause-lanes_for
run_in_order-requires-clause-lanes_for g c κs within =
    let so = c.loop-end.invariant in
    so.lanes_actors ∙ c.requires.lanes_for ∙ ap (λ s. parts s + 1) (sym (so.lanes_setting ∙ c.requires.lanes_setting))

pub run_in_order-requires-clause-start : goal.run_in_order-requires-clause-start
run_in_order-requires-clause-start g c κs within =
    let so = c.loop-end.invariant in
    let up = c.in-Some.ensures.on.1 in (
      c.loop-end.fronts.number,
      omega (arith, up),
      subst (λ s. StandsAt (schedule s) c.loop-end.fronts.number (map (λ m. past_of (course_of m)) c.loop-end.members) (puts_of c.loop-end.lanes) (takes_of c.loop-end.lanes))
          (sym (so.lanes_setting ∙ c.requires.lanes_setting)) so.stands,
    )

pub loop-end-smaller : goal.loop-end-smaller
loop-end-smaller g c =
    let all = ap (λ s. length (steps s)) c.loop-end.invariant.of in
    omega (arith, c.in-Some.ensures.on.0, c.in-Some.ensures.on.1, c.next.ensures.within, all)

-- where members and lanes stand behind the drive to an end
driven : (g : _) (c : After-run_in_order g)
    → IsDriven c.args.setting.now c.args.members.now c.loop-end.members
    c.run_in_order.new.actors c.loop-end.fronts.number c.next.new.self.number
    (puts_of c.run_in_order.new.lanes) (takes_of c.run_in_order.new.lanes)
driven g c =
    let so = c.loop-end.invariant in
    let ran = c.run_in_order.ensures in
    let pasts = map (λ m. past_of (course_of m)) c.run_in_order.new.actors in
    let puts = puts_of c.run_in_order.new.lanes in
    let takes = takes_of c.run_in_order.new.lanes in
    is_driven c.args.setting.now c.args.members.now c.loop-end.members
    c.run_in_order.new.actors c.loop-end.fronts c.next.new.self puts takes so.between so.of
    c.next.ensures.place c.next.ensures.within ran.same_settings ran.same_numbers
    ran.same_openings
    (subst (λ k. StandsAt (schedule c.args.setting.now) k pasts puts takes) c.in-Some.ensures.on.0
    (subst (λ r. StandsAt (schedule r) c.in-Some.end pasts puts takes)
    (so.lanes_setting ∙ c.requires.lanes_setting) ran.stands))

pub end_here-requires : goal.end_here-requires
end_here-requires g c =
    let are = c.requires.begin.are in
    let d = driven g (goal.at.end_here-requires g c).After-run_in_order in
    record { desk_last = has_desk_last are d }

pub loop-end-preserved : goal.loop-end-preserved
loop-end-preserved g c =
    let are = c.requires.begin.are in
    let d = driven g (goal.at.loop-end-preserved g c).After-run_in_order in
    record {
      of = c.next.ensures.same ∙ c.loop-end.invariant.of;
      between = goes_between are d c.end_here.new.members c.end_here.ensures.courses
          c.end_here.ensures.openings (c.end_here.ensures.untold c.if-end_here.false);
      stands = subst (λ pasts. StandsAt (schedule c.args.setting.now) c.next.new.self.number pasts
          (puts_of c.run_in_order.new.lanes) (takes_of c.run_in_order.new.lanes))
          (sym (same_of course_of past_of c.run_in_order.new.actors c.end_here.new.members
          c.end_here.ensures.courses)) d.stands;
      lanes_setting = c.run_in_order.ensures.lanes_setting ∙ c.loop-end.invariant.lanes_setting;
      lanes_actors = c.run_in_order.ensures.lanes_actors ∙ c.loop-end.invariant.lanes_actors;
    }

pub returns-then-end_here : goal.returns-then-end_here
returns-then-end_here g c =
    let are = c.requires.begin.are in
    let d = driven g (goal.at.returns-then-end_here g c).After-run_in_order in
    let (settings, numbers, openings, ended) = ends_told are d c.end_here.new.members
    (c.end_here.ensures.same c.if-end_here.true) (c.end_here.ensures.told c.if-end_here.true) in
    record {
      same_settings = settings;
      same_numbers = numbers;
      same_openings = openings;
      ended = (c.next.new.self.number, (ended, used_there c.args.setting.now d.stands));
      lanes_setting = c.run_in_order.ensures.lanes_setting ∙ c.loop-end.invariant.lanes_setting;
      lanes_actors = c.run_in_order.ensures.lanes_actors ∙ c.loop-end.invariant.lanes_actors;
    }

pub returns : goal.returns
returns g c =
    let s = c.args.setting.now in
    let so = c.loop-end.invariant in
    let are = c.requires.begin.are in
    let last = ends_last are so.between so.stands
    (c.in_default.ensures.over.1 ∙ ap (λ r. length (steps r)) so.of) in
    record {
      same_settings = so.between.same_settings;
      same_numbers = so.between.same_numbers;
      same_openings = so.between.same_openings;
      ended = (c.loop-end.fronts.number, (last, used_there s so.stands));
      lanes_setting = so.lanes_setting;
      lanes_actors = so.lanes_actors;
    }
