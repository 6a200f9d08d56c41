use Rattle.brace_crew.specs.inner.Crews.{all_numbers}
use Rattle.brace_crew.proofs.RunEnds.{begin_lent, members_back, some_back, ended_back}
use Rattle.brace_crew.proofs.linked.crew_run_linked.Goals as goal

pub run_through-requires-clause-begin : goal.run_through-requires-clause-begin
run_through-requires-clause-begin g c =
    begin_lent c.args.setting.now c.args.publisher c.in-Ok.members.items c.deref_mut.result.now
    c.deref_mut.ensures.value c.in-Ok.ensures.members c.in-Ok.ensures.first_turns

pub concluded-requires-clause-ended : goal.concluded-requires-clause-ended
concluded-requires-clause-ended g c =
    let ran = c.run_through.ensures in
    let (n, (ended, used, received)) = c.in-Ok-run_through.ensures.ended in
    (n, ended_back c.in-Ok.members.items c.deref_mut.result.now c.run_through.new.members _ _ c.deref_mut.ensures.value c.deref_mut.ensures.len ran.same_settings c.args.setting.now n ended)

pub concluded-requires-clause-members : goal.concluded-requires-clause-members
concluded-requires-clause-members g c =
    let ran = c.run_through.ensures in
    some_back c.in-Ok.members.items c.deref_mut.result.now c.run_through.new.members _ _ c.deref_mut.ensures.value c.deref_mut.ensures.len ran.same_settings
    c.args.setting.now c.args.publisher c.in-Ok.ensures.members ran.same_numbers ran.same_openings

pub given_up-publisher-requires-clause-members : goal.given_up-publisher-requires-clause-members
given_up-publisher-requires-clause-members g c =
    let ran = c.run_through.ensures in
    some_back c.in-Ok.members.items c.deref_mut.result.now c.run_through.new.members _ _ c.deref_mut.ensures.value c.deref_mut.ensures.len ran.same_settings
    c.args.setting.now c.args.publisher c.in-Ok.ensures.members ran.same_numbers ran.same_openings

pub returns-in-Ok-run_through-clause-came : goal.returns-in-Ok-run_through-clause-came
returns-in-Ok-run_through-clause-came g c =
    let ran = c.run_through.ensures in
    c.concluded.ensures.came c.args.publisher
    (members_back c.in-Ok.members.items c.deref_mut.result.now c.run_through.new.members _ _ c.deref_mut.ensures.value c.deref_mut.ensures.len ran.same_settings
    c.args.setting.now c.args.publisher (all_numbers c.args.setting.now) c.in-Ok.ensures.members ran.same_numbers ran.same_openings)

pub returns-in-Ok-run_through-clause-used : goal.returns-in-Ok-run_through-clause-used
returns-in-Ok-run_through-clause-used g c tells =
    let ran = c.run_through.ensures in
    let (n, (ended, used, received)) = c.in-Ok-run_through.ensures.ended in
    let members = members_back c.in-Ok.members.items c.deref_mut.result.now c.run_through.new.members _ _ c.deref_mut.ensures.value c.deref_mut.ensures.len ran.same_settings
    c.args.setting.now c.args.publisher (all_numbers c.args.setting.now) c.in-Ok.ensures.members ran.same_numbers ran.same_openings in
    (n, (c.concluded.ensures.ends c.args.publisher n members (ended_back c.in-Ok.members.items c.deref_mut.result.now c.run_through.new.members _ _ c.deref_mut.ensures.value c.deref_mut.ensures.len ran.same_settings c.args.setting.now n ended), used, received))

pub returns-in-Err-run_through-clause-came : goal.returns-in-Err-run_through-clause-came
returns-in-Err-run_through-clause-came g c =
    let ran = c.run_through.ensures in
    c.given_up-publisher.ensures.came c.args.publisher
    (members_back c.in-Ok.members.items c.deref_mut.result.now c.run_through.new.members _ _ c.deref_mut.ensures.value c.deref_mut.ensures.len ran.same_settings
    c.args.setting.now c.args.publisher (all_numbers c.args.setting.now) c.in-Ok.ensures.members ran.same_numbers ran.same_openings)

pub returns-in-Err-run_through-clause-used : goal.returns-in-Err-run_through-clause-used
returns-in-Err-run_through-clause-used g c tells = absurd (c.given_up-publisher.ensures.no_end tells)
