use Rattle.std.proofs.Common.{◌∙◌, refl, sym, arith, inl, inr}
use Rattle.brace_core.proofs.Starts.{no_names}
use Rattle.brace_pieces.specs.Steps.{schedule}
use Rattle.brace_crew.specs.inner.Crews.{all_numbers}
use Rattle.brace_crew.proofs.RunEnds.{begin_lent, members_back, some_back, ended_back}
use Rattle.brace_crew.proofs.crew.crew_run_alone.Goals as goal

pub run_through-requires-clause-begin : goal.run_through-requires-clause-begin
run_through-requires-clause-begin g c =
    begin_lent c.args.setting.now c.args.publisher c.in-Ok.members.items c.deref_mut.result.now
    c.deref_mut.ensures.value c.in-Ok.ensures.members c.in-Ok.ensures.first_turns

pub concluded-requires-clause-members : goal.concluded-requires-clause-members
concluded-requires-clause-members g c =
    let ran = c.run_through.ensures in
    some_back c.in-Ok.members.items c.deref_mut.result.now c.run_through.new.members _ _ c.deref_mut.ensures.value c.deref_mut.ensures.len ran.same_settings
    c.args.setting.now c.args.publisher c.in-Ok.ensures.members ran.same_numbers ran.same_openings

pub concluded-requires-clause-ended : goal.concluded-requires-clause-ended
concluded-requires-clause-ended g c =
    let ran = c.run_through.ensures in
    let (n, (ended, used)) = ran.ended in
    (n, ended_back c.in-Ok.members.items c.deref_mut.result.now c.run_through.new.members _ _ c.deref_mut.ensures.value c.deref_mut.ensures.len ran.same_settings c.args.setting.now n ended)

pub returns-clause-came : goal.returns-clause-came
returns-clause-came g c =
    let ran = c.run_through.ensures in
    c.concluded.ensures.came c.args.publisher
    (members_back c.in-Ok.members.items c.deref_mut.result.now c.run_through.new.members _ _ c.deref_mut.ensures.value c.deref_mut.ensures.len ran.same_settings
    c.args.setting.now c.args.publisher (all_numbers c.args.setting.now) c.in-Ok.ensures.members ran.same_numbers ran.same_openings)

pub returns-clause-used : goal.returns-clause-used
returns-clause-used g c =
    let ran = c.run_through.ensures in
    let (n, (ended, used)) = ran.ended in
    let members = members_back c.in-Ok.members.items c.deref_mut.result.now c.run_through.new.members _ _ c.deref_mut.ensures.value c.deref_mut.ensures.len ran.same_settings
    c.args.setting.now c.args.publisher (all_numbers c.args.setting.now) c.in-Ok.ensures.members ran.same_numbers ran.same_openings in
    let last = ended_back c.in-Ok.members.items c.deref_mut.result.now c.run_through.new.members _ _ c.deref_mut.ensures.value c.deref_mut.ensures.len ran.same_settings c.args.setting.now n ended in
    (n, (inl (c.concluded.ensures.ends c.args.publisher n members last), used))

-- where the members found no memory nothing was used
pub returns-in-Err-clause-used : goal.returns-in-Err-clause-used
returns-in-Err-clause-used g c =
    let s = c.args.setting.now in (
      0,
      (
        inr (record { no_memory = refl; same = c.in-Err.ensures.back }, refl),
        record {
          all_put = λ p q. c.requires.nothing_put p q ∙ sym (no_names (schedule s) p q);
          all_taken = λ p q. (let none = c.requires.nothing_put p q in omega (arith, none, no_names (schedule s) p q));
        },
      ),
    )
