use Rattle.std.proofs.Common.{rules, ◌≡◌, ◌∙◌, sym, ap, subst, All, Ok, Err, Some, None}
use Rattle.brace_pieces.specs.declared.piece.Cause.TheVariants as cause
use Rattle.brace_desk.specs.declared.desk.Stop.TheVariants as stop
use Rattle.brace_desk.specs.Desks.{stop_of}
use Rattle.brace_crew.specs.declared.crew.CrewFault.TheVariants as fault
use Rattle.brace_crew.specs.Came.{CameTo}
use Rattle.brace_crew.specs.Members.{IsAt}
use Rattle.brace_crew.specs.Workers.{EndsBehind}
use Rattle.brace_crew.proofs.FirstFault.{IsRun}
use Rattle.brace_crew.proofs.CrewEnds.{between, goes_through, all_were_shown, shown_ends, halted_ends, refused_ends, has_run, shown_front, halted_front, refused_came}
use Rattle.brace_crew.proofs.crew.settled.Goals as goal

pub ended-publisher-requires-clause-halted : goal.ended-publisher-requires-clause-halted
ended-publisher-requires-clause-halted g c =
    let f = c.in-Some-Halt-Fault.field-0-0-0 in
    let is : stop_of c.args.desk ≡ Some (stop.Halt (cause.Fault f)) = search rules in
    let (n, (at, desk)) = c.requires.ended in
    (f, c.stop.ensures.halted (cause.Fault f) is (between c.args.setting.now n c.args.desk desk c.stop.ensures.course))

pub ended-publisher-requires-clause-desk : goal.ended-publisher-requires-clause-desk
ended-publisher-requires-clause-desk g c = let (n, (at, desk)) = c.requires.ended in desk.setting_is

pub returns-in-Ok : goal.returns-in-Ok
returns-in-Ok g c =
    let s = c.args.setting.now in
    let d = c.args.desk in
    let run : IsRun s = record { lawful = c.requires.lawful; numbers = c.numbers_fit.ensures } in
    let none : stop_of d ≡ None = sym c.stop.ensures.same ∙ c.in-None.is in
    let (n, (at, desk)) = c.requires.ended in
    let all = goes_through s n d desk c.stop.ensures.course none c.stop.ensures.told in
    let shown = all_were_shown s n d desk c.stop.ensures.course none c.stop.ensures.told g.P.Publisher (c.stop.ensures.all none) in
    record {
      came = subst (λ v. CameTo g.P.Publisher s d.opening v (Ok c.in-Ok.counts)) (sym c.into_publisher.ensures.same) (record {
        came = has_run g.P.Publisher s d desk.setting_is run shown c.in-Ok.counts (c.in-Ok.ensures s c.requires.parts (subst (λ k. All (IsAt k) c.args.members.now) all at));
        rises = c.stop.ensures.rises;
      });
      ends = λ n at desk. goes_through s n d desk c.stop.ensures.course none c.stop.ensures.told;
    }

pub returns-in-Err : goal.returns-in-Err
returns-in-Err g c =
    let s = c.args.setting.now in
    let d = c.args.desk in
    let run : IsRun s = record { lawful = c.requires.lawful; numbers = c.numbers_fit.ensures } in
    let none : stop_of d ≡ None = sym c.stop.ensures.same ∙ c.in-None.is in
    let (n, (at, desk)) = c.requires.ended in
    record {
      came = subst (λ v. CameTo g.P.Publisher s d.opening v (Err fault.NoMemory)) (sym c.into_publisher-in-Err.ensures.same) (record {
        came = shown_front g.P.Publisher s d desk.setting_is run _ (c.stop.ensures.all none);
        rises = c.stop.ensures.rises;
      });
      ends = λ n at desk.
          subst (λ v. EndsBehind g.P.Publisher s d.opening v n (Err fault.NoMemory)) (sym c.into_publisher-in-Err.ensures.same)
          (shown_ends s n d desk c.stop.ensures.course none c.stop.ensures.told g.P.Publisher run
          (all_were_shown s n d desk c.stop.ensures.course none c.stop.ensures.told g.P.Publisher (c.stop.ensures.all none)));
    }

pub returns-in-Some-Halt-Fault : goal.returns-in-Some-Halt-Fault
returns-in-Some-Halt-Fault g c = record { came = c.ended-publisher.ensures.came; ends = c.ended-publisher.ensures.ends }

pub returns-in-Some-Halt-NoMemory : goal.returns-in-Some-Halt-NoMemory
returns-in-Some-Halt-NoMemory g c =
    let s = c.args.setting.now in
    let d = c.args.desk in
    let run : IsRun s = record { lawful = c.requires.lawful; numbers = c.numbers_fit.ensures } in
    let x = c.in-Some-Halt-NoMemory.field-0-0 in
    let is : stop_of d ≡ Some (stop.Halt x) = sym c.stop.ensures.same ∙ c.in-Some-Halt-NoMemory.is ∙ ap Some c.in-Some-Halt-NoMemory.field-0-is in
    let (n, (at, desk)) = c.requires.ended in
    record {
      came = subst (λ v. CameTo g.P.Publisher s d.opening v (Err fault.NoMemory)) (sym c.into_publisher-in-Some-Halt-NoMemory.ensures.same) (record {
        came = halted_front g.P.Publisher s d desk.setting_is run x (c.stop.ensures.halted x is (between s n d desk c.stop.ensures.course));
        rises = c.stop.ensures.rises;
      });
      ends = λ n at desk.
          halted_ends s n d desk c.stop.ensures.course g.P.Publisher run x (c.stop.ensures.halted x is (between s n d desk c.stop.ensures.course))
          c.into_publisher-in-Some-Halt-NoMemory.result c.into_publisher-in-Some-Halt-NoMemory.ensures.same;
    }

pub returns-in-Some-Refusal : goal.returns-in-Some-Refusal
returns-in-Some-Refusal g c =
    let s = c.args.setting.now in
    let d = c.args.desk in
    let run : IsRun s = record { lawful = c.requires.lawful; numbers = c.numbers_fit.ensures } in
    let x = c.in-Some-Refusal.refusal in
    let is : stop_of d ≡ Some (stop.Refusal x) = search rules in
    let (n, (at, desk)) = c.requires.ended in
    record {
      came = refused_came g.P.Publisher s d desk.setting_is run x
          c.into_publisher-in-Some-Refusal.result c.into_publisher-in-Some-Refusal.ensures.same
          (c.stop.ensures.refused x is) c.stop.ensures.rises;
      ends = λ n at desk.
          subst (λ v. EndsBehind g.P.Publisher s d.opening v n (Err (fault.Publish x))) (sym c.into_publisher-in-Some-Refusal.ensures.same)
          (refused_ends s n d desk c.stop.ensures.course g.P.Publisher run x (c.stop.ensures.refused x is));
    }
