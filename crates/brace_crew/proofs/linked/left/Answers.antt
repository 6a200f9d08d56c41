use Rattle.std.proofs.Common.{rules, ◌≡◌, ◌∙◌, sym, ap, subst, Err, Some, None}
use Rattle.brace_desk.specs.declared.desk.Stop.TheVariants as stop
use Rattle.brace_desk.specs.Desks.{stop_of}
use Rattle.brace_crew.specs.declared.crew.CrewFault.TheVariants as fault
use Rattle.brace_crew.specs.Came.{CameTo}
use Rattle.brace_crew.proofs.FirstFault.{IsRun}
use Rattle.brace_crew.proofs.CrewEnds.{shown_front, refused_came}
use Rattle.brace_crew.proofs.LinkedEnds.{none_refused, halted_unrefused}
use Rattle.brace_crew.proofs.linked.left.Goals as goal

pub returns-in-None : goal.returns-in-None
returns-in-None g c =
    let s = c.args.setting.now in
    let d = c.args.desk in
    let run : IsRun s = record { lawful = c.requires.lawful; numbers = c.numbers_fit.ensures } in
    let none : stop_of d ≡ None = sym c.stop.ensures.same ∙ c.in-None.is in
    let (count, shown) = c.stop.ensures.shown (none_refused (stop_of d) none) in
    record {
      came = subst (λ v. CameTo g.P.Publisher s d.opening v (Err fault.NoMemory)) (sym c.into_publisher.ensures.same) (record {
        came = shown_front g.P.Publisher s d c.requires.desk run count shown;
        rises = c.stop.ensures.rises;
      });
      no_end = λ tells. tells;
    }

pub returns-in-Some-Halt : goal.returns-in-Some-Halt
returns-in-Some-Halt g c =
    let s = c.args.setting.now in
    let d = c.args.desk in
    let run : IsRun s = record { lawful = c.requires.lawful; numbers = c.numbers_fit.ensures } in
    let x = c.in-Some-Halt.field-0-0 in
    let halted : stop_of d ≡ Some (stop.Halt x) = sym c.stop.ensures.same ∙ c.in-Some-Halt.is ∙ ap Some c.in-Some-Halt.field-0-is in
    let (count, shown) = c.stop.ensures.shown (halted_unrefused (stop_of d) x halted) in
    record {
      came = subst (λ v. CameTo g.P.Publisher s d.opening v (Err fault.NoMemory)) (sym c.into_publisher-in-Some-Halt.ensures.same) (record {
        came = shown_front g.P.Publisher s d c.requires.desk run count shown;
        rises = c.stop.ensures.rises;
      });
      no_end = λ tells. tells;
    }

pub returns-in-Some-Refusal : goal.returns-in-Some-Refusal
returns-in-Some-Refusal g c =
    let x = c.in-Some-Refusal.refusal in
    let is : stop_of c.args.desk ≡ Some (stop.Refusal x) = search rules in
    record {
      came = refused_came g.P.Publisher c.args.setting.now c.args.desk c.requires.desk
          (record { lawful = c.requires.lawful; numbers = c.numbers_fit.ensures }) x
          c.into_publisher-in-Some-Refusal.result c.into_publisher-in-Some-Refusal.ensures.same
          (c.stop.ensures.refused x is) c.stop.ensures.rises;
      no_end = λ tells. tells;
    }
