use Rattle.std.proofs.Common.{rules, ◌≡◌, ◌∙◌, sym, ap, subst, map, length, vec_len, All, IfOk, IfSome, Ok, Err, Some, false, true, ◌==◌, arith, eqb-true, eq-eqb, true≢false}
use Rattle.brace_pieces.specs.declared.setting.Setting.{Setting}
use Rattle.brace_pieces.specs.declared.piece.Cause.TheVariants as cause
use Rattle.brace_pieces.specs.Right.{IsShown}
use Rattle.brace_crew.specs.declared.crew.CrewFault.TheVariants as fault
use Rattle.brace_desk.specs.Calls.{ticks_left}
use Rattle.brace_crew.specs.Came.{CameTo}
use Rattle.brace_desk.specs.Desks.{whole_at, ends_before}
use Rattle.brace_pieces.proofs.FoundLemmas.{first_not_before, first_within}
use Rattle.brace_crew.proofs.FirstFault.{IsRun, first_told}
use Rattle.brace_crew.proofs.CrewEnds.{reached_within, stop_ends, halted_ends, fault_ends, gave_up, all_was_shown, rest_was_shown, rest_told}
use Rattle.brace_crew.proofs.crew.ended.Goals as goal
use Rattle.brace_crew.proofs.crew.ended.Goals.{then-not-is_empty+in_default-epoch, else-not-is_empty}

pub returns-in_default : goal.returns-in_default
returns-in_default g c =
    let run : IsRun c.args.setting.now = record { lawful = c.requires.lawful; numbers = c.numbers_fit.ensures } in
    record {
      came = gave_up g.P.Publisher c.args.setting.now run c.args.desk c.requires.desk c.requires.halted c.requires.rises c.into_publisher.result c.into_publisher.ensures.same;
      ends = λ n at desk. halted_ends c.args.setting.now n c.args.desk desk c.requires.course g.P.Publisher run (cause.Fault c.requires.halted.0) c.requires.halted.1 c.into_publisher.result c.into_publisher.ensures.same;
    }

pub worlds_left-left-requires-clause-not_before : goal.worlds_left-left-requires-clause-not_before
worlds_left-left-requires-clause-not_before g c =
    let s = c.args.setting.now in
    let run : IsRun s = record { lawful = c.requires.lawful; numbers = c.numbers_fit.ensures } in
    let (n, (at, desk)) = c.requires.ended in
    let e = first_told s n (reached_within s n desk.reached) c.args.members.now c.requires.parts c.in-Some.ensures.telling at run c.in-Some.fault c.in-Some.ensures.least in
    first_not_before s c.requires.lawful c.in-Some.fault e.first

pub worlds_left-left-requires-clause-ticks : goal.worlds_left-left-requires-clause-ticks
worlds_left-left-requires-clause-ticks g c =
    let s = c.args.setting.now in
    let run : IsRun s = record { lawful = c.requires.lawful; numbers = c.numbers_fit.ensures } in
    let (n, (at, desk)) = c.requires.ended in
    let e = first_told s n (reached_within s n desk.reached) c.args.members.now c.requires.parts c.in-Some.ensures.telling at run c.in-Some.fault c.in-Some.ensures.least in
    let within = first_within s c.requires.lawful c.in-Some.fault e.first in
    let high = c.requires.lawful.job_is_lawful.last_in_range in
    omega (arith, within, high)

pub returns-in-Ok-None : goal.returns-in-Ok-None
returns-in-Ok-None g c =
    let run : IsRun c.args.setting.now = record { lawful = c.requires.lawful; numbers = c.numbers_fit.ensures } in
    record {
      came = gave_up g.P.Publisher c.args.setting.now run c.args.desk c.requires.desk c.requires.halted c.requires.rises c.into_publisher-publisher.result c.into_publisher-publisher.ensures.same;
      ends = λ n at desk. halted_ends c.args.setting.now n c.args.desk desk c.requires.course g.P.Publisher run (cause.Fault c.requires.halted.0) c.requires.halted.1 c.into_publisher-publisher.result c.into_publisher-publisher.ensures.same;
    }

pub epoch-requires-clause-fits : goal.epoch-requires-clause-fits
epoch-requires-clause-fits g c = subst (λ (s : Setting). g.P.Publisher.fits c.into_publisher-publisher.result s.job.program) c.requires.desk c.into_publisher-publisher.ensures.fits

pub returns-in-Err : goal.returns-in-Err
returns-in-Err g c =
    let s = c.args.setting.now in
    let run : IsRun s = record { lawful = c.requires.lawful; numbers = c.numbers_fit.ensures } in
    let f = c.in-Some.fault in
    let (n, (at, desk)) = c.requires.ended in
    let e = first_told s n (reached_within s n desk.reached) c.args.members.now c.requires.parts c.in-Some.ensures.telling at run f c.in-Some.ensures.least in
    let worlds = c.in-Ok-Some.worlds in
    let found : c.worlds_left-left.result ≡ Ok (Some worlds) = search rules in
    let long : vec_len worlds ≡ length worlds.items = search rules in
    let filled : (vec_len worlds == 0) ≡ false = search rules in
    let value : c.deref.result.now ≡ worlds.items = c.deref.ensures.value in
    let some : length c.deref.result.now ≡ 0 → ⊥ = λ none. true≢false (sym (eq-eqb (vec_len worlds) 0 (long ∙ ap length (sym value) ∙ none)) ∙ filled) in
    let (came, ends) = rest_told g.P.Publisher s run c.args.desk c.requires.desk c.requires.halted
    c.requires.rises f e c.into_publisher-publisher.result
    c.into_publisher-publisher.ensures.same c.deref.result.now
    (λ end ends high same kept. value ∙ subst (λ r. IfOk r (λ found. IfSome found (λ worlds. worlds.items ≡ map (whole_at s) (ticks_left s f.tick)))) found
    (c.worlds_left-left.ensures end ends high same (subst (All (λ lot. IsShown s end lot.part lot.worlds)) (sym c.kept.ensures) kept)))
    some c.epoch.new.self (record { writes_rise = c.epoch.ensures.writes_rise; saves_rise = c.epoch.ensures.saves_rise; same_loans = c.epoch.ensures.same_loans; still_fits = c.epoch.ensures.still_fits })
    c.in-Err.refusal c.in-Err.ensures.cut (λ none. c.in-Err.ensures.unmoved (ap Err none))
    c.in-Err.ensures.saved (λ named. c.in-Err.ensures.written (ap Err named))
    c.refused_by.result c.refused_by.ensures in
    record {
      came = came;
      ends = λ n at desk. ends n (stop_ends s n c.args.desk desk c.requires.course
          (ends_before c.args.desk.course.setting c.requires.halted.1.number)
          c.requires.halted.1.stopped);
    }

pub returns : goal.returns
returns g c =
    let s = c.args.setting.now in
    let run : IsRun s = record { lawful = c.requires.lawful; numbers = c.numbers_fit.ensures } in
    let worlds = c.in-Ok-Some.worlds in
    let long : vec_len worlds ≡ length worlds.items = search rules in
    let v = c.into_publisher-publisher.result in
    let f = c.in-Some.fault in
    let found : c.worlds_left-left.result ≡ Ok (Some worlds) = search rules in
    let (n, (at, desk)) = c.requires.ended in
    let e = first_told s n (reached_within s n desk.reached) c.args.members.now c.requires.parts c.in-Some.ensures.telling at run f c.in-Some.ensures.least in
    elim c.if-not-is_empty.branch [
      | then-not-is_empty+in_default-epoch w ↦
          let filled : (vec_len worlds == 0) ≡ false = search rules in
          let value : w.deref.result.now ≡ worlds.items = w.deref.ensures.value in
          let some : length w.deref.result.now ≡ 0 → ⊥ = λ none. true≢false (sym (eq-eqb (vec_len worlds) 0 (long ∙ ap length (sym value) ∙ none)) ∙ filled) in
          record {
            came = subst (λ last. CameTo g.P.Publisher s c.args.desk.opening last (Err (fault.Fault f))) (sym w.publisher-is)
                (rest_was_shown g.P.Publisher s run c.args.desk c.requires.desk c.requires.halted c.requires.rises f e v c.into_publisher-publisher.ensures.same w.deref.result.now
                (λ end ends high same kept. value ∙ subst (λ r. IfOk r (λ found. IfSome found (λ worlds. worlds.items ≡ map (whole_at s) (ticks_left s f.tick)))) found
                (c.worlds_left-left.ensures end ends high same (subst (All (λ lot. IsShown s end lot.part lot.worlds)) (sym c.kept.ensures) kept)))
                some w.epoch.new.self (record { writes_rise = w.epoch.ensures.writes_rise; saves_rise = w.epoch.ensures.saves_rise; same_loans = w.epoch.ensures.same_loans; still_fits = w.epoch.ensures.still_fits }) w.in_default-epoch.ensures.done);
            ends = λ n at desk. fault_ends s n c.args.desk desk c.requires.course g.P.Publisher run c.requires.halted.0 f c.requires.halted.1 e;
          }
      | else-not-is_empty w ↦
          let empty : (vec_len worlds == 0) ≡ true = search rules in
          record {
            came = subst (λ last. CameTo g.P.Publisher s c.args.desk.opening last (Err (fault.Fault f))) (sym w.publisher-is)
                (all_was_shown g.P.Publisher s run c.args.desk c.requires.desk c.requires.halted c.requires.rises f e v c.into_publisher-publisher.ensures.same worlds.items
                (λ end ends high same kept. subst (λ r. IfOk r (λ found. IfSome found (λ worlds. worlds.items ≡ map (whole_at s) (ticks_left s f.tick)))) found
                (c.worlds_left-left.ensures end ends high same (subst (All (λ lot. IsShown s end lot.part lot.worlds)) (sym c.kept.ensures) kept)))
                (sym long ∙ eqb-true (vec_len worlds) 0 empty));
            ends = λ n at desk. fault_ends s n c.args.desk desk c.requires.course g.P.Publisher run c.requires.halted.0 f c.requires.halted.1 e;
          }
    ]
