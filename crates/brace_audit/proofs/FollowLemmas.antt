-- How an audit goes on by a tick, and what it may answer.
use Rattle.std.proofs.Common.{◌≡◌, ◌≢◌, ◌∙◌, refl, sym, ap, subst, ℕ, ◌+◌, ◌-◌, ◌<◌, ◌≤◌, List, [], true, Option, Some, None, Result, Ok, Err, arith}
use Rattle.brace_io.specs.Shelves.{Files, Stage, held_at}
use Rattle.brace_model.specs.declared.fault.Fault.{Fault}
use Rattle.brace_model.specs.declared.job.Job.{Job}
use Rattle.brace_model.specs.World.{World}
use Rattle.brace_model.specs.Step.{step}
use Rattle.brace_model.specs.Run.{world_after, end_of}
use Rattle.brace_model.specs.Published.{tick_text, text_of_ticks, published}
use Rattle.brace_audit.specs.declared.comparer.Comparer.{Comparer}
use Rattle.brace_audit.specs.declared.fault.AuditFault.{AuditFault}
use Rattle.brace_audit.specs.declared.fault.AuditFault.TheVariants as found
use Rattle.brace_audit.specs.Outcome.{outcome}
use Rattle.brace_audit.specs.inner.Reading.{Compares, GoesOn, Departs, Stops, GoesFurther}
use Rattle.brace_audit.specs.inner.Following.{Follows, Told}
use Rattle.brace_audit.proofs.LineLemmas.{differs_nowhere}
use Rattle.brace_audit.proofs.AnswerLemmas.{failed, is_right, fault_told}
use Rattle.brace_audit.proofs.AuditLemmas.{text_of_first, text_at_first, world_at_first, after_step, text_after, departs_at, judged_by, all_ticks, fault_text, fault_end}

-- behind the rows of the first tick
pub begins : (held later : Option Files) (stage after : Stage) (name : List ℕ) (job : Job) (c d : Comparer) → Compares held stage name [] c → GoesOn held stage c later after d name (tick_text job true job.first (Ok job.start)) → Follows later after name job job.first job.start d
begins held later stage after name job c d i goes =
    record {
      begun = omega arith;
      within = omega arith;
      there = world_at_first job;
      compares = subst (λ (t : List ℕ). Compares later after name t d) (sym (text_at_first job)) (goes [] i);
    }

-- behind the rows of the next tick
pub advances : (held later : Option Files) (stage after : Stage) (name : List ℕ) (job : Job) (tick : ℕ) (world next : World) (c d : Comparer) → Follows held stage name job tick world c → tick < job.last → step job.program job.seed tick world ≡ Ok next → GoesOn held stage c later after d name (tick_text job true (tick + 1) (Ok next)) → Follows later after name job (tick + 1) next d
advances held later stage after name job tick world next c d i before stepped goes =
    let there = after_step job tick world world (Ok next) i.begun i.there refl stepped in
    record {
      begun = omega (arith, i.begun);
      within = omega (arith, i.begun, before);
      there = there;
      compares = subst (λ (t : List ℕ). Compares later after name t d) (sym (text_after job tick next i.begun there)) (goes (text_of_ticks job true (tick - job.first + 1)) i.compares);
    }

-- an error that is no fault of the run
pub told : (held : Option Files) (name : List ℕ) (job : Job) (e : AuditFault) → failed e ≢ failed found.Absent → ((f : Fault) → failed e ≢ failed (found.Fault f)) → ((line : ℕ) → failed e ≡ failed (found.Differs line) → (file : List ℕ) → held_at held name ≡ Some file → outcome (Some file) job ≡ failed (found.Differs line)) → Told held name job e
told held name job e present faultless differs =
    record {
      right = λ file h. is_right e (outcome (Some file) job) present faultless (λ line is. differs line is file h);
      present = λ is. present (ap failed is);
      faulted = λ f is. absurd (faultless f (ap failed is));
    }

-- an error at the rows of the first tick
pub told_at_first : (held : Option Files) (stage : Stage) (name : List ℕ) (job : Job) (c : Comparer) (e : AuditFault) → Compares held stage name [] c → failed e ≢ failed found.Absent → ((f : Fault) → failed e ≢ failed (found.Fault f)) → ((line : ℕ) → failed e ≡ failed (found.Differs line) → Departs held stage c name (tick_text job true job.first (Ok job.start)) line) → Told held name job e
told_at_first held stage name job c e i present faultless departs =
    told held name job e present faultless (λ line is file h. departs_at job [] (tick_text job true job.first (Ok job.start)) file 1 line (text_of_first job) (omega arith) (λ more. departs line is [] file more i h))

-- an error at the rows of the next tick
pub told_at_next : (held : Option Files) (stage : Stage) (name : List ℕ) (job : Job) (tick : ℕ) (world next : World) (c : Comparer) (e : AuditFault) → Follows held stage name job tick world c → tick < job.last → step job.program job.seed tick world ≡ Ok next → failed e ≢ failed found.Absent → ((f : Fault) → failed e ≢ failed (found.Fault f)) → ((line : ℕ) → failed e ≡ failed (found.Differs line) → Departs held stage c name (tick_text job true (tick + 1) (Ok next)) line) → Told held name job e
told_at_next held stage name job tick world next c e i before stepped present faultless departs =
    let text : List ℕ = text_of_ticks job true (tick - job.first + 1) in
    let piece : List ℕ = tick_text job true (tick + 1) (Ok next) in
    let there = after_step job tick world world (Ok next) i.begun i.there refl stepped in
    told held name job e present faultless (λ line is file h. departs_at job text piece file (tick + 1 - job.first + 1) line (text_after job tick next i.begun there) (omega (arith, i.begun, before)) (λ more. departs line is text file more i.compares h))

-- an error at the end of the file, where the text has no more
pub told_at_end : (held : Option Files) (stage : Stage) (name : List ℕ) (job : Job) (tick : ℕ) (world : World) (r : Result World Fault) (c : Comparer) (e : AuditFault) → Follows held stage name job tick world c → published job true ≡ text_of_ticks job true (tick - job.first + 1) → end_of job ≡ r → failed e ≢ failed found.Absent → ((f : Fault) → failed e ≢ failed (found.Fault f)) → ((line : ℕ) → failed e ≡ failed (found.Differs line) → GoesFurther held stage c name line) → Told held name job e
told_at_end held stage name job tick world r c e i all ends present faultless further =
    let text : List ℕ = text_of_ticks job true (tick - job.first + 1) in
    told held name job e present faultless (λ line is file h. judged_by job text file (Some line) r all (further line is text file i.compares h) ends)

-- the fault of the run, where the file ends with the text
pub told_fault : (held : Option Files) (stage : Stage) (name : List ℕ) (job : Job) (tick : ℕ) (world : World) (f : Fault) (c : Comparer) → Follows held stage name job tick world c → published job true ≡ text_of_ticks job true (tick - job.first + 1) → end_of job ≡ Err f → Stops held stage c name → Told held name job (found.Fault f)
told_fault held stage name job tick world f c i all ends stops =
    let text : List ℕ = text_of_ticks job true (tick - job.first + 1) in
    record {
      right = λ file h. judged_by job text file None (Err f) all (differs_nowhere file text (stops text file i.compares h)) ends;
      present = λ is. cc;
      faulted = λ g is. ends ∙ ap Err (ap (fault_told f) is);
    }

-- the text and the end of a run that faults in the next tick
pub text_at_fault : (held : Option Files) (stage : Stage) (name : List ℕ) (job : Job) (tick : ℕ) (world : World) (f : Fault) (c : Comparer) → Follows held stage name job tick world c → tick < job.last → step job.program job.seed tick world ≡ Err f → published job true ≡ text_of_ticks job true (tick - job.first + 1)
text_at_fault held stage name job tick world f c i before stepped =
    fault_text job tick f i.begun before (after_step job tick world world (Err f) i.begun i.there refl stepped)

pub end_at_fault : (held : Option Files) (stage : Stage) (name : List ℕ) (job : Job) (tick : ℕ) (world : World) (f : Fault) (c : Comparer) → Follows held stage name job tick world c → tick < job.last → step job.program job.seed tick world ≡ Err f → end_of job ≡ Err f
end_at_fault held stage name job tick world f c i before stepped =
    fault_end job tick f i.begun before (after_step job tick world world (Err f) i.begun i.there refl stepped)

-- the text and the end of a run at its last tick
last_tick : (held : Option Files) (stage : Stage) (name : List ℕ) (job : Job) (tick : ℕ) (world : World) (c : Comparer) → Follows held stage name job tick world c → job.last ≤ tick → tick - job.first ≡ job.last - job.first
last_tick held stage name job tick world c i all = omega (arith, i.begun, i.within, all)

pub text_at_last : (held : Option Files) (stage : Stage) (name : List ℕ) (job : Job) (tick : ℕ) (world : World) (c : Comparer) → Follows held stage name job tick world c → job.last ≤ tick → published job true ≡ text_of_ticks job true (tick - job.first + 1)
text_at_last held stage name job tick world c i all =
    all_ticks job tick (last_tick held stage name job tick world c i all)

pub end_at_last : (held : Option Files) (stage : Stage) (name : List ℕ) (job : Job) (tick : ℕ) (world : World) (c : Comparer) → Follows held stage name job tick world c → job.last ≤ tick → end_of job ≡ Ok world
end_at_last held stage name job tick world c i all =
    ap (λ (n : ℕ). world_after job n) (sym (last_tick held stage name job tick world c i all)) ∙ i.there

-- yes, where the file ends with the text of a run that came to its last tick
pub told_yes : (held : Option Files) (stage : Stage) (name file : List ℕ) (job : Job) (tick : ℕ) (world : World) (c : Comparer) → Follows held stage name job tick world c → job.last ≤ tick → Stops held stage c name → held_at held name ≡ Some file → outcome (Some file) job ≡ Ok tt
told_yes held stage name file job tick world c i all stops h =
    let text : List ℕ = text_of_ticks job true (tick - job.first + 1) in
    judged_by job text file None (Ok world) (text_at_last held stage name job tick world c i all) (differs_nowhere file text (stops text file i.compares h)) (end_at_last held stage name job tick world c i all)
