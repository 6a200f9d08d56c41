-- What an audit answers is what the published file comes to.
use Rattle.std.proofs.Common.{◌≡◌, ◌∙◌, refl, sym, ap, subst, ℕ, List, Bool, true, false, codes, Option, Some, None, Result, Ok, Err}
use Rattle.std.specs.Result.{result_err}
use Rattle.brace_io.specs.Shelves.{Files, held_at, tells}
use Rattle.brace_audit.specs.declared.fault.AuditFault.{AuditFault}
use Rattle.brace_audit.specs.declared.fault.AuditFault.TheVariants as found
use Rattle.brace_audit.specs.Differs.{differs}
use Rattle.brace_audit.specs.Outcome.{judged, outcome, IsRight}
use Rattle.brace_model.specs.declared.fault.Fault.{Fault}
use Rattle.brace_model.specs.declared.job.Job.{Job}
use Rattle.brace_model.specs.declared.program.Program.{Program}
use Rattle.brace_model.specs.Published.{published}
use Rattle.brace_model.specs.Run.{end_of}
use Rattle.brace_model.specs.World.{World}
use Rattle.brace_command.specs.declared.status.Status.TheVariants.{Absent, Differs}
use Rattle.brace_command.specs.Commands.{AuditCommand}
use Rattle.brace_command.specs.Messages.{row_message}
use Rattle.brace_command.specs.Outcome.{Outcome, Refusal, FollowedBy, refusal, refused, agents_of, audit_job, unless_differs, compared, agreed, AuditFrom, AuditOutcome}

-- what is told of an answer; of a failure and of want of memory nothing
abbrev pub told_of : List ℕ → Result Unit AuditFault → Result (Option Fault) Refusal
told_of name (Err (found.Fault f)) = Ok (Some f)
told_of name (Err (found.Differs row)) = Err (record { status = Differs; message = row_message name row })
told_of name (Err found.Absent) = Err (refusal Absent name (codes ": absent"))
told_of name _ = Ok None

told_judged : (name : List ℕ) (row : Option ℕ) (end : Result World Fault) → unless_differs name (result_err end) row ≡ told_of name (judged row end)
told_judged name (Some row) end = refl
told_judged name None (Ok world) = refl
told_judged name None (Err f) = refl

-- what there is to find is told as the file comes to
told_found : (name : List ℕ) (job : Job) (file : Option (List ℕ)) → compared name job file ≡ told_of name (outcome file job)
told_found name job None = refl
told_found name job (Some file) = told_judged name (differs file (published job true)) (end_of job)

-- the shelf did not fail, and there was memory
abbrev pub is_found : Result Unit AuditFault → Bool
is_found (Err found.Failed) = false
is_found (Err found.NoMemory) = false
is_found answer = true

right_found : (answer right : Result Unit AuditFault) → is_found answer ≡ true → IsRight answer right → right ≡ answer
right_found (Err found.Failed) right f is = absurd cc
right_found (Err found.NoMemory) right f is = absurd cc
right_found _ right f is = is

-- what an audit answers is what the file comes to that the shelf holds
pub told_as : (held : Option Files) (files : Files) (name : List ℕ) (job : Job) (answer given : Result Unit AuditFault) → held ≡ Some files
    → (tells held ≡ true → IsRight answer (outcome (held_at held name) job)) → answer ≡ given → is_found given ≡ true
    → compared name job (files name) ≡ told_of name given
told_as held files name job answer given told right is found =
    let at_ : tells (Some files) ≡ true → IsRight answer (outcome (files name) job) =
    subst (λ (h : Option Files). tells h ≡ true → IsRight answer (outcome (held_at h name) job)) told right in
    told_found name job (files name)
    ∙ ap (told_of name) (right_found given (outcome (files name) job) found (subst (λ (r : Result Unit AuditFault). IsRight r (outcome (files name) job)) is (at_ refl)))

-- ---- the outcomes of an audit

-- an agent file that is refused
pub audited_refused : (files : Files) (audit : AuditCommand) (program : Program) (r : Refusal) → agents_of files program audit.agents ≡ Err r
    → AuditOutcome files audit program (refused r)
audited_refused files audit program r e =
    subst (λ (found : Result World Refusal). FollowedBy (AuditFrom files audit program) found (refused r)) (sym e) refl

audited_from : (files : Files) (audit : AuditCommand) (program : Program) (world : World) (o : Outcome) → agents_of files program audit.agents ≡ Ok world
    → AuditFrom files audit program world o → AuditOutcome files audit program o
audited_from files audit program world o e is =
    subst (λ (found : Result World Refusal). FollowedBy (AuditFrom files audit program) found o) (sym e) is

-- a published file that is absent or differs
pub published_refused : (files : Files) (audit : AuditCommand) (program : Program) (world : World) (r : Refusal) → agents_of files program audit.agents ≡ Ok world
    → compared audit.published (audit_job audit program world) (files audit.published) ≡ Err r → AuditOutcome files audit program (refused r)
published_refused files audit program world r e is =
    audited_from files audit program world (refused r) e
    (subst (λ (found : Result (Option Fault) Refusal). FollowedBy (λ found o. o ≡ agreed found) found (refused r)) (sym is) refl)

-- a published file that is what a run publishes
pub published_agreed : (files : Files) (audit : AuditCommand) (program : Program) (world : World) (found : Option Fault) (o : Outcome)
    → agents_of files program audit.agents ≡ Ok world → compared audit.published (audit_job audit program world) (files audit.published) ≡ Ok found
    → o ≡ agreed found → AuditOutcome files audit program o
published_agreed files audit program world found o e is ends =
    audited_from files audit program world o e
    (subst (λ (found : Result (Option Fault) Refusal). FollowedBy (λ found o. o ≡ agreed found) found o) (sym is) ends)
