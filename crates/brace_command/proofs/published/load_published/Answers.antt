use Rattle.std.proofs.Common.{◌≡◌, refl, Ok, Err, rules}
use Rattle.brace_audit.specs.declared.fault.AuditFault.TheVariants as found
use Rattle.brace_command.specs.declared.status.Status.TheVariants.{Absent, Differs}
use Rattle.brace_command.specs.Messages.{row_message}
use Rattle.brace_command.specs.Outcome.{compared}
use Rattle.brace_command.proofs.AnswerLemmas.{refusal_unloads}
use Rattle.brace_command.proofs.AuditLemmas.{told_as}
use Rattle.brace_command.proofs.published.load_published.Goals as goal

pub returns-in-Ok-clause-loads : goal.returns-in-Ok-clause-loads
returns-in-Ok-clause-loads g c =
    let is : c.audit.result ≡ Ok _ = search rules in
    record {
      found = λ files told. told_as _ files c.args.name.now c.args.job.now _ _ told c.audit.ensures.right is refl;
      counts = c.audit.ensures.faults_alone (λ e. absurd cc);
    }

pub returns-in-Err-Fault-clause-loads : goal.returns-in-Err-Fault-clause-loads
returns-in-Err-Fault-clause-loads g c =
    let is : c.audit.result ≡ Err (found.Fault c.in-Err-Fault.fault) = search rules in
    record {
      found = λ files told. told_as _ files c.args.name.now c.args.job.now _ _ told c.audit.ensures.right is refl;
      counts = c.audit.ensures.faults_alone (λ e. absurd cc);
    }

pub returns-in-Err-Differs-clause-loads : goal.returns-in-Err-Differs-clause-loads
returns-in-Err-Differs-clause-loads g c =
    let row = c.in-Err-Differs.row in
    let is : c.audit.result ≡ Err (found.Differs row) = search rules in
    refusal_unloads (λ files found. compared c.args.name.now c.args.job.now (files c.args.name.now) ≡ found) c.args.name.now _ Differs _ _ refl
    (c.audit.ensures.faults_alone (λ e. absurd cc)) (c.refuse.ensures.owed (row_message c.args.name.now row) c.row_message.ensures)
    (λ files told. told_as _ files c.args.name.now c.args.job.now _ _ told c.audit.ensures.right is refl)

pub returns-in-Err-Absent-clause-loads : goal.returns-in-Err-Absent-clause-loads
returns-in-Err-Absent-clause-loads g c =
    let is : c.audit.result ≡ Err found.Absent = search rules in
    refusal_unloads (λ files found. compared c.args.name.now c.args.job.now (files c.args.name.now) ≡ found) c.args.name.now _ Absent _ _ refl
    (c.audit.ensures.faults_alone (λ e. absurd cc)) c.refuse_file.ensures
    (λ files told. told_as _ files c.args.name.now c.args.job.now _ _ told c.audit.ensures.right is refl)
