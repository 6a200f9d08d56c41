use Rattle.std.proofs.Common.{◌≡◌, ◌∙◌, refl, subst}
use Rattle.std.specs.Prelude.{Some, Ok, Err}
use Rattle.std.proofs.lemmas.Result.{err_from_is_err_and}
use Rattle.brace_model.specs.declared.job.Job.{Job}
use Rattle.brace_command.specs.Commands.{Auditing}
use Rattle.brace_command.specs.Outcome.{ProgramOf, agents_of, audit_job, compared, reads_script, reads_agents, reads_published}
use Rattle.brace_command.specs.Words.{said_audit}
use Rattle.brace_command.proofs.AnswerLemmas.{stopped_before, stopped_serves, unloaded_later, plain_work_serves}
use Rattle.brace_command.proofs.AuditLemmas.{audited_refused, published_refused, published_agreed}
use Rattle.brace_command.proofs.preparing.audit_file.Goals as goal

pub returns-in_err-program-clause-served : goal.returns-in_err-program-clause-served
returns-in_err-program-clause-served g c =
    let audit = said_audit c.args.audit.now in
    let p = err_from_is_err_and c.from_residual.result c.from_residual.ensures.1 in
    rw (p.1, p.2) (stopped_serves g.S.Shelf g.O.Sink (Auditing audit) _ _ _ _ (stopped_before g.S.Shelf (Auditing audit) _ _ (λ files. ProgramOf files audit.script) audit.script _
    (λ files told. reads_script _ _ refl) (λ files r told is. record { found = Err r; is = is; follows = refl })
    c.in_err-program.ensures.held c.in_err-program.ensures.loads))

pub returns-in_err-start-clause-served : goal.returns-in_err-start-clause-served
returns-in_err-start-clause-served g c =
    let audit = said_audit c.args.audit.now in
    let program = c.in_ok-program.program in
    let p = err_from_is_err_and c.from_residual-in_err-start.result c.from_residual-in_err-start.ensures.1 in
    rw (p.1, p.2) (stopped_serves g.S.Shelf g.O.Sink (Auditing audit) _ _ _ _ (stopped_before g.S.Shelf (Auditing audit) _ _ (λ files found. agents_of files program audit.agents ≡ found) audit.agents _
    (λ files told. reads_agents (Auditing audit) audit.script audit.agents program refl (c.in_ok-program.ensures.loads.found files told) refl)
    (λ files r told is. record { found = Ok program; is = c.in_ok-program.ensures.loads.found files told; follows = audited_refused files audit program r is })
    (c.in_err-start.ensures.held ∙ c.in_ok-program.ensures.held)
    (unloaded_later g.S.Shelf _ audit.agents _ _ _ _ c.in_ok-program.ensures.held c.in_ok-program.ensures.loads.counts c.in_err-start.ensures.loads)))

pub returns-in_err-found-clause-served : goal.returns-in_err-found-clause-served
returns-in_err-found-clause-served g c =
    let audit = said_audit c.args.audit.now in
    let program = c.in_ok-program.program in
    let world = c.in_ok-start.start in
    let job = audit_job audit program world in
    let held = c.in_ok-start.ensures.held ∙ c.in_ok-program.ensures.held in
    let p = err_from_is_err_and c.from_residual-in_err-found.result c.from_residual-in_err-found.ensures.1 in
    rw (p.1, p.2) (stopped_serves g.S.Shelf g.O.Sink (Auditing audit) _ _ _ _ (stopped_before g.S.Shelf (Auditing audit) _ _
    (λ files found. compared audit.published job (files audit.published) ≡ found) audit.published _
    (λ files told. reads_published audit program world (c.in_ok-program.ensures.loads.found files told) (c.in_ok-start.ensures.loads.found files (c.in_ok-program.ensures.held ∙ told)))
    (λ files r told is. record {
      found = Ok program;
      is = c.in_ok-program.ensures.loads.found files told;
      follows = published_refused files audit program world r (c.in_ok-start.ensures.loads.found files (c.in_ok-program.ensures.held ∙ told)) is;
    })
    (c.in_err-found.ensures.held ∙ held)
    (unloaded_later g.S.Shelf _ audit.published _ _ _ _ held (c.in_ok-start.ensures.loads.counts ∙ c.in_ok-program.ensures.loads.counts)
    (rw c.audit_job-job.ensures.job at c.in_err-found.ensures.loads))))

pub returns-clause-served : goal.returns-clause-served
returns-clause-served g c =
    let audit = said_audit c.args.audit.now in
    let program = c.in_ok-program.program in
    let world = c.in_ok-start.start in
    let found = c.in_ok-found.found in
    let held = c.in_ok-start.ensures.held ∙ c.in_ok-program.ensures.held in
    plain_work_serves g.S.Shelf g.O.Sink (Some (Auditing audit)) _ _ _ _ _ _ (λ none. absurd cc) (c.in_ok-found.ensures.held ∙ held)
    (c.in_ok-found.ensures.loads.counts ∙ c.in_ok-start.ensures.loads.counts ∙ c.in_ok-program.ensures.loads.counts)
    (λ files x told e. record {
      found = Ok program;
      is = c.in_ok-program.ensures.loads.found files told;
      follows = published_agreed files audit program world found x (c.in_ok-start.ensures.loads.found files (c.in_ok-program.ensures.held ∙ told))
          (subst (λ (job : Job). compared audit.published job (files audit.published) ≡ Ok found) c.audit_job-job.ensures.job (c.in_ok-found.ensures.loads.found files (held ∙ told))) e;
    })
    c.agree.ensures.written c.agree.ensures.work c.agree.ensures.writes c.agree.ensures.clean
