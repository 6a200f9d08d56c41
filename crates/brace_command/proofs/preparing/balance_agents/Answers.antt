use Rattle.std.proofs.Common.{◌≡◌, ◌∙◌, refl, sym, ap, subst, List, ℕ}
use Rattle.std.specs.Prelude.{Some, Ok, Err}
use Rattle.std.proofs.lemmas.Result.{err_from_is_err_and}
use Rattle.brace_command.specs.Commands.{Balancing}
use Rattle.brace_command.specs.Outcome.{ProgramOf, IsBalanced, agents_of, told, reads_script, reads_agents}
use Rattle.brace_command.specs.Words.{said_balance}
use Rattle.brace_command.proofs.AnswerLemmas.{stopped_before, stopped_serves, memory_unloads, unloaded_later, plain_work_serves}
use Rattle.brace_command.proofs.StripLemmas.{agents_refused, world_balanced}
use Rattle.brace_command.proofs.preparing.balance_agents.Goals as goal

pub returns-in_err-program-clause-served : goal.returns-in_err-program-clause-served
returns-in_err-program-clause-served g c =
    let balance = said_balance c.args.balance.now in
    let p = err_from_is_err_and c.from_residual.result c.from_residual.ensures.1 in
    rw (p.1, p.2) (stopped_serves g.S.Shelf g.O.Sink (Balancing balance) _ _ _ _ (stopped_before g.S.Shelf (Balancing balance) _ _ (λ files. ProgramOf files balance.script) balance.script _
    (λ files told. reads_script _ _ refl) (λ files r told is. record { found = Err r; is = is; follows = refl })
    c.in_err-program.ensures.held c.in_err-program.ensures.loads))

pub returns-in_err-world-clause-served : goal.returns-in_err-world-clause-served
returns-in_err-world-clause-served g c =
    let balance = said_balance c.args.balance.now in
    let program = c.in_ok-program.program in
    let p = err_from_is_err_and c.from_residual-in_err-world.result c.from_residual-in_err-world.ensures.1 in
    rw (p.1, p.2) (stopped_serves g.S.Shelf g.O.Sink (Balancing balance) _ _ _ _ (stopped_before g.S.Shelf (Balancing balance) _ _ (λ files found. agents_of files program balance.agents ≡ found) balance.agents _
    (λ files told. reads_agents (Balancing balance) balance.script balance.agents program refl (c.in_ok-program.ensures.loads.found files told) refl)
    (λ files r told is. record { found = Ok program; is = c.in_ok-program.ensures.loads.found files told; follows = agents_refused files balance program r is })
    (c.in_err-world.ensures.held ∙ c.in_ok-program.ensures.held)
    (unloaded_later g.S.Shelf _ balance.agents _ _ _ _ c.in_ok-program.ensures.held c.in_ok-program.ensures.loads.counts c.in_err-world.ensures.loads)))

pub returns-in_err-strips-clause-served : goal.returns-in_err-strips-clause-served
returns-in_err-strips-clause-served g c =
    let balance = said_balance c.args.balance.now in
    let p = err_from_is_err_and c.from_residual-in_err-strips.result c.from_residual-in_err-strips.ensures.1 in
    rw (p.1, p.2) (stopped_serves g.S.Shelf g.O.Sink (Balancing balance) _ _ _ _ (stopped_before g.S.Shelf (Balancing balance) _ _ (λ files. ProgramOf files balance.script) balance.script _
    (λ files told. reads_script _ _ refl) (λ files r told is. record { found = Err r; is = is; follows = refl })
    (c.in_ok-world.ensures.held ∙ c.in_ok-program.ensures.held) (memory_unloads _ _ _)))

pub returns-clause-served : goal.returns-clause-served
returns-clause-served g c =
    let balance = said_balance c.args.balance.now in
    let program = c.in_ok-program.program in
    let world = c.in_ok-world.world in
    let strips = c.in_ok-strips.strips in
    plain_work_serves g.S.Shelf g.O.Sink (Some (Balancing balance)) _ _ _ _ _ _ (λ none. absurd cc) (c.in_ok-world.ensures.held ∙ c.in_ok-program.ensures.held)
    (c.in_ok-world.ensures.loads.counts ∙ c.in_ok-program.ensures.loads.counts)
    (λ files x held e. record {
      found = Ok program;
      is = c.in_ok-program.ensures.loads.found files held;
      follows = world_balanced files balance program world x (c.in_ok-world.ensures.loads.found files (c.in_ok-program.ensures.held ∙ held))
          (subst (IsBalanced balance.strips program world) (sym (e ∙ ap (λ (t : List ℕ). told t strips.certificate.items) c.as_slice.ensures.value)) c.in_ok-strips.ensures);
    })
    c.write_told.ensures.written c.write_told.ensures.work c.write_told.ensures.writes c.write_told.ensures.clean
