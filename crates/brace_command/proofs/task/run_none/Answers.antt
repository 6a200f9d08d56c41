use Rattle.std.proofs.Common.{◌≡◌, ◌∙◌, refl, sym, ap, subst, inl}
use Rattle.std.proofs.lemmas.Result.{err_from_is_err_and}
use Rattle.brace_pieces.specs.declared.counts.Counts.{Counts}
use Rattle.brace_command.specs.declared.status.Status.TheVariants.{Done}
use Rattle.brace_command.specs.Answer.{sink_call}
use Rattle.brace_command.specs.Outcome.{ran}
use Rattle.brace_command.specs.Settled.{IsToldAs, IsWritten, outcome_of, outcome_by, saves_in, told_counts}
use Rattle.brace_command.proofs.AnswerLemmas.{done_written}
use Rattle.brace_command.proofs.NoneLemmas.{piece_none, nothing, ran_none}
use Rattle.brace_command.proofs.AnswerGives.{told_gives}
use Rattle.brace_command.proofs.TrialLemmas.{written_for, unflushed_written}
use Rattle.brace_command.proofs.task.run_none.Goals as goal

pub returns-in_err-flush-clause-written : goal.returns-in_err-flush-clause-written
returns-in_err-flush-clause-written g c =
    let p = err_from_is_err_and c.from_residual.result c.from_residual.ensures.1 in
    rw (p.1, p.2) (unflushed_written c.args.task.now (sink_call g.O.Sink c.args.out.now c.flush.new.self) c.in_err-flush.ensures.same c.in_err-flush.ensures.rose)

pub returns-clause-written : goal.returns-clause-written
returns-clause-written g c =
    let task = c.args.task.now in
    let saves = saves_in task in
    let o = nothing task.stats in
    let out = sink_call g.O.Sink c.args.out.now c.flush.new.self in
    let gains = c.in_ok-flush.ensures.same ∙ piece_none (g.O.Sink.written c.args.out.now) in
    let told = subst (λ (counts : Counts). IsToldAs Done (told_counts task.stats counts) c.done.result) c.none.ensures c.done.ensures in
    written_for o (outcome_of task) out _ _
    (ran_none task.setting c.requires.behind task.stats saves ∙ ap (λ fresh. ran task.stats saves fresh task.setting) (sym c.requires.resumed) ∙ ap (λ trial. outcome_by trial task) (sym c.requires.no_trial))
    (told_gives (λ message status. IsWritten (λ x. x ≡ o) out message status) Done _ c.done.result told (done_written o out _ refl refl gains refl)
    (λ files shelf held same. record { leaves = inl (record { unwritten = c.in_ok-flush.ensures.same; unsaved = same }); says = refl }))
