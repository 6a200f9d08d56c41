use Rattle.std.proofs.Common.{◌≡◌, ap, Some, Err}
use Rattle.std.proofs.lemmas.Result.{err_from_is_err_and}
use Rattle.brace_command.specs.Outcome.{plan_of, plan_from}
use Rattle.brace_command.proofs.AnswerLemmas.{unloaded_as}
use Rattle.brace_command.proofs.LoadLemmas.{plan_read, line_unloads}
use Rattle.brace_command.proofs.load.load_plan.Goals as goal

pub returns-in_err-bytes-clause-loads : goal.returns-in_err-bytes-clause-loads
returns-in_err-bytes-clause-loads g c =
    let p = err_from_is_err_and c.from_residual.result c.from_residual.ensures.1 in
    rw (p.1, p.2) (unloaded_as _ (λ files found. plan_of files c.args.epoch (Some c.args.name.now) ≡ found) c.args.name.now _ _
    (λ files r e. ap (plan_from c.args.epoch c.args.name.now) e) c.in_err-bytes.ensures.loads)

pub returns-in-Ok-clause-loads : goal.returns-in-Ok-clause-loads
returns-in-Ok-clause-loads g c = record {
  found = λ files told. plan_read c.args.epoch files c.args.name.now c.in_ok-bytes.bytes.items _ (c.in_ok-bytes.ensures.loads.found files told)
      (rw c.as_slice.ensures.value at c.in-Ok.ensures.faultless) (rw c.as_slice.ensures.value at c.in-Ok.ensures.plan);
  counts = c.in_ok-bytes.ensures.loads.counts;
}

pub returns-clause-loads : goal.returns-clause-loads
returns-clause-loads g c =
    line_unloads c.args.epoch c.args.name.now c.in_ok-bytes.bytes.items _ _ _ c.in_ok-bytes.ensures.loads.counts c.in_ok-bytes.ensures.loads.found
    (λ number kind e. rw c.as_slice.ensures.value at (c.in-Err.ensures.first number kind (ap (λ f. Err f) e))) c.refuse_line.ensures
