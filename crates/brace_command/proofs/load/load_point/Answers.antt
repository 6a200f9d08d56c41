use Rattle.std.proofs.Common.{refl}
use Rattle.std.proofs.lemmas.Result.{err_from_is_err_and}
use Rattle.brace_save.specs.Lines.{moment_of}
use Rattle.brace_command.specs.Outcome.{PointOf}
use Rattle.brace_command.proofs.AnswerLemmas.{unloaded_as}
use Rattle.brace_command.proofs.PointLemmas.{point_read, point_unloads, unloaded_point}
use Rattle.brace_command.proofs.load.load_point.Goals as goal

pub returns-in_err-bytes-clause-loads : goal.returns-in_err-bytes-clause-loads
returns-in_err-bytes-clause-loads g c =
    let p = err_from_is_err_and c.from_residual.result c.from_residual.ensures.1 in
    rw (p.1, p.2) (unloaded_as _ (λ files. PointOf files c.args.program.now c.args.name.now) c.args.name.now _ _
    (λ files r e. unloaded_point c.args.program.now files c.args.name.now r e) c.in_err-bytes.ensures.loads)

pub returns-in-Ok-clause-loads : goal.returns-in-Ok-clause-loads
returns-in-Ok-clause-loads g c = record {
  found = λ files told. point_read c.args.program.now files c.args.name.now c.in_ok-bytes.bytes.items (moment_of c.in-Ok.point) (c.in_ok-bytes.ensures.loads.found files told)
      (rw c.as_slice.ensures.value at (c.in-Ok.ensures.judged c.requires.lawful (λ e. absurd cc)));
  counts = c.in_ok-bytes.ensures.loads.counts;
}

pub returns-in-Ok-clause-lawful : goal.returns-in-Ok-clause-lawful
returns-in-Ok-clause-lawful g c = (c.in-Ok.ensures.text c.requires.lawful c.in-Ok.point refl).moment_is.lawful

pub returns-in-Ok-clause-numbered : goal.returns-in-Ok-clause-numbered
returns-in-Ok-clause-numbered g c = (c.in-Ok.ensures.text c.requires.lawful c.in-Ok.point refl).moment_is.numbered

pub returns-in-Ok-clause-range : goal.returns-in-Ok-clause-range
returns-in-Ok-clause-range g c = (c.in-Ok.ensures.text c.requires.lawful c.in-Ok.point refl).moment_is.tick_in_range

pub returns-clause-loads : goal.returns-clause-loads
returns-clause-loads g c =
    point_unloads c.args.program.now c.args.name.now c.in_ok-bytes.bytes.items _ _ _ c.in_ok-bytes.ensures.loads.counts c.in_ok-bytes.ensures.loads.found
    (λ never. rw c.as_slice.ensures.value at (c.in-Err.ensures.judged c.requires.lawful (λ e. never cc))) c.refuse_point.ensures
