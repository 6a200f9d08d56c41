use Rattle.std.proofs.Common.{map, string_bytes}
use Rattle.std.proofs.lemmas.Result.{err_from_is_err_and}
use Rattle.brace_command.proofs.AnswerLemmas.{asked_prepared, unasked_serves}
use Rattle.brace_top.proofs.entry.begin.Goals as goal

pub returns-in_err-command-clause-prepared : goal.returns-in_err-command-clause-prepared
returns-in_err-command-clause-prepared g c =
    let p = err_from_is_err_and c.from_residual.result c.from_residual.ensures.1 in
    rw (p.1, p.2) (unasked_serves g.S.Shelf g.O.Sink (map string_bytes c.args.words.now) _ _ _ c.in_err-command.ensures.none)

pub returns-clause-prepared : goal.returns-clause-prepared
returns-clause-prepared g c =
    asked_prepared g.S.Shelf g.O.Sink _ _ _ _ _ _ _ c.in_ok-command.ensures.command c.prepare.ensures.prepared
