use Rattle.std.proofs.Common.{◌∙◌, sym, ap, Some}
use Rattle.brace_eval.specs.declared.heard.Heard.{Heard}
use Rattle.brace_model.specs.declared.fault.Fault.{Fault}
use Rattle.brace_eval.proofs.DeedLemmas.{heard-found}
use Rattle.brace_eval.proofs.heard.Heard.found.Goals as goal

pub returns-in-Some : goal.returns-in-Some
returns-in-Some c program agents said faults met is =
    let before : Heard = c.args.self.now in
    heard-found program agents said faults met c.in-Some.fault before _ (sym c.in-Some.is ∙ is)
    (ap (λ (f : Fault). record before { least = Some f }) c.with_earlier.ensures)
