use Rattle.std.proofs.Common.{◌∙◌, ap₂, refl}
use Rattle.std.proofs.lemmas.Result.{IfOk-weaker}
use Rattle.clap.specs.Simple.{with_rule}
use Rattle.brace_words.proofs.command.with_option.Goals as goal

pub returns : goal.returns
returns c =
    IfOk-weaker c.arg.result _ _ (λ r h. h.shape c.option.ensures.own
    ∙ ap₂ with_rule refl c.option.ensures.rule) c.arg.ensures
