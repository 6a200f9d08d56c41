use Rattle.std.proofs.Common.{◌∙◌, ap, ap₂}
use Rattle.std.specs.Prelude.{codes}
use Rattle.std.proofs.lemmas.Result.{IfOk-weaker}
use Rattle.clap.specs.Walk.{Text}
use Rattle.clap.specs.Simple.{App, with_rule}
use Rattle.brace_words.specs.Command.{option_rule}
use Rattle.brace_words.proofs.command.command.Goals as goal

-- a command with four options more
abbrev with_four : (first second third fourth : Text) → App → App
with_four first second third fourth app =
    with_rule (with_rule (with_rule (with_rule app (option_rule first)) (option_rule second))
    (option_rule third)) (option_rule fourth)

pub returns : goal.returns
returns c =
    IfOk-weaker c.arg-3.result _ _ (λ r h. h.shape c.flag-2.ensures.own
    ∙ ap₂ with_rule (c.in_ok-arg.ensures.shape c.flag.ensures.own
    ∙ ap₂ with_rule (c.in_ok-command-5.ensures
    ∙ ap (with_four (codes "link") (codes "published") (codes "watch") (codes "strips"))
    (c.in_ok-command-4.ensures
    ∙ ap (with_four (codes "cuts") (codes "workers") (codes "order") (codes "save"))
    (c.in_ok-command-3.ensures
    ∙ ap (with_four (codes "count") (codes "seed") (codes "every") (codes "epoch"))
    (c.in_ok-command-2.ensures
    ∙ ap (with_four (codes "script") (codes "agents") (codes "from") (codes "ticks"))
    (c.in_ok-command.ensures.shape c.mode.ensures.own
    ∙ ap₂ with_rule c.bare.ensures c.mode.ensures.rule)))))
    c.flag.ensures.rule) c.flag-2.ensures.rule) c.arg-3.ensures
