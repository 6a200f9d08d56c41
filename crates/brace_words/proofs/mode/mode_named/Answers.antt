use Rattle.std.proofs.Common.{codes}
use Rattle.brace_words.proofs.ModeLemmas.{unlike, unnamed}
use Rattle.brace_words.proofs.mode.mode_named.Goals as goal

pub returns-in_default : goal.returns-in_default
returns-in_default c =
    let n = c.args.name.now in
    unnamed n (unlike (codes "run") n c.in_default.not-run)
    (unlike (codes "resume") n c.in_default.not-resume)
    (unlike (codes "check") n c.in_default.not-check) (unlike (codes "fmt") n c.in_default.not-fmt)
    (unlike (codes "plan") n c.in_default.not-plan)
    (unlike (codes "trial") n c.in_default.not-trial)
    (unlike (codes "audit") n c.in_default.not-audit)
    (unlike (codes "balance") n c.in_default.not-balance)
