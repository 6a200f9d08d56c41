use Rattle.std.proofs.Common.{◌∙◌, sym}
use Rattle.brace_herd.proofs.HoldLemmas.{on_true, one_list_told}
use Rattle.brace_herd.proofs.joining.is_silent.Goals as goal

pub returns-in-Effects : goal.returns-in-Effects
returns-in-Effects c =
    on_true c.is_nothing.result c.is_nothing.ensures (λ none entries is.
    one_list_told c.args.piece.now c.in-Effects.entries entries c.in-Effects.is is
    ∙ (sym c.as_slice.ensures ∙ none))

pub returns-in_default : goal.returns-in_default
returns-in_default c = λ entries is. absurd (c.in_default.not-Effects entries is)
