use Rattle.std.proofs.Common.{◌∙◌, ap}
use Rattle.brace_comb.specs.Totals.{tally, tally_of, join}
use Rattle.brace_comb.proofs.Joins.{join-append}
use Rattle.brace_comb.proofs.total.TotalCombine.join.Goals as goal

pub returns-clause-total : goal.returns-clause-total
returns-clause-total c comb xs ys e f =
    c.of_both.ensures.joined
    ∙ ap (λ t. join t (tally c.args.other.now)) e
    ∙ ap (join (tally_of comb xs)) f
    ∙ join-append comb xs ys
