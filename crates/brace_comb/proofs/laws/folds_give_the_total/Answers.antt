use Rattle.std.proofs.Common.{ap}
use Rattle.brace_comb.proofs.Joins.{fold_total, tally_of-IsPermutation}
use Rattle.brace_comb.proofs.laws.folds_give_the_total.Goals as goal

pub returns : goal.returns
returns c =
    record {
      total = fold_total;
      number = λ comb values t f. ap (λ s. s.number) (fold_total comb values t f);
      any_order = tally_of-IsPermutation;
    }
