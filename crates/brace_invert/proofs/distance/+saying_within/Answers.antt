use Rattle.brace_invert.proofs.RangeLemmas.{says_within_first, says_within_second}
use Rattle.brace_invert.proofs.distance.+saying_within.Goals as goal

pub says_within-returns-then-block_says_within : goal.says_within-returns-then-block_says_within
says_within-returns-then-block_says_within t c = says_within_first _ _ _ _ _ _ _ c.in-If.is c.block_says_within.ensures c.if-block_says_within.true

pub says_within-returns-else-block_says_within : goal.says_within-returns-else-block_says_within
says_within-returns-else-block_says_within t c =
    says_within_second _ _ _ _ _ _ _ _ c.in-If.is c.block_says_within.ensures c.if-block_says_within.false c.block_says_within-else-block_says_within.ensures
