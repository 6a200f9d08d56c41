use Rattle.brace_syntax.proofs.stmt.+block_to.Given as goal

abbrev pub decreases-block_to : goal.decreases-block_to
decreases-block_to l = l.depth
