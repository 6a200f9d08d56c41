use Rattle.std.proofs.Common.{◌≡◌, take}
use Rattle.brace_model.proofs.copy.+copying_statements.Given as goal

abbrev pub invariant-copy_block-loop-s : goal.invariant-copy_block-loop-s
invariant-copy_block-loop-s l = l.copy ≡ take l.s-index l.block
