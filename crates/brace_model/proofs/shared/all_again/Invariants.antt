use Rattle.std.proofs.Common.{◌≡◌, take}
use Rattle.brace_model.proofs.shared.all_again.Given as goal

abbrev pub invariant-loop-shared : goal.invariant-loop-shared
invariant-loop-shared l = l.all.items ≡ take l.shared-index l.blocks
