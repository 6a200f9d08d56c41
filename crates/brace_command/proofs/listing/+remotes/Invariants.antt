use Rattle.std.proofs.Common.{◌≡◌, ◌++◌, take}
use Rattle.brace_command.specs.PlanText.{remotes_of}
use Rattle.brace_command.proofs.listing.+remotes.Given as goal

abbrev pub invariant-add_remotes-loop-s : goal.invariant-add_remotes-loop-s
invariant-add_remotes-loop-s l = l.found ≡ l.initial.found ++ remotes_of l.around (take l.s-index l.block)
