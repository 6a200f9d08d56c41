use Rattle.std.proofs.Common.{◌≡◌, flat_map, take}
use Rattle.brace_command.specs.PlanText.{nowhere, remotes_of}
use Rattle.brace_command.proofs.listing.remotes.Given as goal

abbrev pub invariant-loop-class : goal.invariant-loop-class
invariant-loop-class l = l.found ≡ flat_map (λ c. remotes_of nowhere c.query) (take l.class-index l.program.classes)
