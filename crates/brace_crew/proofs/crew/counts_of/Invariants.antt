use Rattle.std.proofs.Common.{◌≡◌, length, take, All}
use Rattle.brace_pieces.specs.Steps.{steps}
use Rattle.brace_crew.specs.Members.{IsAt}
use Rattle.brace_pieces.specs.declared.setting.Setting.{Setting}
use Rattle.brace_pieces.specs.Given.{summed}
use Rattle.brace_crew.specs.inner.Crews.{AreParts}
use Rattle.brace_crew.proofs.CountsGiven.{gives}
use Rattle.brace_crew.proofs.crew.counts_of.Given as goal

abbrev pub invariant-loop-member : goal.invariant-loop-member
invariant-loop-member g l = (s : Setting) → AreParts s l.members → All (IsAt (length (steps s))) l.members → l.all ≡ summed (gives s) (take l.member-index l.members)
