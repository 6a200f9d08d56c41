use Rattle.std.proofs.Common.{take}
use Rattle.std.specs.List.{All}
use Rattle.brace_crew.specs.Members.{IsDone}
use Rattle.brace_crew.proofs.bench.Bench.is_complete.Given as goal

abbrev pub invariant-loop-member : goal.invariant-loop-member
invariant-loop-member g l = All (IsDone l.steps) (take l.member-index l.self.members)
