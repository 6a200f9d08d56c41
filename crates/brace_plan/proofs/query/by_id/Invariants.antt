use Rattle.std.proofs.Common.{◌≡◌, map, take}
use Rattle.brace_plan.specs.Answers.{saying_of, said_by}
use Rattle.brace_plan.proofs.query.by_id.Given as goal

abbrev pub invariant-loop-one : goal.invariant-loop-one
invariant-loop-one l = map said_by l.told ≡ map (saying_of l.agents) (take l.one-index l.said)
