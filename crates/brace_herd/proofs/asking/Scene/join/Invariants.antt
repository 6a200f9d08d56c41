use Rattle.std.proofs.Common.{List, ◌++◌, map, take}
use Rattle.brace_model.specs.declared.fault.Fault.{Fault}
use Rattle.brace_model.specs.Query.{Saying}
use Rattle.brace_plan.specs.Answers.{saying_of}
use Rattle.brace_eval.specs.Heard.{IsHeard}
use Rattle.brace_herd.proofs.asking.Scene.join.Given as goal

abbrev pub invariant-loop-one : goal.invariant-loop-one
invariant-loop-one l =
    (before : List Saying) (faults : List Fault) → IsHeard l.self.program.now l.self.held.now before faults l.fn.heard
    → IsHeard l.self.program.now l.self.held.now (before ++ map (saying_of l.self.held.now) (take l.one-index l.said)) faults l.heard
