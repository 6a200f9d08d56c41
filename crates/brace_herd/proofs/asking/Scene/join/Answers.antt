use Rattle.std.proofs.Common.{◌++◌, map, subst}
use Rattle.std.proofs.lemmas.List.{take_all}
use Rattle.brace_plan.specs.Answers.{saying_of}
use Rattle.brace_eval.specs.Heard.{IsHeard}
use Rattle.brace_herd.proofs.asking.Scene.join.Goals as goal

pub returns : goal.returns
returns c = record {
  said = λ before faults is.
      let held = c.args.self.now.held.now in
      subst (λ xs. IsHeard c.args.self.now.program.now held (before ++ map (saying_of held) xs) faults c.loop-one.heard)
      (take_all c.loop-one.one-index c.args.said.now c.loop-one-test.false) (c.loop-one.invariant before faults is);
}
