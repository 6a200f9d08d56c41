use Rattle.brace_eval.proofs.HeardLemmas.{grows-too}
use Rattle.brace_eval.proofs.heard.Heard.hear.Goals as goal

pub returns : goal.returns
returns c = record {
  heard = λ said faults. grows-too c.in_ok-scene.scene.program.now c.args.program.now c.in_ok-scene.scene.agents.now c.args.agents.now c.make.result.seed c.args.seed c.args.tick c.args.asking.now said faults c.replace.result c.args.self.now c.queries.new.ledger.heard
      c.in_ok-scene.ensures.program c.in_ok-scene.ensures.agents c.make.ensures c.replace.ensures.value (c.in_ok-queries.ensures.noted said faults);
}
