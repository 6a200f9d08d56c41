use Rattle.std.proofs.Common.{◌≡◌, take}
use Rattle.brace_eval.specs.Heard.{said_by, faults_by}
use Rattle.brace_eval.specs.inner.Tables.{Notes}
use Rattle.brace_eval.proofs.query.queries.Given as goal

abbrev pub invariant-loop-this : goal.invariant-loop-this
invariant-loop-this l = record {
  noted : Notes l.scene
      (said_by l.scene.program.now l.fn.ledger.drawer.seed l.tick l.scene.agents.now (take l.this-index l.asking))
      (faults_by l.scene.program.now l.fn.ledger.drawer.seed l.tick l.scene.agents.now (take l.this-index l.asking))
      l.fn.ledger l.ledger;
  seed : l.ledger.drawer.seed ≡ l.fn.ledger.drawer.seed;
}
