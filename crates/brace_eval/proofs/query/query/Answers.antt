use Rattle.std.proofs.Common.{subst, Option}
use Rattle.std.specs.Prelude.{IfOk}
use Rattle.brace_model.specs.declared.program.Class.{Class}
use Rattle.brace_model.specs.Query.{query_in}
use Rattle.brace_eval.specs.inner.Tables.{NotesDeed}
use Rattle.brace_eval.proofs.query.query.Goals as goal

pub returns-in-Some-clause-noted : goal.returns-in-Some-clause-noted
returns-in-Some-clause-noted c =
    let scene = c.args.scene.now in
    subst (λ (o : Option Class). IfOk c.query_of_class.result (λ x. NotesDeed scene (query_in scene.program.now c.args.ledger.now.drawer.seed c.args.tick scene.agents.now c.args.this.now o) c.args.ledger.now c.query_of_class.new.ledger))
    c.in-Some.ensures c.query_of_class.ensures.noted
