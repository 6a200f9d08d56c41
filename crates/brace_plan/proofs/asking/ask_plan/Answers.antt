use Rattle.std.proofs.Common.{◌∙◌, ap, List, None}
use Rattle.brace_model.specs.declared.program.Value.{Value}
use Rattle.brace_plan.specs.inner.Walks.{scope_at}
use Rattle.brace_plan.proofs.AskLemmas.{answer-of}
use Rattle.brace_plan.proofs.asking.ask_plan.Goals as goal

pub returns-clause-answer : goal.returns-clause-answer
returns-clause-answer c =
    let scene = c.args.scene.now in
    let seed = c.args.desk.now.drawer.seed in
    answer-of scene c.args.planned.now seed c.args.this.now.agent.now _ c.args.answer.now c.block.new.answer
    (ap (λ (l : List Value). scope_at scene (record { this = c.args.this.now; outer = None; inner = None }) seed l) (c.deref_mut.ensures.value ∙ c.in_ok-open.ensures))
    c.requires.said c.requires.fault c.in_ok-block.ensures.added
