use Rattle.std.proofs.Common.{◌≡◌, ◌∙◌, ap, subst, map, List, ◌++◌, replicate, None}
use Rattle.std.specs.Prelude.{sum}
use Rattle.brace_model.specs.declared.program.Value.{Value}
use Rattle.brace_model.specs.World.{no_value}
use Rattle.brace_model.specs.Query.{block, statement, constants}
use Rattle.brace_eval.specs.inner.Tables.{NotesDeed}
use Rattle.brace_eval.specs.inner.Walks.{scope_at}
use Rattle.brace_eval.proofs.query.query_of_class.Goals as goal

pub returns-clause-noted : goal.returns-clause-noted
returns-clause-noted c =
    let scene = c.args.scene.now in
    let st = statement scene.program.now scene.agents.now in
    let places = replicate (sum (map constants c.args.class.now.query)) no_value in
    let opened : c.deref_mut.result.now ≡ places =
    c.deref_mut.ensures.value ∙ c.in_ok-open_block.ensures ∙ ap (λ (l : List Value). l ++ places) c.new-locals.ensures.items in
    subst (λ (l : List Value). NotesDeed scene (block (map st c.args.class.now.query) (scope_at (record { tick = c.args.tick; this = c.args.this; outer = None; inner = None }) c.args.ledger.now.drawer.seed l)) c.args.ledger.now c.block.new.ledger)
    opened c.in_ok-block.ensures.noted
