use Rattle.std.proofs.Common.{◌≡◌, ◌∙◌, ◌++◌, ap, ap₂, map, subst, sym, List}
use Rattle.std.proofs.lemmas.List.{map-append}
use Rattle.brace_model.specs.declared.program.Value.{Value}
use Rattle.brace_model.specs.declared.world.Agent.{Agent}
use Rattle.brace_fold.specs.Rows.{HasRoom}
use Rattle.brace_fold.proofs.ColumnLemmas.{by-rows, by-values}
use Rattle.brace_fold.proofs.lists.columns_of.Goals as goal
use denote.Ref.{Bor}

pub returns-clause-rows : goal.returns-clause-rows
returns-clause-rows c =
    let agents = c.args.first.now ++ c.args.rest.now in
    let now : Bor Agent → Agent = λ r. r.now in
    let rows = c.append.new.self.items in
    let all : map now rows ≡ agents =
    ap (map now) c.in_ok-append.ensures.items ∙ map-append now c.in_ok-rows.rows.items
    c.in_ok-more.more.items
    ∙ ap₂ (λ (l : List Agent) m. l ++ m) c.in_ok-rows.ensures c.in_ok-more.ensures in
    let shown = c.deref-4.result.now in
    record {
      classes = c.in_ok-class_column.ensures ∙ by-rows (λ a. a.class) c.deref-2.result.now agents
          (ap (map now) c.deref-2.ensures.value ∙ all);
      ids_are = c.in_ok-id_column.ensures ∙ by-rows (λ a. a.id) c.deref-3.result.now agents
          (ap (map now) c.deref-3.ensures.value ∙ all);
      states = λ i column there.
          c.in_ok-state_columns.ensures.each i column there
          ∙ by-values i shown agents (ap (map (λ (s : Bor (List Value)). s.now))
          c.deref-4.ensures.value ∙ c.in_ok-values.ensures
          ∙ by-rows (λ a. a.states) c.deref.result.now agents (ap (map now) c.deref.ensures.value
          ∙ all));
    }

pub returns-clause-wide : goal.returns-clause-wide
returns-clause-wide c =
    subst (HasRoom c.args.program.now) (sym c.in_ok-state_columns.ensures.many)
    c.in_ok-most_states.ensures
