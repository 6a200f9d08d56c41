use Rattle.std.proofs.Common.{◌≡◌, ◌∙◌, map, IfSome, ap, ap₂, rules}
use Rattle.std.proofs.lemmas.Option.{IfSome_then}
use Rattle.brace_comb.specs.Totals.{tally}
use Rattle.brace_watch.specs.Figures.{figure}
use Rattle.brace_watch.specs.inner.Columns.{of_class, numbers_of, number_for, tested}
use Rattle.brace_watch.proofs.Counting.{column_kept, figure_is}
use Rattle.brace_watch.proofs.rows.Rows.figure.Goals as goal

pub returns-clause-figure : goal.returns-clause-figure
returns-clause-figure c =
    let watch = c.args.watch.now in
    let mine = of_class watch.class c.args.self.now in
    let agents = c.as_slice-agents.ensures.value ∙ c.self.view_is in
    let kept = column_kept c.read_column.new.columns.items c.read_column-2.new.columns.items
    c.in_ok-tests.tests c.index.result.now c.in_ok-tests.ensures.there
    c.in_ok-values.ensures.kept in
    let tests : c.as_slice-tests.result.now ≡ map (number_for (tested watch.test)) mine =
    c.as_slice-tests.ensures.value ∙ ap (λ d. d.numbers.items) (c.index.ensures ∙ kept)
    ∙ c.in_ok-tests.ensures.numbers c.index.result.now
    ∙ ap₂ (numbers_of watch.class) c.tested.ensures agents in
    let values : c.as_slice-values.result.now ≡ map (number_for watch.field) mine =
    c.as_slice-values.ensures.value ∙ ap (λ d. d.numbers.items) c.index-2.ensures
    ∙ c.in_ok-values.ensures.numbers c.index-2.result.now
    ∙ ap (numbers_of watch.class watch.field) agents in
    let found : IfSome c.total_of.result (λ t. tally t ≡ figure watch c.args.self.now) =
    IfSome_then c.total_of.result c.total_of.ensures
    (λ t total. total mine tests values ∙ figure_is watch c.args.self.now) in
    search (rules, found)
