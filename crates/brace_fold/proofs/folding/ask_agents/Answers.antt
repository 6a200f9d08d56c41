use Rattle.std.proofs.Common.{◌∙◌, ap, map, subst}
use Rattle.std.proofs.lemmas.List.Sorted.{IsPermutation-refl}
use Rattle.brace_fold.specs.inner.Asks.{AsksIn}
use Rattle.brace_fold.proofs.RowLemmas.{all_lawful, are_rows, lent_are, rows_apart, rows_are}
use Rattle.brace_fold.proofs.Walks.{on_ok}
use Rattle.brace_fold.proofs.folding.ask_agents.Goals as goal

pub ask_rows-requires-clause-rows : goal.ask_rows-requires-clause-rows
ask_rows-requires-clause-rows c =
    let lent = ap (map (λ v. v.now)) c.deref-2.ensures.value ∙ c.in_ok-states.ensures
    ∙ c.deref.ensures.value in
    let (are, wide) = lent_are c.args.program.now c.args.agents.now c.in_ok-rows.rows
    c.as_columns-columns.result c.in_ok-rows.ensures.rows c.in_ok-rows.ensures.wide
    (c.as_columns-columns.ensures.are lent) (c.as_columns-columns.ensures.wide lent) in
    are_rows c.args.program.now c.args.agents.now c.as_columns-columns.result are wide
    c.requires.lawful (rows_apart c.args.agents.now c.args.agents.now c.requires.rises
    (IsPermutation-refl c.args.agents.now))

pub returns : goal.returns
returns c = on_ok c.ask_rows.result _ _ (λ h d.
    let lent = ap (map (λ v. v.now)) c.deref-2.ensures.value ∙ c.in_ok-states.ensures
    ∙ c.deref.ensures.value in
    let (are, wide) = lent_are c.args.program.now c.args.agents.now c.in_ok-rows.rows
    c.as_columns-columns.result c.in_ok-rows.ensures.rows c.in_ok-rows.ensures.wide
    (c.as_columns-columns.ensures.are lent) (c.as_columns-columns.ensures.wide lent) in
    subst (λ l. AsksIn c.args.program.now c.args.seed c.args.tick l d c.args.asking.now
    c.args.said.now c.ask_rows.new.said)
    (rows_are c.args.program.now c.args.agents.now c.as_columns-columns.result are wide
    (all_lawful c.args.program.now c.args.agents.now c.requires.lawful)) (h d)) c.ask_rows.ensures
