use Rattle.std.proofs.Common.{◌∙◌, append-nil, ap, map, subst}
use Rattle.std.proofs.lemmas.List.Sorted.{IsPermutation-refl}
use Rattle.brace_model.specs.declared.program.Program.{Program}
use Rattle.brace_fold.specs.Rows.{AreMoved, IsWide, rows_in}
use Rattle.brace_fold.proofs.RowLemmas.{are_rows, rows_apart}
use Rattle.brace_engine_tests.proofs.tests.renewals.in_columns.Goals as goal

pub arranged-requires : goal.arranged-requires
arranged-requires c =
    let program = c.args.plans.now in
    let agents = c.args.agents.now in
    let rows = c.in_ok-rows.rows in
    let columns = c.as_columns-columns.result in
    let lent = ap (map (λ v. v.now)) c.deref-2.ensures.value ∙ c.in_ok-states.ensures
    ∙ c.deref.ensures.value in
    let moved = subst (λ l. AreMoved l rows) (append-nil agents) c.in_ok-rows.ensures.rows in
    let wide = subst (λ (p : Program). IsWide p columns) c.program-program.ensures
    c.in_ok-expect_wide.ensures in
    are_rows program agents columns (c.as_columns-columns.ensures.are lent agents moved) wide
    c.requires.lawful (rows_apart agents agents c.requires.rises (IsPermutation-refl agents))

pub renewed-requires : goal.renewed-requires
renewed-requires c =
    (rows_in c.args.plans.now c.as_columns-columns.result, c.in_ok-arranged.ensures)
