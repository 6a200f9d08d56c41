use Rattle.std.proofs.Common.{◌∙◌, ap, map, subst}
use Rattle.brace_num.proofs.Orders.{distinct_moved}
use Rattle.brace_model.specs.declared.program.Program.{Program}
use Rattle.brace_model.specs.declared.world.Agent.{Agent}
use Rattle.brace_fold.specs.Arranged.{in_places}
use Rattle.brace_fold.specs.Rows.{IsWide}
use Rattle.brace_fold.proofs.ArrangedLemmas.{in-order}
use Rattle.brace_fold.proofs.RowLemmas.{are_rows, lawful_moved}
use Rattle.brace_engine_tests.proofs.tests.renewals.renewed.Goals as goal

pub renew_rows-requires-clause-rows : goal.renew_rows-requires-clause-rows
renew_rows-requires-clause-rows c =
    let (agents, is) = c.requires in
    let program = c.args.plans.now in
    let those = in_places agents c.args.arranged.now in
    let columns = c.as_columns-columns.result in
    let lent = ap (map (λ v. v.now)) c.deref-3.ensures.value ∙ c.in_ok-states.ensures
    ∙ c.deref-2.ensures.value in
    let moved = in-order program agents c.args.arranged.now is in
    let wide = subst (λ (p : Program). IsWide p columns) c.program-program.ensures
    c.in_ok-expect_wide.ensures in
    are_rows program those columns (c.as_columns-columns.ensures.are lent those is.moved) wide
    (lawful_moved program agents those moved is.lawful)
    (distinct_moved (λ (a : Agent). a.id) agents those moved is.apart)
