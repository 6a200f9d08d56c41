use Rattle.std.proofs.Common.{◌≡◌, ◌∙◌, List, sym, ap, subst, map}
use Rattle.brace_num.proofs.Orders.{distinct_moved}
use Rattle.brace_model.specs.declared.world.Agent.{Agent}
use Rattle.brace_fold.specs.Arranged.{AreArranged, in_places}
use Rattle.brace_fold.specs.Rows.{rows_in}
use Rattle.brace_fold.specs.inner.Asks.{AsksIn}
use Rattle.brace_fold.specs.inner.Sights.{AreCells}
use Rattle.brace_fold.proofs.ArrangedLemmas.{in-order}
use Rattle.brace_fold.proofs.RowLemmas.{all_lawful, are_rows, lawful_moved, rows_are}
use Rattle.brace_fold.proofs.Walks.{on_ok}
use Rattle.brace_fold.proofs.arranged.Arranged.ask_in.Goals.{In_ok-expect_wide}
use Rattle.brace_fold.proofs.arranged.Arranged.ask_in.Goals as goal

pub ask_sorted-requires-clause-rows : goal.ask_sorted-requires-clause-rows
ask_sorted-requires-clause-rows c =
    let (agents, is) = c.requires.agents in
    let program = c.args.program.now in
    let those = in_places agents c.args.self.now in
    let lent = ap (map (λ v. v.now)) c.deref-2.ensures.value ∙ c.in_ok-states.ensures
    ∙ c.deref.ensures.value in
    let moved = in-order program agents c.args.self.now is in
    are_rows program those c.as_columns-columns.result
    (c.as_columns-columns.ensures.are lent those is.moved) c.in_ok-expect_wide.ensures
    (lawful_moved program agents those moved is.lawful)
    (distinct_moved (λ (a : Agent). a.id) agents those moved is.apart)

-- the columns have the agents in their places
same_there : (c : In_ok-expect_wide) (agents : List Agent)
    → AreArranged c.args.program.now agents c.args.self.now
    → rows_in c.args.program.now c.as_columns-columns.result ≡ in_places agents c.args.self.now
same_there c agents is =
    let program = c.args.program.now in
    let those = in_places agents c.args.self.now in
    let lent = ap (map (λ v. v.now)) c.deref-2.ensures.value ∙ c.in_ok-states.ensures
    ∙ c.deref.ensures.value in
    rows_are program those c.as_columns-columns.result
    (c.as_columns-columns.ensures.are lent those is.moved) c.in_ok-expect_wide.ensures
    (all_lawful program those
    (lawful_moved program agents those (in-order program agents c.args.self.now is) is.lawful))

pub ask_sorted-requires-clause-cells : goal.ask_sorted-requires-clause-cells
ask_sorted-requires-clause-cells c =
    let (agents, is) = c.requires.agents in
    let same =
    same_there (goal.at.ask_sorted-requires-clause-cells c).In_ok-expect_wide agents is in
    subst (λ l. AreCells c.args.program.now l c.args.self.now.cells) (sym same) is.cells

pub returns : goal.returns
returns c = on_ok c.ask_sorted.result _ _ (λ h agents d is.
    subst (λ l. AsksIn c.args.program.now c.args.seed c.args.tick l d c.args.asking.now
    c.args.said.now c.ask_sorted.new.said)
    (same_there (goal.at.returns c).In_ok-expect_wide agents is) (h d)) c.ask_sorted.ensures
