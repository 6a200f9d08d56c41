use Rattle.std.proofs.Common.{◌≡◌, ◌∙◌, sym, ap, subst, length, map, slice_get, get_or, ℕ, List, Some, rules}
use Rattle.std.specs.List.Sorted.{IsPermutation}
use Rattle.std.proofs.lemmas.List.{length-map}
use Rattle.brace_fold.specs.Arranged.{in_places}
use Rattle.brace_fold.specs.Asked.{by_row, no_agent}
use Rattle.brace_fold.specs.Rows.{rows_in}
use Rattle.brace_fold.specs.Sums.{AreSummed}
use Rattle.brace_fold.proofs.ArrangedLemmas.{in-order, within}
use Rattle.brace_fold.proofs.Askings.{asking-at, asks-carried}
use Rattle.brace_fold.proofs.RowLemmas.{by_id_moved}
use Rattle.brace_fold.proofs.Walks.{on_ok}
use Rattle.brace_fold.proofs.folding.ask_rows.Goals as goal

pub ask_in-requires-clause-agents : goal.ask_in-requires-clause-agents
ask_in-requires-clause-agents c =
    (rows_in c.args.program.now c.args.columns.now, c.in_ok-arranged.ensures)

pub returns : goal.returns
returns c = on_ok c.bring_all.result _ _ (λ brings d.
    let program = c.args.program.now in
    let agents = rows_in program c.args.columns.now in
    let arranged = c.in_ok-arranged.arranged in
    let order = arranged.order.items in
    let given = c.requires.rows in
    let is = c.in_ok-arranged.ensures in
    let rows = in_places agents arranged in
    let moved = in-order program agents arranged is in
    let at = c.deref-4.result.now in
    let asked : map (slice_get order) at ≡ map Some c.args.asking.now =
    ap (map (slice_get order)) c.deref-4.ensures.value
    ∙ ap (λ (l : List ℕ). map (slice_get l) c.in_ok-asking.asking.items)
    (sym c.deref-2.ensures.value) ∙ c.in_ok-asking.ensures in
    let there = asking-at agents d order c.args.asking.now at
    (within program agents arranged is) asked in
    let asks = c.in_ok-ask_in.ensures agents d is in
    let many : c.len.result ≡ length order = search rules in
    let none = c.in_ok-told.ensures program rows
    (many ∙ sym (length-map order (λ p. get_or agents p no_agent))) in
    let same : order ≡ c.deref-5.result.now = sym c.deref-5.ensures.value in
    asks-carried program c.args.seed c.args.tick agents rows d c.args.asking.now at c.args.said.now
    c.bring_all.new.said c.in_ok-told.told c.ask_in.new.said
    (by_id_moved agents rows given.apart moved) there asks none
    (λ more summed. brings agents more given.are given.apart
    (subst (λ (l : List ℕ). IsPermutation agents (by_row agents l)) same moved)
    (subst (λ (l : List ℕ). AreSummed program (by_row agents l) more c.ask_in.new.said) same
    summed))) c.bring_all.ensures
