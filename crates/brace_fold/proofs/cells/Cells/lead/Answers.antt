use Rattle.std.proofs.Common.{rules, ◌≡◌, ◌∙◌, ◌<◌, ℕ, List, Some, slice_get, get_or, sym, ap, subst, length, to_z, of_z, w64}
use Rattle.std.proofs.lemmas.Int.{to_z-of_z}
use Rattle.brace_fold.specs.declared.cells.Spot.{Spot}
use Rattle.brace_fold.specs.inner.Sights.{IsAround}
use Rattle.brace_fold.proofs.CellOrder.{named, read_is}
use Rattle.brace_fold.proofs.cells.Cells.lead.Goals as goal

-- the cell that is read is that of the spot of the row
cell_there : (spots read : List Spot) (row : ℕ) (x spot : Spot) → read ≡ spots
    → row < length read → x ≡ get_or read row x → slice_get spots row ≡ Some spot
    → to_z w64 (of_z w64 x.cell) ≡ x.cell → to_z w64 (of_z w64 x.cell) ≡ spot.cell
cell_there spots read row x spot same low is there kept =
    kept ∙ ap (λ (s : Spot). s.cell) (read_is spots read row x spot same low is there)

pub returns-then-eq-clause-around : goal.returns-then-eq-clause-around
returns-then-eq-clause-around c spot there =
    let read = c.in-Some.ensures.lookup in
    let cell = cell_there c.args.self.now.spots.items c.deref.result.now c.args.row
    c.in-Some.spot.now spot c.deref.ensures.value read.3.0 read.1 there
    (search (rules, to_z-of_z)) in
    c.requires.led.around spot.cell
    (named c.args.runs.now.cell _ spot.cell cell (sym c.eq.ensures ∙ c.if-eq.true))

pub returns-clause-around : goal.returns-clause-around
returns-clause-around c spot there =
    let read = c.in-Some.ensures.lookup in
    subst (λ n. IsAround c.args.self.now n c.in_ok-runs.field-0)
    (cell_there c.args.self.now.spots.items c.deref.result.now c.args.row c.in-Some.spot.now spot
    c.deref.ensures.value read.3.0 read.1 there (search (rules, to_z-of_z)))
    c.in_ok-runs.ensures.around
