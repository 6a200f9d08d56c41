use Rattle.std.proofs.Common.{◌≡◌, ◌∙◌, ◌<◌, sym, ap, subst, get_or, length, map, ℕ, List, w64}
use Rattle.std.specs.Prelude.{IfSome}
use Rattle.std.specs.Vec.{with_items}
use Rattle.std.specs.List.Sorted.{IsPermutation}
use Rattle.std.proofs.lemmas.Int.{to_z-of_z}
use Rattle.std.proofs.lemmas.List.{with_items_is}
use Rattle.brace_fold.specs.declared.cells.Spot.{Spot}
use Rattle.brace_fold.specs.declared.halves.Halves.{Halves}
use Rattle.brace_fold.specs.inner.Sights.{AreHalves, AreSpots, CellsRise, in_row}
use Rattle.brace_fold.proofs.Sortings.{rows_are, rows_moved, rows_places, rows_rise, rows_within}
use Rattle.brace_fold.proofs.cells.Sorted.of.Goals as goal

pub returns : goal.returns
returns c = λ agents columns.
    let program = c.args.program.now in
    let side = c.args.side in
    let spots : List Spot = c.in_ok-spots.spots.items in
    let sorted : List Spot = c.deref_mut.result.now in
    let written : List Spot = c.number_rows.new.spots in
    let new : List Spot = (with_items c.sort_by_cell.new.spots written).items in
    let order : List ℕ = c.in_ok-order.order.items in
    let are = subst (λ z. AreSpots program z agents spots) (to_z-of_z w64 side c.ranges.side)
    (c.in_ok-spots.ensures agents columns) in
    let same = sym c.deref_mut.ensures.value in
    let perm = subst (IsPermutation spots) same c.in_ok-sort_by_cell.ensures.moved in
    let order_is : order ≡ map (λ (s : Spot). s.place) sorted =
    c.in_ok-order.ensures ∙ ap (map (λ (s : Spot). s.place)) (c.deref.ensures.value ∙ same) in
    let kept : length written ≡ length sorted = c.in_ok-number_rows.ensures.long in
    let new_is : new ≡ written = with_items_is c.sort_by_cell.new.spots written
    (kept ∙ ap length c.deref_mut.ensures.value ∙ sym c.sort_by_cell.new.spots.ok.0) in
    let long : length new ≡ length sorted = ap length new_is ∙ kept in
    let each : (k : ℕ) (s : Spot) → k < length sorted
    → get_or new k s ≡ in_row k (get_or sorted k s) =
    λ k s low. ap (λ (l : List Spot). get_or l k s) new_is
    ∙ c.in_ok-number_rows.ensures.each k s low in
    record {
      are = record {
        side = side;
        some = c.requires.side;
        wide = c.requires.wide;
        theirs = rows_are program side agents spots sorted new order are perm order_is long each;
        rise = rows_rise program side agents spots sorted new order are perm order_is long each
            (subst CellsRise same c.in_ok-sort_by_cell.ensures.rise);
        halves = λ h there.
            subst (λ o. IfSome o (λ (k : Halves). AreHalves side new k.xs.items k.ys.items)) there
            (subst (λ l. IfSome c.in_ok-halves.halves (λ (k : Halves).
            AreHalves side l k.xs.items k.ys.items)) c.deref-2.ensures.value
            (subst (λ z. IfSome c.in_ok-halves.halves (λ (k : Halves).
            AreHalves z c.deref-2.result.now k.xs.items k.ys.items))
            (to_z-of_z w64 side c.ranges.side) c.in_ok-halves.ensures));
      };
      places = rows_places program side agents spots sorted new order are perm order_is long each;
      moved = rows_moved program side agents spots sorted new order are perm order_is long each;
      within = rows_within program side agents spots sorted new order are perm order_is long each;
    }
