use Rattle.std.proofs.Common.{◌∙◌, ◌+◌, ℤ, pos, ◌<ℤ◌, ap, arith, get_or, length, refl, rules, subst, sym, FitsSigned, of_z, to_z, w32, w64}
use Rattle.std.specs.Vec.{vec_len}
use Rattle.std.specs.Int.{int_wrap}
use Rattle.std.proofs.lemmas.Int.{ints, to_z-of_z}
use Rattle.std.proofs.lemmas.List.{get_or_default}
use Rattle.brace_fold.specs.declared.cells.Spot.{Spot}
use Rattle.brace_fold.specs.inner.Sights.{IsLow}
use Rattle.brace_fold.proofs.Halved.{each_on, low_here, words_all, words_on}
use Rattle.brace_fold.proofs.halves.Halves.of.Goals as goal

pub loop-spot-preserved : goal.loop-spot-preserved
loop-spot-preserved c =
    let spots = c.args.spots.now in
    let i = c.loop-spot.spot-index in
    let side = c.args.side in
    let d : Spot = record { x = pos 0; y = pos 0; cell = pos 0; class = 0; place = 0 } in
    let s : Spot = get_or spots i d in
    let fits_x : FitsSigned w64 s.x = search rules in
    let fits_y : FitsSigned w64 s.y = search rules in
    let seen : ℤ = to_z w64 (of_z w64 side) in
    let some = subst (λ z. pos 0 <ℤ z) (sym (to_z-of_z w64 side c.ranges.side)) c.requires in
    let low : IsLow seen s.y =
    low_here s.y seen some c.if-side-gt-WIDEST.false fits_y c.if-spot-edge.false
    c.if-edge-spot.false in
    record {
      across = words_on (λ t. int_wrap w32 t.x) spots i d c.loop-spot.xs.items _
          (to_z w32 (of_z w32 c.half.result)) c.loop-spot-test.true c.push_reserved.ensures.items
          (to_z-of_z w32 c.half.result (record { sfits = c.half.type_inv }) ∙ c.half.ensures
          ∙ ap (int_wrap w32) (to_z-of_z w64 s.x fits_x)) c.loop-spot.invariant.across;
      along = words_on (λ t. int_wrap w32 t.y) spots i d c.loop-spot.ys.items _
          (to_z w32 (of_z w32 c.half-in-loop-spot.result)) c.loop-spot-test.true
          c.push_reserved-in-loop-spot.ensures.items
          (to_z-of_z w32 c.half-in-loop-spot.result
          (record { sfits = c.half-in-loop-spot.type_inv }) ∙ c.half-in-loop-spot.ensures
          ∙ ap (int_wrap w32) (to_z-of_z w64 s.y fits_y)) c.loop-spot.invariant.along;
      low = each_on (IsLow seen) spots i c.loop-spot.invariant.low
          (λ e. subst (λ (t : Spot). IsLow seen t.y)
          (get_or_default spots i d e c.loop-spot-test.true) low);
      room_across = search rules;
      room_along = search rules;
    }

pub returns : goal.returns
returns c = record {
  small = grind (arith, ints, c.if-side-gt-WIDEST.false);
  few = omega (arith, c.if-spots-gt-MANY.false);
  across = words_all (λ t. int_wrap w32 t.x) c.args.spots.now c.loop-spot.spot-index
      (vec_len c.loop-spot.xs) (length c.args.spots.now + 4) c.loop-spot.xs.items _
      c.in_ok-resize.ensures.items (search rules) refl
      (omega (arith, c.loop-spot-test.false, c.loop-spot.auto.spot-index-end))
      c.loop-spot.invariant.across;
  along = words_all (λ t. int_wrap w32 t.y) c.args.spots.now c.loop-spot.spot-index
      (vec_len c.loop-spot.ys) (length c.args.spots.now + 4) c.loop-spot.ys.items _
      c.in_ok-resize-2.ensures.items (search rules) refl
      (omega (arith, c.loop-spot-test.false, c.loop-spot.auto.spot-index-end))
      c.loop-spot.invariant.along;
  low = λ k d low. subst (λ z. IsLow z (get_or c.args.spots.now k d).y)
      (to_z-of_z w64 c.args.side c.ranges.side)
      (c.loop-spot.invariant.low k d
      (omega (arith, low, c.loop-spot-test.false, c.loop-spot.auto.spot-index-end)));
}
