use Rattle.std.proofs.Common.{◌≡◌, ◌++◌, inl, inr, map, take, drop, true, false, arith, subst, to_z, of_z, w64}
use Rattle.std.specs.List.{filter}
use Rattle.std.proofs.lemmas.Int.{to_z-of_z}
use Rattle.brace_grid.specs.inner.Search.{is_spot_inside, is_up_to}
use Rattle.brace_grid.proofs.Places.{walked_more, walked_same, up_to_same, walked_within, walked_to}
use Rattle.brace_grid.proofs.Walk.{walk_more}
use Rattle.brace_grid.proofs.search.gather.Goals as goal

pub loop-i-preserved : goal.loop-i-preserved
loop-i-preserved g c =
    let up : is_up_to (to_z w64 (of_z w64 c.args.column)) (to_z w64 (of_z w64 c.args.north)) c.look-spot.result ≡ true = cc in
    record {
      found = walk_more (is_spot_inside c.args.area.now) c.args.out.now.items c.loop-i.out.items c.args.spots.now c.args.start c.loop-i.i c.look-spot.result c.loop-i.invariant.low (omega arith) (c.look-spot.ensures.value c.look-spot.result) _ c.in_ok-take_inside.ensures c.loop-i.invariant.found;
      steps = omega (arith, c.loop-i.invariant.steps, c.loop-i.invariant.low);
      low = omega (arith, c.loop-i.invariant.low);
      small = omega arith;
      walked = walked_more c.args.spots.now _ _ c.args.start c.loop-i.i c.look-spot.result c.look-spot.ensures.value up c.loop-i.invariant.walked;
    }

pub returns-then-not-is_up_to-clause-found : goal.returns-then-not-is_up_to-clause-found
returns-then-not-is_up_to-clause-found g c south end from to =
    let column = to_z-of_z w64 c.args.column c.ranges.column in
    let north = to_z-of_z w64 c.args.north c.ranges.north in
    let walked = walked_same c.args.column c.args.north _ _ c.args.spots.now c.args.start c.loop-i.i column north c.loop-i.invariant.walked in
    let up : is_up_to (to_z w64 (of_z w64 c.args.column)) (to_z w64 (of_z w64 c.args.north)) c.look-spot.result ≡ false = cc in
    let past = up_to_same c.args.column c.args.north _ _ c.look-spot.result false column north up in
    let i = walked_to c.args.spots.now c.args.column south c.args.north c.args.start c.loop-i.i end from to c.loop-i.invariant.low c.loop-i.invariant.small walked
    (inr (λ d. subst (λ s. is_up_to c.args.column c.args.north s ≡ false) (c.look-spot.ensures.value d) past)) in
    subst (λ n. c.loop-i.out.items ≡ c.args.out.now.items ++ map (λ s. s.index) (filter (is_spot_inside c.args.area.now) (take n (drop c.args.start c.args.spots.now)))) i c.loop-i.invariant.found

pub returns-then-not-is_up_to-clause-steps : goal.returns-then-not-is_up_to-clause-steps
returns-then-not-is_up_to-clause-steps g c south end from to =
    let column = to_z-of_z w64 c.args.column c.ranges.column in
    let north = to_z-of_z w64 c.args.north c.ranges.north in
    let walked = walked_same c.args.column c.args.north _ _ c.args.spots.now c.args.start c.loop-i.i column north c.loop-i.invariant.walked in
    let i = walked_within c.args.spots.now c.args.column south c.args.north c.args.start c.loop-i.i end from to c.loop-i.invariant.low c.loop-i.invariant.small walked in
    omega (arith, i, c.loop-i.invariant.steps)

pub returns-in_err-take_inside-clause-steps : goal.returns-in_err-take_inside-clause-steps
returns-in_err-take_inside-clause-steps g c south end from to =
    let column = to_z-of_z w64 c.args.column c.ranges.column in
    let north = to_z-of_z w64 c.args.north c.ranges.north in
    let walked = walked_same c.args.column c.args.north _ _ c.args.spots.now c.args.start c.loop-i.i column north c.loop-i.invariant.walked in
    let i = walked_within c.args.spots.now c.args.column south c.args.north c.args.start c.loop-i.i end from to c.loop-i.invariant.low c.loop-i.invariant.small walked in
    omega (arith, i, c.loop-i.invariant.steps)

pub returns-clause-found : goal.returns-clause-found
returns-clause-found g c south end from to =
    let column = to_z-of_z w64 c.args.column c.ranges.column in
    let north = to_z-of_z w64 c.args.north c.ranges.north in
    let walked = walked_same c.args.column c.args.north _ _ c.args.spots.now c.args.start c.loop-i.i column north c.loop-i.invariant.walked in
    let i = walked_to c.args.spots.now c.args.column south c.args.north c.args.start c.loop-i.i end from to c.loop-i.invariant.low c.loop-i.invariant.small walked (inl (omega arith)) in
    subst (λ n. c.loop-i.out.items ≡ c.args.out.now.items ++ map (λ s. s.index) (filter (is_spot_inside c.args.area.now) (take n (drop c.args.start c.args.spots.now)))) i c.loop-i.invariant.found

pub returns-clause-steps : goal.returns-clause-steps
returns-clause-steps g c south end from to =
    let column = to_z-of_z w64 c.args.column c.ranges.column in
    let north = to_z-of_z w64 c.args.north c.ranges.north in
    let walked = walked_same c.args.column c.args.north _ _ c.args.spots.now c.args.start c.loop-i.i column north c.loop-i.invariant.walked in
    let i = walked_within c.args.spots.now c.args.column south c.args.north c.args.start c.loop-i.i end from to c.loop-i.invariant.low c.loop-i.invariant.small walked in
    omega (arith, i, c.loop-i.invariant.steps)
