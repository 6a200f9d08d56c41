use Rattle.std.proofs.Common.{rules, int_lt, true, FitsSigned, ◌<ℤ◌, ◌≡◌, ◌+◌, ◌*◌, ℤ, pos, ◌+ℤ◌, ◌≤ℤ◌, length, arith, sym, subst, to_z, of_z}
use Rattle.std.proofs.Math.Facts.{sfits_to_z}
use Rattle.std.specs.Int.{w64}
use Rattle.std.proofs.lemmas.Int.{to_z-of_z, ints}
use Rattle.brace_grid.specs.Grids.{digits}
use Rattle.brace_grid.proofs.Blocks.{IsGathered, gathered_none, gathered_more, gathered_stop, gathered_all, gathered_steps}
use Rattle.brace_grid.proofs.search.gather_block.Goals as goal

pub loop-column-init : goal.loop-column-init
loop-column-init g c =
    let block = c.args.block.now in
    let each = 2 * (1 + digits (length c.args.layout.now.cells)) in
    let west : block.west ≡ to_z w64 (of_z w64 block.west) = search (rules, to_z-of_z, ints) in
    subst (IsGathered block c.args.area.now c.args.layout.now.spots each c.args.out.now.items c.args.out.now.items c.args.steps.now c.args.steps.now) west
    (gathered_none block c.args.area.now c.args.layout.now.spots each c.args.out.now.items c.args.steps.now)

pub returns-in_err-gather_column-clause-steps : goal.returns-in_err-gather_column-clause-steps
returns-in_err-gather_column-clause-steps g c =
    let block = c.args.block.now in
    let each = 2 * (1 + digits (length c.args.layout.now.cells)) in
    let less : to_z w64 c.loop-column.column-bits ≤ℤ block.east = grind (arith, ints, to_z-of_z, c.requires.east, c.loop-column-test.true) in
    let narrow : block.east ≤ℤ (block.west +ℤ pos 2) = search (rules, c.requires.narrow) in
    let stop = gathered_stop block c.args.area.now c.args.layout.now.spots each c.args.out.now.items c.loop-column.out.items c.args.steps.now c.loop-column.steps _ _ c.loop-column.invariant less narrow c.gather_column.ensures.steps in
    omega (arith, stop)

below_end : (column east : ℤ) {end : ℤ} → end ≡ east +ℤ pos 1 → int_lt column end ≡ true → column ≤ℤ east
below_end column east e less = grind (arith, ints, e, less)

fits_next : (z east : ℤ) → FitsSigned w64 z → z ≤ℤ east → east <ℤ pos 9223372036854775807 → FitsSigned w64 (z +ℤ pos 1)
fits_next z east fits less small = search (rules, ints)

pub loop-column-preserved : goal.loop-column-preserved
loop-column-preserved g c =
    let block = c.args.block.now in
    let each = 2 * (1 + digits (length c.args.layout.now.cells)) in
    let less : to_z w64 c.loop-column.column-bits ≤ℤ block.east = below_end _ _ (search (rules, to_z-of_z, ints)) c.loop-column-test.true in
    let more = gathered_more block c.args.area.now c.args.layout.now.spots each c.args.out.now.items c.loop-column.out.items c.gather_column.new.out.items c.args.steps.now c.loop-column.steps c.gather_column.new.steps _ c.loop-column.invariant less c.in_ok-gather_column.ensures.found c.gather_column.ensures.steps in
    let next : to_z w64 c.loop-column.column-bits +ℤ pos 1 ≡ to_z w64 (of_z w64 (to_z w64 c.loop-column.column-bits +ℤ pos 1)) = sym (to_z-of_z w64 _ (fits_next _ block.east (sfits_to_z c.loop-column.auto.column-fits) less c.requires.east)) in
    subst (IsGathered block c.args.area.now c.args.layout.now.spots each c.args.out.now.items c.gather_column.new.out.items c.args.steps.now c.gather_column.new.steps) next more

pub returns-clause-found : goal.returns-clause-found
returns-clause-found g c =
    let block = c.args.block.now in
    let past : (block.east +ℤ pos 1) ≤ℤ to_z w64 c.loop-column.column-bits = grind (arith, ints, to_z-of_z, c.requires.east, c.loop-column-test.false) in
    gathered_all c.args.block.now c.args.area.now c.args.layout.now.spots _ c.args.out.now.items c.loop-column.out.items c.args.steps.now c.loop-column.steps _ c.loop-column.invariant past

pub returns-clause-steps : goal.returns-clause-steps
returns-clause-steps g c =
    let block = c.args.block.now in
    let past : (block.east +ℤ pos 1) ≤ℤ to_z w64 c.loop-column.column-bits = grind (arith, ints, to_z-of_z, c.requires.east, c.loop-column-test.false) in
    let narrow : block.east ≤ℤ (block.west +ℤ pos 2) = search (rules, c.requires.narrow) in
    let all = gathered_steps c.args.block.now c.args.area.now c.args.layout.now.spots _ c.args.out.now.items c.loop-column.out.items c.args.steps.now c.loop-column.steps _ c.loop-column.invariant past narrow in
    omega (arith, all)
