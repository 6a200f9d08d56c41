use Rattle.std.proofs.Common.{rules, ◌≡◌, ◌∙◌, ◌+◌, pos, ◌≤ℤ◌, ◌+ℤ◌, ℕ, ℤ, Bool, [], sym, ap, subst, arith, to_z, of_z}
use Rattle.std.specs.Int.{w64}
use Rattle.std.specs.List.{count_by}
use Rattle.std.proofs.lemmas.Int.{ints, to_z-of_z}
use Rattle.brace_grid.specs.inner.Layout.{IsLayoutOf}
use Rattle.brace_grid.specs.inner.Search.{block_of, is_chosen, is_in_block}
use Rattle.brace_grid.proofs.Numbers.{number_near}
use Rattle.brace_grid.proofs.Probes.{probe_found, looks_within}
use Rattle.brace_grid.proofs.grid.Grid.probe.Goals as goal

some_side : (side : ℤ) → pos 1000000 ≤ℤ side → pos 1 ≤ℤ side
some_side side h = omega (arith, ints, h)

pub gather_block-requires-clause-narrow : goal.gather_block-requires-clause-narrow
gather_block-requires-clause-narrow g c =
    let grid = c.args.self.now in
    let area = c.args.area.now in
    let whole : to_z w64 (of_z w64 c.self.inside.side) ≡ c.self.inside.side = search (rules, to_z-of_z) in
    let block : c.block_of-block.result ≡ block_of grid.side area = c.block_of-block.ensures.block ∙ ap (λ z. block_of z area) (whole ∙ ap (λ v. v.side) c.self.view_is) in
    let some : pos 1 ≤ℤ grid.side = some_side grid.side (subst (λ v. pos 1000000 ≤ℤ v.side) c.self.view_is c.self.invariant.0) in
    subst (λ b. b.east ≤ℤ (b.west +ℤ pos 2)) (sym block) (number_near grid.side some area.x0 area.x1 c.requires.wide)

pub returns-in_err-gather_block-clause-looks : goal.returns-in_err-gather_block-clause-looks
returns-in_err-gather_block-clause-looks g c =
    looks_within c.args.self.now _ c.args.area.now c.self.inside.layout.spots c.self.inside.layout.cells _ _ c.self.view_is c.self.invariant.1 (search (rules, to_z-of_z)) c.block_of-block.ensures.block _ _ c.gather_block.ensures.steps

pub returns-clause-looks : goal.returns-clause-looks
returns-clause-looks g c =
    looks_within c.args.self.now _ c.args.area.now c.self.inside.layout.spots c.self.inside.layout.cells _ _ c.self.view_is c.self.invariant.1 (search (rules, to_z-of_z)) c.block_of-block.ensures.block _ _ c.gather_block.ensures.steps

pub returns-clause-found : goal.returns-clause-found
returns-clause-found g c =
    let grid = c.args.self.now in
    let area = c.args.area.now in
    let spots = c.self.inside.layout.spots in
    let cells = c.self.inside.layout.cells in
    let out = c.gather_block.new.out.items in
    let whole : to_z w64 (of_z w64 c.self.inside.side) ≡ c.self.inside.side = search (rules, to_z-of_z) in
    let block : c.block_of-block.result ≡ block_of grid.side area = c.block_of-block.ensures.block ∙ ap (λ z. block_of z area) (whole ∙ ap (λ v. v.side) c.self.view_is) in
    let some : pos 1 ≤ℤ grid.side = some_side grid.side (subst (λ v. pos 1000000 ≤ℤ v.side) c.self.view_is c.self.invariant.0) in
    let lay : IsLayoutOf grid.side grid.places spots cells = subst (λ v. IsLayoutOf v.side v.places spots cells) c.self.view_is c.self.invariant.1 in
    let found : (q : ℕ → Bool) → count_by q out ≡ count_by q [] + count_by (is_chosen (is_in_block (block_of grid.side area)) area q) spots =
    λ q. c.in_ok-gather_block.ensures.found q ∙ ap (λ l. count_by q l + count_by (is_chosen (is_in_block c.block_of-block.result) area q) spots) c.clear.ensures.items
    ∙ ap (λ b. count_by q [] + count_by (is_chosen (is_in_block b) area q) spots) block in
    probe_found grid area spots cells lay some out c.sort_unstable.new.self.items found c.sort_unstable.ensures.permutation c.sort_unstable.ensures.sorted
