use Rattle.std.proofs.Common.{rules, ◌≡◌, ◌∙◌, ap, sym, slice_get, List, Some, refl, to_z, of_z, w64}
use Rattle.std.proofs.lemmas.Int.{to_z-of_z}
use Rattle.std.proofs.lemmas.Option.{slice_get_read}
use Rattle.brace_model.specs.declared.program.Class.{Class}
use Rattle.brace_fold.specs.inner.Sights.{cell_number}
use Rattle.brace_fold.proofs.Spottings.{is-known, spot-is}
use Rattle.brace_fold.proofs.spotting.spot_in.Goals as goal

pub returns-clause-known : goal.returns-clause-known
returns-clause-known c = λ agents a are at.
    let own = c.in-Some-get.own.now in
    let class = c.in-Some.class in
    let has : slice_get c.as_slice.result.now class ≡ Some own =
    slice_get_read c.as_slice.result.now _ class own refl c.in-Some-get.ensures.lookup.3.0
    c.in-Some-get.ensures.lookup.1 in
    is-known agents c.args.columns.now are c.args.row a at c.args.program.now
    class own c.in-Some.ensures
    (ap (λ (l : List Class). slice_get l class) (sym c.as_slice.ensures) ∙ has)

pub returns-clause-spot : goal.returns-clause-spot
returns-clause-spot c = λ agents a are at.
    let own = c.in-Some-get.own.now in
    let class = c.in-Some.class in
    let has : slice_get c.as_slice.result.now class ≡ Some own =
    slice_get_read c.as_slice.result.now _ class own refl c.in-Some-get.ensures.lookup.3.0
    c.in-Some-get.ensures.lookup.1 in
    let x : to_z w64 (of_z w64 c.in_ok-x.x) ≡ c.in_ok-x.x = search (rules, to_z-of_z) in
    let y : to_z w64 (of_z w64 c.in_ok-y.y) ≡ c.in_ok-y.y = search (rules, to_z-of_z) in
    let cell : to_z w64 (of_z w64 c.in-Some-cell_number.cell) ≡ c.in-Some-cell_number.cell =
    search (rules, to_z-of_z) in
    let number = cell ∙ c.in-Some-cell_number.ensures
    ∙ ap (λ s. cell_number s (to_z w64 (of_z w64 c.in_ok-x.x)) (to_z w64 (of_z w64 c.in_ok-y.y)))
    (to_z-of_z w64 c.args.side c.ranges.side) in
    spot-is agents c.args.columns.now are c.args.row a at c.args.program.now
    class own c.in-Some.ensures
    (ap (λ (l : List Class). slice_get l class) (sym c.as_slice.ensures) ∙ has) c.args.side _ _ _
    (x ∙ c.in_ok-x.ensures agents a are at) (y ∙ c.in_ok-y.ensures agents a are at) number
