use Rattle.std.proofs.Common.{◌≡◌, ◌∙◌, ◌++◌, ℕ, List, [], ap, refl, rules, take}
use Rattle.std.specs.Vec.{with_items}
use Rattle.std.proofs.lemmas.List.{with_items_is}
use Rattle.brace_fold.specs.inner.Sights.{found_in, spots_along}
use Rattle.brace_fold.proofs.Looks.{found_runs}
use Rattle.brace_fold.proofs.glancing.Glance.look_around.Goals as goal

pub returns : goal.returns
returns c = λ spots eye looked clear.
    let runs = c.args.runs.now in
    let is = c.in_ok-square.ensures eye looked in
    let start = c.make_room.new.rows.items in
    let one = c.scan-first.new.out in
    let two = c.scan-second.new.out in
    let room = c.make_room.new.rows in
    let past_west : c.deref_mut-2.result.now ≡ one =
    c.deref_mut-2.ensures.value ∙ with_items_is room one (search rules) in
    let past_middle : c.deref_mut-3.result.now ≡ two =
    c.deref_mut-3.ensures.value ∙ with_items_is (with_items room one) two (search rules) in
    let first = c.scan-first.ensures.found spots eye is clear.west
    ∙ ap (λ l. take c.args.from l ++ found_in eye [] (spots_along runs.west spots))
    c.deref_mut.ensures.value in
    let second = c.scan-second.ensures.found spots eye is clear.middle
    ∙ ap (λ l. take c.scan-first.result l ++ found_in eye [] (spots_along runs.middle spots))
    past_west in
    let third = c.scan.ensures.found spots eye is clear.east
    ∙ ap (λ l. take c.scan-second.result l ++ found_in eye [] (spots_along runs.east spots))
    past_middle in
    let new : List ℕ = (with_items (with_items (with_items room one) two) c.scan.new.out).items in
    let last : new ≡ c.scan.new.out =
    with_items_is (with_items (with_items room one) two) c.scan.new.out (search rules) in
    found_runs eye spots runs (spots_along runs.west spots) (spots_along runs.middle spots)
    (spots_along runs.east spots) c.args.from c.scan-first.result c.scan-second.result
    c.scan.result c.args.near.now.items start one two new refl refl refl
    (c.in_ok-make_room.ensures.kept c.args.from c.requires.from) first second
    (ap (take c.scan.result) last ∙ third) (search rules)
