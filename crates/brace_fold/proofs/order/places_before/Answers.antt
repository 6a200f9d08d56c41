use Rattle.std.proofs.Common.{◌≡◌, ◌<◌, ◌≤◌, Some, filter, get_or, length, refl, rules, slice_get, subst}
use Rattle.std.specs.Prelude.{nat_lt}
use Rattle.std.proofs.lemmas.List.{get_or_default, take_all}
use Rattle.std.proofs.lemmas.Option.{slice_get_read}
use Rattle.brace_fold.specs.Rows.{IsPicked}
use Rattle.brace_fold.proofs.MoveLemmas.{before-more}
use Rattle.brace_fold.proofs.order.places_before.Goals as goal

pub loop-place-preserved : goal.loop-place-preserved
loop-place-preserved c =
    let order = c.args.order.now in
    let place = c.loop-place.place in
    let row = get_or order place 0 in
    let low : place < length order = search rules in
    let there : slice_get order place ≡ Some row =
    slice_get_read order _ place row refl low (get_or_default order place 0 row low) in
    rw c.in_ok-add_row.ensures (before-more order c.loop-place.places.items c.args.count place
    row low there c.loop-place.invariant)

pub returns : goal.returns
returns c =
    let order = c.args.order.now in
    let end : length order ≤ c.loop-place.place = search rules in
    subst (λ l. IsPicked c.loop-place.places.items order (filter (λ r. nat_lt r c.args.count) l))
    (take_all c.loop-place.place order end) c.loop-place.invariant
