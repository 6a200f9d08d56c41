use Rattle.std.proofs.Common.{◌++◌, subst, ℕ, List, pos, sym}
use Rattle.std.proofs.lemmas.List.Sorted.{IsPermutation-trans}
use Rattle.brace_num.specs.declared.kinds.Area.{Area}
use Rattle.brace_pieces.specs.Owned.{owned, owns}
use Rattle.brace_herd.specs.Placed.{ArePlaces}
use Rattle.brace_herd.specs.inner.Near.{AreNear}
use Rattle.brace_herd.proofs.AskedLemmas.{filter_moved}
use Rattle.brace_herd.proofs.CellLemmas.{both_moved, stored_so}
use Rattle.brace_herd.proofs.NearLemmas.{owned_near}
use Rattle.brace_herd.proofs.near.settled.Goals as goal

pub returns : goal.returns
returns c agents these stored rises moved lawful =
    let program = c.args.program.now in
    let cuts = c.args.cuts.now in
    let part = c.args.part in
    let more = c.args.more.now in
    let those = stored.those in
    let near =
    subst (λ (area : Area). AreNear program area (pos 0) those those c.in_ok-stay.stay.items)
    c.area.ensures
    (c.in_ok-stay.ensures _ (pos 0) those c.widened.ensures stored.listed.moved) in
    let mine = owned_near cuts c.requires.cuts part c.requires.part program those near.fit in
    let stay = subst (ArePlaces those (owned program cuts part those))
    (sym {A = List ℕ} c.deref.ensures.value)
    (subst (λ l. ArePlaces those l c.in_ok-stay.stay.items) mine near.are) in
    let kept = owned program cuts part those in
    let left = c.in_ok-these.ensures those (owns program cuts part) stored.listed.moved stay in
    stored_so program these (kept ++ more) c.in_ok-all.all rises
    (IsPermutation-trans these (owned program cuts part agents ++ more) (kept ++ more) moved
    (both_moved (owned program cuts part agents) kept more
    (filter_moved (owns program cuts part) agents those stored.same)))
    (c.in_ok-all.ensures.rows kept left) c.in_ok-all.ensures.listed lawful
