use Rattle.std.proofs.Common.{ℕ, List, sym, subst}
use Rattle.std.proofs.lemmas.Option.{get_or_from_slice_get}
use Rattle.std.proofs.lemmas.List.{take_all}
use Rattle.brace_num.proofs.Lists.{take_next}
use Rattle.brace_herd.specs.Placed.{ArePlaces}
use Rattle.brace_herd.proofs.AskLemmas.{held_at}
use Rattle.brace_herd.proofs.LaneLemmas.{place_more}
use Rattle.brace_herd.proofs.places.all_places.Goals as goal

pub loop-place-preserved : goal.loop-place-preserved
loop-place-preserved c =
    let held = c.args.held.now in
    let i = c.loop-place.place in
    let (a, there, named) = held_at held i c.loop-place-test.true in
    subst (λ xs. ArePlaces held xs c.push.new.self.items) (sym (take_next held i a c.loop-place-test.true (sym (get_or_from_slice_get held i a a there))))
    (subst (ArePlaces held _) (sym {A = List ℕ} c.in_ok-push.ensures.items) (place_more held _ c.loop-place.places.items i a there c.loop-place.invariant))

pub returns : goal.returns
returns c = subst (λ xs. ArePlaces c.args.held.now xs c.loop-place.places.items) (take_all c.loop-place.place c.args.held.now c.loop-place-test.false) c.loop-place.invariant
