use Rattle.std.proofs.Common.{sym, subst, All, ◌<◌, length}
use Rattle.brace_herd.specs.declared.asking.Asked.{Asked}
use Rattle.brace_herd.specs.inner.Asked.{AreAsked}
use Rattle.brace_herd.proofs.AskedLemmas.{asked_at, within_moved, asked_moved, hears_moved}
use Rattle.brace_herd.proofs.asking.Scene.ask_some.Goals as goal

pub ask_each-requires-clause-placed : goal.ask_each-requires-clause-placed
ask_each-requires-clause-placed c =
    let held = c.args.self.now.held.now in
    subst (All (λ (one : Asked). one.place < length held)) (sym c.as_slice.ensures.value)
    (within_moved held c.args.places.now c.in_ok-asked.asked.items c.sort_unstable_by_key.new.self.items c.in_ok-asked.ensures c.requires.placed c.sort_unstable_by_key.ensures.permutation)

pub returns-clause-hears : goal.returns-clause-hears
returns-clause-hears c asking at =
    let scene = c.args.self.now in
    let are = asked_at scene.held.now asking c.args.places.now c.in_ok-asked.asked.items c.in_ok-asked.ensures at in
    let (some, same, others) = asked_moved scene.held.now asking _ _ are c.sort_unstable_by_key.ensures.permutation in
    hears_moved scene c.args.plans.now c.args.hearing.now.room some asking c.args.hearing.now.heard c.ask_each.new.hearing.heard same
    (c.in_ok-ask_each.ensures.hears some (subst (AreAsked scene.held.now some) (sym c.as_slice.ensures.value) others))
