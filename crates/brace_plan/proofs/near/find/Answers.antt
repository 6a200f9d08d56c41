use Rattle.std.proofs.Common.{sym, subst, All, get_or}
use Rattle.brace_plan.specs.inner.Walks.{scope_at, AreWithin, HaveTaken, IsInSight}
use Rattle.brace_plan.proofs.NearLemmas.{all-within, all-taken, inside-within, inside-taken, inside-sight}
use Rattle.brace_plan.proofs.near.find.Goals as goal

pub returns-in_ok-probed-in-Some-clause-within : goal.returns-in_ok-probed-in-Some-clause-within
returns-in_ok-probed-in-Some-clause-within c =
    subst (AreWithin c.args.scene.now) (sym c.in_ok-probed-in-Some.ensures) (inside-within c.args.scene.now c.requires c.in-Some.area)

pub returns-in_ok-probed-in-Some-clause-taken : goal.returns-in_ok-probed-in-Some-clause-taken
returns-in_ok-probed-in-Some-clause-taken c seed class =
    let scope = scope_at c.args.scene.now c.args.seat.now seed c.args.locals.now in
    subst (HaveTaken c.args.scene.now scope class c.args.bounds.now) (sym c.in_ok-probed-in-Some.ensures)
    (inside-taken c.args.scene.now scope class c.args.bounds.now c.requires c.in-Some.area (c.in-Some.ensures.holds seed))

pub returns-in_ok-probed-in-Some-clause-sight : goal.returns-in_ok-probed-in-Some-clause-sight
returns-in_ok-probed-in-Some-clause-sight c told d =
    let scene = c.args.scene.now in
    let this = c.args.seat.now.this.agent.now in
    subst (All (λ i. IsInSight scene this (get_or scene.agents.now i d))) (sym c.in_ok-probed-in-Some.ensures)
    (inside-sight scene c.requires c.in-Some.area this d c.in-Some.ensures.sight)

pub returns-in_ok-every-in-None-clause-within : goal.returns-in_ok-every-in-None-clause-within
returns-in_ok-every-in-None-clause-within c =
    subst (AreWithin c.args.scene.now) (sym c.in_ok-every-in-None.ensures) (all-within c.args.scene.now)

pub returns-in_ok-every-in-None-clause-taken : goal.returns-in_ok-every-in-None-clause-taken
returns-in_ok-every-in-None-clause-taken c seed class =
    let scope = scope_at c.args.scene.now c.args.seat.now seed c.args.locals.now in
    subst (HaveTaken c.args.scene.now scope class c.args.bounds.now) (sym c.in_ok-every-in-None.ensures) (all-taken c.args.scene.now scope class c.args.bounds.now)
