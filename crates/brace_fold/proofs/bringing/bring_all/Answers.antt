use Rattle.std.proofs.Common.{◌≡◌, ◌∙◌, ◌<◌, refl, sym, ap, subst, arith, flat_map, get_or, length, rules, take, ℕ, List, Some, slice_get}
use Rattle.std.proofs.lemmas.List.{length-map, take_all}
use Rattle.std.proofs.lemmas.Option.{slice_get-get_or, slice_get_read, slice_get_within}
use Rattle.brace_model.specs.declared.program.Class.{Class}
use Rattle.brace_model.specs.declared.world.Agent.{Agent}
use Rattle.brace_fold.specs.Hears.{Hears}
use Rattle.brace_fold.specs.inner.Joins.{said_of}
use Rattle.brace_fold.specs.Asked.{by_row, no_agent}
use Rattle.brace_fold.proofs.Alikes.{hears-more, hears-none}
use Rattle.brace_fold.proofs.Bringings.{hears-all, order-more}
use Rattle.brace_fold.proofs.Joinings.{row-has}
use Rattle.brace_fold.proofs.Spottings.{of-class}
use Rattle.brace_fold.proofs.bringing.bring_all.Goals as goal

pub loop-k-init : goal.loop-k-init
loop-k-init c = λ agents more are apart told. hears-none c.args.program.now agents c.args.said.now

pub loop-k-preserved : goal.loop-k-preserved
loop-k-preserved c = λ agents more are apart told.
    let program = c.args.program.now in
    let columns = c.args.columns.now in
    let order = c.args.order.now in
    let k = c.loop-k.k in
    let row = c.in-Some.row in
    let old = c.args.said.now in
    let f = said_of program more in
    let at : c.in-Ok.place ≡ k = search rules in
    let x = get_or agents row no_agent in
    let found : slice_get (by_row agents order) c.in-Ok.place ≡ Some x =
    row-has agents order c.in-Ok.place row c.in-Some.ensures in
    let number = c.in-Some-class_in.number in
    let read = c.in-Some-class_in.ensures in
    let low : row < length agents = omega (
      arith,
      slice_get_within columns.classes.now row number read,
      ap length
          are.classes,
      length-map agents (λ (a : Agent). a.class),
    ) in
    let here : slice_get agents row ≡ Some x = slice_get-get_or agents row no_agent low in
    let class = c.in-Some-get.class.now in
    let has : slice_get c.as_slice.result.now number ≡ Some class =
    slice_get_read c.as_slice.result.now _ number class refl c.in-Some-get.ensures.lookup.3.0
    c.in-Some-get.ensures.lookup.1 in
    let of = of-class agents columns are row x here program number class read
    (ap (λ (l : List Class). slice_get l number) (sym c.as_slice.ensures) ∙ has) in
    let next = c.in_ok-bring_agent.ensures program (by_row agents order) agents x more
    apart of found here told in
    let so_far = c.loop-k.invariant agents more are apart told in
    subst (λ l. Hears program agents l old c.bring_agent.new.said)
    (order-more f agents order k row (ap (slice_get order) (sym at) ∙ c.in-Some.ensures))
    (hears-more program agents (flat_map f (by_row agents (take k order))) (f x) old c.loop-k.said
    c.bring_agent.new.said so_far next)

pub returns : goal.returns
returns c = λ agents more are apart perm told.
    let program = c.args.program.now in
    let order = c.args.order.now in
    hears-all program agents more order c.args.said.now c.loop-k.said apart perm
    (subst (λ (l : List ℕ). Hears program agents (flat_map (said_of program more) (by_row agents l))
    c.args.said.now c.loop-k.said)
    (take_all c.loop-k.k order c.loop-k-test.false) (c.loop-k.invariant agents more are apart told))
