use Rattle.brace_fold.specs.declared.drawn.Drawn.{Drawn}
use Rattle.brace_fold.specs.inner.Asks.{AreDrawn}
use Rattle.brace_fold.proofs.Drawings.{and-one, drawn-of}
use Rattle.brace_fold.proofs.drawn.drawn_of.Goals as goal

pub loop-rest-preserved : goal.loop-rest-preserved
loop-rest-preserved c = λ agents are.
    let P : Drawn → Type 0 = AreDrawn c.args.seed c.args.tick agents in
    let two = c.in_ok-first in
    let first : P two.first = drawn-of c.args.seed c.args.tick agents two.first
    c.make-drawer.result.seed _ c.args.ids.now c.make-drawer.ensures are two.ensures.sites.0
    two.ensures.first in
    let second : P two.second = drawn-of c.args.seed c.args.tick agents two.second
    c.make-drawer.result.seed _ c.args.ids.now c.make-drawer.ensures are two.ensures.sites.1
    two.ensures.second in
    and-one P _ _ two.second c.in_ok-push-2.ensures.items
    (and-one P _ _ two.first c.in_ok-push.ensures.items (c.loop-rest.invariant agents are) first)
    second

pub loop-last-preserved : goal.loop-last-preserved
loop-last-preserved c = λ agents are.
    let x = c.in_ok-drawn_at.field-0 in
    let P : Drawn → Type 0 = AreDrawn c.args.seed c.args.tick agents in
    let here : P x = drawn-of c.args.seed c.args.tick agents x c.make-drawer.result.seed _
    c.args.ids.now c.make-drawer.ensures are c.in_ok-drawn_at.ensures.site
    c.in_ok-drawn_at.ensures.words in
    and-one P _ _ x c.in_ok-push-3.ensures.items (c.loop-last.invariant agents are) here
