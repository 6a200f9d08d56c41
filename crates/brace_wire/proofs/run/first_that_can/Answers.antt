use Rattle.std.proofs.Common.{◌∙◌, ◌+◌, ◌%◌, ◌<◌, map, true, false, arith}
use Rattle.brace_core.specs.Schedule.{front}
use Rattle.brace_core.proofs.ActorLemmas.{count, turn_is, found_first, passed_more}
use Rattle.brace_pieces.specs.Steps.{schedule}
use Rattle.brace_wire.specs.inner.Going.{can_go_on}
use Rattle.brace_wire.proofs.RunLemmas.{said_of}
use Rattle.brace_wire.proofs.run.first_that_can.Goals as goal

pub offset_bounds-actors-number : goal.offset_bounds-actors-number
offset_bounds-actors-number g c = omega (arith, count g.A.Actor.setting g.A.Actor.number g.A.Actor.past schedule c.args.actors.now c.args.lanes.now.setting c.args.lanes.now.actors c.requires.settings c.requires.numbers)

pub bounds-actors-number : goal.bounds-actors-number
bounds-actors-number g c = omega (arith, count g.A.Actor.setting g.A.Actor.number g.A.Actor.past schedule c.args.actors.now c.args.lanes.now.setting c.args.lanes.now.actors c.requires.settings c.requires.numbers)

pub returns-then-is_free-clause-below : goal.returns-then-is_free-clause-below
returns-then-is_free-clause-below g c = omega (arith, count g.A.Actor.setting g.A.Actor.number g.A.Actor.past schedule c.args.actors.now c.args.lanes.now.setting c.args.lanes.now.actors c.requires.settings c.requires.numbers)

pub returns-then-is_free-clause-first : goal.returns-then-is_free-clause-first
returns-then-is_free-clause-first g c =
    let low : (c.args.drawn + c.loop-i.i) % c.actors-count.result < c.args.lanes.now.actors = omega arith in
    let turn = turn_is g.A.Actor.setting g.A.Actor.number g.A.Actor.past (λ s. front (schedule s) c.args.end) c.args.actors.now c.args.lanes.now.setting c.args.lanes.now.actors c.requires.settings c.requires.numbers
    _ low c.index-actors-number.result c.index-actors-number.is in
    found_first (can_go_on (front (schedule c.args.lanes.now.setting) c.args.end) c.args.lanes.now (map g.A.Actor.past c.args.actors.now))
    c.args.lanes.now.actors c.actors-count.result c.args.drawn c.loop-i.i c.actors-count.ensures.count c.loop-i-test.true c.loop-i.invariant
    (said_of c.args.lanes.now _ _ c.is_free.result true (c.next.ensures ∙ turn) c.is_free.ensures c.if-is_free.true)

pub loop-i-preserved : goal.loop-i-preserved
loop-i-preserved g c =
    let low : (c.args.drawn + c.loop-i.i) % c.actors-count.result < c.args.lanes.now.actors = omega arith in
    let turn = turn_is g.A.Actor.setting g.A.Actor.number g.A.Actor.past (λ s. front (schedule s) c.args.end) c.args.actors.now c.args.lanes.now.setting c.args.lanes.now.actors c.requires.settings c.requires.numbers
    _ low c.index-actors-number.result c.index-actors-number.is in
    passed_more (can_go_on (front (schedule c.args.lanes.now.setting) c.args.end) c.args.lanes.now (map g.A.Actor.past c.args.actors.now))
    c.args.lanes.now.actors c.actors-count.result c.args.drawn c.loop-i.i c.actors-count.ensures.count c.loop-i-test.true c.loop-i.invariant
    (said_of c.args.lanes.now _ _ c.is_free.result false (c.next.ensures ∙ turn) c.is_free.ensures c.if-is_free.false)
