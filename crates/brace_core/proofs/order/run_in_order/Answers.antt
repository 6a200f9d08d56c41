use Rattle.std.proofs.Common.{get_or, refl, ap}
use Rattle.brace_core.proofs.OrderLemmas.{running_start, setting_here, counted_here, running_smaller, running_more, running_stands}
use Rattle.brace_core.proofs.order.run_in_order.Goals as goal

pub loop-number-init : goal.loop-number-init
loop-number-init g c = running_start g.A.Actor.setting g.A.Actor.number g.A.Actor.past g.A.Actor.opening g.F.Freight.schedule c.args.end c.args.lanes.now.setting c.args.order c.args.actors.now c.args.lanes.now
    c.new-generator.result c.requires.lawful refl c.requires.lanes_for c.requires.settings c.requires.numbers c.requires.start c.new-generator.ensures

pub make_turn-requires-clause-setting : goal.make_turn-requires-clause-setting
make_turn-requires-clause-setting g c κs within =
    setting_here g.A.Actor.setting g.A.Actor.number g.A.Actor.past g.A.Actor.opening g.F.Freight.schedule c.args.end c.args.lanes.now.setting c.args.order c.args.actors.now c.args.lanes.now
    c.requires.lawful c.loop-number.actors c.loop-number.lanes c.loop-number.generator c.loop-number.invariant
    c.draw.new.self c.draw.result c.in-Some.number c.draw.ensures.next c.draw.ensures.drawn c.in-Some.ensures.first
    (get_or c.loop-number.actors c.in-Some.number c.index-actors-number.result) (ap (get_or c.loop-number.actors c.in-Some.number) c.index-actors-number.is)

pub make_turn-requires-clause-counted : goal.make_turn-requires-clause-counted
make_turn-requires-clause-counted g c κs within =
    counted_here g.A.Actor.setting g.A.Actor.number g.A.Actor.past g.A.Actor.opening g.F.Freight.schedule c.args.end c.args.lanes.now.setting c.args.order c.args.actors.now c.args.lanes.now
    c.requires.lawful c.loop-number.actors c.loop-number.lanes c.loop-number.generator c.loop-number.invariant
    c.draw.new.self c.draw.result c.in-Some.number c.draw.ensures.next c.draw.ensures.drawn c.in-Some.ensures.first
    (get_or c.loop-number.actors c.in-Some.number c.index-actors-number.result) (ap (get_or c.loop-number.actors c.in-Some.number) c.index-actors-number.is)

pub loop-number-smaller : goal.loop-number-smaller
loop-number-smaller g c =
    running_smaller g.A.Actor.setting g.A.Actor.number g.A.Actor.past g.A.Actor.opening g.F.Freight.schedule c.args.end c.args.lanes.now.setting c.args.order c.args.actors.now c.args.lanes.now
    c.requires.lawful c.loop-number.actors c.loop-number.lanes c.loop-number.generator c.loop-number.invariant
    c.draw.new.self c.draw.result c.in-Some.number c.draw.ensures.next c.draw.ensures.drawn c.in-Some.ensures.first
    (get_or c.loop-number.actors c.in-Some.number c.index-actors-number.result) (ap (get_or c.loop-number.actors c.in-Some.number) c.index-actors-number.is)
    c.make_turn.new.actor c.make_turn.new.exchange c.make_turn.result c.make_turn.ensures.went c.make_turn.ensures.same_setting c.make_turn.ensures.same_number

pub loop-number-preserved : goal.loop-number-preserved
loop-number-preserved g c =
    running_more g.A.Actor.setting g.A.Actor.number g.A.Actor.past g.A.Actor.opening g.F.Freight.schedule c.args.end c.args.lanes.now.setting c.args.order c.args.actors.now c.args.lanes.now
    c.requires.lawful c.loop-number.actors c.loop-number.lanes c.loop-number.generator c.loop-number.invariant
    c.draw.new.self c.draw.result c.in-Some.number c.draw.ensures.next c.draw.ensures.drawn c.in-Some.ensures.first
    (get_or c.loop-number.actors c.in-Some.number c.index-actors-number.result) (ap (get_or c.loop-number.actors c.in-Some.number) c.index-actors-number.is)
    c.make_turn.new.actor c.make_turn.new.exchange c.make_turn.result c.make_turn.ensures.went c.make_turn.ensures.same_setting c.make_turn.ensures.same_number
    c.make_turn.ensures.same_opening c.make_turn.ensures.same c.make_turn.ensures.kept c.make_turn.ensures.put c.make_turn.ensures.taken

pub returns-clause-stands : goal.returns-clause-stands
returns-clause-stands g c =
    running_stands g.A.Actor.setting g.A.Actor.number g.A.Actor.past g.A.Actor.opening g.F.Freight.schedule c.args.end c.args.lanes.now.setting c.args.order c.args.actors.now c.args.lanes.now
    c.requires.lawful c.loop-number.actors c.loop-number.lanes c.loop-number.generator c.loop-number.invariant c.draw.result c.in_default.ensures.none
