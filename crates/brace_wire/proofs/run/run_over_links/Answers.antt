use Rattle.std.proofs.Common.{get_or, refl, ap, arith}
use Rattle.brace_pieces.proofs.ScheduleLemmas.{schedule_lawful}
use Rattle.brace_wire.proofs.RunLemmas.{less_behind, running_start, setting_here, counted_here, running_smaller, running_more, running_round, running_stands}
use Rattle.brace_wire.proofs.run.run_over_links.Goals as goal

pub loop-number-init : goal.loop-number-init
loop-number-init g c = running_start g.A.Actor.setting g.A.Actor.number g.A.Actor.past g.A.Actor.opening c.args.end c.args.lanes.now.setting c.args.lanes.now.fates c.args.actors.now
    c.args.lanes.now refl c.requires.lanes_for refl c.requires.settings c.requires.numbers c.requires.start (let count = c.requires.lanes_for in omega (arith, count))

pub make_turn-requires-clause-lawful : goal.make_turn-requires-clause-lawful
make_turn-requires-clause-lawful g c κs within = schedule_lawful c.loop-number.lanes.setting

pub make_turn-requires-clause-setting : goal.make_turn-requires-clause-setting
make_turn-requires-clause-setting g c κs within =
    setting_here g.A.Actor.setting g.A.Actor.number g.A.Actor.past g.A.Actor.opening c.args.end c.args.lanes.now.setting c.args.lanes.now.fates c.args.actors.now
    c.loop-number.actors c.loop-number.lanes c.loop-number.invariant c.draw.result c.in-Some.number c.in-Some.ensures.first c.in-Some.ensures.received
    (get_or c.loop-number.actors c.in-Some.number c.index-actors-number.result) (ap (get_or c.loop-number.actors c.in-Some.number) c.index-actors-number.is)

pub make_turn-requires-clause-counted : goal.make_turn-requires-clause-counted
make_turn-requires-clause-counted g c κs within =
    counted_here g.A.Actor.setting g.A.Actor.number g.A.Actor.past g.A.Actor.opening c.args.end c.args.lanes.now.setting c.args.lanes.now.fates c.args.actors.now
    c.loop-number.actors c.loop-number.lanes c.loop-number.invariant c.draw.result c.in-Some.number c.in-Some.ensures.first c.in-Some.ensures.received
    (get_or c.loop-number.actors c.in-Some.number c.index-actors-number.result) (ap (get_or c.loop-number.actors c.in-Some.number) c.index-actors-number.is)

pub loop-number-smaller-in-Some : goal.loop-number-smaller-in-Some
loop-number-smaller-in-Some g c =
    running_smaller g.A.Actor.setting g.A.Actor.number g.A.Actor.past g.A.Actor.opening c.args.end c.args.lanes.now.setting c.args.lanes.now.fates c.args.actors.now
    c.loop-number.actors c.loop-number.lanes c.loop-number.invariant c.draw.result c.in-Some.number c.in-Some.ensures.first c.in-Some.ensures.received
    (get_or c.loop-number.actors c.in-Some.number c.index-actors-number.result) (ap (get_or c.loop-number.actors c.in-Some.number) c.index-actors-number.is)
    c.make_turn.new.actor c.make_turn.new.exchange c.make_turn.result c.make_turn.ensures.went c.make_turn.ensures.same_setting c.make_turn.ensures.same_number c.make_turn.ensures.kept

pub loop-number-preserved-in-Some : goal.loop-number-preserved-in-Some
loop-number-preserved-in-Some g c =
    running_more g.A.Actor.setting g.A.Actor.number g.A.Actor.past g.A.Actor.opening c.args.end c.args.lanes.now.setting c.args.lanes.now.fates c.args.actors.now
    c.loop-number.actors c.loop-number.lanes c.loop-number.invariant c.draw.result c.in-Some.number c.in-Some.ensures.first c.in-Some.ensures.received
    (get_or c.loop-number.actors c.in-Some.number c.index-actors-number.result) (ap (get_or c.loop-number.actors c.in-Some.number) c.index-actors-number.is)
    c.make_turn.new.actor c.make_turn.new.exchange c.make_turn.result c.make_turn.ensures.went c.make_turn.ensures.same_setting c.make_turn.ensures.same_number c.make_turn.ensures.kept
    c.make_turn.ensures.same_opening c.make_turn.ensures.same c.make_turn.ensures.put c.make_turn.ensures.taken

pub loop-number-smaller : goal.loop-number-smaller
loop-number-smaller g c = less_behind _ _ _ (c.in_ok-round-in-None-2.ensures.nearer (c.is_quiet.ensures.hope c.if-is_quiet.false))

pub loop-number-preserved : goal.loop-number-preserved
loop-number-preserved g c =
    running_round g.A.Actor.setting g.A.Actor.number g.A.Actor.past g.A.Actor.opening c.args.end c.args.lanes.now.setting c.args.lanes.now.fates c.args.actors.now
    c.loop-number.actors c.loop-number.lanes c.loop-number.invariant c.round.new.self c.round.ensures.setting c.round.ensures.actors c.round.ensures.fates c.round.ensures.put c.round.ensures.taken
    c.in_ok-round-in-None-2.ensures.counted (c.in_ok-round-in-None-2.ensures.nearer (c.is_quiet.ensures.hope c.if-is_quiet.false))

pub returns-in-None-clause-stands : goal.returns-in-None-clause-stands
returns-in-None-clause-stands g c =
    running_stands g.A.Actor.setting g.A.Actor.number g.A.Actor.past g.A.Actor.opening c.args.end c.args.lanes.now.setting c.args.lanes.now.fates c.args.actors.now
    c.loop-number.actors c.loop-number.lanes c.loop-number.invariant c.draw.result c.in-None.ensures.none (c.is_quiet.ensures.quiet c.if-is_quiet.true)
