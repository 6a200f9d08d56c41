use Rattle.std.proofs.Common.{rules}
use Rattle.brace_wire.proofs.StreamLemmas.{behind_is_shorter, read_more, stops_broken}
use Rattle.brace_wire.proofs.decoder.read_frames.Goals as goal

pub returns-in-Err-Bad-clause-leaves_off : goal.returns-in-Err-Bad-clause-leaves_off
returns-in-Err-Bad-clause-leaves_off c =
    let split = c.in-Some in
    stops_broken c.args.types.now c.args.bytes.now c.loop-body.rest.now split.body.now split.behind.now c.args.out.now.items c.loop-body.out.items c.loop-body.invariant split.ensures.whole split.ensures.short split.ensures.parts
    (c.read_frame.ensures.none (search (c.in-Err-Bad.is, c.in-Err-Bad.field-0-is, rules)))

pub loop-body-smaller : goal.loop-body-smaller
loop-body-smaller c = behind_is_shorter c.loop-body.rest.now c.in-Some.body.now c.in-Some.behind.now c.in-Some.ensures.parts

pub loop-body-preserved : goal.loop-body-preserved
loop-body-preserved c =
    let split = c.in-Some in
    let f = c.in-Ok.f in
    read_more c.args.types.now c.args.bytes.now c.loop-body.rest.now split.body.now split.behind.now c.args.out.now.items c.loop-body.out.items c.push.new.self.items f c.loop-body.invariant c.in_ok-push-in-Ok.ensures.items
    split.ensures.parts c.in-Ok.ensures.same (c.in-Ok.ensures.found split.ensures.short)
