use Rattle.std.proofs.Common.{◌≡◌, ◌∙◌, Err, ap, rules, arith}
use Rattle.brace_wire.specs.declared.fault.WireFault.TheVariants as fault
use Rattle.brace_wire.specs.Streams.{Waiting}
use Rattle.brace_wire.proofs.FeedLemmas.{fed_none, fed_more, never_broken, fed_all, take_on}
use Rattle.brace_wire.proofs.carrier.feed_in_pieces.Goals as goal

pub loop-fed-init : goal.loop-fed-init
loop-fed-init c = fed_none c.args.bytes.now c.args.out.now.items c.args.decoder.now c.requires.rest

pub loop-fed-preserved : goal.loop-fed-preserved
loop-fed-preserved c =
    fed_more c.args.decoder.now.types c.args.bytes.now c.loop-fed.fed c.min-end.result c.args.out.now.items c.loop-fed.out.items c.feed.new.out.items c.loop-fed.decoder c.feed.new.self
    c.loop-fed.invariant _ (take_on c.args.bytes.now c.loop-fed.fed c.min-end.result (omega (arith, c.min-end.ensures, c.loop-fed-test.true)))
    c.in-Ok.ensures.read c.in-Ok.ensures.partial (omega (arith, c.min-end.ensures))

pub unreachable-requires : goal.unreachable-requires
unreachable-requires c =
    let (frames, whole) = c.requires.whole in
    let so_far = c.loop-fed.invariant in
    let is : c.feed.result ≡ Err (fault.BadFrame c.in-Err-BadFrame.field-0-0) = search rules in
    never_broken c.args.decoder.now.types c.args.bytes.now c.loop-fed.fed c.min-end.result c.args.out.now.items c.loop-fed.out.items c.feed.new.out.items c.loop-fed.decoder c.feed.new.self
    so_far _ (take_on c.args.bytes.now c.loop-fed.fed c.min-end.result (omega (arith, c.min-end.ensures, c.loop-fed-test.true)))
    (c.feed.ensures.bad c.in-Err-BadFrame.field-0-0 is so_far.partial) frames whole (c.feed.ensures.broken c.in-Err-BadFrame.field-0-0 is) (omega (arith, c.min-end.ensures))

pub returns-in-Err-NoMemory-clause-types : goal.returns-in-Err-NoMemory-clause-types
returns-in-Err-NoMemory-clause-types c =
    let is : c.feed.result ≡ Err fault.NoMemory = search rules in
    ap (λ (d : Waiting). d.types) (c.feed.ensures.kept is) ∙ c.loop-fed.invariant.types_same

pub returns-clause-read : goal.returns-clause-read
returns-clause-read c = fed_all c.args.decoder.now.types c.args.bytes.now c.loop-fed.fed c.args.out.now.items c.loop-fed.out.items c.loop-fed.decoder c.loop-fed.invariant (omega (arith, c.loop-fed-test.false))

pub returns-clause-types : goal.returns-clause-types
returns-clause-types c = c.loop-fed.invariant.types_same
