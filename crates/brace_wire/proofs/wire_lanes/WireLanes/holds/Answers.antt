use Rattle.std.proofs.Common.{◌∙◌, arith}
use Rattle.brace_wire.proofs.RoundLemmas.{item_there, none_there, held_is, none_held}
use Rattle.brace_wire.proofs.wire_lanes.WireLanes.holds.Goals as goal

pub returns-then-self-to : goal.returns-then-self-to
returns-then-self-to c = none_held _ c.args.self.now c.self.view_is c.args.name.from c.args.name.to (λ low. absurd (omega (arith, low, c.if-self-to.true)))

pub returns-in-Some : goal.returns-in-Some
returns-in-Some c =
    c.holds.ensures
    ∙ held_is _ c.args.self.now c.self.view_is c.args.name.from c.args.name.to c.in-Some.link.now c.if-self-to.false
    (item_there _ c.deref.result.now _ c.in-Some.link.now c.deref.ensures.value c.in-Some.ensures.lookup.3.0 c.in-Some.ensures.lookup.1)

pub returns-in-None : goal.returns-in-None
returns-in-None c =
    none_held _ c.args.self.now c.self.view_is c.args.name.from c.args.name.to (λ low. none_there _ c.deref.result.now _ c.deref.ensures.value c.in-None.ensures.lookup.0)
