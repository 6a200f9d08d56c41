use Rattle.std.proofs.Common.{◌≡◌, ◌<◌, ◌∙◌, true, false, eqb, length, ap, subst, arith, rules}
use Rattle.std.proofs.lemmas.Option.{slice_get_within}
use Rattle.brace_wire.specs.Links.{OnLinks, received}
use Rattle.brace_wire.specs.Hope.{all_hope}
use Rattle.brace_wire.proofs.RoundLemmas.{all_quiet, item_there, quiet_more, some_hope, short_at}
use Rattle.brace_wire.proofs.wire_lanes.WireLanes.is_quiet.Goals as goal

pub is_quiet-requires : goal.is_quiet-requires
is_quiet-requires c =
    short_at _ _ c.self.invariant c.loop-link.link-index c.link-item.result
    (item_there _ c.deref-link-items.result.now c.loop-link.link-index c.link-item.result c.deref-link-items.ensures.value c.loop-link-test.true c.link-item.is)

pub returns-then-not-is_quiet-clause-hope : goal.returns-then-not-is_quiet-clause-hope
returns-then-not-is_quiet-clause-hope c _ =
    let differ : eqb c.link-item.result.put (received c.link-item.result.receiver) ≡ false = search rules in
    subst (λ (v : OnLinks). 0 < all_hope v) c.self.view_is
    (some_hope _ _ c.self.invariant c.loop-link.link-index c.link-item.result
    (item_there _ c.deref-link-items.result.now c.loop-link.link-index c.link-item.result c.deref-link-items.ensures.value c.loop-link-test.true c.link-item.is) differ)

pub loop-link-preserved : goal.loop-link-preserved
loop-link-preserved c =
    let quiet : eqb c.link-item.result.put (received c.link-item.result.receiver) ≡ true = search rules in
    quiet_more c.args.self.now.links c.loop-link.link-index c.link-item.result c.loop-link.invariant
    (item_there c.args.self.now.links c.deref-link-items.result.now c.loop-link.link-index c.link-item.result (c.deref-link-items.ensures.value ∙ ap (λ (v : OnLinks). v.links) c.self.view_is) c.loop-link-test.true c.link-item.is)
    quiet

pub returns-clause-quiet : goal.returns-clause-quiet
returns-clause-quiet c _ =
    all_quiet c.args.self.now (λ i link at.
    let all = ap length (c.deref-link-items.ensures.value ∙ ap (λ (v : OnLinks). v.links) c.self.view_is) in
    c.loop-link.invariant i link (omega (arith, slice_get_within c.args.self.now.links i link at, c.loop-link-test.false, all)) at)
