use Rattle.std.proofs.Common.{◌≡◌, ◌∙◌, Some, ap, refl, rules, slice_get, sym}
use Rattle.std.proofs.lemmas.Option.{get_or_from_slice_get, slice_get_read}
use Rattle.brace_fold.specs.inner.Rulings.{agent_at, child_of}
use Rattle.brace_fold.proofs.Survivings.{born-more}
use Rattle.brace_fold.proofs.leaving.children.Goals as goal

pub loop-k-preserved : goal.loop-k-preserved
loop-k-preserved c =
    let k = c.loop-k.k in
    let lanes = c.args.lanes.now in
    let agents = c.args.agents.now in
    let class = c.args.class.now in
    let gifts = c.args.gifts.now in
    let lane = c.in_ok-lane.lane in
    let parent = c.in-Some.a.now in
    let read : slice_get agents lane.place ≡ Some parent =
    slice_get_read agents _ lane.place parent refl c.in-Some.ensures.lookup.3.0
    c.in-Some.ensures.lookup.1 in
    record {
      long = search rules;
      each = rw c.in_ok-push.ensures.items (born-more class gifts agents lanes
          c.loop-k.born.items k c.in_ok-child.child c.loop-k.invariant.long c.loop-k.invariant.each
          (λ d l. c.in_ok-child.ensures ∙ ap (child_of class gifts k)
          (sym (get_or_from_slice_get agents lane.place parent d read)
          ∙ ap (agent_at agents d)
          (sym (get_or_from_slice_get lanes k lane l c.in_ok-lane.ensures)))));
    }
