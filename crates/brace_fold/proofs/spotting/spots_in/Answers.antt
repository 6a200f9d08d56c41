use Rattle.std.proofs.Common.{◌≡◌, ◌∙◌, ◌<◌, ap, subst, arith, get_or, length, rules, Some, slice_get, to_z, of_z, w64}
use Rattle.std.proofs.lemmas.Int.{to_z-of_z}
use Rattle.std.proofs.lemmas.List.{length-map}
use Rattle.std.proofs.lemmas.Option.{slice_get-get_or}
use Rattle.brace_model.specs.declared.world.Agent.{Agent}
use Rattle.brace_fold.specs.inner.Sights.{spot_of}
use Rattle.brace_fold.proofs.Spottings.{more-known, more-spots}
use Rattle.brace_fold.proofs.spotting.spots_in.Goals as goal

pub loop-i-preserved : goal.loop-i-preserved
loop-i-preserved c =
    let i = c.loop-i.i in
    let side = to_z w64 (of_z w64 c.args.side) in
    let row : c.in-Ok.row ≡ i = search rules in
    record {
      long = search rules;
      room = search rules;
      known = λ agents are.
          let many = ap length are.ids_are ∙ length-map agents (λ (a : Agent). a.id) in
          let low : i < length agents = omega (arith, c.loop-i-test.true, many) in
          let at : (a : Agent) → slice_get agents c.in-Ok.row ≡ Some (get_or agents i a) =
          λ a. ap (slice_get agents) row ∙ slice_get-get_or agents i a low in
          more-known c.args.program.now side agents c.loop-i.spots.items i
          c.in_ok-spot_in.field-0 c.loop-i.invariant.long
          (c.loop-i.invariant.known agents are)
          (λ a. c.in_ok-spot_in.ensures.known agents _ are (at a));
      each = λ agents are.
          let many = ap length are.ids_are ∙ length-map agents (λ (a : Agent). a.id) in
          let low : i < length agents = omega (arith, c.loop-i-test.true, many) in
          let at : (a : Agent) → slice_get agents c.in-Ok.row ≡ Some (get_or agents i a) =
          λ a. ap (slice_get agents) row ∙ slice_get-get_or agents i a low in
          rw c.push_reserved.ensures.items
          (more-spots c.args.program.now side agents c.loop-i.spots.items i
          c.in_ok-spot_in.field-0 c.loop-i.invariant.long
          (c.loop-i.invariant.each agents are)
          (λ a. c.in_ok-spot_in.ensures.spot agents _ are (at a)
          ∙ ap (λ n. spot_of c.args.program.now side n (get_or agents i a)) row));
    }

pub returns : goal.returns
returns c = λ agents are.
    let many = ap length are.ids_are ∙ length-map agents (λ (a : Agent). a.id) in
    let end : c.loop-i.i ≡ length agents =
    omega (arith, c.loop-i-test.false, c.loop-i.auto.i-end, many) in
    record {
      long = c.loop-i.invariant.long ∙ end;
      known = λ k a low. c.loop-i.invariant.known agents are k a (omega (arith, low, end));
      each = λ k s a low.
          subst (λ z. get_or c.loop-i.spots.items k s ≡ spot_of c.args.program.now
          z k (get_or agents k a))
          (to_z-of_z w64 c.args.side c.ranges.side)
          (c.loop-i.invariant.each agents are k s a (omega (arith, low, end)));
    }
