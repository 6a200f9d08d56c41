use Rattle.std.proofs.Common.{◌≡◌, ◌<◌, ◌∙◌, ◌+◌, ◌++◌, ◌∷◌, [], ℕ, List, flat_map, length, take, ap, sym, subst, rules}
use Rattle.std.specs.List.{AllByRecursion}
use Rattle.std.proofs.lemmas.List.{flat_map_more, take_more}
use Rattle.std.proofs.lemmas.Option.{get_or_from_slice_get}
use Rattle.brace_model.specs.declared.world.Agent.{Agent}
use Rattle.brace_wire.specs.Frames.{four, agent}
use Rattle.brace_wire.specs.Fitting.{AgentFits}
use Rattle.brace_wire.proofs.WriteLemmas.{fits_more, listed_done}
use Rattle.brace_wire.proofs.write.append_herd.Goals as goal

pub loop-place-preserved : goal.loop-place-preserved
loop-place-preserved c =
    let agents : List Agent = c.args.agents.now in
    let place = c.loop-place.place in
    let a : Agent = c.in_ok-a.a in
    let first : List ℕ = c.args.out.now.items ++ four (length agents) in
    let low : place < length agents = search rules in
    let more : take place agents ++ a ∷ [] ≡ take (place + 1) agents =
    ap (λ (x : Agent). take place agents ++ x ∷ [])
    (sym (get_or_from_slice_get agents place a a c.in_ok-a.ensures))
    ∙ sym (take_more agents place a low) in
    record {
      written = c.in_ok-append_agent.ensures.written
          ∙ ap (λ (l : List ℕ). l ++ agent a) c.loop-place.invariant.written
          ∙ flat_map_more agent first (take place agents) a
          ∙ ap (λ (l : List Agent). first ++ flat_map agent l) more;
      fits = subst (AllByRecursion AgentFits) more
          (fits_more (take place agents) a c.loop-place.invariant.fits
          c.in_ok-append_agent.ensures.fits);
      few = c.loop-place.invariant.few;
    }

pub returns-clause-written : goal.returns-clause-written
returns-clause-written c =
    listed_done agent c.args.out.now.items c.loop-place.out.items c.args.agents.now
    c.loop-place.place (search rules) c.loop-place.invariant.written
