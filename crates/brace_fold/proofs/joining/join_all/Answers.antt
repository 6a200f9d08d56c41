use Rattle.std.proofs.Common.{◌≡◌, ◌∙◌, ◌++◌, ap, subst, flat_map, get_or, take, rules, List, Some, slice_get}
use Rattle.std.proofs.lemmas.List.{take_all}
use Rattle.std.proofs.lemmas.Option.{slice_get-get_or}
use Rattle.brace_model.specs.declared.world.Agent.{Agent}
use Rattle.brace_model.specs.Query.{Saying}
use Rattle.brace_eval.specs.Heard.{IsHeard}
use Rattle.brace_fold.specs.inner.Joins.{said_of}
use Rattle.brace_fold.specs.Asked.{no_agent}
use Rattle.brace_fold.proofs.Joinings.{agents-more}
use Rattle.brace_fold.proofs.joining.join_all.Goals as goal

pub loop-place-preserved : goal.loop-place-preserved
loop-place-preserved c = λ more said faults summed h.
    let program = c.args.program.now in
    let agents = c.args.agents.now in
    let k = c.loop-place.place in
    let x = get_or agents k no_agent in
    let each = said_of program more in
    let at : c.in-Ok.row ≡ k = search rules in
    let there : slice_get agents k ≡ Some x =
    slice_get-get_or agents k no_agent c.loop-place-test.true in
    let next =
    c.in_ok-join_agent.ensures agents x more (said ++ flat_map each (take k agents)) faults
    there (ap (slice_get agents) at ∙ there) summed
    (c.loop-place.invariant more said faults summed h) in
    subst (λ (l : List Saying). IsHeard program agents l faults c.join_agent.new.heard)
    (agents-more each said agents k no_agent c.loop-place-test.true) next

pub returns : goal.returns
returns c = λ more said faults summed h.
    let program = c.args.program.now in
    let agents = c.args.agents.now in
    subst (λ (l : List Agent). IsHeard program agents (said ++ flat_map (said_of program more) l) faults c.loop-place.heard)
    (take_all c.loop-place.place agents c.loop-place-test.false) (c.loop-place.invariant more said faults summed h)
