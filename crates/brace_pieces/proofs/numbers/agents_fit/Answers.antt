use Rattle.std.proofs.Common.{◌<◌, ◌∙◌, [], List, length, ap₂, rules}
use Rattle.std.specs.Prelude.{◌&&◌}
use Rattle.std.proofs.lemmas.List.Folds.{list_all_more}
use Rattle.brace_model.specs.declared.world.Agent.{Agent}
use Rattle.brace_pieces.specs.Numbers.{agent_fits}
use Rattle.brace_pieces.proofs.numbers.agents_fit.Goals as goal

pub loop-place-preserved : goal.loop-place-preserved
loop-place-preserved c =
    let herd : List Agent = c.args.agents.now in
    let place = c.loop-place.place in
    let d : Agent = record { class = 0; id = 0; states = [] } in
    let low : place < length herd = search rules in
    list_all_more agent_fits herd place d low
    ∙ ap₂ (λ a b. a && b) c.loop-place.invariant (c.agent_fits.ensures d)
