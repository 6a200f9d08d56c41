use Rattle.std.proofs.Common.{◌<◌, ◌∙◌, ◌++◌, ◌∷◌, [], ℤ, List, FitsSigned, w64, length, sym, ap₂, rules}
use Rattle.std.proofs.lemmas.Int.{to_z-of_z}
use Rattle.std.proofs.lemmas.List.{map_more}
use Rattle.brace_model.specs.declared.world.Agent.{Agent}
use Rattle.brace_model.specs.World.{x_of}
use Rattle.brace_desk.specs.Sums.{place_along}
use Rattle.brace_command.proofs.strips.places.Goals as goal

pub loop-place-preserved : goal.loop-place-preserved
loop-place-preserved c =
    let agents : List Agent = c.args.agents.now in
    let place = c.loop-place.place in
    let d : Agent = record { class = 0; id = 0; states = [] } in
    let low : place < length agents = search rules in
    let fits : FitsSigned w64 c.x_at.result = search rules in
    c.in_ok-push.ensures.items
    ∙ ap₂ (λ (l : List ℤ) (x : ℤ). l ++ x ∷ []) c.loop-place.invariant
    (to_z-of_z w64 c.x_at.result fits ∙ c.x_at.ensures d)
    ∙ sym (map_more (place_along x_of c.args.program.now) agents place d low)
