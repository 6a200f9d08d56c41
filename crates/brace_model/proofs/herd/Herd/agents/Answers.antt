use Rattle.std.proofs.Common.{◌≡◌, ◌<◌, ◌∙◌, ◌++◌, ◌∷◌, [], List, length, sym, ap₂, rules, arith}
use Rattle.std.proofs.lemmas.List.{take_more}
use Rattle.std.proofs.lemmas.Option.{get_or_from_slice_get}
use Rattle.brace_model.specs.declared.world.Agent.{Agent}
use Rattle.brace_model.proofs.herd.Herd.agents.Goals as goal

pub loop-place-preserved : goal.loop-place-preserved
loop-place-preserved c =
    let herd : List Agent = c.args.self.now in
    let place = c.loop-place.place in
    let a : Agent = c.in_ok-agent.field-0 in
    let low : place < length herd = search rules in
    c.in_ok-push.ensures.items
    ∙ ap₂ (λ (l : List Agent) (x : Agent). l ++ x ∷ []) c.loop-place.invariant
    (sym (get_or_from_slice_get herd place a a c.in_ok-agent.ensures))
    ∙ sym (take_more herd place a low)
