use Rattle.std.proofs.Common.{◌≡◌, ◌∙◌, ◌++◌, ◌∷◌, [], ℤ, List, map, ap, ap₂}
use Rattle.std.proofs.lemmas.Result.{on_ok_weaker}
use Rattle.brace_model.specs.declared.program.Ty.{Ty}
use Rattle.brace_model.specs.declared.program.Value.{Value}
use Rattle.brace_model.specs.declared.world.Agent.{Agent}
use Rattle.brace_model.specs.Typing.{type_of_value}
use Rattle.brace_model.specs.World.{number}
use Rattle.brace_model.specs.Words.{agent_with}
use Rattle.brace_model.proofs.WordLemmas.{values-again}
use Rattle.brace_model.proofs.herd.Herd.add.Goals as goal

pub returns : goal.returns
returns c =
    let a : Agent = c.args.agent.now in
    on_ok_weaker c.push.result
    (λ is. is ∙ ap (λ (x : Agent). c.args.self.now ++ x ∷ [])
    (ap₂ (agent_with a.class a.id)
    (c.deref.ensures.value ∙ c.in_ok-types_into.ensures ∙ ap (map type_of_value) c.as_slice.ensures)
    (c.deref-2.ensures.value ∙ c.in_ok-words_into.ensures ∙ ap (map number) c.as_slice-2.ensures)
    ∙ ap (λ (v : List Value). record { class = a.class; id = a.id; states = v })
    (values-again a.states))) c.push.ensures.ok
