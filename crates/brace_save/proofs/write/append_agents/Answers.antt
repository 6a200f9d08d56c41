use Rattle.std.proofs.Common.{◌<◌, ◌∙◌, ◌++◌, ◌∷◌, [], ℕ, List, length, ap, append_assoc, rules}
use Rattle.brace_model.specs.declared.world.Agent.{Agent}
use Rattle.brace_model.specs.Published.{agent_text}
use Rattle.brace_rows.proofs.Texts.{texts_more}
use Rattle.brace_save.proofs.write.append_agents.Goals as goal

pub loop-place-preserved : goal.loop-place-preserved
loop-place-preserved c =
    let agents : List Agent = c.args.agents.now in
    let a : Agent = c.in_ok-agent.agent in
    let text : Agent → List ℕ = λ b. agent_text c.args.program.now b ++ 10 ∷ [] in
    let low : c.loop-place.place < length agents = search rules in
    c.in_ok-append_agent.ensures.printed
    ∙ append_assoc c.loop-place.out.items (agent_text c.args.program.now a) (10 ∷ [])
    ∙ ap (λ (l : List ℕ). l ++ text a) c.loop-place.invariant
    ∙ texts_more text c.args.out.now.items agents c.loop-place.place a low c.in_ok-agent.ensures
