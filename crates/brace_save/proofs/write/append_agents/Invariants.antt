use Rattle.std.proofs.Common.{◌≡◌, ◌++◌, [], ◌∷◌, flat_map, take}
use Rattle.brace_model.specs.Published.{agent_text}
use Rattle.brace_save.proofs.write.append_agents.Given as goal

abbrev pub invariant-loop-place : goal.invariant-loop-place
invariant-loop-place l = l.out.items ≡ l.initial.out.items ++ flat_map (λ a. agent_text l.program a ++ 10 ∷ []) (take l.place l.agents)
