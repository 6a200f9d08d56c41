use Rattle.std.proofs.Common.{◌≡◌, ◌++◌, ◌∷◌, flat_map, take}
use Rattle.brace_model.specs.Published.{spelled}
use Rattle.brace_rows.proofs.agent.append_values.Given as goal

abbrev pub invariant-loop-value : goal.invariant-loop-value
invariant-loop-value l = l.out.items ≡ l.initial.out.items ++ flat_map (λ v. 44 ∷ spelled v) (take l.value-index l.values)
