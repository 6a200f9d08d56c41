use Rattle.std.proofs.Common.{◌≡◌, map, take}
use Rattle.brace_model.specs.World.{number, value_at}
use Rattle.brace_fold.proofs.columns.state_column.Given as goal

abbrev pub invariant-loop-values : goal.invariant-loop-values
invariant-loop-values l = l.words.items ≡ map (λ s. number (value_at s.now l.place)) (take l.values-index l.states)
