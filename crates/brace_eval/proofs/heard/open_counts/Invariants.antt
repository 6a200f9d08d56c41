use Rattle.std.proofs.Common.{◌≡◌, ◌++◌, map, take, pos}
use Rattle.brace_model.specs.declared.program.Effect.{Effect}
use Rattle.brace_eval.proofs.heard.open_counts.Given as goal

abbrev pub invariant-loop-effect : goal.invariant-loop-effect
invariant-loop-effect l =
    l.counts.items ≡ l.fn.counts.items ++ map (λ (e : Effect). pos 0) (take l._effect-index l.effects)
