use Rattle.std.proofs.Common.{◌≡◌, ◌++◌, map, take}
use Rattle.brace_model.specs.declared.program.Effect.{Effect}
use Rattle.brace_model.specs.Total.{identity}
use Rattle.brace_eval.proofs.heard.open_totals.Given as goal

abbrev pub invariant-loop-effect : goal.invariant-loop-effect
invariant-loop-effect l =
    l.totals.items ≡ l.fn.totals.items ++ map (λ (e : Effect). identity e.comb) (take l.effect-index l.effects)
