use Rattle.std.proofs.Common.{◌≡◌, map, take, zip}
use Rattle.brace_model.specs.declared.program.State.{State}
use Rattle.brace_model.specs.declared.program.Value.{Value}
use Rattle.brace_model.specs.Next.{ruled, values_of}
use Rattle.brace_model.specs.Scopes.{scope_of}
use Rattle.brace_eval.specs.inner.Updates.{Meets}
use Rattle.brace_eval.proofs.update.ruled_states.Given as goal

abbrev pub invariant-loop-i : goal.invariant-loop-i
invariant-loop-i l = record {
  seed : l.drawer.seed ≡ l.fn.drawer.seed;
  values : values_of (map (λ (p : State × Value). ruled (scope_of l.env l.fn.drawer) p.0.rule p.1) (take l.i (zip l.states l.values))) ≡ l.new.items;
  met : Meets (map (λ (p : State × Value). ruled (scope_of l.env l.fn.drawer) p.0.rule p.1) (take l.i (zip l.states l.values))) l.fn.first l.first;
}
