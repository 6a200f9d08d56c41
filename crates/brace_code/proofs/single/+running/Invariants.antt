use Rattle.std.proofs.Common.{◌≡◌, ◌<◌, [], ◌∷◌, drop, length}
use Rattle.brace_model.specs.Scopes.{scope_of}
use Rattle.brace_code.specs.inner.Runs.{run, stack_of}
use Rattle.brace_code.proofs.single.+running.Given as goal

abbrev pub invariant-run-loop-instr : goal.invariant-run-loop-instr
invariant-run-loop-instr l = record {
  rest : run (drop l.instr-index l.rest) (length l.words) (scope_of l.env l.fn.drawer) (l.top ∷ stack_of l.words l.below)
      ≡ run l.code (length l.words) (scope_of l.env l.fn.drawer) [];
  below : l.below < length l.words;
  seed : l.drawer.seed ≡ l.fn.drawer.seed;
}
