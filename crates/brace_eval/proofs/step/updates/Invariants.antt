use Rattle.std.proofs.Common.{◌≡◌, map, take, drop}
use Rattle.brace_model.specs.Query.{said_in}
use Rattle.brace_model.specs.Next.{next}
use Rattle.brace_eval.specs.Heard.{table_of}
use Rattle.brace_eval.proofs.StepLemmas.{SoFar}
use Rattle.brace_eval.proofs.step.updates.Given as goal

abbrev pub invariant-loop-a : goal.invariant-loop-a
invariant-loop-a l = record {
  seed : l.drawer.seed ≡ l.fn.drawer.seed;
  rest : l.rest ≡ table_of l.program (said_in l.program l.fn.drawer.seed l.tick l.agents) (drop l.a-index l.agents);
  so_far : SoFar (map (next l.program l.fn.drawer.seed l.tick l.agents) (take l.a-index l.agents)) l.nexts.living.items l.nexts.born.items l.least;
}
