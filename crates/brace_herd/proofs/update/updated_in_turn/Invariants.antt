use Rattle.std.proofs.Common.{◌≡◌, List, map}
use Rattle.brace_model.specs.Query.{Saying}
use Rattle.brace_eval.specs.Heard.{row_of}
use Rattle.brace_eval.proofs.StepLemmas.{SoFar}
use Rattle.brace_herd.proofs.TableLeft.{becoming}
use Rattle.brace_herd.proofs.update.updated_in_turn.Given as goal

abbrev pub invariant-loop-i : goal.invariant-loop-i
invariant-loop-i l = record {
  seed : l.room ≡ l.setting.job.seed;
  so_far : (said : List Saying) → map (λ r. r.now) l.rows ≡ map (row_of l.setting.job.program said) l.own
      → SoFar (becoming l.setting l.tick said l.own l.i) l.left.items l.born.items l.least;
}
