use Rattle.std.proofs.Common.{◌≡◌, ◌≤◌, ◌-◌, List, take, length}
use Rattle.brace_model.specs.declared.program.Who.{Who}
use Rattle.brace_model.specs.Value.{Scope}
use Rattle.brace_code.specs.Lanes.{words_of}
use Rattle.brace_fold.specs.inner.Crowds.{rows}
use Rattle.brace_fold.specs.inner.Ears.{AreTold, told_by}
use Rattle.brace_fold.specs.Hears.{Hears}
use Rattle.brace_fold.proofs.scene.Scene.say_runs.Given as goal

abbrev pub invariant-loop-at : goal.invariant-loop-at
invariant-loop-at g l = record {
  within : l.at ≤ length l.hearers;
  said : (who : Who) (scopes : List Scope) → AreTold l.self who l.hearers scopes
      → length (words_of (length scopes) (g.S.Spoken.reads l.spoken)) ≡ length scopes
      → Hears l.self.program.now (rows l.self)
      (told_by who l.ear.effect (g.S.Spoken.type_of l.spoken) (take l.at scopes)
      (take l.at (words_of (length scopes) (g.S.Spoken.reads l.spoken))))
      l.fn.heard l.heard;
}

abbrev pub decreases-loop-at : goal.decreases-loop-at
decreases-loop-at g l = length l.hearers - l.at
