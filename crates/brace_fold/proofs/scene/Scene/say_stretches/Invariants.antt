use Rattle.std.proofs.Common.{◌≡◌, List, take, length}
use Rattle.brace_model.specs.declared.program.Who.{Who}
use Rattle.brace_model.specs.Value.{Scope}
use Rattle.brace_code.specs.Lanes.{words_of}
use Rattle.brace_fold.specs.inner.Crowds.{rows, spread}
use Rattle.brace_fold.specs.inner.Ears.{AreTold, told_by}
use Rattle.brace_fold.specs.Hears.{Hears}
use Rattle.brace_fold.proofs.scene.Scene.say_stretches.Given as goal

abbrev pub invariant-loop-stretch : goal.invariant-loop-stretch
invariant-loop-stretch g l = record {
  at : l.at ≡ length (spread (take l.stretch-index l.stretches));
  said : (who : Who) (scopes : List Scope) → AreTold l.self who (spread l.stretches) scopes
      → length (words_of (length scopes) (g.S.Spoken.reads l.spoken)) ≡ length scopes
      → Hears l.self.program.now (rows l.self)
      (told_by who l.ear.effect (g.S.Spoken.type_of l.spoken) (take l.at scopes)
      (take l.at (words_of (length scopes) (g.S.Spoken.reads l.spoken))))
      l.fn.heard l.heard;
}
