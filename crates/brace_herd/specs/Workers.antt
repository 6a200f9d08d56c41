-- A part at its work in a step, and where it is to put its pieces.
use Rattle.std.specs.Prelude.{◌≡◌, ℕ, ◌-◌, ◌<◌, List, false, true, Some, slice_get}
use Rattle.std.specs.List.{All, Contains}
use Rattle.brace_invert.specs.Split.{forward_program, inverse_program}
use Rattle.brace_model.specs.declared.fault.Fault.{Fault}
use Rattle.brace_pieces.specs.declared.setting.Setting.{Setting}
use Rattle.brace_pieces.specs.declared.setting.Stage.{Stage}
use Rattle.brace_pieces.specs.declared.setting.Step.{Step}
use Rattle.brace_pieces.specs.declared.piece.Piece.{Piece}
use Rattle.brace_pieces.specs.Settings.{LawfulSetting, parts}
use Rattle.brace_pieces.specs.Continued.{on}
use Rattle.brace_pieces.specs.Numbers.{NumbersFit}
use Rattle.brace_pieces.specs.Steps.{step, steps, met, is_show}
use Rattle.brace_herd.specs.declared.query.Queries.{Queries}
use Rattle.brace_herd.specs.declared.query.Queries.TheVariants.{Script, Inverted}
use Rattle.brace_herd.specs.declared.stance.Stance.{Stance}
use Rattle.brace_herd.specs.declared.work.Worker.{Worker}
use Rattle.brace_herd.specs.Works.{found_in_work}
use Rattle.brace_pieces.specs.Exchanged.{AreTaken}
use Rattle.brace_herd.specs.Ready.{IsReadyFor, IsReadyBehind}

-- the queries that a part asks in a run, which stand for their programs
abbrev pub AreQueriesOf : Setting → Queries → Type 0
AreQueriesOf s (Script script) = (s.invert ≡ false) × (script ≡ s.job.program)
AreQueriesOf s (Inverted forward inverse) =
    (s.invert ≡ true)
    × (forward ≡ forward_program s.job.program)
    × (inverse ≡ inverse_program s.job.program)

-- a part of a lawful setting, and the queries that it asks
pub record IsPartOf (s : Setting) (p : ℕ) (queries : Queries) : Type 0 where
  pub lawful : LawfulSetting s
  pub numbers : NumbersFit s
  pub is_part : p < parts s
  pub queries_are : AreQueriesOf s queries

-- a worker is a part of its setting
abbrev pub IsWorker : Worker → Type 0
IsWorker w = IsPartOf w.setting.now w.part w.queries.now

-- a worker is at its work in a step of a stage and tick, and took these pieces there
pub record IsWork (w : Worker) (at : Stage) (tick : ℕ) (taken : List Piece) : Type 0 where
  pub stands : slice_get (steps w.setting.now) w.number ≡ Some (step at tick)
  pub took : AreTaken w.setting.now w.number w.part (met w.setting.now (step at tick) w.part) taken
  pub next_is : w.next ≡ (on w.setting.now tick).next

-- what a worker has is what a step needs, and what it has behind its work there
abbrev pub IsReadyTo : Worker → Stage → ℕ → Stance → Type 0
IsReadyTo w at tick = IsReadyFor w.setting.now w.part at tick

abbrev pub IsBehind : Worker → Stage → ℕ → Stance → Type 0
IsBehind w at tick = IsReadyBehind w.setting.now w.part at tick

-- the faults that it finds there
abbrev pub finds : Worker → Stage → ℕ → List Fault
finds w at tick = found_in_work w.setting.now w.part at tick

-- a step of the run that shows nothing to the publisher is the one of the worker's number
pub record IsNext (w : Worker) (at : Step) : Type 0 where
  pub stands : slice_get (steps w.setting.now) w.number ≡ Some at
  pub shows_nothing : is_show at.stage ≡ false
  pub next_is : w.next ≡ (on w.setting.now at.tick).next

-- a worker meets all of these in a step
abbrev pub AreMet : Worker → Step → List ℕ → Type 0
AreMet w at others = All (λ q. Contains (met w.setting.now at w.part) q) others
