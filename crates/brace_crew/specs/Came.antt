-- What a run came to, by its answer.
use Rattle.std.specs.Prelude.{◌≡◌, ◌-◌, Some, None, Result, Ok, Err}
use Rattle.brace_model.specs.declared.fault.Fault.{Fault}
use Rattle.brace_model.specs.Run.{first_fault}
use Rattle.brace_pieces.specs.declared.setting.Setting.{Setting}
use Rattle.brace_pieces.specs.Settings.{ends}
use Rattle.brace_pieces.specs.Counts.{count_border, count_effects, count_moved, count_handed}
use Rattle.brace_pieces.specs.declared.counts.Counts.{Counts}
use Rattle.brace_crew.specs.declared.crew.CrewFault.{CrewFault}
use Rattle.brace_crew.specs.declared.crew.CrewFault.TheVariants as crew
use Rattle.brace_desk.specs.declared.publisher.Publisher as publisher
use Rattle.brace_desk.specs.declared.publisher.PubFault.{PubFault}
use Rattle.brace_desk.specs.declared.publisher.PubFault.TheVariants as fault
use Rattle.brace_desk.specs.Calls.{calls, behind, IsCut, IsFront, Rises}

-- the run has a world of its last tick, the publisher was shown all, and the parts gave so much
pub record HasRun {P : Type 0} (of : publisher.Ghosts P) (s : Setting) (opening now : P)
    (counts : Counts) : Type 0 where
  pub no_fault : first_fault s.job ≡ None
  pub is_behind : of.state now ≡ behind of s opening (calls s)
  pub border : counts.border ≡ count_border s
  pub effects : counts.effects ≡ count_effects s
  pub moved : counts.moved ≡ count_moved s
  pub handed : counts.handed ≡ count_handed s

-- the run ends in this fault, and the publisher was shown all up to its tick
pub record HasFaulted {P : Type 0} (of : publisher.Ghosts P) (s : Setting) (opening now : P)
    (f : Fault) : Type 0 where
  pub is_first : first_fault s.job ≡ Some f
  pub is_behind : of.state now ≡ behind of s opening (calls s)

-- what a run answers whose publisher refused: want of memory is no refusal
abbrev pub refused_by : PubFault → CrewFault
refused_by fault.NoMemory = crew.NoMemory
refused_by fault.Write = crew.Publish fault.Write
refused_by (fault.Save k) = crew.Publish (fault.Save k)
refused_by (fault.Watch k) = crew.Publish (fault.Watch k)

-- what a run came to by its answer
abbrev pub CameBy : {P : Type 0} → publisher.Ghosts P → Setting → P → P
    → Result Counts CrewFault → Type 0
CameBy of s opening now (Ok counts) = HasRun of s opening now counts
CameBy of s opening now (Err (crew.Fault f)) = HasFaulted of s opening now f
CameBy of s opening now (Err (crew.Publish x)) = IsCut of s opening now (calls s) x
CameBy of s opening now (Err crew.NoMemory) = IsFront of s opening now (calls s)

-- what a run came to
pub record CameTo {P : Type 0} (of : publisher.Ghosts P) (s : Setting) (opening now : P)
    (answer : Result Counts CrewFault) : Type 0 where
  pub came : CameBy of s opening now answer
  pub rises : Rises of opening now
