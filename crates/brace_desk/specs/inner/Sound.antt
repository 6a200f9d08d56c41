-- What holds of a desk at every moment. Only the crate's own functions cite this.
use Rattle.std.specs.Prelude.{◌≡◌, ℕ, ◌+◌, ◌-◌, ◌<◌, ◌≤◌, map, length, take, Bool, true, false, Option, Some, None, slice_get}
use Rattle.std.specs.List.{All}
use Rattle.brace_pieces.specs.declared.setting.Setting.{Setting}
use Rattle.brace_pieces.specs.declared.setting.Stage.{Stage}
use Rattle.brace_pieces.specs.declared.setting.Stage.TheVariants.{Show}
use Rattle.brace_pieces.specs.declared.setting.Step.{Step}
use Rattle.brace_pieces.specs.declared.piece.Cause.{Cause}
use Rattle.brace_pieces.specs.Settings.{LawfulSetting, parts}
use Rattle.brace_pieces.specs.Numbers.{NumbersFit}
use Rattle.brace_pieces.specs.Steps.{step, steps}
use Rattle.brace_pieces.specs.Right.{IsShown, IsRightCause}
use Rattle.brace_pieces.specs.Courses.{OnCourse, others_of}
use Rattle.brace_pieces.specs.Turns.{IsTurns}
use Rattle.brace_desk.specs.declared.publisher.Publisher as publisher
use Rattle.brace_desk.specs.declared.publisher.PubFault.{PubFault}
use Rattle.brace_desk.specs.declared.desk.Lot.{Lot}
use Rattle.brace_desk.specs.Calls.{Rises, IsCut}
use Rattle.brace_desk.specs.Desks.{OnDesk, WasShown, AreFaultless, end_calls, ends_before}

-- a lot is what its part shows in a step
abbrev pub IsLotIn : Setting → Stage → ℕ → Lot → Type 0
IsLotIn s Show tick lot = IsShown s tick lot.part lot.worlds
IsLotIn s _ tick lot = ⊥

abbrev pub IsLot : Setting → Option Step → Lot → Type 0
IsLot s None lot = ⊥
IsLot s (Some at) lot = IsLotIn s at.stage at.tick lot

-- a desk on a course stopped in a step that shows all, this one or one before, for a cause that is
-- right there; one of this step it took
pub record IsStopped (c : OnCourse) (since : ℕ) (x : Cause) : Type 0 where
  pub not_later : since ≤ c.number
  pub took_it : since ≡ c.number → length (others_of c) < c.made
  pub end : ℕ
  pub stands : slice_get (steps c.setting) since ≡ Some (step Show end)
  pub right : IsRightCause c.setting since x

-- a publisher refused at the end behind the first ones, so many
pub record WasCut {P : Type 0} (of : publisher.Ghosts P) (s : Setting) (opening now : P)
    (count : ℕ) (x : PubFault) : Type 0 where
  pub cut_there : IsCut of s opening now (end_calls s) x
  pub made : cut_there.made ≡ count
  pub faultless : AreFaultless s (count + 1)

-- what a publisher was shown, whether it refused then or not
abbrev pub IsShownSo : {P : Type 0} → publisher.Ghosts P → Setting → P → P → ℕ
    → Option PubFault → Type 0
IsShownSo of s opening now count None = WasShown of s opening now count
IsShownSo of s opening now count (Some x) = WasCut of s opening now count x

-- a desk showed its publisher so many ends, of all before its step; where these are more it stopped
-- there, and told so where all was shown since
pub record IsShowing {P : Type 0} (of : publisher.Ghosts P) (s : Setting) (opening now : P)
    (refusal : Option PubFault) (count all : ℕ) (told : Bool) (untold : ℕ) : Type 0 where
  pub shown : IsShownSo of s opening now count refusal
  pub refused : (x : PubFault) → refusal ≡ Some x → count + 1 ≤ all
  pub not_yet : told ≡ false → all ≤ count + 1
  pub has_told : told ≡ true → count + 2 ≤ all
  pub seen : ends_before s untold ≤ count + 1

-- a desk is the place in a lawful run of a publisher that fits it; it has what parts brought in the
-- step that it stands in, or in which it stopped, and room for what all bring
pub record IsDesk {P : Type 0} (of : publisher.Ghosts P) (d : OnDesk P) (room : ℕ) : Type 0 where
  pub lawful : LawfulSetting d.course.setting
  pub numbers : NumbersFit d.course.setting
  pub is_last : d.course.actor ≡ parts d.course.setting
  pub turns : IsTurns (record { course = d.course; cause = d.cause })
  pub goes : d.cause ≡ None → d.since ≡ d.course.number
  pub stopped : (x : Cause) → d.cause ≡ Some x → IsStopped d.course d.since x
  pub showing : IsShowing of d.course.setting d.opening d.publisher d.refusal
      (ends_before d.course.setting d.since) (ends_before d.course.setting d.course.number)
      d.told d.untold
  pub brought : All (IsLot d.course.setting (slice_get (steps d.course.setting) d.since)) d.lots
  pub took : d.cause ≡ None → map (λ lot. lot.part) d.lots
      ≡ take (d.course.made - length (others_of d.course)) (others_of d.course)
  pub few : d.since ≡ d.course.number
      → length d.lots ≤ d.course.made - length (others_of d.course)
  pub has_room : parts d.course.setting ≤ room
  pub fits : of.fits d.opening d.course.setting.job.program
  pub rises : Rises of d.opening d.publisher
