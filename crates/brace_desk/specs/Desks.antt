-- The desk of a run as contracts see it: what its publisher got of the continued worlds, and why it
-- gets no more.
use Rattle.std.specs.Prelude.{◌≡◌, ℕ, ◌+◌, ◌<◌, ◌≤◌, List, [], ◌∷◌, ◌++◌, map, filter, take, length, Bool, true, false, Option, Some, None, slice_get}
use Rattle.std.specs.List.{All}
use Rattle.brace_pieces.specs.declared.setting.Setting.{Setting}
use Rattle.brace_pieces.specs.declared.setting.Stage.TheVariants.{Show}
use Rattle.brace_pieces.specs.declared.piece.Cause.{Cause}
use Rattle.brace_pieces.specs.declared.piece.Cause.TheVariants as cause
use Rattle.brace_pieces.specs.declared.piece.Piece.{Piece}
use Rattle.brace_pieces.specs.declared.piece.Piece.TheVariants as piece
use Rattle.brace_pieces.specs.declared.piece.Shown.{Shown}
use Rattle.brace_pieces.specs.Settings.{parts, shown_ticks, ends}
use Rattle.brace_pieces.specs.Steps.{step, steps, is_show}
use Rattle.brace_pieces.specs.Continued.{on}
use Rattle.brace_pieces.specs.Right.{IsFaultless, IsShown, IsRightCause}
use Rattle.brace_pieces.specs.Courses.{OnCourse}
use Rattle.brace_desk.specs.declared.publisher.PubFault.{PubFault}
use Rattle.brace_desk.specs.declared.publisher.Publisher as publisher
use Rattle.brace_desk.specs.declared.desk.Lot.{Lot}
use Rattle.brace_desk.specs.declared.desk.Stop.{Stop}
use Rattle.brace_desk.specs.declared.desk.Stop.TheVariants as stop
use Rattle.brace_desk.specs.Calls.{Call, behind, IsCut}

-- a desk: where it stands in the schedule of its setting, what its publisher was when it was made
-- and what it is, why it goes no further and why its publisher refused, in which step it stands or
-- came to that, what parts brought there, whether it has put its Halt to all since, and in which
-- step it was seen last not to have
pub record OnDesk (P : Type 0) : Type 0 where
  pub course : OnCourse
  pub opening : P
  pub publisher : P
  pub cause : Option Cause
  pub refusal : Option PubFault
  pub since : ℕ
  pub lots : List Lot
  pub told : Bool
  pub untold : ℕ

-- why it publishes nothing any more: its publisher refused, or it goes no further for a cause
abbrev pub stop_in : Option PubFault → Option Cause → Option Stop
stop_in (Some x) c = Some (stop.Refusal x)
stop_in None (Some c) = Some (stop.Halt c)
stop_in None None = None

abbrev pub stop_of : {P : Type 0} → OnDesk P → Option Stop
stop_of d = stop_in d.refusal d.cause

-- what no turn of a desk changes: what its publisher was when it was made, and in which step it was
-- seen last not to have put its Halt to all
abbrev pub fixed_of : {P : Type 0} → OnDesk P → P × ℕ
fixed_of d = (d.opening, d.untold)

-- what a desk puts: that it goes on, or why it does not; that all is closed exactly where its
-- publisher refused. A part that told Closed, though nothing was refused, is taken for one without
-- memory
abbrev pub put_by : Option Stop → Piece
put_by None = piece.Ack
put_by (Some (stop.Halt (cause.Fault f))) = piece.Halt (cause.Fault f)
put_by (Some (stop.Halt cause.NoMemory)) = piece.Halt cause.NoMemory
put_by (Some (stop.Halt cause.Closed)) = piece.Halt cause.NoMemory
put_by (Some (stop.Refusal x)) = piece.Halt cause.Closed

-- why it publishes nothing any more behind a piece that it took: for the first cause
abbrev pub stopped_by : Option Stop → Piece → Option Stop
stopped_by (Some why) taken = Some why
stopped_by None (piece.Halt c) = Some (stop.Halt c)
stopped_by None _ = None

-- what parts brought, with a piece that came of one
abbrev pub lots_with : List Lot → ℕ → Piece → List Lot
lots_with lots p (piece.Show worlds) = lots ++ record { part = p; worlds = worlds } ∷ []
lots_with lots p _ = lots

-- a desk that went on stops in a work for a refusal, or for want of memory, and for nothing else
abbrev pub IsOwnStop : Option Stop → Type 0
IsOwnStop (Some (stop.Halt c)) = c ≡ cause.NoMemory
IsOwnStop _ = Unit {0}

-- the whole continued world of a tick
abbrev pub whole_at : Setting → ℕ → Shown
whole_at s tick = record { tick = tick; agents = (on s tick).agents; next = (on s tick).next }

-- the calls of a publisher at all ends, with the continued worlds
abbrev pub end_calls : Setting → List Call
end_calls s =
    map (λ end. record { tick = end; worlds = map (whole_at s) (shown_ticks s end) }) (ends s)

-- how many ends are shown in the first steps of a run
abbrev pub ends_before : Setting → ℕ → ℕ
ends_before s number = length (filter (λ at. is_show at.stage) (take number (steps s)))

-- no part found a fault before the first ends, so many of them
abbrev pub AreFaultless : Setting → ℕ → Type 0
AreFaultless s count =
    All (λ end. (p : ℕ) → p < parts s → IsFaultless s end p) (take count (ends s))

-- a publisher was shown the first ends, before which no part found a fault
pub record WasShown {P : Type 0} (of : publisher.Ghosts P) (s : Setting) (opening now : P)
    (count : ℕ) : Type 0 where
  pub is_behind : of.state now ≡ behind of s opening (take count (end_calls s))
  pub faultless : AreFaultless s count

abbrev pub HasShown : {P : Type 0} → publisher.Ghosts P → OnDesk P → ℕ → Type 0
HasShown of d count = WasShown of d.course.setting d.opening d.publisher count

-- a desk stopped at the end behind the first ones, so many: at the next it puts its Halt to all,
-- and behind that it has told; where it was seen not to have, no end behind that was shown
pub record StoppedAt {P : Type 0} (d : OnDesk P) (count : ℕ) : Type 0 where
  pub not_yet : d.told ≡ false
      → ends_before d.course.setting d.course.number ≡ count + 1
  pub has_told : d.told ≡ true
      → count + 2 ≤ ends_before d.course.setting d.course.number
  pub seen : ends_before d.course.setting d.untold ≤ count + 1

-- the publisher was shown all ends before that of a step, in which a part told a cause, or memory
-- was refused; each lot is what a part showed there
pub record HasHalted {P : Type 0} (of : publisher.Ghosts P) (d : OnDesk P) (cause : Cause) : Type 0
  where
    pub number : ℕ
    pub end : ℕ
    pub stands : slice_get (steps d.course.setting) number ≡ Some (step Show end)
    pub shown : HasShown of d (ends_before d.course.setting number)
    pub right : IsRightCause d.course.setting number cause
    pub brought : All (λ lot. IsShown d.course.setting end lot.part lot.worlds) d.lots
    pub stopped : StoppedAt d (ends_before d.course.setting number)

-- the publisher refused at an end, before which no part found a fault
pub record HasRefused {P : Type 0} (of : publisher.Ghosts P) (d : OnDesk P) (x : PubFault) : Type 0
  where
    pub cut_there : IsCut of d.course.setting d.opening d.publisher (end_calls d.course.setting) x
    pub faultless : AreFaultless d.course.setting (cut_there.made + 1)
    pub stopped : StoppedAt d cut_there.made
