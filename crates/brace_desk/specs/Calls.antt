-- What the publisher of a run is shown: the worlds of the run, at each end of an epoch and, where
-- the run ends in a fault, at that fault's tick.
use Rattle.std.specs.Prelude.{◌≡◌, ℕ, ◌+◌, ◌-◌, ◌%◌, ◌≤◌, ◌==◌, nat_le, List, [], ◌∷◌, ◌++◌, map, filter, flat_map, fold, take, Option, Some, None, Result, Ok, Err, slice_get}
use Rattle.std.specs.List.{range_with_len}
use Rattle.brace_io.specs.Counts.{Rose}
use Rattle.brace_model.specs.declared.fault.Fault.{Fault}
use Rattle.brace_model.specs.declared.program.Program.{Program}
use Rattle.brace_model.specs.World.{World}
use Rattle.brace_model.specs.Run.{world_after, first_fault}
use Rattle.brace_pieces.specs.declared.setting.Setting.{Setting}
use Rattle.brace_pieces.specs.declared.piece.Shown.{Shown}
use Rattle.brace_pieces.specs.Settings.{shown_from, shown_ticks, ends}
use Rattle.brace_desk.specs.declared.publisher.Publisher as publisher
use Rattle.brace_desk.specs.declared.publisher.PubFault.{PubFault}
use Rattle.brace_desk.specs.declared.publisher.PubFault.TheVariants as fault
use Rattle.brace_desk.specs.Refusals.{tick_of}

-- a call of a publisher: the tick up to which worlds are shown, and these
pub record Call : Type 0 where
  pub tick : ℕ
  pub worlds : List Shown

-- the whole world of a tick, where the run has one
abbrev pub world_shown : ℕ → Result World Fault → List Shown
world_shown tick (Ok world) =
    record { tick = tick; agents = world.agents; next = world.next } ∷ []
world_shown tick (Err fault) = []

-- the whole worlds of some ticks
abbrev pub worlds_at : Setting → List ℕ → List Shown
worlds_at s ticks = flat_map (λ t. world_shown t (world_after s.job (t - s.job.first))) ticks

-- the call at an end
abbrev pub call_at : Setting → ℕ → Call
call_at s end = record { tick = end; worlds = worlds_at s (shown_ticks s end) }

-- the published ticks behind the last end up to a tick
abbrev pub ticks_left : Setting → ℕ → List ℕ
ticks_left s tick =
    let from = shown_from s (tick + 1) in
    filter (λ t. t % s.job.every == 0) (range_with_len from (tick + 1 - from))

-- the call of worlds that are left up to a tick, if there are any
abbrev pub call_of : ℕ → List Shown → List Call
call_of tick [] = []
call_of tick (w ∷ ws) = record { tick = tick; worlds = w ∷ ws } ∷ []

-- all calls of a run that ends in a fault, or in none
abbrev pub calls_to : Setting → Option Fault → List Call
calls_to s None = map (call_at s) (ends s)
calls_to s (Some f) =
    map (call_at s) (filter (λ end. nat_le end f.tick) (ends s))
    ++ call_of f.tick (worlds_at s (ticks_left s f.tick))

-- all calls of a run
abbrev pub calls : Setting → List Call
calls s = calls_to s (first_fault s.job)

-- what a publisher is behind some calls that it answered by Ok
abbrev pub behind : {P : Type 0} (of : publisher.Ghosts P) → Setting → P → List Call → of.State
behind of s opening made = fold (λ x c. of.after x s c.tick c.worlds) (of.state opening) made

-- a publisher answered the first of some calls by Ok and refused the next, and not for want of
-- memory; its counts tell of it
pub record IsCut {P : Type 0} (of : publisher.Ghosts P) (s : Setting) (opening now : P)
    (all : List Call) (x : PubFault) : Type 0 where
  pub made : ℕ
  pub call : Call
  pub is_next : slice_get all made ≡ Some call
  pub is_cut : of.cut (behind of s opening (take made all)) s call.tick call.worlds x (of.state now)
  pub found_memory : x ≡ fault.NoMemory → ⊥
  pub is_named : (k : ℕ) → tick_of x ≡ Some k → k ≡ call.tick
  pub written : x ≡ fault.Write → Rose (of.writes opening) (of.writes now)
  pub saved : (k : ℕ) → tick_of x ≡ Some k → Rose (of.saves opening) (of.saves now)

-- a publisher answered the first of some calls by Ok, and was not called again
pub record IsFront {P : Type 0} (of : publisher.Ghosts P) (s : Setting) (opening now : P)
    (all : List Call) : Type 0 where
  pub made : ℕ
  pub is_behind : of.state now ≡ behind of s opening (take made all)

-- a publisher at a later time: its counts of faults did not fall, it holds the same references, and
-- it fits the programs that it fitted
pub record Rises {P : Type 0} (of : publisher.Ghosts P) (opening now : P) : Type 0 where
  pub writes_rise : of.writes opening ≤ of.writes now
  pub saves_rise : of.saves opening ≤ of.saves now
  pub same_loans : of.loans now ≡ of.loans opening
  pub still_fits : (program : Program) → of.fits opening program → of.fits now program
