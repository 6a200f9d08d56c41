-- What a setting says of its run: where the plane is cut in which tick, how far agents look, and
-- where epochs end.
use Rattle.std.specs.Prelude.{ℕ, ◌+◌, ◌-◌, ◌%◌, ◌≤◌, ◌==◌, nat_lt, ℤ, pos, List, filter, fold, Bool, ◌&&◌, ◌||◌, if◌then◌else◌}
use Rattle.std.specs.List.{range_with_len}
use Rattle.std.specs.Int.{int_max}
use Rattle.brace_cuts.specs.declared.space.Cuts.{Cuts}
use Rattle.brace_cuts.specs.Space.{cuts_at, parts_of}
use Rattle.brace_model.specs.declared.program.Program.{Program}
use Rattle.brace_model.specs.World.{IsNumbered}
use Rattle.brace_model.specs.Lawful.{LawfulJob}
use Rattle.brace_cuts.specs.CutPlans.{IsPlan}
use Rattle.brace_invert.specs.Range.{range_of}
use Rattle.brace_pieces.specs.declared.setting.Setting.{Setting}

-- how far an agent may move in a tick at most, in millionths
abbrev pub greatest_reach : Program → ℤ
greatest_reach program = fold (λ r c. int_max r c.reach) (pos 0) program.classes

-- how far from an agent stand those that decide what becomes of it
abbrev pub range : Setting → ℤ
range s = range_of s.job.program s.invert

-- the cuts that hold in a tick
abbrev pub cuts_of : Setting → ℕ → Cuts
cuts_of s tick = cuts_at s.cuts tick

-- how many parts the plane has, in every tick; the publisher has this number
abbrev pub parts : Setting → ℕ
parts s = parts_of (cuts_of s s.job.first)

-- an epoch ends at a tick: the run's last, or a later one than its first that the epoch's length
-- divides
abbrev pub is_end : Setting → ℕ → Bool
is_end s tick = (tick == s.job.last) || (nat_lt s.job.first tick && (tick % s.epoch == 0))

-- the ticks in which epochs end, in order
abbrev pub ends : Setting → List ℕ
ends s = filter (is_end s) (range_with_len s.job.first (s.job.last + 1 - s.job.first))

-- the ticks of a run before one
abbrev pub ticks_before : Setting → ℕ → List ℕ
ticks_before s tick = range_with_len s.job.first (tick - s.job.first)

-- the first tick that is shown at an end: the one behind the end before, or the run's first
abbrev pub shown_from : Setting → ℕ → ℕ
shown_from s end =
    let before = filter (is_end s) (ticks_before s end) in
    fold (λ from k. k + 1) s.job.first before

-- the ticks that are shown at an end: the end, and those since the end before that are published
abbrev pub shown_ticks : Setting → ℕ → List ℕ
shown_ticks s end =
    let from = shown_from s end in
    filter (λ t. (t == end) || (t % s.job.every == 0)) (range_with_len from (end + 1 - from))

-- the cuts under which agents are shown at an end: those of the tick that leads to it
abbrev pub cuts_shown : Setting → ℕ → Cuts
cuts_shown s end = cuts_of s (if nat_lt s.job.first end then end - 1 else s.job.first)

-- a lawful run from a world with numbered agents, epochs of 1 to 16 ticks, and a cut plan for them
pub record LawfulSetting (s : Setting) : Type 0 where
  pub job_is_lawful : LawfulJob s.job
  pub start_is_numbered : IsNumbered s.job.start
  pub epochs_have_ticks : 1 ≤ s.epoch
  pub epochs_are_short : s.epoch ≤ 16
  pub plan_is_lawful : IsPlan s.epoch s.cuts
