-- The steps of a run in their order, and who meets whom in each.
use Rattle.std.specs.Prelude.{ℕ, ◌+◌, ◌-◌, ◌==◌, nat_lt, pos, int_le, List, [], ◌∷◌, ◌++◌, map, filter, flat_map, Bool, true, false, not, ◌&&◌, ◌||◌, if◌then◌else◌}
use Rattle.std.specs.List.{range_with_len, list_any}
use Rattle.std.specs.Int.{int_max}
use Rattle.brace_num.specs.Areas.{gap}
use Rattle.brace_core.specs.Schedule.{Schedule, Pair}
use Rattle.brace_model.specs.Next.{has_births}
use Rattle.brace_cuts.specs.declared.space.Cuts.{Cuts}
use Rattle.brace_cuts.specs.Space.{area_of, are_near}
use Rattle.brace_pieces.specs.declared.setting.Setting.{Setting}
use Rattle.brace_pieces.specs.declared.setting.Stage.{Stage}
use Rattle.brace_pieces.specs.declared.setting.Stage.TheVariants.{Hand, Border, Effects, Census, Move, Show}
use Rattle.brace_pieces.specs.declared.setting.Step.{Step}
use Rattle.brace_pieces.specs.Settings.{greatest_reach, range, cuts_of, parts, is_end}

abbrev pub step : Stage → ℕ → Step
step stage tick = record { stage = stage; tick = tick }

-- a step that is made on a condition
abbrev pub made_if : Bool → Step → List Step
made_if c s = if c then s ∷ [] else []

-- other cuts hold from a tick on that is not the run's first
abbrev pub is_recut : Setting → ℕ → Bool
is_recut s tick = nat_lt s.job.first tick && list_any (λ line. line.tick == tick) s.cuts.lines

-- all is shown at a tick, where an epoch ends there
abbrev pub show : Setting → ℕ → List Step
show s tick = made_if (is_end s tick) (step Show tick)

-- the steps of a tick, which lead to the next world
abbrev pub steps_in : Setting → ℕ → List Step
steps_in s tick =
    made_if (is_recut s tick) (step Hand tick)
    ++ step Border tick
    ∷ made_if (not s.invert) (step Effects tick)
    ++ made_if (has_births s.job.program) (step Census tick)
    ++ step Move tick
    ∷ show s (tick + 1)

-- the steps of a run
abbrev pub steps : Setting → List Step
steps s =
    show s s.job.first
    ++ flat_map (steps_in s) (range_with_len s.job.first (s.job.last - s.job.first))

-- two parts stand so near under the cuts of a tick that an agent of one may see, or go to, the
-- other
abbrev pub may_reach : Setting → ℕ → ℕ → ℕ → Bool
may_reach s tick p q =
    let program = s.job.program in
    are_near (cuts_of s tick) p q (int_max (range s) (greatest_reach program))

-- the area of a part under some cuts and that of a part under others have a point in common
abbrev pub share : Cuts → ℕ → Cuts → ℕ → Bool
share before p after q = int_le (gap (area_of before p) (area_of after q)) (pos 0)

-- agents of one of two parts may be handed to the other where other cuts hold from a tick on
abbrev pub are_recut : Setting → ℕ → ℕ → ℕ → Bool
are_recut s tick p q =
    let before = cuts_of s (tick - 1) in
    let after = cuts_of s tick in
    share before p after q || share before q after p

-- two different parts meet in a step
abbrev pub parts_meet : Setting → Step → ℕ → ℕ → Bool
parts_meet s at p q = met_in s at.stage at.tick p q
  where
    met_in : Setting → Stage → ℕ → ℕ → ℕ → Bool
    met_in s Hand tick p q = are_recut s tick p q
    met_in s Census tick p q = true
    met_in s Show tick p q = false
    met_in s _ tick p q = may_reach s tick p q

-- the step shows all to the publisher
abbrev pub is_show : Stage → Bool
is_show Show = true
is_show _ = false

-- two actors meet in a step: parts as above, and each part the publisher, whose number is the
-- number of parts, where all is shown
abbrev pub meet : Setting → Step → ℕ → ℕ → Bool
meet s at p q =
    not (p == q)
    && (if nat_lt p (parts s) && nat_lt q (parts s) then parts_meet s at p q else is_show at.stage)

-- whom an actor meets in a step, by rising number
abbrev pub met : Setting → Step → ℕ → List ℕ
met s at p = filter (meet s at p) (range_with_len 0 (parts s + 1))

-- all pairs of numbers below n
abbrev pub pairs_below : ℕ → List Pair
pairs_below n =
    let numbers = range_with_len 0 n in
    flat_map (λ p. map (λ q. record { from = p; to = q }) numbers) numbers

-- the schedule of a run: its parts and the publisher, and which pairs of these meet in each step
abbrev pub schedule : Setting → Schedule
schedule s =
    let actors = parts s + 1 in
    let pairs = pairs_below actors in
    record {
      actors = actors;
      steps = map (λ at. filter (λ m. meet s at m.from m.to) pairs) (steps s);
    }
