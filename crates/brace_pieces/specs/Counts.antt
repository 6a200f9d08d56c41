-- How much the parts of a run exchange, counted over its whole worlds.
use Rattle.std.specs.Prelude.{ℕ, ◌+◌, ◌-◌, ◌==◌, List, [], map, filter, sum, length, not, if◌then◌else◌, Result, Ok, Err}
use Rattle.std.specs.List.{list_any, range_with_len}
use Rattle.brace_model.specs.declared.program.Program.{Program}
use Rattle.brace_model.specs.declared.fault.Fault.{Fault}
use Rattle.brace_model.specs.declared.world.Agent.{Agent}
use Rattle.brace_model.specs.World.{World}
use Rattle.brace_model.specs.Run.{world_after}
use Rattle.brace_cuts.specs.declared.space.Cuts.{Cuts}
use Rattle.brace_pieces.specs.declared.setting.Setting.{Setting}
use Rattle.brace_pieces.specs.Settings.{cuts_of, parts}
use Rattle.brace_pieces.specs.Steps.{is_recut}
use Rattle.brace_pieces.specs.Owned.{owned}
use Rattle.brace_pieces.specs.Right.{border, shares}

-- the agents of the world of a tick; none where the run ended before
abbrev pub agents_at : Setting → ℕ → List Agent
agents_at s tick = agents_of (world_after s.job (tick - s.job.first))
  where
    agents_of : Result World Fault → List Agent
    agents_of (Ok world) = world.agents
    agents_of (Err fault) = []

-- the numbers of all pairs of different parts, summed
abbrev pub over_pairs : Setting → (ℕ → ℕ → ℕ) → ℕ
over_pairs s count =
    let all = range_with_len 0 (parts s) in
    sum (map (λ p. sum (map (count p) (filter (λ q. not (p == q)) all))) all)

-- the numbers of all ticks that have a next one, summed
abbrev pub over_ticks : Setting → (ℕ → ℕ) → ℕ
over_ticks s count = sum (map count (range_with_len s.job.first (s.job.last - s.job.first)))

-- pairs of an agent and a part that does not own it, and whose area it stands within range of
abbrev pub count_border : Setting → ℕ
count_border s =
    over_ticks s (λ t. over_pairs s (λ p q. length (border s t p q (agents_at s t))))

-- triples of a part, an agent that it does not own, and an effect to which an agent of the part
-- says a value; with inversion none
abbrev pub count_effects : Setting → ℕ
count_effects s =
    if s.invert
    then 0
    else over_ticks s (λ t. over_pairs s (λ p q. length (shares s t p q (agents_at s t))))

-- the agents that one part owns in a list and another in a list
abbrev pub changing : Program → Cuts → ℕ → List Agent → Cuts → ℕ → List Agent → ℕ
changing program before p agents after q others =
    let to = owned program after q others in
    length (filter (λ a. list_any (λ b. b.id == a.id) to) (owned program before p agents))

-- agents of two worlds that follow one another whose owners there differ
abbrev pub count_moved : Setting → ℕ
count_moved s = over_ticks s (λ t. over_pairs s (λ p q.
    let cuts = cuts_of s t in
    changing s.job.program cuts p (agents_at s t) cuts q (agents_at s (t + 1))))

-- agents whose owner changes where other cuts hold from a tick on
abbrev pub count_handed : Setting → ℕ
count_handed s = over_ticks s (λ t.
    if is_recut s t
    then over_pairs s (λ p q.
    let all = agents_at s t in
    changing s.job.program (cuts_of s (t - 1)) p all (cuts_of s t) q all)
    else 0)
