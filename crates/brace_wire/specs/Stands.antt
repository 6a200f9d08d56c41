-- Where actors and lanes over links stand at the end of a run's first steps.
use Rattle.std.specs.Prelude.{◌≡◌, ℕ, ◌+◌, ◌*◌, ◌≤◌, List, length}
use Rattle.brace_core.specs.Schedule.{front, lane}
use Rattle.brace_core.specs.Events.{events_of}
use Rattle.brace_core.specs.Order.{StandsAt}
use Rattle.brace_pieces.specs.declared.setting.Setting.{Setting}
use Rattle.brace_pieces.specs.Steps.{schedule}
use Rattle.brace_wire.specs.Links.{OnLinks, puts_on, takes_on, received_on}

-- actors of a run that have made so many turns each, and lanes, stand at the end of its first
-- steps, so many: all pieces of these were put, received and taken, and no others; each event took
-- few rounds
pub record StandsOn (s : Setting) (n : ℕ) (pasts : List ℕ) (v : OnLinks) : Type 0 where
  pub stands : StandsAt (schedule s) n pasts (puts_on v) (takes_on v)
  pub all_received : (p q : ℕ) → received_on v p q ≡ length (lane (front (schedule s) n) p q)
  pub few_rounds : v.rounds ≤ (length v.fates + 1) * events_of (front (schedule s) n)
