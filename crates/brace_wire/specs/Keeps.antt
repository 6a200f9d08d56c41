-- What a put or a take keeps of lanes over links.
use Rattle.std.specs.Prelude.{◌≡◌, ◌+◌, ◌≤◌, length}
use Rattle.brace_wire.specs.Links.{OnLinks}
use Rattle.brace_wire.specs.Hope.{all_hope}

-- as many rounds were made, and at most those are needed more that one piece takes
pub record Keeps (v w : OnLinks) : Type 0 where
  pub actors : w.actors ≡ v.actors
  pub fates : w.fates ≡ v.fates
  pub rounds : w.rounds ≡ v.rounds
  pub hope : all_hope w ≤ all_hope v + (length v.fates + 1)
