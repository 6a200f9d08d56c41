-- How what parts bring is joined. Only the crate's own functions cite this.
use Rattle.std.specs.Prelude.{◌≡◌, ℕ, ◌-◌, List, ◌++◌, map, flat_map, zip}
use Rattle.brace_pieces.specs.declared.setting.Setting.{Setting}
use Rattle.brace_pieces.specs.declared.piece.Shown.{Shown}
use Rattle.brace_pieces.specs.Settings.{cuts_of}
use Rattle.brace_pieces.specs.Continued.{on}
use Rattle.brace_pieces.specs.Owned.{owned}
use Rattle.brace_pieces.specs.Together.{IsSorted}

-- the agents of some parts in the world of a tick, under the cuts of a tick
abbrev pub of_parts : Setting → ℕ → List ℕ → ℕ → Shown
of_parts s held numbers tick = record {
  tick = tick;
  agents = flat_map (λ p. owned s.job.program (cuts_of s held) p (on s tick).agents) numbers;
  next = (on s tick).next;
}

-- worlds with the agents of others behind their own
abbrev pub added_to : List Shown → List Shown → List Shown
added_to worlds more =
    map (λ p. record p.0 { agents = p.0.agents ++ p.1.agents }) (zip worlds more)

-- a world with its agents by rising id
pub record IsSortedWorld (before after : Shown) : Type 0 where
  pub same_tick : after.tick ≡ before.tick
  pub same_next : after.next ≡ before.next
  pub by_id : IsSorted before.agents after.agents
