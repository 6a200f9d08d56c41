-- A program without `spawn` has no births, and no faults of births.
use Rattle.std.proofs.Common.{◌≡◌, ◌∙◌, ap, ℕ, ◌+◌, List, [], filter_map, length, arith, false}
use Rattle.std.specs.Prelude.{option_map}
use Rattle.brace_model.specs.declared.world.Agent.{Agent}
use Rattle.brace_model.specs.World.{World, ids}
use Rattle.brace_model.specs.Next.{has_births}
use Rattle.brace_model.specs.Step.{living, children, first_too_far, birth_fault}
use Rattle.brace_pieces.specs.declared.setting.Setting.{Setting}
use Rattle.brace_pieces.specs.Continued.{said, becomes, all_left, fitting, continued, birth_faults, listed}
use Rattle.brace_pieces.specs.Together.{children_of, all_born, with_number, born_of}
use Rattle.brace_pieces.proofs.MoveLemmas.{left_each}
use Rattle.brace_pieces.proofs.GivenLemmas.{no_children_of}

module _ (s : Setting) (none : has_births s.job.program ≡ false) (t : ℕ) where
  no_children : (w : List Agent) → children (all_left s t w) ≡ []
  no_children w = ap children (left_each (becomes s t (said s t w)) w) ∙ no_children_of s t w none w

  -- no birth goes too far
  pub no_birth_faults : (world : World) → birth_faults s t world ≡ []
  no_birth_faults world =
      ap (λ kids. listed (option_map (birth_fault s.job.program t) (first_too_far (living (all_left s t world.agents)) world.next kids))) (no_children world.agents)

  -- and the next free id stays
  pub same_next : (world : World) → (continued s t world).next ≡ world.next
  same_next world =
      ap (λ kids. world.next + length (fitting (living (all_left s t world.agents)) world.next kids)) (no_children world.agents) ∙ none_more
    where
      none_more : world.next + 0 ≡ world.next
      none_more = omega arith

  -- no agents have children, and none are born to them
  pub none_have : (w own : List Agent) → children_of s t w own ≡ []
  none_have w own = no_children_of s t w none own

  pub none_born : (world : World) (own : List Agent) → born_of s t world own ≡ []
  none_born world own = ap (filter_map (with_number world.next (ids (all_born s t world)))) (none_have world.agents own)
