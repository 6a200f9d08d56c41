use Rattle.std.proofs.Common.{◌≡◌, ◌+◌, ◌∷◌, ◌++◌, flat_map}
use Rattle.std.specs.Prelude.{sum_by}
use Rattle.std.specs.Vec.{vec_capacity}
use Rattle.std.specs.List.Sorted.{IsPermutation}
use Rattle.brace_pieces.specs.Exchanged.{counts_brought}
use Rattle.brace_herd.proofs.census.joined.Given as goal

-- what is left to join and what was joined are all that is to be joined
abbrev pub invariant-loop-piece : goal.invariant-loop-piece
invariant-loop-piece l = record {
  living : sum_by (λ c. c.living) (l.fn.own ∷ flat_map counts_brought l.fn.taken.items) ≡ l.living + sum_by (λ c. c.living) (flat_map counts_brought l.taken.items);
  values : sum_by (λ c. c.values) (l.fn.own ∷ flat_map counts_brought l.fn.taken.items) ≡ l.values + sum_by (λ c. c.values) (flat_map counts_brought l.taken.items);
  parents : IsPermutation (flat_map (λ c. c.parents) (l.fn.own ∷ flat_map counts_brought l.fn.taken.items)) (l.parents.items ++ flat_map (λ c. c.parents) (flat_map counts_brought l.taken.items));
  places : vec_capacity l.taken ≡ vec_capacity l.fn.taken;
}

abbrev pub decreases-loop-piece : goal.decreases-loop-piece
decreases-loop-piece l = goal.left-loop-piece l
