-- What `of` and `join` give of some values in any order and any grouping.
use Rattle.std.specs.Prelude.{List, [], ◌∷◌, ◌++◌}
use Rattle.std.specs.List.Sorted.{IsPermutation}
use Rattle.brace_model.specs.declared.program.Comb.{Comb}
use Rattle.brace_model.specs.declared.program.Value.{Value}
use Rattle.brace_comb.specs.Totals.{Tally, tally_of, join}

-- a total that some values are folded to: totals of none and of one, joined anyhow
pub data IsFold (comb : Comb) : List Value → Tally → Type 0 where
  none : IsFold comb [] (tally_of comb [])
  one : (v : Value) → IsFold comb (v ∷ []) (tally_of comb (v ∷ []))
  both : (xs ys : List Value) (a b : Tally) → IsFold comb xs a → IsFold comb ys b
      → IsFold comb (xs ++ ys) (join a b)
  moved : (xs ys : List Value) (t : Tally) → IsPermutation xs ys → IsFold comb xs t
      → IsFold comb ys t
