-- The total of an effect: the fold of its combinator over all values said to it.
use Rattle.std.specs.Prelude.{ℕ, suc, ℤ, pos, negsuc, ◌+ℤ◌, List, [], ◌∷◌, map, filter, fold, ◌==◌, ◌&&◌}
use Rattle.std.specs.Int.{int_min, int_max}
use Rattle.brace_model.specs.declared.program.Comb.{Comb}
use Rattle.brace_model.specs.declared.program.Comb.TheVariants.{Sum, Min, Max, Count, Or}
use Rattle.brace_model.specs.declared.program.Value.{Value}
use Rattle.brace_model.specs.declared.program.Effect.{Effect}
use Rattle.brace_model.specs.World.{number}
use Rattle.brace_model.specs.Query.{Saying}

-- what a total is where nothing is said; that of `or` is 0 or 1
abbrev pub identity : Comb → ℤ
identity Sum = pos 0
identity Min = pos 9223372036854775807
identity Max = negsuc 9223372036854775807
identity Count = pos 0
identity Or = pos 0

-- a total and one more value, over unbounded whole numbers
abbrev pub joined : Comb → ℤ → Value → ℤ
joined Sum total v = total +ℤ number v
joined Min total v = int_min total (number v)
joined Max total v = int_max total (number v)
joined Count total v = total +ℤ pos 1
joined Or total v = int_max total (number v)

-- the total of values
abbrev pub total_of : Comb → List Value → ℤ
total_of comb values = fold (joined comb) (identity comb) values

-- the values that sayings say to an effect of an agent
abbrev pub said_to : ℕ → ℕ → List Saying → List Value
said_to id effect sayings =
    map (λ s. s.value) (filter (λ s. (s.target == id) && (s.field == effect)) sayings)

-- the totals of an agent's effects, numbered from n on
abbrev pub totals_from : ℕ → ℕ → List Effect → List Saying → List ℤ
totals_from n id [] sayings = []
totals_from n id (e ∷ effects) sayings =
    total_of e.comb (said_to id n sayings) ∷ totals_from (suc n) id effects sayings
