-- The order by keys that are numbers.
use Rattle.std.specs.Prelude.{ℕ, List, [], ◌∷◌, nat_lt, if◌then◌else◌}

-- an item set before the first one of a greater key
abbrev pub placed : {X : Type 0} → (X → ℕ) → X → List X → List X
placed key x [] = x ∷ []
placed key x (y ∷ rest) = if nat_lt (key x) (key y) then x ∷ y ∷ rest else y ∷ placed key x rest

-- items in the order of their keys
abbrev pub by_key : {X : Type 0} → (X → ℕ) → List X → List X
by_key key [] = []
by_key key (x ∷ rest) = placed key x (by_key key rest)
