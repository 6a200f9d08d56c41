-- How a count of failures rises.
use Rattle.std.specs.Prelude.{ℕ, List, Bool, ◌==◌, ◌+◌, ◌-◌, ◌^◌, ◌≤◌, min}
use Rattle.std.specs.List.{list_any}

-- the count rose by one or more; at the end of its 64 bits it stands still
abbrev pub Rose : ℕ → ℕ → Type 0
Rose before now = min (before + 1) (2 ^ 64 - 1) ≤ now

-- the count after this one; at the end of its 64 bits it stands still
abbrev pub next_count : ℕ → ℕ
next_count n = min (n + 1) (2 ^ 64 - 1)

-- the list has the number
abbrev pub listed : List ℕ → ℕ → Bool
listed numbers n = list_any (λ m. m == n) numbers
