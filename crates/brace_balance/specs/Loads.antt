-- Cuts divide the line into strips, and a number on a cut belongs to the strip on its higher side.
-- The load of cuts over numbers, the least load, and what shows that no load is lower. Numbers are
-- whole millionths.
use Rattle.std.specs.Prelude.{◌≡◌, ℕ, ◌+◌, ◌<◌, ◌≤◌, max, nat_le, ◌==◌, ℤ, int_le, Bool, true, ◌&&◌, IsTrue, List, [], ◌∷◌, length, map}
use Rattle.std.specs.List.{count_by, range_with_len}
use Rattle.std.specs.Ordering.{int_eq}
use Rattle.brace_cuts.specs.Space.{rises, strip}
use Rattle.brace_balance.specs.declared.kinds.Proof.{Proof}
use Rattle.brace_balance.specs.declared.kinds.Proof.TheVariants.{Empty, Stack, Posts}

-- no number is above the next
abbrev pub never_falls : List ℤ → Bool
never_falls [] = true
never_falls (x ∷ []) = true
never_falls (x ∷ y ∷ xs) = int_le x y && never_falls (y ∷ xs)

-- how many of the numbers are in strip number i
abbrev pub in_strip : List ℤ → List ℤ → ℕ → ℕ
in_strip cuts xs i = count_by (λ v. strip cuts v == i) xs

-- the greatest of some counts
abbrev pub greatest : List ℕ → ℕ
greatest [] = 0
greatest (n ∷ ns) = max n (greatest ns)

-- the load: the greatest number of members that one of the strips has
abbrev pub load : List ℤ → List ℤ → ℕ
load cuts xs = greatest (map (in_strip cuts xs) (range_with_len 0 (length cuts + 1)))

-- no rising cuts that make at most so many strips have a load below n
abbrev pub NoneIsLower : List ℤ → ℕ → ℕ → Type 0
NoneIsLower xs strips n =
    (cuts : List ℤ) → IsTrue (rises cuts) → length cuts < strips → n ≤ load cuts xs

-- n is the least load of all rising cuts that make at most so many strips
pub record IsLeast (xs : List ℤ) (strips n : ℕ) : Type 0 where
  pub cuts : List ℤ
  pub rising : IsTrue (rises cuts)
  pub few : length cuts < strips
  pub reached : load cuts xs ≡ n
  pub lowest : NoneIsLower xs strips n

-- how many of the numbers are p
abbrev pub times : ℤ → List ℤ → ℕ
times p xs = count_by (λ v. int_eq v p) xs

-- how many of the numbers are from p to q, with p and q
abbrev pub between : ℤ → ℤ → List ℤ → ℕ
between p q xs = count_by (λ v. int_le p v && int_le v q) xs

-- at least n of the numbers are between each post and the next, with both
abbrev pub posts_hold : ℕ → List ℤ → List ℤ → Bool
posts_hold n xs [] = true
posts_hold n xs (p ∷ []) = true
posts_hold n xs (p ∷ q ∷ posts) = nat_le n (between p q xs) && posts_hold n xs (q ∷ posts)

-- whether a proof shows that no cuts into so many strips have a load below n
abbrev pub accepts : List ℤ → ℕ → ℕ → Proof → Bool
accepts xs strips n Empty = n == 0
accepts xs strips n (Stack p) = nat_le n (times p xs)
accepts xs strips n (Posts posts) =
    length posts == strips + 1 && rises posts && posts_hold n xs posts
