-- A total as contracts see it, the total of values, and the join of two totals.
use Rattle.std.specs.Prelude.{◌≡◌, ℕ, ◌+◌, ◌*◌, ◌^◌, ◌≤◌, ◌⊎◌, ℤ, pos, ◌+ℤ◌, unsigned_abs, FitsSigned, List, [], length, Bool, true, false, if◌then◌else◌}
use Rattle.std.specs.Int.{w64, w128, int_min, int_max}
use Rattle.brace_model.specs.declared.program.Comb.{Comb}
use Rattle.brace_model.specs.declared.program.Comb.TheVariants as comb
use Rattle.brace_model.specs.declared.program.Value.{Value}
use Rattle.brace_model.specs.declared.program.Value.TheVariants.{Flag}
use Rattle.brace_model.specs.World.{number}
use Rattle.brace_model.specs.Total.{total_of}
use Rattle.brace_comb.specs.declared.total.Total.{Total}
use Rattle.brace_comb.specs.declared.total.Total.TheVariants.{Sum, Least, Greatest, Count, Any}

-- a total: its combinator, its number over whole numbers, and how many values it joins
pub record Tally : Type 0 where
  pub comb : Comb
  pub number : ℤ
  pub count : ℕ

-- what is seen of each form; a flag is 0 or 1
abbrev pub tally : Total → Tally
tally (Sum n k) = record { comb = comb.Sum; number = n; count = k }
tally (Least n k) = record { comb = comb.Min; number = n; count = k }
tally (Greatest n k) = record { comb = comb.Max; number = n; count = k }
tally (Count k) = record { comb = comb.Count; number = pos k; count = k }
tally (Any b k) = record { comb = comb.Or; number = if b then pos 1 else pos 0; count = k }

-- the total of values: the number that the meaning gives them, and how many they are
abbrev pub tally_of : Comb → List Value → Tally
tally_of comb values = record { comb = comb; number = total_of comb values; count = length values }

-- the combinator accepts the value: `or` flags, `count` any value, the others numbers
abbrev pub accepts : Comb → Value → Bool
accepts comb.Count v = true
accepts comb.Or (Flag b) = true
accepts comb.Or v = false
accepts c (Flag b) = false
accepts c v = true

-- the number that one value brings to a total
abbrev pub brought : Comb → Value → ℤ
brought comb.Count v = pos 1
brought _ v = number v

-- a total of the combinator can have this number, where it joins so many values
abbrev pub IsNumberOf : Comb → ℤ → ℕ → Type 0
IsNumberOf comb.Sum n k = FitsSigned w128 n
IsNumberOf comb.Min n k = FitsSigned w64 n
IsNumberOf comb.Max n k = FitsSigned w64 n
IsNumberOf comb.Count n k = n ≡ pos k
IsNumberOf comb.Or n k = (n ≡ pos 0) ⊎ (n ≡ pos 1)

-- two numbers of a combinator in one
abbrev pub merged : Comb → ℤ → ℤ → ℤ
merged comb.Sum a b = a +ℤ b
merged comb.Min a b = int_min a b
merged comb.Max a b = int_max a b
merged comb.Count a b = a +ℤ b
merged comb.Or a b = int_max a b

-- the total of what two totals of one combinator join
abbrev pub join : Tally → Tally → Tally
join a b =
    record { comb = a.comb; number = merged a.comb a.number b.number; count = a.count + b.count }

-- no value is joined yet
abbrev pub IsIdentity : Tally → Type 0
IsIdentity t = t ≡ tally_of t.comb []

-- a sum is no further from 0 than as many values of 64 bits can bring it
abbrev pub IsBounded : Tally → Type 0
IsBounded t = t.comb ≡ comb.Sum → unsigned_abs t.number ≤ 2 ^ 63 * t.count

-- two totals may be joined: they are of one combinator and bounded, and join at most 2^52 values
pub record CanJoin (a b : Tally) : Type 0 where
  pub alike : a.comb ≡ b.comb
  pub first : IsBounded a
  pub second : IsBounded b
  pub few : a.count + b.count ≤ 2 ^ 52
