-- Entries: their order, and what they give to the effects of agents.
use Rattle.std.specs.Prelude.{◌≡◌, ℕ, List, [], ◌∷◌, ◌==◌, ◌&&◌, if◌then◌else◌, Option, Some, None, fold}
use Rattle.std.specs.List.{All}
use Rattle.std.specs.List.Sorted.{IsStrictlySortedBy}
use Rattle.std.specs.Ordering.{nat_cmp, ordering_then}
use Rattle.std.specs.declared.cmp.Ordering.{Ordering}
use Rattle.brace_model.specs.declared.program.Comb.{Comb}
use Rattle.brace_comb.specs.declared.entry.Entry.{Entry}
use Rattle.brace_comb.specs.declared.total.Total.{Total}
use Rattle.brace_comb.specs.Totals.{Tally, tally, join, CanJoin}

-- the order of entries: by target, then by field
abbrev pub by_place : Entry → Entry → Ordering
by_place a b = ordering_then (nat_cmp a.target b.target) (nat_cmp a.field b.field)

-- entries in that order, at most one for each effect of an agent
abbrev pub IsRising : List Entry → Type 0
IsRising entries = IsStrictlySortedBy by_place entries

-- what an entry gives to an effect of an agent
abbrev pub given_by : ℕ → ℕ → Entry → Option Tally
given_by target field e =
    if (e.target == target) && (e.field == field) then Some (tally e.total) else None

-- two totals in one, where both are there
abbrev pub both : Option Tally → Option Tally → Option Tally
both None b = b
both (Some a) None = Some a
both (Some a) (Some b) = Some (join a b)

-- the total of all that entries give to an effect of an agent; none where they give nothing
abbrev pub total_at : ℕ → ℕ → List Entry → Option Tally
total_at target field entries = fold (λ total e. both total (given_by target field e)) None entries

-- wherever two lists of entries both give to an effect of an agent, the totals may be joined
abbrev pub CanMerge : List Entry → List Entry → Type 0
CanMerge held given = (target field : ℕ) (a b : Tally)
    → total_at target field held ≡ Some a → total_at target field given ≡ Some b → CanJoin a b

-- a list of one entry
abbrev pub single : ℕ → ℕ → Total → List Entry
single target field total = record { target = target; field = field; total = total } ∷ []

-- each entry's total is of its effect's combinator
abbrev pub AreOf : (ℕ → ℕ → Comb) → List Entry → Type 0
AreOf combs entries = All (λ e. (tally e.total).comb ≡ combs e.target e.field) entries
