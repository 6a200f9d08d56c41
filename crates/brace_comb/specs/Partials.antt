-- The one list of entries that all that is given comes to, and that of values said.
use Rattle.std.specs.Prelude.{◌≡◌, ℕ, List, [], ◌∷◌, map, Option, Some, None}
use Rattle.brace_model.specs.declared.program.Comb.{Comb}
use Rattle.brace_model.specs.declared.program.Value.{Value}
use Rattle.brace_model.specs.Query.{Saying}
use Rattle.brace_model.specs.Total.{said_to}
use Rattle.brace_comb.specs.declared.entry.Entry.{Entry}
use Rattle.brace_comb.specs.Totals.{Tally, tally_of}
use Rattle.brace_comb.specs.Entries.{IsRising, total_at}

-- rising entries: one for each effect of an agent that is given to, with the total of all that is
-- given to it
pub record IsPartialOf (given entries : List Entry) : Type 0 where
  pub rising : IsRising entries
  pub totals : (target field : ℕ) → total_at target field entries ≡ total_at target field given

-- the total of values; none where there is no value
abbrev pub total_said : Comb → List Value → Option Tally
total_said comb [] = None
total_said comb (v ∷ values) = Some (tally_of comb (v ∷ values))

-- values said to one effect of an agent
abbrev pub sayings_to : ℕ → ℕ → List Value → List Saying
sayings_to target field values =
    map (λ v. record { target = target; field = field; value = v }) values

-- rising entries: one for each effect of an agent to which a value is said, with the total of all
-- values said to it
pub record AreTotalsOf (combs : ℕ → ℕ → Comb) (said : List Saying) (entries : List Entry)
    : Type 0 where
  pub rising : IsRising entries
  pub totals : (target field : ℕ) → total_at target field entries
      ≡ total_said (combs target field) (said_to target field said)
