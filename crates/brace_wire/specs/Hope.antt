-- How many rounds lanes may still need at most until all that was put is received.
use Rattle.std.specs.Prelude.{ℕ, zero, suc, ◌+◌, ◌-◌, ◌==◌, if◌then◌else◌, Bool, List, length, Option, Some, None, sum_by}
use Rattle.std.specs.List.{list_any}
use Rattle.brace_wire.specs.declared.frame.Frame.{Frame}
use Rattle.brace_wire.specs.declared.fate.Fate.{Fate}
use Rattle.brace_wire.specs.declared.fate.Fate.TheVariants.{Lose, Deliver, Twice, After}
use Rattle.brace_wire.specs.declared.kept.Kept.{Kept}
use Rattle.brace_wire.specs.Links.{OnLink, OnLinks, fate_of, received}

-- one of some frames has this ordinal
abbrev pub comes : ℕ → List Frame → Bool
comes ordinal frames = list_any (λ f. f.ordinal == ordinal) frames

-- how many rounds a sending takes by its fate: a lost one as many as the next sending, and one more
abbrev pub rounds_by : Fate → ℕ → ℕ
rounds_by Lose next = next + 1
rounds_by Deliver next = 1
rounds_by Twice next = 1
rounds_by After next = 2

-- how many rounds a piece takes that was sent n times, where so many sendings are looked at
abbrev pub rounds_in : List Fate → ℕ → ℕ → ℕ
rounds_in fates zero n = 0
rounds_in fates (suc k) n = rounds_by (fate_of fates n) (rounds_in fates k (n + 1))

-- how many rounds the next piece takes, of this ordinal: one where it comes late
abbrev pub due_in : List Fate → List Frame → ℕ → Option Kept → ℕ
due_in fates late ordinal None = 0
due_in fates late ordinal (Some kept) =
    if comes ordinal late then 1 else rounds_in fates (length fates) kept.sent

-- how many rounds a link needs whose next ordinal this is, and of which so many pieces were put and
-- not received
abbrev pub rounds_left : List Fate → List Frame → Option Kept → Option Kept → ℕ → ℕ → ℕ
rounds_left fates late older newer ordinal zero = 0
rounds_left fates late older newer ordinal (suc zero) = due_in fates late ordinal newer
rounds_left fates late older newer ordinal (suc (suc n)) =
    due_in fates late ordinal older + (length fates + 1)

abbrev pub hope : List Fate → OnLink → ℕ
hope fates link =
    let next = received link.receiver in
    rounds_left fates link.late link.older link.newer next (link.put - next)

-- how many rounds all need together
abbrev pub all_hope : OnLinks → ℕ
all_hope v = sum_by (hope v.fates) v.links
