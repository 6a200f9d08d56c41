-- The modes by their names, and how each of them stands to an option.
use Rattle.std.specs.Prelude.{ℕ, List, [], ◌∷◌, Bool, true, not, Option, codes, bytes_eq, find, option_map}
use Rattle.brace_words.specs.declared.mode.Mode.{Mode}
use Rattle.brace_words.specs.declared.mode.Mode.TheVariants as mode

-- the modes, each with its name
abbrev pub modes : List (List ℕ × Mode)
modes =
    (codes "run", mode.Run)
    ∷ (codes "resume", mode.Resume)
    ∷ (codes "check", mode.Check)
    ∷ (codes "fmt", mode.Fmt)
    ∷ (codes "plan", mode.Plan)
    ∷ (codes "trial", mode.Trial)
    ∷ (codes "audit", mode.Audit)
    ∷ (codes "balance", mode.Balance)
    ∷ []

-- the mode of this name, if there is one
abbrev pub mode_named : List ℕ → Option Mode
mode_named name = option_map (λ m. m.1) (find (λ m. bytes_eq m.0 name) modes)

-- how a mode stands to an option
pub data Use : Type 0 where
  needed : Use
  may : Use
  never : Use

-- whether a line may have an option, or lack it
abbrev pub admits : Use → Bool → Bool
admits needed given = given
admits may given = true
admits never given = not given

-- a use for `run`, for `resume`, for `check` and `fmt`, for `plan`, for `trial`, for `audit`, and
-- for `balance`
abbrev pub modes_are : Use → Use → Use → Use → Use → Use → Use → Mode → Use
modes_are run resume judged plan trial audit balance mode.Run = run
modes_are run resume judged plan trial audit balance mode.Resume = resume
modes_are run resume judged plan trial audit balance mode.Check = judged
modes_are run resume judged plan trial audit balance mode.Fmt = judged
modes_are run resume judged plan trial audit balance mode.Plan = plan
modes_are run resume judged plan trial audit balance mode.Trial = trial
modes_are run resume judged plan trial audit balance mode.Audit = audit
modes_are run resume judged plan trial audit balance mode.Balance = balance
