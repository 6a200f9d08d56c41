-- What a part has when it comes to a step. Only the crate's own functions cite this.
use Rattle.std.specs.Prelude.{◌≡◌, ℕ, ◌+◌, List, [], Option, Some, None}
use Rattle.std.specs.List.{All}
use Rattle.brace_pieces.specs.declared.setting.Setting.{Setting}
use Rattle.brace_pieces.specs.declared.setting.Stage.{Stage}
use Rattle.brace_pieces.specs.declared.setting.Stage.TheVariants.{Effects, Census, Move, Show}
use Rattle.brace_pieces.specs.declared.setting.Step.{Step}
use Rattle.brace_pieces.specs.declared.piece.Shown.{Shown}
use Rattle.brace_pieces.specs.Continued.{on}
use Rattle.brace_pieces.specs.Finds.{queries_found, updates_found}
use Rattle.brace_pieces.specs.Right.{IsFaultless}
use Rattle.brace_herd.specs.declared.stance.Stance.{Stance}
use Rattle.brace_herd.specs.declared.stance.Stance.TheVariants.{Leaves}
use Rattle.brace_part.specs.Parts.{kept_at}
use Rattle.brace_herd.specs.Ready.{IsReadyFor}

-- the same where a step may be next, or none is left
abbrev pub IsReady : Setting → ℕ → Option Step → Stance → Type 0
IsReady s p (Some at) stance = IsReadyFor s p at.stage at.tick stance
IsReady s p None stance = IsReadyFor s p Show s.job.last stance

-- the part found no fault before a step
abbrev pub IsFaultlessBefore : Setting → ℕ → Stage → ℕ → Type 0
IsFaultlessBefore s p Effects tick =
    IsFaultless s tick p × (queries_found s tick p (on s tick).agents ≡ [])
IsFaultlessBefore s p Census tick =
    IsFaultless s tick p
    × ((queries_found s tick p (on s tick).agents ≡ [])
    × (updates_found s tick p (on s tick).agents ≡ []))
IsFaultlessBefore s p Move tick = IsFaultless s (tick + 1) p
IsFaultlessBefore s p _ tick = IsFaultless s tick p

abbrev pub IsFaultlessAt : Setting → ℕ → Option Step → Type 0
IsFaultlessAt s p (Some at) = IsFaultlessBefore s p at.stage at.tick
IsFaultlessAt s p None = Unit {0}

-- the next free id of a part that comes to a step is that of the world of the step's tick
abbrev pub IsNextAt : Setting → Option Step → ℕ → Type 0
IsNextAt s (Some at) next = next ≡ (on s at.tick).next
IsNextAt s None next = Unit {0}

-- the next free id behind a work: behind a move that of what it had
abbrev pub next_behind : Stage → Stance → ℕ → ℕ
next_behind Move (Leaves left born next) old = next
next_behind at stance old = old

-- each world that a part keeps is its part of that world
abbrev pub AreKept : Setting → ℕ → List Shown → Type 0
AreKept s p worlds = All (λ w. w ≡ kept_at s p w.tick) worlds
