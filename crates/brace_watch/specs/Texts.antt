-- The text of figures: for each watch of a tick, in their order, a line `tick,n,V,V0,..` with its
-- number from 1, the figure of the world and those of the boxes. Byte 44 is the comma.
use Rattle.std.specs.Prelude.{ℕ, ◌==◌, ◌+◌, ℤ, Bool, true, false, ◌&&◌, if◌then◌else◌, List, [], ◌∷◌, ◌++◌, flat_map, codes, Option, Some, None}
use Rattle.std.specs.List.{enumerate_from}
use Rattle.brace_num.specs.Spelling.{canonical_count, canonical_int, canonical_fixed}
use Rattle.brace_model.specs.declared.program.Comb.{Comb}
use Rattle.brace_model.specs.declared.program.Comb.TheVariants as comb
use Rattle.brace_model.specs.declared.program.Ty.{Ty}
use Rattle.brace_model.specs.declared.program.Ty.TheVariants as ty
use Rattle.brace_model.specs.declared.program.Program.{Program}
use Rattle.brace_model.specs.declared.world.Agent.{Agent}
use Rattle.brace_cuts.specs.declared.space.Cuts.{Cuts}
use Rattle.brace_comb.specs.Totals.{Tally}
use Rattle.brace_rows.specs.AgentFile.{states_in}
use Rattle.brace_watch.specs.declared.kinds.Watch.{Watch}
use Rattle.brace_watch.specs.Watches.{type_at}
use Rattle.brace_watch.specs.Figures.{figure, box_figures}

-- the type of what is watched: that of the state, and int where agents are counted
abbrev pub type_of_state : Program → Watch → Option ℕ → Ty
type_of_state program watch None = ty.Int
type_of_state program watch (Some i) = type_at (states_in program watch.class) i

abbrev pub type_of : Program → Watch → Ty
type_of program watch = type_of_state program watch watch.field

-- a least or greatest value, which no agent has none of
abbrev pub is_extreme : Comb → Bool
is_extreme comb.Min = true
is_extreme comb.Max = true
is_extreme _ = false

-- a number of a type: six decimals where it is fixed
abbrev pub number_text : Ty → ℤ → List ℕ
number_text ty.Fixed n = canonical_fixed n
number_text _ n = canonical_int n

-- a figure; the least and the greatest value of no agent are `none`
abbrev pub figure_text : Ty → Tally → List ℕ
figure_text t figure =
    if is_extreme figure.comb && figure.count == 0
    then codes "none"
    else number_text t figure.number

-- a line of a tick, a number, and the figures of the world and of the boxes
abbrev pub line_text : Ty → ℕ → ℕ → Tally → List Tally → List ℕ
line_text t tick n whole boxes =
    canonical_count tick ++ 44 ∷ [] ++ canonical_count n
    ++ flat_map (λ f. 44 ∷ figure_text t f) (whole ∷ boxes) ++ 10 ∷ []

-- the line of a watch with its place among the watches
abbrev pub watch_text : Program → Cuts → ℕ → List Agent → ℕ × Watch → List ℕ
watch_text program cuts tick agents w =
    line_text (type_of program w.1) tick (w.0 + 1) (figure w.1 agents)
    (box_figures program cuts w.1 agents)

-- the lines of all watches for the agents of a tick
abbrev pub watched_text : Program → List Watch → Cuts → ℕ → List Agent → List ℕ
watched_text program watches cuts tick agents =
    flat_map (watch_text program cuts tick agents) (enumerate_from 0 watches)
