-- Which faults a part finds in a tick, and in which step.
use Rattle.std.specs.Prelude.{ℕ, ◌<◌, List, ◌++◌, filter_map, flat_map, map, if◌then◌else◌}
use Rattle.std.specs.List.{Contains}
use Rattle.std.specs.Result.{result_err}
use Rattle.brace_model.specs.declared.program.Program.{Program}
use Rattle.brace_model.specs.declared.fault.Fault.{Fault}
use Rattle.brace_model.specs.declared.fault.Phase.{Phase}
use Rattle.brace_model.specs.declared.fault.Phase.TheVariants.{Query, Update, Birth}
use Rattle.brace_model.specs.declared.world.Agent.{Agent}
use Rattle.brace_model.specs.Query.{query_of, query_faults}
use Rattle.brace_invert.specs.Split.{forward_program, inverse_program}
use Rattle.brace_invert.specs.Inversion.{found_by_both}
use Rattle.brace_pieces.specs.declared.setting.Setting.{Setting}
use Rattle.brace_pieces.specs.declared.setting.Stage.{Stage}
use Rattle.brace_pieces.specs.declared.setting.Stage.TheVariants as stage
use Rattle.brace_pieces.specs.declared.setting.Step.{Step}
use Rattle.brace_pieces.specs.Settings.{range, cuts_of, parts}
use Rattle.brace_pieces.specs.Steps.{step}
use Rattle.brace_pieces.specs.Continued.{said, becomes, on, update_faults, birth_faults}
use Rattle.brace_pieces.specs.Owned.{owned, held}

-- the faults of the queries of some agents of a program over a list
abbrev pub faults_of : Program → Setting → ℕ → List Agent → List Agent → List Fault
faults_of program s tick list agents =
    flat_map (λ a. (query_of program s.job.seed tick list a).faults) agents

-- the faults of the queries that a part evaluates in a tick over a continued world: those of its
-- own agents; with inversion those of the forward program of its own agents, over the world, and of
-- the inverse program of all agents that it holds, over these
abbrev pub queries_found : Setting → ℕ → ℕ → List Agent → List Fault
queries_found s tick p world =
    let program = s.job.program in
    let own = owned program (cuts_of s tick) p world in
    let near = held program (cuts_of s tick) (range s) p world in
    if s.invert
    then (faults_of (forward_program program) s tick world own
    ++ faults_of (inverse_program program) s tick near near)
    else faults_of program s tick world own

-- the faults of the updates of a part's own agents in a tick
abbrev pub updates_found : Setting → ℕ → ℕ → List Agent → List Fault
updates_found s tick p world =
    filter_map result_err
    (map (becomes s tick (said s tick world)) (owned s.job.program (cuts_of s tick) p world))

-- all faults that a part finds in a tick
abbrev pub finds : Setting → ℕ → ℕ → List Fault
finds s tick p =
    queries_found s tick p (on s tick).agents
    ++ updates_found s tick p (on s tick).agents
    ++ birth_faults s tick (on s tick)

-- the faults of a phase of a tick that a part finds
abbrev pub found_by : Setting → ℕ → ℕ → Phase → List Fault
found_by s tick p Query = queries_found s tick p (on s tick).agents
found_by s tick p Update = updates_found s tick p (on s tick).agents
found_by s tick p Birth = birth_faults s tick (on s tick)

-- a part of the run finds a fault of a phase of a tick
pub record IsFoundBy (s : Setting) (tick : ℕ) (phase : Phase) (f : Fault) : Type 0 where
  pub part : ℕ
  pub is_part : part < parts s
  pub finds : Contains (found_by s tick part phase) f

-- the faults of the queries of all agents in a tick, by the script or by both programs of its
-- inversion
abbrev pub all_queries_found : Setting → ℕ → List Agent → List Fault
all_queries_found s tick world =
    if s.invert
    then found_by_both s.job.program s.job.seed tick world
    else query_faults s.job.program s.job.seed tick world

-- the faults of a phase of a tick over its continued world
abbrev pub found_in : Setting → ℕ → Phase → List Fault
found_in s tick Query = all_queries_found s tick (on s tick).agents
found_in s tick Update = update_faults s tick (on s tick).agents
found_in s tick Birth = birth_faults s tick (on s tick)

-- the stage in whose work the faults of a phase are found
abbrev pub stage_of : Setting → Phase → Stage
stage_of s Query = stage.Border
stage_of s Update = if s.invert then stage.Border else stage.Effects
stage_of s Birth = stage.Census

-- the step in whose work a fault is found
abbrev pub found_at : Setting → Fault → Step
found_at s f = step (stage_of s f.phase) f.tick
