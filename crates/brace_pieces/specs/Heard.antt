-- What a part hears in a tick: all that is said to its agents, by its own agents over those that it
-- holds, and by the agents of the parts that it meets.
use Rattle.std.specs.Prelude.{◌≡◌, ℕ, ◌<◌, ◌==◌, ◌&&◌, List, ◌++◌, map, filter, flat_map, length, slice_get, if◌then◌else◌, Some}
use Rattle.std.specs.List.{Contains}
use Rattle.brace_model.specs.declared.program.Program.{Program}
use Rattle.brace_model.specs.declared.program.Effect.{Effect}
use Rattle.brace_model.specs.declared.program.Class.{Class}
use Rattle.brace_model.specs.declared.fault.Fault.{Fault}
use Rattle.brace_model.specs.declared.world.Agent.{Agent}
use Rattle.brace_model.specs.World.{RisesById, class_of}
use Rattle.brace_model.specs.Query.{Saying, query_of, said_in}
use Rattle.brace_comb.specs.Totals.{tally_of}
use Rattle.brace_invert.specs.Split.{forward_program, inverse_program}
use Rattle.brace_pieces.specs.declared.setting.Setting.{Setting}
use Rattle.brace_pieces.specs.declared.setting.Stage.TheVariants as stage
use Rattle.brace_pieces.specs.Settings.{LawfulSetting, range, cuts_of, parts}
use Rattle.brace_pieces.specs.Steps.{step, met}
use Rattle.brace_pieces.specs.Owned.{owned, held}
use Rattle.brace_pieces.specs.Together.{AreWhole}
use Rattle.brace_pieces.specs.Finds.{faults_of}
use Rattle.brace_pieces.specs.Right.{Share, said_by, shares}

-- the agents that a part owns, and those that it holds
abbrev pub own : Setting → ℕ → ℕ → List Agent → List Agent
own s tick p world = owned s.job.program (cuts_of s tick) p world

abbrev pub near : Setting → ℕ → ℕ → List Agent → List Agent
near s tick p world = held s.job.program (cuts_of s tick) (range s) p world

-- what the agents of a part say by a program, where its queries see the agents that the part holds
abbrev pub said_here : Program → Setting → ℕ → ℕ → List Agent → List Saying
said_here program s tick p world =
    flat_map (λ a. (query_of program s.job.seed tick (near s tick p world) a).said)
    (own s tick p world)

-- the parts that tell a part what they say to its agents, by rising number
abbrev pub tellers : Setting → ℕ → ℕ → List ℕ
tellers s tick p = met s (step stage.Effects tick) p

-- all that a part hears: with inversion what its own agents say by the forward program and all that
-- it holds by the inverse one, else what its own agents say and what it is told
abbrev pub heard : Setting → ℕ → ℕ → List Agent → List Saying
heard s tick p world =
    let program = s.job.program in
    if s.invert
    then (said_here (forward_program program) s tick p world
    ++ said_in (inverse_program program) s.job.seed tick (near s tick p world))
    else (said_here program s tick p world
    ++ flat_map (λ q. said_by s tick q world) (tellers s tick p))

-- the faults that a part meets in its queries over the agents that it holds
abbrev pub found_here : Setting → ℕ → ℕ → List Agent → List Fault
found_here s tick p world =
    let program = s.job.program in
    let list = near s tick p world in
    if s.invert
    then (faults_of (forward_program program) s tick list (own s tick p world)
    ++ faults_of (inverse_program program) s tick list list)
    else faults_of program s tick list (own s tick p world)

-- a part of a lawful run, and agents by rising ids that are whole
pub record IsPartOver (s : Setting) (tick p : ℕ) (world : List Agent) : Type 0 where
  pub setting_is_lawful : LawfulSetting s
  pub is_part : p < parts s
  pub ids_rise : RisesById world
  pub are_whole : AreWhole s.job.program world

-- those of some sayings that are said to the effect of the agent of a share
abbrev pub sayings_of : List Saying → Share → List Saying
sayings_of sayings share =
    filter (λ x. (x.target == share.target) && (x.field == share.field)) sayings

-- what a part hears of what the shares that another tells it stand for
abbrev pub told : Setting → ℕ → ℕ → ℕ → List Agent → List Saying
told s tick from to world =
    flat_map (sayings_of (said_by s tick from world)) (shares s tick from to world)

-- what a part hears by itself, and what it is told by those that it meets
abbrev pub joined : Setting → ℕ → ℕ → List Agent → List Saying
joined s tick p world =
    said_here s.job.program s tick p world
    ++ flat_map (λ q. told s tick q p world) (tellers s tick p)

-- a share is told of an effect of an agent of a list, and has the total of the values of its
-- sayings
pub record IsShareOf (program : Program) (agents : List Agent) (sayings : List Saying)
    (share : Share) : Type 0 where
  pub agent : Agent
  pub class : Class
  pub effect : Effect
  pub is_there : Contains agents agent
  pub is_target : share.target ≡ agent.id
  pub has_class : class_of program agent ≡ Some class
  pub has_effect : slice_get class.effects share.field ≡ Some effect
  pub is_total : share.total ≡ tally_of effect.comb (map (λ x. x.value) (sayings_of sayings share))
  pub is_heard : length (sayings_of sayings share) ≡ 0 → ⊥
