-- The right piece for a name: each is its part of the continued worlds.
use Rattle.std.specs.Prelude.{◌≡◌, ℕ, ◌+◌, ◌-◌, ◌<◌, ◌≤◌, ◌==◌, List, [], ◌∷◌, ◌++◌, map, filter, flat_map, length, Bool, Option, Some, None, slice_get}
use Rattle.std.specs.List.{Contains, list_any}
use Rattle.brace_core.specs.declared.name.Name.{Name}
use Rattle.brace_model.specs.declared.program.Class.{Class}
use Rattle.brace_model.specs.declared.program.Effect.{Effect}
use Rattle.brace_model.specs.declared.program.Value.{Value}
use Rattle.brace_model.specs.declared.fault.Fault.{Fault}
use Rattle.brace_model.specs.declared.world.Agent.{Agent}
use Rattle.brace_model.specs.declared.world.Census.{Census}
use Rattle.brace_model.specs.World.{World, class_of}
use Rattle.brace_model.specs.Query.{Saying, query_of}
use Rattle.brace_model.specs.Total.{said_to}
use Rattle.brace_model.specs.Step.{count_values}
use Rattle.brace_comb.specs.declared.entry.Entry.{Entry}
use Rattle.brace_comb.specs.Totals.{Tally, tally, tally_of}
use Rattle.brace_pieces.specs.declared.setting.Setting.{Setting}
use Rattle.brace_pieces.specs.declared.setting.Stage.{Stage}
use Rattle.brace_pieces.specs.declared.setting.Stage.TheVariants as stage
use Rattle.brace_pieces.specs.declared.setting.Step.{Step}
use Rattle.brace_pieces.specs.declared.piece.Shown.{Shown}
use Rattle.brace_pieces.specs.declared.piece.Cause.{Cause}
use Rattle.brace_pieces.specs.declared.piece.Cause.TheVariants as cause
use Rattle.brace_pieces.specs.declared.piece.Piece.{Piece}
use Rattle.brace_pieces.specs.declared.piece.Piece.TheVariants as piece
use Rattle.brace_pieces.specs.Settings.{range, cuts_of, parts, shown_ticks, cuts_shown}
use Rattle.brace_pieces.specs.Steps.{steps}
use Rattle.brace_pieces.specs.Continued.{descent, on}
use Rattle.brace_pieces.specs.Together.{left_of, children_of}
use Rattle.brace_pieces.specs.Owned.{owned, held}
use Rattle.brace_pieces.specs.Finds.{finds, found_in, found_at}

-- the agents of a part that stand within range of another's area
abbrev pub border : Setting → ℕ → ℕ → ℕ → List Agent → List Agent
border s tick from to agents =
    let program = s.job.program in
    let cuts = cuts_of s tick in
    held program cuts (range s) to (owned program cuts from agents)

-- the agents that a part owned under the cuts before and that belong to another now
abbrev pub handed : Setting → ℕ → ℕ → ℕ → List Agent → List Agent
handed s tick from to agents =
    let program = s.job.program in
    owned program (cuts_of s tick) to (owned program (cuts_of s (tick - 1)) from agents)

-- of an agent's descent: it, or its parent, is one of a part's agents
abbrev pub comes_from : List Agent → ℕ × Agent → Bool
comes_from agents (id, a) = list_any (λ b. b.id == id) agents

-- the agents of the next world that belong to a part there and are, or are children of, agents of
-- another
abbrev pub moved : Setting → ℕ → ℕ → ℕ → World → List Agent
moved s tick from to world =
    let program = s.job.program in
    let cuts = cuts_of s tick in
    let own = owned program cuts from world.agents in
    owned program cuts to (map (λ p. p.1) (filter (comes_from own) (descent s tick world)))

-- all that the agents of a part say in a tick
abbrev pub said_by : Setting → ℕ → ℕ → List Agent → List Saying
said_by s tick p world =
    let program = s.job.program in
    flat_map (λ a. (query_of program s.job.seed tick world a).said)
    (owned program (cuts_of s tick) p world)

-- a total of values said to an effect of an agent
pub record Share : Type 0 where
  pub target : ℕ
  pub field : ℕ
  pub total : Tally

-- what an entry stands for
abbrev pub share_of : Entry → Share
share_of e = record { target = e.target; field = e.field; total = tally e.total }

-- the share of an effect of an agent, by its number, unless no value is said
abbrev pub share_unless_silent : ℕ → ℕ → Effect → List Value → List Share
share_unless_silent id n e [] = []
share_unless_silent id n e values =
    record { target = id; field = n; total = tally_of e.comb values } ∷ []

-- the shares of an agent's effects, numbered from n on, to which something is said
abbrev pub shares_from : ℕ → ℕ → List Effect → List Saying → List Share
shares_from n id [] sayings = []
shares_from n id (e ∷ effects) sayings =
    share_unless_silent id n e (said_to id n sayings) ++ shares_from (n + 1) id effects sayings

-- the shares of what is said to an agent of a class
abbrev pub shares_to : List Saying → Agent → Option Class → List Share
shares_to sayings a None = []
shares_to sayings a (Some class) = shares_from 0 a.id class.effects sayings

-- what the agents of a part say to those of another
abbrev pub shares : Setting → ℕ → ℕ → ℕ → List Agent → List Share
shares s tick from to world =
    let program = s.job.program in
    flat_map (λ a. shares_to (said_by s tick from world) a (class_of program a))
    (owned program (cuts_of s tick) to world)

-- a census: how many agents live on, how many values these have, and who has a child
abbrev pub census_of : List Agent → List Agent → Census
census_of lives kids = record {
  living = length lives;
  values = count_values lives;
  parents = map (λ a. record { id = a.id; class = a.class }) kids;
}

-- the census of what the agents of a part leave to the next world
abbrev pub census : Setting → ℕ → ℕ → List Agent → Census
census s tick p world =
    let own = owned s.job.program (cuts_of s tick) p world in
    census_of (left_of s tick world own) (children_of s tick world own)

-- the agents of a part in the world of a tick that is shown at an end
abbrev pub shown : Setting → ℕ → ℕ → ℕ → Shown
shown s end p tick = record {
  tick = tick;
  agents = owned s.job.program (cuts_shown s end) p (on s tick).agents;
  next = (on s tick).next;
}

-- a part found no fault before a tick
abbrev pub IsFaultless : Setting → ℕ → ℕ → Type 0
IsFaultless s end p = (tick : ℕ) → s.job.first ≤ tick → tick < end → finds s tick p ≡ []

-- what a part shows at an end: the ticks that are shown, where it found no fault before
pub record IsShown (s : Setting) (end p : ℕ) (list : List Shown) : Type 0 where
  pub is_part : p < parts s
  pub shown : list ≡ map (shown s end p) (shown_ticks s end)
  pub faultless : IsFaultless s end p

-- a step of the run stands before the step of this number
pub record StandsBefore (s : Setting) (at : Step) (number : ℕ) : Type 0 where
  pub place : ℕ
  pub stands_there : slice_get (steps s) place ≡ Some at
  pub before : place < number

-- a fault of a tick of the run, told behind the step in whose work it is found
pub record IsTold (s : Setting) (number : ℕ) (f : Fault) : Type 0 where
  pub not_before : s.job.first ≤ f.tick
  pub within : f.tick < s.job.last
  pub found : Contains (found_in s f.tick f.phase) f
  pub behind : StandsBefore s (found_at s f) number

-- a cause is right in the step of this number
abbrev pub IsRightCause : Setting → ℕ → Cause → Type 0
IsRightCause s number (cause.Fault f) = IsTold s number f
IsRightCause s number cause.NoMemory = Unit {0}
IsRightCause s number cause.Closed = Unit {0}

-- a piece is right from one actor to another in a step, of a stage and tick, that has this number
abbrev pub IsRightAt : Setting → ℕ → Stage → ℕ → ℕ → ℕ → Piece → Type 0
IsRightAt s number at tick from to (piece.Halt c) = IsRightCause s number c
IsRightAt s number stage.Hand tick from to (piece.Hand agents) =
    agents ≡ handed s tick from to (on s tick).agents
IsRightAt s number stage.Border tick from to (piece.Border agents) =
    agents ≡ border s tick from to (on s tick).agents
IsRightAt s number stage.Effects tick from to (piece.Effects entries) =
    map share_of entries ≡ shares s tick from to (on s tick).agents
IsRightAt s number stage.Census tick from to (piece.Census c) =
    c ≡ census s tick from (on s tick).agents
IsRightAt s number stage.Move tick from to (piece.Move agents) =
    agents ≡ moved s tick from to (on s tick)
IsRightAt s number stage.Show tick from to (piece.Show list) = IsShown s tick from list
IsRightAt s number stage.Show tick from to piece.Ack = from ≡ parts s
IsRightAt s number at tick from to piece = ⊥

-- a piece is right for a name, whose step is this one
abbrev pub IsRightIn : Setting → Name → Piece → Option Step → Type 0
IsRightIn s name p None = ⊥
IsRightIn s name p (Some at) = IsRightAt s name.step at.stage at.tick name.from name.to p

-- a piece is right for a name
abbrev pub IsRight : Setting → Name → Piece → Type 0
IsRight s name p = IsRightIn s name p (slice_get (steps s) name.step)
