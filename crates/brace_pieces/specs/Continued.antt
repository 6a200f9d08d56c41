-- The continued worlds of a run: where an update faults, the agent stays as it is and has no child,
-- so that a part that is far from a fault may go on. Up to the run's first fault they are the
-- worlds of the run.
use Rattle.std.specs.Prelude.{ℕ, zero, suc, ◌+◌, ◌-◌, ℤ, List, [], ◌∷◌, ◌++◌, map, filter_map, zip, take, length, Option, Some, None, option_map, unwrap_or, Result, Ok, Err, if◌then◌else◌}
use Rattle.std.specs.List.{find, range_with_len}
use Rattle.std.specs.Result.{result_err}
use Rattle.brace_model.specs.declared.program.Class.{Class}
use Rattle.brace_model.specs.declared.fault.Fault.{Fault}
use Rattle.brace_model.specs.declared.world.Agent.{Agent}
use Rattle.brace_model.specs.World.{World, class_of}
use Rattle.brace_model.specs.Query.{Saying, said_in}
use Rattle.brace_model.specs.Total.{totals_from}
use Rattle.brace_model.specs.Next.{Next, next_in}
use Rattle.brace_model.specs.Step.{living, children, numbered, goes_too_far, first_too_far, birth_fault}
use Rattle.brace_invert.specs.Inversion.{said_by_both}
use Rattle.brace_pieces.specs.declared.setting.Setting.{Setting}

-- all that is said in a tick over some agents, by the script or by both programs of its inversion
abbrev pub said : Setting → ℕ → List Agent → List Saying
said s tick agents =
    if s.invert
    then said_by_both s.job.program s.job.seed tick agents
    else said_in s.job.program s.job.seed tick agents

-- the totals of what is said to an agent of a class
abbrev pub totals_of : List Saying → Agent → Option Class → List ℤ
totals_of sayings a None = []
totals_of sayings a (Some class) = totals_from 0 a.id class.effects sayings

-- what becomes of an agent to which all this is said, or the fault of its update
abbrev pub becomes : Setting → ℕ → List Saying → Agent → Result Next Fault
becomes s tick sayings a =
    let class = class_of s.job.program a in
    next_in s.job.seed tick class (totals_of sayings a class) a

-- what an agent leaves; one whose update faults stays
abbrev pub left_or_kept : Agent → Result Next Fault → Next
left_or_kept a (Ok next) = next
left_or_kept a (Err fault) = record { agent = Some a; child = None }

-- what becomes of each agent of some, in their order
abbrev pub all_becoming : Setting → ℕ → List Agent → List (Result Next Fault)
all_becoming s tick agents = map (becomes s tick (said s tick agents)) agents

-- what each agent leaves
abbrev pub all_left : Setting → ℕ → List Agent → List Next
all_left s tick agents =
    map (λ p. left_or_kept p.0 p.1) (zip agents (all_becoming s tick agents))

-- the children that do not go too far
abbrev pub fitting : List Agent → ℕ → List Agent → List Agent
fitting living next born =
    let first = find (goes_too_far living next born) (range_with_len 0 (length born)) in
    take (unwrap_or first (length born)) born

-- the agents of the next continued world, each with the id of the agent that it was or whose child
-- it is
abbrev pub descent : Setting → ℕ → World → List (ℕ × Agent)
descent s tick world =
    let left = all_left s tick world.agents in
    let lives = living left in
    let born = fitting lives world.next (children left) in
    map (λ a. (a.id, a)) lives ++ map (λ p. (p.0.id, p.1)) (zip born (numbered world.next born))

-- the continued world behind one
abbrev pub continued : Setting → ℕ → World → World
continued s tick world =
    let agents = map (λ p. p.1) (descent s tick world) in
    let left = all_left s tick world.agents in
    let born = fitting (living left) world.next (children left) in
    record { agents = agents; next = world.next + length born }

-- the continued world n ticks behind the start
unfoldable pub continued_after : Setting → ℕ → World
continued_after s zero = s.job.start
continued_after s (suc n) = continued s (s.job.first + n) (continued_after s n)

-- the continued world of a tick
abbrev pub on : Setting → ℕ → World
on s tick = continued_after s (tick - s.job.first)

-- a fault that may be there, as a list
abbrev pub listed : Option Fault → List Fault
listed None = []
listed (Some fault) = fault ∷ []

-- the fault of the least parent of a continued world that goes too far
abbrev pub birth_faults : Setting → ℕ → World → List Fault
birth_faults s tick world =
    let left = all_left s tick world.agents in
    let far = first_too_far (living left) world.next (children left) in
    listed (option_map (birth_fault s.job.program tick) far)

-- the faults of the updates of the agents of a world
abbrev pub update_faults : Setting → ℕ → List Agent → List Fault
update_faults s tick agents = filter_map result_err (all_becoming s tick agents)
