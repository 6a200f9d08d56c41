-- One tick of a world: the next world, or the tick's least fault.
use Rattle.std.specs.Prelude.{ℕ, suc, ◌+◌, nat_lt, List, [], ◌∷◌, ◌++◌, map, filter_map, length, take, sum_by, slice_get, Bool, ◌||◌, Option, Some, None, Result, Ok, Err, option_map, unwrap_or}
use Rattle.std.specs.List.{range_with_len, find}
use Rattle.std.specs.Option.{option_and_then}
use Rattle.std.specs.Result.{result_ok, result_err}
use Rattle.brace_num.specs.declared.kinds.Kind.TheVariants.{TooMany}
use Rattle.brace_model.specs.declared.program.Program.{Program}
use Rattle.brace_model.specs.declared.fault.Fault.{Fault}
use Rattle.brace_model.specs.declared.fault.Phase.TheVariants.{Birth}
use Rattle.brace_model.specs.declared.world.Agent.{Agent}
use Rattle.brace_model.specs.World.{World, class_of}
use Rattle.brace_model.specs.FaultOrder.{least}
use Rattle.brace_model.specs.Query.{query_faults}
use Rattle.brace_model.specs.Next.{Next, next}

-- what the agents of a world become in a tick, each by itself
abbrev pub all_next : Program → ℕ → ℕ → List Agent → List (Result Next Fault)
all_next program seed tick world = map (next program seed tick world) world

-- the agents that live on, by rising id
abbrev pub living : List Next → List Agent
living nexts = filter_map (λ n. n.agent) nexts

-- the children by rank: that of the parent of the least id comes first
abbrev pub children : List Next → List Agent
children nexts = filter_map (λ n. n.child) nexts

-- children with ids of their own, the ids from the next free one on
abbrev pub numbered : ℕ → List Agent → List Agent
numbered next [] = []
numbered next (c ∷ rest) = record c { id = next } ∷ numbered (suc next) rest

-- the most agents of a world, the most values of their states, and the greatest id
abbrev pub most_agents : ℕ
most_agents = 1048576

abbrev pub most_values : ℕ
most_values = 4194304

abbrev pub greatest_id : ℕ
greatest_id = 9223372036854775807

-- how many values the states of agents have
abbrev pub count_values : List Agent → ℕ
count_values agents = sum_by (λ a. length a.states) agents

-- with the children of the ranks up to r, a world has too many agents or values, or an id too great
abbrev pub goes_too_far : List Agent → ℕ → List Agent → ℕ → Bool
goes_too_far living next born r =
    let all = living ++ take (suc r) born in
    nat_lt most_agents (length all)
    || (nat_lt most_values (count_values all) || nat_lt greatest_id (next + r))

-- the child of the least rank that goes too far, if one does
abbrev pub first_too_far : List Agent → ℕ → List Agent → Option Agent
first_too_far living next born =
    let ranks = range_with_len 0 (length born) in
    option_and_then (slice_get born) (find (goes_too_far living next born) ranks)

-- the site of the `spawn` of an agent's class
abbrev pub spawn_site : Program → Agent → ℕ
spawn_site program a =
    let spawn = option_and_then (λ class. class.spawn) (class_of program a) in
    unwrap_or (option_map (λ s. s.site) spawn) 0

-- the fault of a birth; a child that has no id of its own bears its parent's
abbrev pub birth_fault : Program → ℕ → Agent → Fault
birth_fault program tick child = record {
  tick = tick;
  phase = Birth;
  agent = child.id;
  site = spawn_site program child;
  outer = None;
  inner = None;
  kind = TooMany;
}

-- the world of the living and the children, each child with the next free id
abbrev pub grown : ℕ → List Agent → List Agent → World
grown next living born = record { agents = living ++ numbered next born; next = next + length born }

-- the first fault that is there, by phase, else the world
abbrev pub unless_faulty : Option Fault → Option Fault → Option Fault → World → Result World Fault
unless_faulty (Some query) update birth world = Err query
unless_faulty None (Some update) birth world = Err update
unless_faulty None None (Some birth) world = Err birth
unless_faulty None None None world = Ok world

-- the least fault of the queries if there is one, else the least of the updates, else that of the
-- first birth that goes too far, else the next world
abbrev pub step : Program → ℕ → ℕ → World → Result World Fault
step program seed tick world =
    let nexts = all_next program seed tick world.agents in
    let left = filter_map result_ok nexts in
    let born = children left in
    unless_faulty
    (least (query_faults program seed tick world.agents))
    (least (filter_map result_err nexts))
    (option_map (birth_fault program tick) (first_too_far (living left) world.next born))
    (grown world.next (living left) born)
