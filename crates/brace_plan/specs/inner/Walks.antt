-- Where the walk over an agent's actions stands, and what it adds to an answer. Only the crate's
-- own functions cite this.
use Rattle.std.specs.Prelude.{◌≡◌, ℕ, ◌<◌, ◌≤◌, ◌^◌, ◌≤ℤ◌, List, [], ◌∷◌, ◌++◌, map, fold, filter, Bool, true, false, ◌&&◌, ◌==◌, Option, Some, None, is_some, not, option_map, slice_get, slice_set, slice_index_or, length, replicate, IfSome}
use Rattle.std.specs.List.{All, list_all}
use Rattle.brace_num.specs.declared.kinds.Area.{Area}
use Rattle.brace_model.specs.declared.program.Value.{Value}
use Rattle.brace_model.specs.declared.program.Value.TheVariants.{Flag}
use Rattle.brace_model.specs.declared.fault.Fault.{Fault}
use Rattle.brace_model.specs.declared.world.Agent.{Agent}
use Rattle.brace_model.specs.FaultOrder.{least, with_earlier}
use Rattle.brace_model.specs.World.{sees, class_of, no_value}
use Rattle.brace_model.specs.Value.{Scope}
use Rattle.brace_model.specs.Query.{Deed, silent, deed_of, inside, iterated}
use Rattle.brace_code.specs.declared.code.Code.{Code}
use Rattle.brace_code.specs.Codes.{gives}
use Rattle.brace_grid.specs.Grids.{Point, grid_of, place_of, is_inside}
use Rattle.brace_plan.specs.declared.action.Action.{Action}
use Rattle.brace_plan.specs.declared.action.Bound.{Bound}
use Rattle.brace_plan.specs.declared.answer.Answer.{Answer}
use Rattle.brace_plan.specs.declared.seat.Placed.{Placed}
use Rattle.brace_plan.specs.declared.seat.Scene.{Scene}
use Rattle.brace_plan.specs.declared.seat.Seat.{Seat}
use Rattle.brace_plan.specs.declared.plans.Planned.{Planned}
use Rattle.brace_plan.specs.declared.desk.Former.{Former}
use Rattle.brace_plan.specs.Answers.{saying_of, greatest_visible, ArePlaced}
use Rattle.brace_plan.specs.Acts.{act, acts, meets}

-- a grid of the agents, whose cells are as wide as any visible range
pub record IsScene (scene : Scene) : Type 0 where
  pub grid : scene.grid.now
      ≡ grid_of scene.program.now scene.agents.now scene.grid.now.side
  pub wide : greatest_visible scene.program.now ≤ℤ scene.grid.now.side

-- the agent stands at the place that is told
abbrev pub IsPlaced : Scene → Placed → Type 0
IsPlaced scene p = slice_get scene.agents.now p.place ≡ Some p.agent.now

-- the agents of a seat stand at their places
pub record IsSeat (scene : Scene) (seat : Seat) : Type 0 where
  pub this : IsPlaced scene seat.this
  pub outer : IfSome seat.outer (IsPlaced scene)
  pub inner : IfSome seat.inner (IsPlaced scene)

-- an agent asks from a seat over a scene, in a tick that a run can have
pub record IsAsked (s : Scene) (from : Seat) : Type 0 where
  pub scene : IsScene s
  pub seat : IsSeat s from
  pub ticks : s.tick ≤ 2 ^ 32

-- the scope of a seat with these constants, and no totals
abbrev pub scope_at : Scene → Seat → ℕ → List Value → Scope
scope_at scene seat seed locals = record {
  tick = scene.tick;
  seed = seed;
  this = seat.this.agent.now;
  outer = option_map (λ p. p.agent.now) seat.outer;
  inner = option_map (λ p. p.agent.now) seat.inner;
  locals = locals;
  totals = [];
}

-- a value is the flag `true`
abbrev pub is_true : Value → Bool
is_true (Flag b) = b
is_true _ = false

-- the constants before some were set, the last one first
abbrev pub undone : List Former → List Value → List Value
undone [] locals = locals
undone (b ∷ trail) locals = slice_set (undone trail locals) b.place b.before

-- a trail was made longer by the constants that were set
pub record Sets (before after : List Former) (old new : List Value) : Type 0 where
  pub more : List Former
  pub is : after ≡ before ++ more
  pub back : undone more new ≡ old

-- the earliest of a fault that was found before and of some faults
abbrev pub with_faults : Option Fault → List Fault → Option Fault
with_faults = fold (λ found f. Some (with_earlier found f))

-- an answer has, behind what it had before, what a deed says, to agents of the list, and its faults
pub record Adds (scene : Scene) (deed : Deed) (before after : Answer) : Type 0 where
  pub said : map (saying_of scene.agents.now) after.said.items
      ≡ map (saying_of scene.agents.now) before.said.items ++ deed.said
  pub fault : after.fault ≡ with_faults before.fault deed.faults
  pub placed : ArePlaced scene.agents.now before.said.items
      → ArePlaced scene.agents.now after.said.items

-- what code comes to in a scope: a value, after which nothing is done, or its fault
abbrev pub worth_in : Scope → Code → Deed
worth_in scope code = deed_of scope (gives code scope) (λ _. silent scope)

-- what an action does in a scope
abbrev pub act_in : Scene → Action → Scope → Deed
act_in scene = act scene.program.now scene.agents.now

-- what a block does in a scope
abbrev pub block_in : Scene → List Action → Scope → Deed
block_in scene = acts scene.program.now scene.agents.now

-- an agent is one of a class that `this` sees, and it meets all bounds
abbrev pub is_taken : Scene → Scope → ℕ → List Bound → Agent → Bool
is_taken scene scope class bounds b =
    ((b.class == class) && sees scene.program.now scope.this b)
    && list_all (meets scope (place_of scene.program.now b)) bounds

-- what a loop over a class does at some agents
abbrev pub loop_in : Scene → Scope → ℕ → List Bound → List Action → List Agent → Deed
loop_in scene scope class bounds body agents = iterated scope
    (map (λ b. block_in scene body (inside scope b))
    (filter (is_taken scene scope class bounds) agents))

-- the agents at some places
abbrev pub agents_at : Scene → Agent → List ℕ → List Agent
agents_at scene d = map (λ i. slice_index_or scene.agents.now i d)

-- an area is part of another
pub record IsPartOf (small large : Area) : Type 0 where
  pub x0 : large.x0 ≤ℤ small.x0
  pub x1 : small.x1 ≤ℤ large.x1
  pub y0 : large.y0 ≤ℤ small.y0
  pub y1 : small.y1 ≤ℤ large.y1

-- a point that meets bounds stays in an area where it is made smaller
abbrev pub Narrows : Scope → List Bound → Area → Area → Type 0
Narrows scope bounds large small = (p : Point) → list_all (meets scope p) bounds ≡ true
    → is_inside large p ≡ true → is_inside small p ≡ true

-- an area holds every agent that a loop takes
abbrev pub HoldsTaken : Scene → Scope → List Bound → Area → Type 0
HoldsTaken scene scope bounds area = (b : Agent)
    → sees scene.program.now scope.this b ≡ true
    → list_all (meets scope (place_of scene.program.now b)) bounds ≡ true
    → is_inside area (place_of scene.program.now b) ≡ true

-- places, all of the list
abbrev pub AreWithin : Scene → List ℕ → Type 0
AreWithin scene near = All (λ i. i < length scene.agents.now) near

-- some places have all agents that a loop takes, in order
abbrev pub HaveTaken : Scene → Scope → ℕ → List Bound → List ℕ → Type 0
HaveTaken scene scope class bounds near = (d : Agent)
    → filter (is_taken scene scope class bounds) (agents_at scene d near)
    ≡ filter (is_taken scene scope class bounds) scene.agents.now

-- an agent is in the sight of another along both axes: it is seen if it is not the other itself,
-- and if it has a class of the program
abbrev pub IsInSight : Scene → Agent → Agent → Type 0
IsInSight scene a b = sees scene.program.now a b
    ≡ (not (a.id == b.id) && is_some (class_of scene.program.now b))

-- where it is told so, the agents at some places are in sight
abbrev pub AreInSight : Scene → Agent → Bool → List ℕ → Type 0
AreInSight scene a told near = told ≡ true
    → (d : Agent) → All (λ i. IsInSight scene a (slice_index_or scene.agents.now i d)) near

-- the scope in which a plan begins: no loop agent, and no constant set
abbrev pub opening : Scene → Planned → ℕ → Agent → Scope
opening scene planned seed a = record {
  tick = scene.tick;
  seed = seed;
  this = a;
  outer = None;
  inner = None;
  locals = replicate planned.constants no_value;
  totals = [];
}

-- an answer has all that a plan says, and its least fault
pub record IsAnswerOf (scene : Scene) (planned : Planned) (seed : ℕ) (a : Agent)
    (answer : Answer) : Type 0 where
  pub said : map (saying_of scene.agents.now) answer.said.items
      ≡ (block_in scene planned.actions (opening scene planned seed a)).said
  pub fault : answer.fault
      ≡ least (block_in scene planned.actions (opening scene planned seed a)).faults
  pub placed : ArePlaced scene.agents.now answer.said.items
