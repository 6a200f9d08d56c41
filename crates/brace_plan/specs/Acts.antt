-- What actions do.
use Rattle.std.specs.Prelude.{ℕ, ℤ, int_lt, int_le, List, map, filter, Bool}
use Rattle.std.specs.Ordering.{int_eq}
use Rattle.std.specs.List.{list_all}
use Rattle.brace_model.specs.declared.program.Program.{Program}
use Rattle.brace_model.specs.declared.world.Agent.{Agent}
use Rattle.brace_model.specs.World.{number, value_at}
use Rattle.brace_model.specs.Value.{Scope, agent_of}
use Rattle.brace_model.specs.Query.{Deed, silent, deed_of, block, bound, closed, chosen, inside, iterated, seen_by, saying}
use Rattle.brace_code.specs.Codes.{gives}
use Rattle.brace_grid.specs.Grids.{Point, place_of}
use Rattle.brace_plan.specs.declared.action.Axis.{Axis}
use Rattle.brace_plan.specs.declared.action.Axis.TheVariants.{X, Y}
use Rattle.brace_plan.specs.declared.action.Side.{Side}
use Rattle.brace_plan.specs.declared.action.Side.TheVariants as side
use Rattle.brace_plan.specs.declared.action.Limit.{Limit}
use Rattle.brace_plan.specs.declared.action.Limit.TheVariants.{Number, State, Constant}
use Rattle.brace_plan.specs.declared.action.Bound.{Bound}
use Rattle.brace_plan.specs.declared.action.Action.{Action}
use Rattle.brace_plan.specs.declared.action.Action.TheOpen.{Action-F, Const, If, Foreach, Assign}
use Rattle.brace_plan.specs.declared.action.Action.TheFolds.{fold-Action}

-- a limit in a scope, in millionths
abbrev pub limit_in : Scope → Limit → ℤ
limit_in scope (Number n) = n
limit_in scope (State i) = number (value_at scope.this.states i)
limit_in scope (Constant n) = number (value_at scope.locals n)

-- a coordinate stands so to a limit
abbrev pub stands : Side → ℤ → ℤ → Bool
stands side.Below limit v = int_lt v limit
stands side.AtMost limit v = int_le v limit
stands side.Above limit v = int_lt limit v
stands side.AtLeast limit v = int_le limit v
stands side.At limit v = int_eq v limit

-- a coordinate of a point
abbrev pub coordinate : Axis → Point → ℤ
coordinate X p = p.x
coordinate Y p = p.y

-- a point meets a bound that is set in a scope
abbrev pub meets : Scope → Point → Bound → Bool
meets scope p bound = stands bound.side (limit_in scope bound.limit) (coordinate bound.axis p)

-- the agents of a class that `this` sees and that meet all bounds
abbrev pub near_by : Program → List Agent → Scope → ℕ → List Bound → List Agent
near_by program world scope class bounds =
    filter (λ b. list_all (meets scope (place_of program b)) bounds)
    (seen_by program world scope.this class)

-- one action, whose blocks are lists of what their actions do
abbrev pub act_step : Program → List Agent → Action-F (Scope → Deed) → Scope → Deed
act_step program world (Const n code) scope =
    deed_of scope (gives code scope) (λ v. silent (bound scope n v))
act_step program world (If code a b) scope = deed_of scope (gives code scope)
    (λ v. closed scope (chosen v (block a scope) (block b scope)))
act_step program world (Foreach class bounds body at) scope = iterated scope
    (map (λ b. block body (inside scope b)) (near_by program world scope class bounds))
act_step program world (Assign who effect code) scope =
    deed_of scope (gives code scope) (saying scope (agent_of scope who) effect)

-- what an action does in a world
abbrev pub act : Program → List Agent → Action → Scope → Deed
act program world = fold-Action (Scope → Deed) (act_step program world)

-- what actions do in turn
abbrev pub acts : Program → List Agent → List Action → Scope → Deed
acts program world actions = block (map (act program world) actions)
