-- What the query of an agent says, and where it faults.
use Rattle.std.specs.Prelude.{ℕ, ℤ, List, [], ◌∷◌, ◌++◌, map, filter, flat_map, Bool, true, false, is_none, if◌then◌else◌, Option, Some, None, Ok, Err, option_map, slice_set, replicate, ◌==◌, ◌&&◌, ◌+◌, sum}
use Rattle.brace_model.specs.declared.program.Value.{Value}
use Rattle.brace_model.specs.declared.program.Value.TheVariants.{Flag}
use Rattle.brace_model.specs.declared.program.Class.{Class}
use Rattle.brace_model.specs.declared.program.Program.{Program}
use Rattle.brace_model.specs.declared.program.Stmt.{Stmt}
use Rattle.brace_model.specs.declared.program.Stmt.TheOpen.{Stmt-F, Const, If, Foreach, Assign}
use Rattle.brace_model.specs.declared.program.Stmt.TheFolds.{fold-Stmt}
use Rattle.brace_model.specs.declared.fault.Stop.{Stop}
use Rattle.brace_model.specs.declared.fault.Fault.{Fault}
use Rattle.brace_model.specs.declared.fault.Phase.TheVariants.{Query}
use Rattle.brace_model.specs.declared.world.Agent.{Agent}
use Rattle.brace_model.specs.World.{sees, no_value, class_of}
use Rattle.brace_model.specs.Value.{Scope, value, agent_of, Worth}

-- a value said to an effect of an agent
pub record Saying : Type 0 where
  pub target : ℕ
  pub field : ℕ
  pub value : Value

-- what statements have done: the values said, the faults met, whether they were cut short, and the
-- scope that they leave
pub record Deed : Type 0 where
  pub said : List Saying
  pub faults : List Fault
  pub stopped : Bool
  pub scope : Scope

-- nothing was said, and evaluation goes on in this scope
abbrev pub silent : Scope → Deed
silent scope = record { said = []; faults = []; stopped = false; scope = scope }

-- the fault of a query at a site
abbrev pub query_fault : Scope → Stop → Fault
query_fault scope stop = record {
  tick = scope.tick;
  phase = Query;
  agent = scope.this.id;
  site = stop.site;
  outer = option_map (λ a. a.id) scope.outer;
  inner = option_map (λ a. a.id) scope.inner;
  kind = stop.kind;
}

-- a fault cut the statements short
abbrev pub halted : Scope → Stop → Deed
halted scope stop =
    record { said = []; faults = query_fault scope stop ∷ []; stopped = true; scope = scope }

-- what is done with a value, or the fault in its place
abbrev pub deed_of : Scope → Worth → (Value → Deed) → Deed
deed_of scope (Ok v) next = next v
deed_of scope (Err stop) next = halted scope stop

-- one deed, and then another in the scope that it leaves, unless it was cut short
abbrev pub followed_by : Deed → (Scope → Deed) → Deed
followed_by first next =
    if first.stopped then first else (
    let second = next first.scope in
    record second { said = first.said ++ second.said; faults = first.faults ++ second.faults })

-- statements in turn
abbrev pub block : List (Scope → Deed) → Scope → Deed
block [] scope = silent scope
block (s ∷ rest) scope = followed_by (s scope) (block rest)

-- a deed whose scope ends with it
abbrev pub closed : Scope → Deed → Deed
closed scope deed = record deed { scope = scope }

-- a constant gets its value
abbrev pub bound : Scope → ℕ → Value → Scope
bound scope n v = record scope { locals = slice_set scope.locals n v }

-- a loop's agent: of the outer loop where there is none yet, else of the inner one
abbrev pub inside : Scope → Agent → Scope
inside scope a =
    if is_none scope.outer then record scope { outer = Some a } else record scope { inner = Some a }

-- a condition chooses between two blocks
abbrev pub chosen : Value → Deed → Deed → Deed
chosen (Flag true) a b = a
chosen _ a b = b

-- the deeds of all iterations of a loop: each iteration's fault ends that iteration alone
abbrev pub iterated : Scope → List Deed → Deed
iterated scope deeds = record {
  said = flat_map (λ d. d.said) deeds;
  faults = flat_map (λ d. d.faults) deeds;
  stopped = false;
  scope = scope;
}

-- the agents of a class that an agent sees, by rising id
abbrev pub seen_by : Program → List Agent → Agent → ℕ → List Agent
seen_by program world a class = filter (λ b. (b.class == class) && sees program a b) world

-- a value is said to an effect of an agent
abbrev pub saying : Scope → Agent → ℕ → Value → Deed
saying scope a effect v =
    record (silent scope) { said = record { target = a.id; field = effect; value = v } ∷ [] }

-- one statement, whose blocks are lists of what their statements do
abbrev pub statement_step : Program → List Agent → Stmt-F (Scope → Deed) → Scope → Deed
statement_step program world (Const n e) scope =
    deed_of scope (value e scope) (λ v. silent (bound scope n v))
statement_step program world (If c a b) scope =
    deed_of scope (value c scope) (λ v. closed scope (chosen v (block a scope) (block b scope)))
statement_step program world (Foreach class body at) scope =
    iterated scope (map (λ b. block body (inside scope b)) (seen_by program world scope.this class))
statement_step program world (Assign who effect e at) scope =
    deed_of scope (value e scope) (saying scope (agent_of scope who) effect)

-- what a statement does in a world
abbrev pub statement : Program → List Agent → Stmt → Scope → Deed
statement program world = fold-Stmt (Scope → Deed) (statement_step program world)

-- how many constants a statement declares
abbrev pub constants_step : Stmt-F ℕ → ℕ
constants_step (Const n e) = 1
constants_step (If c a b) = sum a + sum b
constants_step (Foreach class body at) = sum body
constants_step (Assign who effect e at) = 0

abbrev pub constants : Stmt → ℕ
constants = fold-Stmt ℕ constants_step

-- the scope in which an agent's query or rule begins: no loop agent, no constant bound, these
-- totals
abbrev pub opening_scope : ℕ → ℕ → List Stmt → List ℤ → Agent → Scope
opening_scope seed tick query totals a = record {
  tick = tick;
  seed = seed;
  this = a;
  outer = None;
  inner = None;
  locals = replicate (sum (map constants query)) no_value;
  totals = totals;
}

-- what the query of an agent of a class does
abbrev pub query_in : Program → ℕ → ℕ → List Agent → Agent → Option Class → Deed
query_in program seed tick world a None = silent (opening_scope seed tick [] [] a)
query_in program seed tick world a (Some class) =
    block (map (statement program world) class.query) (opening_scope seed tick class.query [] a)

-- what the query of an agent does on the states of a world: its sayings and its faults
abbrev pub query_of : Program → ℕ → ℕ → List Agent → Agent → Deed
query_of program seed tick world a = query_in program seed tick world a (class_of program a)

-- all that is said in a tick
abbrev pub said_in : Program → ℕ → ℕ → List Agent → List Saying
said_in program seed tick world = flat_map (λ a. (query_of program seed tick world a).said) world

-- all faults of the queries of a tick
abbrev pub query_faults : Program → ℕ → ℕ → List Agent → List Fault
query_faults program seed tick world =
    flat_map (λ a. (query_of program seed tick world a).faults) world
