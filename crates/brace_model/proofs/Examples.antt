-- Small scripts with their worlds, computed by the meaning itself.
use Rattle.std.proofs.Common.{◌≡◌, ◌∙◌, ◌++◌, ap, refl, ℕ, ℤ, pos, negsuc, List, [], ◌∷◌, true, false, Option, Some, None, Ok, Err, codes}
use Rattle.brace_num.specs.declared.kinds.Kind.TheVariants.{Overflow, DivZero}
use Rattle.brace_model.specs.declared.program.Ty.{Ty}
use Rattle.brace_model.specs.declared.program.Ty.TheVariants as ty
use Rattle.brace_model.specs.declared.program.Comb.{Comb}
use Rattle.brace_model.specs.declared.job.Job.{Job}
use Rattle.brace_model.specs.Run.{world_after, stepped}
use Rattle.brace_model.specs.Published.{published, rows}
use Rattle.brace_model.specs.declared.program.Value.{Value}
use Rattle.brace_model.specs.declared.program.Value.TheVariants.{Int, Fixed}
use Rattle.brace_model.specs.declared.program.Comb.TheVariants as comb
use Rattle.brace_model.specs.declared.program.BinOp.TheVariants as op
use Rattle.brace_model.specs.declared.program.Who.TheVariants as who
use Rattle.brace_model.specs.declared.program.Expr.{Expr}
use Rattle.brace_model.specs.declared.program.Expr.TheVariants.{Lit, Field, Total, Binary}
use Rattle.brace_model.specs.declared.program.Stmt.{Stmt}
use Rattle.brace_model.specs.declared.program.Stmt.TheVariants.{If, Foreach, Assign}
use Rattle.brace_model.specs.declared.program.State.{State}
use Rattle.brace_model.specs.declared.program.Effect.{Effect}
use Rattle.brace_model.specs.declared.program.Class.{Class}
use Rattle.brace_model.specs.declared.program.Program.{Program}
use Rattle.brace_model.specs.declared.fault.Fault.{Fault}
use Rattle.brace_model.specs.declared.fault.Phase.TheVariants.{Query, Update}
use Rattle.brace_model.specs.declared.world.Agent.{Agent}
use Rattle.brace_model.specs.World.{World, world_of}
use Rattle.brace_model.specs.Step.{step}
use Rattle.brace_model.proofs.ValueEquations.{value-Lit, value-Field, value-Total, value-Binary, statement-If, statement-Foreach, statement-Assign, constants-If, constants-Foreach, constants-Assign}

abbrev pub state : List ℕ → Ty → Option Expr → State
state name type rule = record { name = name; ty = type; shared = true; rule = rule }

abbrev pub effect : List ℕ → Ty → Comb → Effect
effect name type how = record { name = name; ty = type; shared = true; comb = how }

-- a class of that name, with these states behind x and y
abbrev pub class : List ℕ → ℤ → ℤ → Option Expr → Option Expr → List State → List Effect → List Stmt → Class
class name visible reach x y states effects query = record { name = name; visible = visible; reach = reach; x = 0; y = 1; states = state (codes "x") ty.Fixed x ∷ state (codes "y") ty.Fixed y ∷ states; effects = effects; query = query; die = None; spawn = None }

abbrev pub script : List Class → Program
script classes = record { classes = classes; sites = [] }

-- an agent of a class, its id, its place, and its other states
abbrev pub agent : ℕ → ℕ → ℤ → ℤ → List Value → Agent
agent number id x y states = record { class = number; id = id; states = Fixed x ∷ Fixed y ∷ states }

-- an agent that moves by 1.5 in each tick, with a reach of 2.0
abbrev pub drifting : Program
drifting = script (class (codes "P") (pos 0) (pos 2000000) (Some (Binary op.Add (Some 0) (Field who.This 0) (Lit (Fixed (pos 1500000))))) None [] [] [] ∷ [])

abbrev pub drifter : ℤ → World
drifter x = world_of (agent 0 7 x (pos 0) [] ∷ [])

-- a job of one drifter from a tick, which publishes every third tick
abbrev pub drift : ℕ → ℕ → ℕ → ℤ → Job
drift first last every x = record { program = drifting; seed = 0; first = first; last = last; every = every; start = drifter x }

drift_step : (tick : ℕ) → step drifting 0 tick (drifter (pos 0)) ≡ Ok (drifter (pos 1500000))
drift_step tick = simp (value-Lit, value-Field, value-Binary)

drift_step_2 : (tick : ℕ) → step drifting 0 tick (drifter (pos 1500000)) ≡ Ok (drifter (pos 3000000))
drift_step_2 tick = simp (value-Lit, value-Field, value-Binary)

drift_step_3 : (tick : ℕ) → step drifting 0 tick (drifter (pos 3000000)) ≡ Ok (drifter (pos 4500000))
drift_step_3 tick = simp (value-Lit, value-Field, value-Binary)

drift_step_4 : (tick : ℕ) → step drifting 0 tick (drifter (pos 4500000)) ≡ Ok (drifter (pos 6000000))
drift_step_4 tick = simp (value-Lit, value-Field, value-Binary)

-- the worlds of four ticks
drifts : (every : ℕ) → (world_after (drift 0 4 every (pos 0)) 0 ≡ Ok (drifter (pos 0))) × (world_after (drift 0 4 every (pos 0)) 1 ≡ Ok (drifter (pos 1500000)))
    × (world_after (drift 0 4 every (pos 0)) 2 ≡ Ok (drifter (pos 3000000))) × (world_after (drift 0 4 every (pos 0)) 3 ≡ Ok (drifter (pos 4500000)))
    × (world_after (drift 0 4 every (pos 0)) 4 ≡ Ok (drifter (pos 6000000)))
unfolding world_after
drifts every =
    let j = drift 0 4 every (pos 0) in
    let one : world_after j 1 ≡ Ok (drifter (pos 1500000)) = drift_step 0 in
    let two : world_after j 2 ≡ Ok (drifter (pos 3000000)) = ap (stepped j 1) one ∙ drift_step_2 1 in
    let three : world_after j 3 ≡ Ok (drifter (pos 4500000)) = ap (stepped j 2) two ∙ drift_step_3 2 in
    let four : world_after j 4 ≡ Ok (drifter (pos 6000000)) = ap (stepped j 3) three ∙ drift_step_4 3 in
    (refl, one, two, three, four)

-- every third tick and the last one are published
publishes_by_threes : published (drift 0 4 3 (pos 0)) true ≡ rows drifting 0 (drifter (pos 0)).agents ++ (rows drifting 3 (drifter (pos 4500000)).agents ++ (rows drifting 4 (drifter (pos 6000000)).agents ++ []))
publishes_by_threes = let (none, one, two, three, four) = drifts 3 in simp (none, one, two, three, four)

-- a run that goes on from tick 2 publishes what comes after it
goes_on : published (drift 2 3 1 (pos 3000000)) false ≡ rows drifting 3 (drifter (pos 4500000)).agents ++ []
unfolding world_after
goes_on = simp drift_step_3

nothing_drifts : published (record { program = drifting; seed = 0; first = 0; last = 3; every = 1; start = world_of [] }) true ≡ []
unfolding world_after
nothing_drifts = refl

-- x is moved into reach, and the upper bound of y lies past 64 bits
abbrev far : Program
far = script (class (codes "Q") (pos 0) (pos 1000000) (Some (Binary op.Add (Some 0) (Field who.This 0) (Lit (Fixed (pos 5000000))))) (Some (Lit (Fixed (pos 9223372036854775807)))) [] [] [] ∷ [])

moves_into_reach : step far 0 0 (world_of (agent 0 1 (pos 0) (pos 9223372036854000000) [] ∷ [])) ≡ Ok (world_of (agent 0 1 (pos 1000000) (pos 9223372036854775807) [] ∷ []))
moves_into_reach = simp (value-Lit, value-Field, value-Total, value-Binary, statement-If, statement-Foreach, statement-Assign, constants-If, constants-Foreach, constants-Assign)

-- a and b are exchanged by their rules: each reads the old state of the other
abbrev exchanging : Program
exchanging = script (class (codes "S") (pos 0) (pos 0) None None (state (codes "a") ty.Int (Some (Field who.This 3)) ∷ state (codes "b") ty.Int (Some (Field who.This 2)) ∷ []) [] [] ∷ [])

exchanges : step exchanging 0 0 (world_of (agent 0 1 (pos 0) (pos 0) (Int (pos 3) ∷ Int (pos 8) ∷ []) ∷ [])) ≡ Ok (world_of (agent 0 1 (pos 0) (pos 0) (Int (pos 8) ∷ Int (pos 3) ∷ []) ∷ []))
exchanges = simp (value-Lit, value-Field, value-Total, value-Binary, statement-If, statement-Foreach, statement-Assign, constants-If, constants-Foreach, constants-Assign)

-- each agent counts itself with those that see it; agents exactly the visible range apart see each other
abbrev pub counting : Program
counting = script (class (codes "F") (pos 2000000) (pos 0) None None (state (codes "n") ty.Int (Some (Total 0 ty.Int None)) ∷ []) (effect (codes "c") ty.Int comb.Count ∷ []) (Foreach 0 (Assign who.Outer 0 (Lit (Int (pos 1))) 0 ∷ []) 0 ∷ []) ∷ [])

counts : step counting 0 0 (world_of (agent 0 1 (pos 0) (pos 0) (Int (pos 0) ∷ []) ∷ agent 0 2 (pos 2000000) (pos 0) (Int (pos 0) ∷ []) ∷ agent 0 3 (pos 2000001) (pos 0) (Int (pos 0) ∷ []) ∷ []))
    ≡ Ok (world_of (agent 0 1 (pos 0) (pos 0) (Int (pos 1) ∷ []) ∷ agent 0 2 (pos 2000000) (pos 0) (Int (pos 2) ∷ []) ∷ agent 0 3 (pos 2000001) (pos 0) (Int (pos 1) ∷ []) ∷ []))
counts = simp (value-Lit, value-Field, value-Total, value-Binary, statement-If, statement-Foreach, statement-Assign, constants-If, constants-Foreach, constants-Assign)

-- a sum runs over unbounded whole numbers, and is read at 64 bits
abbrev summing : Program
summing = script (class (codes "A") (pos 10000000) (pos 0) None None (state (codes "w") ty.Int None ∷ []) [] (Foreach 1 (Assign who.Outer 0 (Field who.This 2) 0 ∷ []) 0 ∷ [])
    ∷ class (codes "B") (pos 0) (pos 0) None None (state (codes "s") ty.Int (Some (Total 0 ty.Int (Some 0))) ∷ []) (effect (codes "t") ty.Int comb.Sum ∷ []) [] ∷ [])

abbrev giver : ℕ → ℤ → ℤ → Agent
giver id x w = agent 0 id x (pos 0) (Int w ∷ [])

abbrev taker : ℤ → Agent
taker s = agent 1 4 (pos 0) (pos 0) (Int s ∷ [])

sums_past_64_bits : step summing 0 0 (world_of (giver 1 (negsuc 4999999) (pos 9223372036854775807) ∷ giver 2 (pos 0) (pos 9223372036854775807) ∷ giver 3 (pos 5000000) (negsuc 9223372036854775806) ∷ taker (pos 0) ∷ []))
    ≡ Ok (world_of (giver 1 (negsuc 4999999) (pos 9223372036854775807) ∷ giver 2 (pos 0) (pos 9223372036854775807) ∷ giver 3 (pos 5000000) (negsuc 9223372036854775806) ∷ taker (pos 9223372036854775807) ∷ []))
sums_past_64_bits = simp (value-Lit, value-Field, value-Total, value-Binary, statement-If, statement-Foreach, statement-Assign, constants-If, constants-Foreach, constants-Assign)

faults_where_the_sum_is_read : step summing 0 0 (world_of (giver 1 (negsuc 4999999) (pos 9223372036854775807) ∷ giver 2 (pos 0) (pos 9223372036854775807) ∷ taker (pos 0) ∷ []))
    ≡ Err (record { tick = 0; phase = Update; agent = 4; site = 0; outer = None; inner = None; kind = Overflow })
faults_where_the_sum_is_read = simp (value-Lit, value-Field, value-Total, value-Binary, statement-If, statement-Foreach, statement-Assign, constants-If, constants-Foreach, constants-Assign)

-- a query that divides, at a site, by the state behind x and y
abbrev dividing : ℕ → Class
dividing site = class (codes "D") (pos 0) (pos 0) None None (state (codes "d") ty.Int None ∷ []) (effect (codes "e") ty.Int comb.Sum ∷ []) (Assign who.This 0 (Binary op.Div (Some site) (Lit (Int (pos 1))) (Field who.This 2)) 0 ∷ [])

abbrev divided_by_zero : ℕ → ℕ → Fault
divided_by_zero id site = record { tick = 0; phase = Query; agent = id; site = site; outer = None; inner = None; kind = DivZero }

faults_at_the_least_id : step (script (dividing 0 ∷ [])) 0 0 (world_of (agent 0 3 (negsuc 999999) (pos 0) (Int (pos 0) ∷ []) ∷ agent 0 5 (pos 1000000) (pos 0) (Int (pos 0) ∷ []) ∷ [])) ≡ Err (divided_by_zero 3 0)
faults_at_the_least_id = simp (value-Lit, value-Field, value-Total, value-Binary, statement-If, statement-Foreach, statement-Assign, constants-If, constants-Foreach, constants-Assign)

-- the query of agent 9 comes before the update of agent 1
abbrev dividing_both : Program
dividing_both = script (class (codes "U") (pos 0) (pos 0) None None (state (codes "n") ty.Int (Some (Binary op.Div (Some 0) (Lit (Int (pos 1))) (Field who.This 2))) ∷ []) [] [] ∷ dividing 1 ∷ [])

query_comes_first : step dividing_both 0 0 (world_of (agent 0 1 (pos 0) (pos 0) (Int (pos 0) ∷ []) ∷ agent 1 9 (pos 1000000000) (pos 0) (Int (pos 0) ∷ []) ∷ [])) ≡ Err (divided_by_zero 9 1)
query_comes_first = simp (value-Lit, value-Field, value-Total, value-Binary, statement-If, statement-Foreach, statement-Assign, constants-If, constants-Foreach, constants-Assign)

-- where the first operand of `&&` decides, the second is not evaluated
abbrev quotient_above_zero : Expr
quotient_above_zero = Binary op.Gt None (Binary op.Div (Some 0) (Lit (Int (pos 1))) (Field who.This 2)) (Lit (Int (pos 0)))

abbrev is_not_zero : Expr
is_not_zero = Binary op.Ne None (Field who.This 2) (Lit (Int (pos 0)))

abbrev guarded : Expr → Program
guarded condition = script (class (codes "C") (pos 0) (pos 0) None None (state (codes "d") ty.Int None ∷ state (codes "k") ty.Int (Some (Total 0 ty.Int None)) ∷ []) (effect (codes "c") ty.Int comb.Count ∷ []) (If condition (Assign who.This 0 (Lit (Int (pos 1))) 0 ∷ []) [] ∷ []) ∷ [])

guard_decides : step (guarded (Binary op.And None is_not_zero quotient_above_zero)) 0 0 (world_of (agent 0 1 (pos 0) (pos 0) (Int (pos 0) ∷ Int (pos 0) ∷ []) ∷ [])) ≡ Ok (world_of (agent 0 1 (pos 0) (pos 0) (Int (pos 0) ∷ Int (pos 0) ∷ []) ∷ []))
guard_decides = simp (value-Lit, value-Field, value-Total, value-Binary, statement-If, statement-Foreach, statement-Assign, constants-If, constants-Foreach, constants-Assign)

guard_comes_late : step (guarded (Binary op.And None quotient_above_zero is_not_zero)) 0 0 (world_of (agent 0 1 (pos 0) (pos 0) (Int (pos 0) ∷ Int (pos 0) ∷ []) ∷ [])) ≡ Err (divided_by_zero 1 0)
guard_comes_late = simp (value-Lit, value-Field, value-Total, value-Binary, statement-If, statement-Foreach, statement-Assign, constants-If, constants-Foreach, constants-Assign)
