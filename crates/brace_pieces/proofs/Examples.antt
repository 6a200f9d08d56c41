-- Small runs over cut planes, whose counts and owners are computed by the definitions alone.
use Rattle.std.proofs.Common.{◌≡◌, ◌∙◌, ap, refl, ℕ, ℤ, pos, negsuc, List, [], ◌∷◌, map, Bool, true, false, Option, Some, None, Ok, codes}
use Rattle.brace_cuts.specs.declared.plan.CutLine.{CutLine}
use Rattle.brace_model.specs.declared.program.Ty.{Ty}
use Rattle.brace_model.specs.declared.program.Ty.TheVariants as ty
use Rattle.brace_model.specs.declared.program.Comb.{Comb}
use Rattle.brace_model.specs.declared.program.Comb.TheVariants as comb
use Rattle.brace_model.specs.declared.program.Value.{Value}
use Rattle.brace_model.specs.declared.program.Value.TheVariants.{Int, Fixed}
use Rattle.brace_model.specs.declared.program.BinOp.TheVariants as op
use Rattle.brace_model.specs.declared.program.Who.TheVariants as who
use Rattle.brace_model.specs.declared.program.Expr.{Expr}
use Rattle.brace_model.specs.declared.program.Expr.TheVariants.{Lit, Field, Total, Binary}
use Rattle.brace_model.specs.declared.program.Stmt.{Stmt}
use Rattle.brace_model.specs.declared.program.State.{State}
use Rattle.brace_model.specs.declared.program.Effect.{Effect}
use Rattle.brace_model.specs.declared.program.Stmt.TheVariants.{Foreach, Assign}
use Rattle.brace_model.specs.declared.program.Class.{Class}
use Rattle.brace_model.specs.declared.program.Program.{Program}
use Rattle.brace_model.specs.declared.world.Agent.{Agent}
use Rattle.brace_model.specs.World.{world_of, world_with, number, value_at}
use Rattle.brace_cuts.specs.Space.{owner_of}
use Rattle.brace_pieces.specs.Settings.{cuts_of}
use Rattle.brace_model.specs.Step.{step}
use Rattle.brace_model.specs.Run.{world_after, stepped}
use Rattle.brace_model.proofs.ValueEquations.{value-Lit, value-Field, value-Total, value-Binary, statement-If, statement-Foreach, statement-Assign, constants-If, constants-Foreach, constants-Assign}
use Rattle.brace_invert.proofs.RangeLemmas.{says_within-Foreach, says_within-Assign}
use Rattle.brace_pieces.specs.declared.setting.Setting.{Setting}
use Rattle.brace_core.specs.Events.{events_of}
use Rattle.brace_pieces.specs.Steps.{schedule}
use Rattle.brace_pieces.specs.Counts.{count_border, count_effects, count_moved, count_handed}

abbrev state : List ℕ → Ty → Option Expr → State
state name type rule = record { name = name; ty = type; shared = true; rule = rule }

abbrev effect : List ℕ → Ty → Comb → Effect
effect name type how = record { name = name; ty = type; shared = true; comb = how }

-- a class of that name, with these states behind x and y
abbrev class : List ℕ → ℤ → ℤ → Option Expr → List State → List Effect → List Stmt → Class
class name visible reach x states effects query = record { name = name; visible = visible; reach = reach; x = 0; y = 1; states = state (codes "x") ty.Fixed x ∷ state (codes "y") ty.Fixed None ∷ states; effects = effects; query = query; die = None; spawn = None }

abbrev script : List Class → Program
script classes = record { classes = classes; sites = [] }

-- an agent of a class, its id, its place along x, and its other states
abbrev agent : ℕ → ℕ → ℤ → List Value → Agent
agent number id x states = record { class = number; id = id; states = Fixed x ∷ Fixed (pos 0) ∷ states }

-- each agent that sees so far counts those that see it
abbrev seeing : ℤ → Program
seeing visible = script (class (codes "F") visible (pos 0) None (state (codes "n") ty.Int (Some (Total 0 ty.Int None)) ∷ []) (effect (codes "c") ty.Int comb.Count ∷ []) (Foreach 0 (Assign who.Outer 0 (Lit (Int (pos 1))) 0 ∷ []) 0 ∷ []) ∷ [])

-- the cuts along x from a tick on
abbrev line : ℕ → List ℤ → CutLine
line tick xs = record { tick = tick; cuts = record { xs = xs; ys = [] } }

-- a run up to a tick, in epochs of so many ticks
abbrev setting : Program → List Agent → ℕ → ℕ → Bool → List CutLine → Setting
setting program agents last epoch invert lines = record {
  job = record { program = program; seed = 0; first = 0; last = last; every = 1; start = world_of agents };
  cuts = record { lines = lines };
  epoch = epoch;
  invert = invert;
}

-- the numbers of a run in their order: border, effects, moved, handed
abbrev counts : Setting → List ℕ
counts s = count_border s ∷ count_effects s ∷ count_moved s ∷ count_handed s ∷ []

-- three agents that count one another, the second of them on the cut
abbrev neighbours : Bool → Setting
neighbours invert = setting (seeing (pos 2000000)) (agent 0 1 (pos 0) (Int (pos 0) ∷ []) ∷ agent 0 2 (pos 2000000) (Int (pos 0) ∷ []) ∷ agent 0 3 (pos 2000001) (Int (pos 0) ∷ []) ∷ []) 1 1 invert (line 0 (pos 2000000 ∷ []) ∷ [])

neighbours_exchange : counts (neighbours false) ≡ 3 ∷ 2 ∷ 0 ∷ 0 ∷ []
unfolding world_after
neighbours_exchange = simp (value-Lit, value-Field, value-Total, value-Binary, statement-If, statement-Foreach, statement-Assign, constants-If, constants-Foreach, constants-Assign)

-- with epochs of 16 ticks their run makes 32 events: two for each two that meet in a step, one for each actor there
neighbours_events : events_of (schedule (record (neighbours false) { epoch = 16 })) ≡ 32
neighbours_events = refl

-- an agent that goes from the first strip to the third in one tick
abbrev leaping : Program
leaping = script (class (codes "W") (pos 0) (pos 100000000) (Some (Binary op.Add (Some 0) (Field who.This 0) (Lit (Fixed (pos 50000000))))) [] [] [] ∷ [])

leap_is_counted : counts (setting leaping (agent 0 1 (pos 5000000) [] ∷ []) 1 1 false (line 0 (pos 10000000 ∷ pos 20000000 ∷ []) ∷ [])) ≡ 0 ∷ 0 ∷ 1 ∷ 0 ∷ []
unfolding world_after
leap_is_counted = simp (value-Lit, value-Field, value-Total, value-Binary, statement-If, statement-Foreach, statement-Assign, constants-If, constants-Foreach, constants-Assign)

-- an agent at rest, over which a cut goes at tick 2
abbrev resting : Program
resting = script (class (codes "T") (pos 0) (pos 0) None [] [] [] ∷ [])

recut_is_counted : counts (setting resting (agent 0 1 (pos 0) [] ∷ []) 3 2 false (line 0 (pos 1000000 ∷ []) ∷ line 2 (negsuc 999999 ∷ []) ∷ [])) ≡ 0 ∷ 0 ∷ 0 ∷ 1 ∷ []
unfolding world_after
recut_is_counted = refl

-- the owner of the agent on the cut is the part on its higher side
cut_is_owned_above : map (λ a. owner_of (cuts_of (neighbours false) 0) (number (value_at a.states 0)) (pos 0)) (neighbours false).job.start.agents ≡ 0 ∷ 1 ∷ 1 ∷ []
cut_is_owned_above = refl

-- two agents that touch a cut from either side are one millionth apart, and so are their parts
abbrev touching : Setting
touching = setting (seeing (pos 1)) (agent 0 1 (negsuc 0) (Int (pos 0) ∷ []) ∷ agent 0 2 (pos 0) (Int (pos 0) ∷ []) ∷ []) 1 1 false (line 0 (pos 0 ∷ []) ∷ [])

touch_is_counted : counts touching ≡ 2 ∷ 2 ∷ 0 ∷ 0 ∷ []
unfolding world_after
touch_is_counted = simp (value-Lit, value-Field, value-Total, value-Binary, statement-If, statement-Foreach, statement-Assign, constants-If, constants-Foreach, constants-Assign)

-- each agent says 1 to each in sight, once for each in sight: what is said to an agent hangs on
-- those as far as twice the visible range
abbrev pairing : Program
pairing = script (class (codes "H") (pos 3000000) (pos 0) None (state (codes "n") ty.Int (Some (Total 0 ty.Int None)) ∷ []) (effect (codes "c") ty.Int comb.Count ∷ []) (Foreach 0 (Foreach 0 (Assign who.Outer 0 (Lit (Int (pos 1))) 0 ∷ []) 1 ∷ []) 0 ∷ []) ∷ [])

abbrev pairs : Bool → Setting
pairs invert = setting pairing (agent 0 1 (pos 0) (Int (pos 0) ∷ []) ∷ agent 0 2 (pos 3000000) (Int (pos 0) ∷ []) ∷ agent 0 3 (pos 6000000) (Int (pos 0) ∷ []) ∷ []) 1 1 invert (line 0 (pos 1 ∷ pos 4000000 ∷ []) ∷ [])

pairs_exchange : counts (pairs false) ≡ 4 ∷ 4 ∷ 0 ∷ 0 ∷ []
unfolding world_after
pairs_exchange = simp (value-Lit, value-Field, value-Total, value-Binary, statement-If, statement-Foreach, statement-Assign, constants-If, constants-Foreach, constants-Assign)

pairs_exchange_inverted : counts (pairs true) ≡ 6 ∷ 0 ∷ 0 ∷ 0 ∷ []
unfolding world_after
pairs_exchange_inverted = simp (value-Lit, value-Field, value-Total, value-Binary, statement-If, statement-Foreach, statement-Assign, constants-If, constants-Foreach, constants-Assign, says_within-Foreach, says_within-Assign)

-- the agent that leaps dies behind the third cut: it moved once, and is in two worlds
abbrev leaping_to_death : Program
leaping_to_death = script (record (class (codes "W") (pos 0) (pos 100000000) (Some (Binary op.Add (Some 0) (Field who.This 0) (Lit (Fixed (pos 50000000))))) [] [] []) { die = Some (Binary op.Gt None (Field who.This 0) (Lit (Fixed (pos 50000000)))) } ∷ [])

abbrev leaps : Setting
leaps = setting leaping_to_death (agent 0 1 (pos 5000000) [] ∷ []) 3 16 false (line 0 (pos 10000000 ∷ pos 20000000 ∷ []) ∷ [])

-- the worlds of its ticks
leaps_once : world_after leaps.job 1 ≡ Ok (world_with (agent 0 1 (pos 55000000) [] ∷ []) 2)
unfolding world_after
leaps_once = simp (value-Lit, value-Field, value-Binary)

dies_then : step leaping_to_death 0 1 (world_with (agent 0 1 (pos 55000000) [] ∷ []) 2) ≡ Ok (world_with [] 2)
dies_then = simp (value-Lit, value-Field, value-Binary)

is_empty_twice : world_after leaps.job 2 ≡ Ok (world_with [] 2)
unfolding world_after
is_empty_twice = ap (stepped leaps.job 1) leaps_once ∙ dies_then

is_empty_then : world_after leaps.job 3 ≡ Ok (world_with [] 2)
unfolding world_after
is_empty_then = ap (stepped leaps.job 2) is_empty_twice

starts_there : world_after leaps.job 0 ≡ Ok leaps.job.start
unfolding world_after
starts_there = refl

death_is_not_counted : counts leaps ≡ 0 ∷ 0 ∷ 1 ∷ 0 ∷ []
death_is_not_counted = simp (starts_there, leaps_once, is_empty_twice, is_empty_then)
