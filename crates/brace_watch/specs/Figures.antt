-- Figures: what the values of watched agents come to, of a whole world and of each box that cuts
-- make. The total of values is that of effects, over unbounded whole numbers.
use Rattle.std.specs.Prelude.{ℕ, ◌==◌, Bool, true, false, ◌&&◌, List, map, filter, fold, [], Option, Some, None}
use Rattle.std.specs.List.{range_with_len}
use Rattle.brace_model.specs.declared.program.BinOp.{BinOp}
use Rattle.brace_model.specs.declared.program.BinOp.TheVariants as bin
use Rattle.brace_model.specs.declared.program.Comb.{Comb}
use Rattle.brace_model.specs.declared.program.Value.{Value}
use Rattle.brace_model.specs.declared.program.Value.TheVariants.{Flag}
use Rattle.brace_model.specs.declared.program.Program.{Program}
use Rattle.brace_model.specs.declared.world.Agent.{Agent}
use Rattle.brace_model.specs.World.{value_at}
use Rattle.brace_model.specs.Value.{strict}
use Rattle.brace_model.specs.Next.{holds}
use Rattle.brace_cuts.specs.declared.space.Cuts.{Cuts}
use Rattle.brace_cuts.specs.Space.{parts_of}
use Rattle.brace_comb.specs.Totals.{Tally, tally_of, join}
use Rattle.brace_pieces.specs.Owned.{owned}
use Rattle.brace_watch.specs.declared.kinds.Watch.{Watch}

-- the comparisons that a condition may have
abbrev pub is_comparison : BinOp → Bool
is_comparison bin.Lt = true
is_comparison bin.Le = true
is_comparison bin.Gt = true
is_comparison bin.Ge = true
is_comparison bin.Eq = true
is_comparison _ = false

-- two values stand so to each other, as scripts compare them
abbrev pub compares : BinOp → Value → Value → Bool
compares op a b = is_comparison op && holds (strict op None a b)

-- an agent meets a condition on one of its states, if there is a condition
abbrev pub meets : Option (ℕ × BinOp × Value) → Agent → Bool
meets None a = true
meets (Some t) a = compares t.1 (value_at a.states t.0) t.2

-- an agent is of the class of a watch and meets its condition
abbrev pub is_watched : Watch → Agent → Bool
is_watched watch a = (a.class == watch.class) && meets watch.test a

-- the value of an agent: that of the state at a place, or any where agents are counted
abbrev pub value_for : Option ℕ → Agent → Value
value_for None a = Flag true
value_for (Some i) a = value_at a.states i

-- the values of the watched ones of some agents
abbrev pub values_of : Watch → List Agent → List Value
values_of watch agents = map (value_for watch.field) (filter (is_watched watch) agents)

-- the figure of some agents
abbrev pub figure : Watch → List Agent → Tally
figure watch agents = tally_of watch.kind (values_of watch agents)

-- the figure of the agents of each box, by its number
abbrev pub box_figures : Program → Cuts → Watch → List Agent → List Tally
box_figures program cuts watch agents =
    map (λ p. figure watch (owned program cuts p agents)) (range_with_len 0 (parts_of cuts))

-- all of some totals of a kind in one
abbrev pub all_joined : Comb → List Tally → Tally
all_joined kind totals = fold join (tally_of kind []) totals
