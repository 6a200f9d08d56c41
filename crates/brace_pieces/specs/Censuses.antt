-- What the censuses of all parts decide together: which parent goes too far first, whose children
-- are born, and which ids they get.
use Rattle.std.specs.Prelude.{◌≡◌, ℕ, suc, ◌+◌, ◌<◌, nat_lt, List, [], ◌∷◌, map, flat_map, sum_by, length, take, slice_get, Bool, ◌||◌, Option, Some, None, option_map, unwrap_or}
use Rattle.std.specs.List.{find, range_with_len}
use Rattle.std.specs.List.Sorted.{IsPermutation, IsNonDecreasingBy}
use Rattle.std.specs.Option.{option_and_then}
use Rattle.brace_model.specs.declared.program.Class.{Class}
use Rattle.brace_model.specs.declared.program.Program.{Program}
use Rattle.brace_model.specs.declared.fault.Fault.{Fault}
use Rattle.brace_model.specs.declared.world.Parent.{Parent}
use Rattle.brace_model.specs.declared.world.Census.{Census}
use Rattle.brace_model.specs.World.{World, RisesById}
use Rattle.brace_model.specs.Step.{most_agents, most_values, greatest_id, birth_fault}
use Rattle.brace_pieces.specs.declared.setting.Setting.{Setting}
use Rattle.brace_pieces.specs.declared.setting.Stage.TheVariants as stage
use Rattle.brace_pieces.specs.Settings.{LawfulSetting, parts}
use Rattle.brace_pieces.specs.Steps.{step, met}
use Rattle.brace_pieces.specs.Together.{AreWhole, HaveClasses}
use Rattle.brace_pieces.specs.Right.{census}

-- several censuses in one: all that live on, all their values, and all parents, in an order in
-- which ids do not fall
pub record IsSumOf (censuses : List Census) (all : Census) : Type 0 where
  pub living : all.living ≡ sum_by (λ c. c.living) censuses
  pub values : all.values ≡ sum_by (λ c. c.values) censuses
  pub same : IsPermutation (flat_map (λ c. c.parents) censuses) all.parents
  pub in_order : IsNonDecreasingBy (λ p. p.id) all.parents

-- a part of a lawful run that has its own census and those of all whom it meets in one, over a
-- world of agents by rising ids that are whole and of classes
pub record IsCounted (s : Setting) (tick p : ℕ) (world : World) (all : Census) : Type 0 where
  pub setting_is_lawful : LawfulSetting s
  pub is_part : p < parts s
  pub ids_rise : RisesById world.agents
  pub are_whole : AreWhole s.job.program world.agents
  pub have_classes : HaveClasses s.job.program world.agents
  pub is_sum : let others = met s (step stage.Census tick) p in
      IsSumOf (map (λ q. census s tick q world.agents) (p ∷ others)) all

-- how many values an agent of a class has
abbrev pub values_in : Option Class → ℕ
values_in None = 0
values_in (Some class) = length class.states

-- how many values the children of parents have: a child is of its parent's class
abbrev pub count_born : Program → List Parent → ℕ
count_born program parents =
    sum_by (λ p. values_in (slice_get program.classes p.class)) parents

-- with the children of the parents of the ranks up to r, the next world has too many agents or
-- values, or an id too great
abbrev pub parent_too_far : Program → ℕ → Census → ℕ → Bool
parent_too_far program next all r =
    let born = take (suc r) all.parents in
    nat_lt most_agents (all.living + length born)
    || (nat_lt most_values (all.values + count_born program born) || nat_lt greatest_id (next + r))

-- the rank of the first parent that goes too far, if one does
abbrev pub rank_too_far : Program → ℕ → Census → Option ℕ
rank_too_far program next all =
    find (parent_too_far program next all) (range_with_len 0 (length all.parents))

-- the fault of the birth of a parent's child
abbrev pub parent_fault : Program → ℕ → Parent → Fault
parent_fault program tick p =
    birth_fault program tick (record { class = p.class; id = p.id; states = [] })

-- the fault of the first parent that goes too far, if one does
abbrev pub fault_told : Program → ℕ → ℕ → Census → Option Fault
fault_told program next tick all =
    let first = option_and_then (slice_get all.parents) (rank_too_far program next all) in
    option_map (parent_fault program tick) first

-- the parents whose children are born, by rank: all before the first that goes too far
abbrev pub bearing : Program → ℕ → Census → List Parent
bearing program next all =
    take (unwrap_or (rank_too_far program next all) (length all.parents)) all.parents
