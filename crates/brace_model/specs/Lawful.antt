-- Lawful programs, agents and jobs: what a checked script, the agents that fit it, and a run of it
-- keep to.
use Rattle.std.specs.Prelude.{ℕ, ℤ, pos, int_le, ◌+◌, ◌≤◌, ◌^◌, ◌≡◌, nat_eq, nat_le, nat_lt, List, [], ◌++◌, map, flat_map, sum, sum_by, length, slice_get, codes, Bool, true, false, ◌&&◌, IsTrue, Option, Some, None, is_some}
use Rattle.std.specs.List.{IsDistinct, list_all}
use Rattle.std.specs.List.Sorted.{IsStrictlyIncreasing}
use Rattle.std.specs.Cmp.Lexicographic.{pointwise}
use Rattle.std.specs.Str.{bytes_eq}
use Rattle.brace_num.specs.Names.{is_name}
use Rattle.brace_model.specs.declared.program.Ty.{Ty}
use Rattle.brace_model.specs.declared.program.Ty.TheVariants as ty
use Rattle.brace_model.specs.declared.program.Comb.{Comb}
use Rattle.brace_model.specs.declared.program.Comb.TheVariants as comb
use Rattle.brace_model.specs.declared.program.State.{State}
use Rattle.brace_model.specs.declared.program.Gift.{Gift}
use Rattle.brace_model.specs.declared.program.Spawn.{Spawn}
use Rattle.brace_model.specs.declared.program.Class.{Class}
use Rattle.brace_model.specs.declared.program.Program.{Program}
use Rattle.brace_model.specs.declared.program.Expr.{Expr}
use Rattle.brace_model.specs.declared.job.Job.{Job}
use Rattle.brace_model.specs.declared.world.Agent.{Agent}
use Rattle.brace_model.specs.World.{class_of}
use Rattle.brace_model.specs.Query.{constants}
use Rattle.brace_model.specs.Step.{most_agents, most_values, greatest_id, count_values}
use Rattle.brace_model.specs.Sites.{rule_sites, die_sites, spawn_sites, query_sites, all_sites, constant_numbers, loop_offsets, class_assignments}
use Rattle.brace_model.specs.Typing.{Names, same_type, is_number, type_of_value, type_of, is_of_type, in_turn, scope_after}

-- the names of a class's states and effects
abbrev pub field_names : Class → List (List ℕ)
field_names class = map (λ s. s.name) class.states ++ map (λ e. e.name) class.effects

-- from 0 to a million, in millionths
abbrev pub is_distance : ℤ → Bool
is_distance z = int_le (pos 0) z && int_le z (pos 1000000000000)

-- a public fixed state of that name
abbrev pub is_position : List ℕ → Option State → Bool
is_position name None = false
is_position name (Some s) = bytes_eq s.name name && (s.shared && same_type s.ty ty.Fixed)

-- a combinator fits its effect's type
abbrev pub combines : Comb → Ty → Bool
combines comb.Count t = same_type t ty.Int
combines comb.Or t = same_type t ty.Bool
combines _ t = is_number t

-- what a rule may name: the agent's own states and totals
abbrev pub rule_scope : Program → ℕ → Names
rule_scope program class = record {
  classes = program.classes;
  own = class;
  outer_class = None;
  inner_class = None;
  in_rule = true;
  known = [];
}

-- what a query may name at its beginning: the agent's own states
abbrev pub query_scope : Program → ℕ → Names
query_scope program class = record (rule_scope program class) { in_rule = false }

-- a rule or a condition, where there is one, is of a type
abbrev pub is_ruled : Names → Ty → Option Expr → Bool
is_ruled names t None = true
is_ruled names t (Some rule) = is_of_type t (type_of rule names)

-- a gift is of the type of the state that it is given to
abbrev pub is_given : Names → List State → Gift → Bool
is_given names states gift = is_given_to names gift (slice_get states gift.state)
  where
    is_given_to : Names → Gift → Option State → Bool
    is_given_to names gift None = false
    is_given_to names gift (Some s) = is_of_type s.ty (type_of gift.value names)

-- a `spawn` has a condition, and gifts to states of the class
abbrev pub is_spawn : Names → List State → Option Spawn → Bool
is_spawn names states None = true
is_spawn names states (Some spawn) =
    is_of_type ty.Bool (type_of spawn.when names) && list_all (is_given names states) spawn.gifts

-- the states that a `spawn` gives values to
abbrev pub given_states : Option Spawn → List ℕ
given_states None = []
given_states (Some spawn) = map (λ g. g.state) spawn.gifts

-- the class of that number in a program: names, limits, position, types, and numbers of constants
-- and sites
pub record LawfulClass (program : Program) (number : ℕ) (class : Class) : Type 0 where
  pub class_is_named : IsTrue (is_name class.name)
  pub fields_are_named : IsTrue (list_all is_name (field_names class))
  pub field_names_differ : IsDistinct bytes_eq (field_names class)
  pub few_fields : length class.states + length class.effects ≤ 64
  pub visible_is_distance : IsTrue (is_distance class.visible)
  pub reach_is_distance : IsTrue (is_distance class.reach)
  pub x_is_position : IsTrue (is_position (codes "x") (slice_get class.states class.x))
  pub y_is_position : IsTrue (is_position (codes "y") (slice_get class.states class.y))
  pub effects_combine : IsTrue (list_all (λ e. combines e.comb e.ty) class.effects)
  pub rules_are_typed :
      IsTrue (list_all (λ s. is_ruled (rule_scope program number) s.ty s.rule) class.states)
  pub die_is_typed : IsTrue (is_ruled (rule_scope program number) ty.Bool class.die)
  pub spawn_is_typed : IsTrue (is_spawn (rule_scope program number) class.states class.spawn)
  pub gifts_differ : IsDistinct nat_eq (given_states class.spawn)
  pub query_is_typed :
      IsTrue (is_some (in_turn (map scope_after class.query) (query_scope program number)))
  pub constants_in_range :
      let count = sum (map constants class.query) in
      IsTrue (list_all (λ n. nat_lt n count) (flat_map constant_numbers class.query))
  pub constants_differ : IsDistinct nat_eq (flat_map constant_numbers class.query)
  pub rule_sites_rise : IsStrictlyIncreasing (rule_sites class)
  pub die_sites_rise : IsStrictlyIncreasing (die_sites class)
  pub spawn_sites_rise : IsStrictlyIncreasing (spawn_sites class)
  pub query_sites_rise : IsStrictlyIncreasing (query_sites class)

-- at most 16 classes of different names, each of which is lawful, and limits and numbers that hold
-- over the whole script
pub record LawfulProgram (program : Program) : Type 0 where
  pub few_classes : length program.classes ≤ 16
  pub class_names_differ : IsDistinct bytes_eq (map (λ c. c.name) program.classes)
  pub classes_are_lawful : (number : ℕ) (class : Class)
      → slice_get program.classes number ≡ Some class
      → LawfulClass program number class
  pub sites_in_range : IsTrue (list_all (λ site. nat_lt site 4096) (all_sites program))
  pub sites_differ : IsDistinct nat_eq (all_sites program)
  pub few_assignments : sum_by class_assignments program.classes ≤ 4096
  pub loops_differ :
      IsDistinct nat_eq (flat_map loop_offsets (flat_map (λ c. c.query) program.classes))

-- the values of an agent are of the types of its class's states
abbrev pub has_states : Option Class → Agent → Bool
has_states None a = false
has_states (Some class) a =
    pointwise same_type (map (λ s. s.ty) class.states) (map type_of_value a.states)

-- an agent has an id below 2^63, a class of the program and that class's states
abbrev pub is_lawful_agent : Program → Agent → Bool
is_lawful_agent program a = nat_le a.id greatest_id && has_states (class_of program a) a

-- at most 1,048,576 agents with at most 4,194,304 values in all
pub record LawfulAgents (program : Program) (agents : List Agent) : Type 0 where
  pub each_is_lawful : IsTrue (list_all (is_lawful_agent program) agents)
  pub few_agents : length agents ≤ most_agents
  pub few_values : count_values agents ≤ most_values

-- a run of a lawful program from lawful agents, whose ticks are at most 2^32 and which publishes
-- every so many ticks
pub record LawfulJob (job : Job) : Type 0 where
  pub program_is_lawful : LawfulProgram job.program
  pub start_is_lawful : LawfulAgents job.program job.start.agents
  pub first_in_range : job.first ≤ 2 ^ 32
  pub last_in_range : job.last ≤ 2 ^ 32
  pub publishes : 1 ≤ job.every
