-- What the check passes and the numbering ensure of each class of a program, whatever the checks of
-- names find in its script.
use Rattle.std.specs.Prelude.{◌≡◌, ℕ, nat_eq, nat_lt, map, flat_map, sum, slice_get, IsTrue, Some}
use Rattle.std.specs.List.{IsDistinct, list_all}
use Rattle.std.specs.List.Sorted.{IsStrictlyIncreasing}
use Rattle.brace_model.specs.declared.program.Ty.TheVariants as ty
use Rattle.brace_model.specs.declared.program.Class.{Class}
use Rattle.brace_model.specs.declared.program.Program.{Program}
use Rattle.brace_model.specs.Query.{constants}
use Rattle.brace_model.specs.Sites.{rule_sites, die_sites, spawn_sites, query_sites, constant_numbers}
use Rattle.brace_model.specs.Lawful.{is_distance, combines, rule_scope, is_ruled}

-- of the class of that number in a program: ranges from 0 to a million, combinators that fit, rules
-- of the types of their states, a bool condition of `die`, constants with a number of their own
-- each, and sites that rise in finishing order over the rules, over each condition, and over the
-- query
pub record CheckedClass (program : Program) (number : ℕ) (class : Class) : Type 0 where
  pub visible_is_distance : IsTrue (is_distance class.visible)
  pub reach_is_distance : IsTrue (is_distance class.reach)
  pub effects_combine : IsTrue (list_all (λ e. combines e.comb e.ty) class.effects)
  pub rules_are_typed : IsTrue
      (list_all (λ s. is_ruled (rule_scope program number) s.ty s.rule) class.states)
  pub die_is_typed : IsTrue (is_ruled (rule_scope program number) ty.Bool class.die)
  pub constants_in_range : IsTrue
      (list_all (λ n. nat_lt n (sum (map constants class.query)))
      (flat_map constant_numbers class.query))
  pub constants_differ : IsDistinct nat_eq (flat_map constant_numbers class.query)
  pub rule_sites_rise : IsStrictlyIncreasing (rule_sites class)
  pub die_sites_rise : IsStrictlyIncreasing (die_sites class)
  pub spawn_sites_rise : IsStrictlyIncreasing (spawn_sites class)
  pub query_sites_rise : IsStrictlyIncreasing (query_sites class)

-- each class of the program is of this kind
abbrev pub IsChecked : Program → Type 0
IsChecked program =
    (number : ℕ) (class : Class) → slice_get program.classes number ≡ Some class
    → CheckedClass program number class
