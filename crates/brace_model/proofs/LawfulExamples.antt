-- Small scripts that are lawful, and some that are not.
use Rattle.std.proofs.Common.{◌≡◌, refl, sym, subst, ℕ, zero, suc, pos, List, [], ◌∷◌, true, Some, None, codes, arith}
use Rattle.std.specs.Prelude.{slice_get}
use Rattle.std.specs.List.{IsDistinct}
use Rattle.std.specs.List.Sorted.{IsStrictlyIncreasing}
use Rattle.std.proofs.lemmas.Bool.{true≢false}
use Rattle.brace_model.specs.declared.program.Ty.TheVariants as ty
use Rattle.brace_model.specs.declared.program.Comb.TheVariants as comb
use Rattle.brace_model.specs.declared.program.Value.TheVariants.{Int, Fixed, Flag}
use Rattle.brace_model.specs.declared.program.BinOp.TheVariants as op
use Rattle.brace_model.specs.declared.program.Who.TheVariants as who
use Rattle.brace_model.specs.declared.program.Expr.{Expr}
use Rattle.brace_model.specs.declared.program.Expr.TheVariants.{Lit, Field, Total, Local, Binary}
use Rattle.brace_model.specs.declared.program.Stmt.{Stmt}
use Rattle.brace_model.specs.declared.program.Stmt.TheVariants.{Const, If, Foreach, Assign}
use Rattle.brace_model.specs.declared.program.Gift.{Gift}
use Rattle.brace_model.specs.declared.program.Class.{Class}
use Rattle.brace_model.specs.Lawful.{LawfulClass, LawfulProgram, LawfulJob}
use Rattle.brace_model.proofs.Examples.{state, effect, class, script, drifting, drift}
use Rattle.brace_model.proofs.LawEquations.{type_of-Lit, type_of-Field, type_of-Total, type_of-Local, type_of-Binary, sites_of-Lit, sites_of-Field, sites_of-Total, sites_of-Binary, scope_after-Const, scope_after-If, scope_after-Foreach, scope_after-Assign, sites_in-Foreach, sites_in-Assign, constant_numbers-Foreach, constant_numbers-Assign}
use Rattle.brace_num.proofs.Orders.{none_rise}

-- what a program of one class owes is that the class is lawful
only_class : (c : Class) → LawfulClass (script (c ∷ [])) 0 c → (number : ℕ) (d : Class) → slice_get (c ∷ []) number ≡ Some d → LawfulClass (script (c ∷ [])) number d
only_class c h zero d is = let same : c ≡ d = cc in subst (LawfulClass (script (c ∷ [])) 0) same h
only_class c h (suc n) d is = absurd (cc)

-- a class of agents whose x goes by a rule
abbrev moving : Expr → Class
moving rule = class (codes "P") (pos 0) (pos 2000000) (Some rule) None [] [] []

abbrev one_and_a_half : Expr
one_and_a_half = Lit (Fixed (pos 1500000))

abbrev drift_rule : Expr
drift_rule = Binary op.Add (Some 0) (Field who.This 0) one_and_a_half

one_rises : IsStrictlyIncreasing (0 ∷ [])
one_rises k below = absurd (omega arith)

drifting_class : LawfulClass (script (moving drift_rule ∷ [])) 0 (moving drift_rule)
unfolding IsDistinct
drifting_class = record {
  class_is_named = refl;
  fields_are_named = refl;
  field_names_differ = ((refl, tt), (tt, tt));
  few_fields = omega arith;
  visible_is_distance = refl;
  reach_is_distance = refl;
  x_is_position = refl;
  y_is_position = refl;
  effects_combine = refl;
  rules_are_typed = simp (type_of-Lit, type_of-Field, type_of-Binary);
  die_is_typed = refl;
  spawn_is_typed = refl;
  gifts_differ = tt;
  query_is_typed = refl;
  constants_in_range = refl;
  constants_differ = tt;
  rule_sites_rise = simp (sites_of-Lit, sites_of-Field, sites_of-Binary) one_rises;
  die_sites_rise = none_rise;
  spawn_sites_rise = none_rise;
  query_sites_rise = none_rise;
}

drifting_is_lawful : LawfulProgram drifting
unfolding IsDistinct
drifting_is_lawful = record {
  few_classes = omega arith;
  class_names_differ = (tt, tt);
  classes_are_lawful = only_class (moving drift_rule) drifting_class;
  sites_in_range = simp (sites_of-Lit, sites_of-Field, sites_of-Binary);
  sites_differ = simp (sites_of-Lit, sites_of-Field, sites_of-Binary) (tt, tt);
  few_assignments = omega arith;
  loops_differ = tt;
}

-- an int is not added to a fixed number
mistyped : LawfulProgram (script (moving (Binary op.Add (Some 0) (Field who.This 0) (Lit (Int (pos 1)))) ∷ [])) → ⊥
mistyped lawful =
    let typed = (lawful.classes_are_lawful 0 (moving (Binary op.Add (Some 0) (Field who.This 0) (Lit (Int (pos 1))))) refl).rules_are_typed in
    true≢false (sym (simp (type_of-Lit, type_of-Field, type_of-Binary) at typed))

-- a sum has a site
siteless : LawfulProgram (script (moving (Binary op.Add None (Field who.This 0) one_and_a_half) ∷ [])) → ⊥
siteless lawful =
    let typed = (lawful.classes_are_lawful 0 (moving (Binary op.Add None (Field who.This 0) one_and_a_half)) refl).rules_are_typed in
    true≢false (sym (simp (type_of-Lit, type_of-Field, type_of-Binary) at typed))

drift_is_lawful : LawfulJob (drift 0 4 3 (pos 0))
drift_is_lawful = record {
  program_is_lawful = drifting_is_lawful;
  start_is_lawful = record { each_is_lawful = refl; few_agents = omega arith; few_values = omega arith };
  first_in_range = omega arith;
  last_in_range = omega arith;
  publishes = omega arith;
}

-- a class with a count, that begins with a query
abbrev counting_by : List Stmt → Class
counting_by query = class (codes "F") (pos 2000000) (pos 0) None None (state (codes "n") ty.Int (Some (Total 0 ty.Int None)) ∷ []) (effect (codes "c") ty.Int comb.Count ∷ []) query

abbrev counts_neighbours : Stmt
counts_neighbours = Foreach 0 (Assign who.Outer 0 (Lit (Fixed (pos 1))) 20 ∷ []) 10

-- the same with deaths and births: a child is set half a unit to the right
abbrev breeding : Class
breeding = record (counting_by (counts_neighbours ∷ [])) {
  die = Some (Binary op.Gt None (Field who.This 2) (Lit (Int (pos 8))));
  spawn = Some (record {
    when = Binary op.Lt None (Total 0 ty.Int None) (Lit (Int (pos 2)));
    gifts = to_the_right ∷ (record { state = 2; value = Lit (Int (pos 0)) }) ∷ [];
    site = 1;
  });
}
  where
    to_the_right : Gift
    to_the_right = record { state = 0; value = Binary op.Add (Some 0) (Field who.This 0) (Lit (Fixed (pos 500000))) }

two_rise : IsStrictlyIncreasing (0 ∷ 1 ∷ [])
two_rise zero below = omega arith
two_rise (suc k) below = absurd (omega arith)

breeding_class : LawfulClass (script (breeding ∷ [])) 0 breeding
unfolding IsDistinct
breeding_class = record {
  field_names_differ = ((refl, (refl, (refl, tt))), ((refl, (refl, tt)), ((refl, tt), (tt, tt))));
  class_is_named = refl;
  fields_are_named = refl;
  few_fields = omega arith;
  visible_is_distance = refl;
  reach_is_distance = refl;
  effects_combine = refl;
  x_is_position = refl;
  y_is_position = refl;
  rules_are_typed = simp (type_of-Total);
  die_is_typed = simp (type_of-Lit, type_of-Field, type_of-Binary);
  spawn_is_typed = simp (type_of-Lit, type_of-Field, type_of-Total, type_of-Binary);
  gifts_differ = ((refl, tt), (tt, tt));
  query_is_typed = simp (scope_after-Foreach, scope_after-Assign, type_of-Lit);
  constants_in_range = simp (constant_numbers-Foreach, constant_numbers-Assign);
  constants_differ = simp (constant_numbers-Foreach, constant_numbers-Assign) tt;
  rule_sites_rise = simp (sites_of-Total) none_rise;
  die_sites_rise = simp (sites_of-Lit, sites_of-Field, sites_of-Binary) none_rise;
  spawn_sites_rise = simp (sites_of-Lit, sites_of-Field, sites_of-Total, sites_of-Binary) two_rise;
  query_sites_rise = simp (sites_in-Foreach, sites_in-Assign, sites_of-Lit) none_rise;
}

-- an effect is not read in a query
reads_effect : LawfulProgram (script (counting_by (Assign who.This 0 (Total 0 ty.Int None) 0 ∷ []) ∷ [])) → ⊥
reads_effect lawful =
    let typed = (lawful.classes_are_lawful 0 (counting_by (Assign who.This 0 (Total 0 ty.Int None) 0 ∷ [])) refl).query_is_typed in
    true≢false (sym (simp (scope_after-Assign, type_of-Total) at typed))

-- a constant is named only up to the end of its block
abbrev names_late : List Stmt
names_late = If (Lit (Flag true)) (Const 0 (Lit (Int (pos 1))) ∷ []) [] ∷ Assign who.This 0 (Local 0) 0 ∷ []

out_of_scope : LawfulProgram (script (counting_by names_late ∷ [])) → ⊥
out_of_scope lawful =
    let typed = (lawful.classes_are_lawful 0 (counting_by names_late) refl).query_is_typed in
    true≢false (sym (simp (scope_after-If, scope_after-Const, scope_after-Assign, type_of-Lit, type_of-Local) at typed))

-- no loop stands in two others
abbrev three_loops : List Stmt
three_loops = Foreach 0 (Foreach 0 (Foreach 0 [] 3 ∷ []) 2 ∷ []) 1 ∷ []

too_deep : LawfulProgram (script (counting_by three_loops ∷ [])) → ⊥
too_deep lawful =
    let typed = (lawful.classes_are_lawful 0 (counting_by three_loops) refl).query_is_typed in
    true≢false (sym (simp (scope_after-Foreach) at typed))
