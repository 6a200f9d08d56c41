-- A program whose queries are parts of a lawful one's is lawful.
use Rattle.std.proofs.Common.{◌≡◌, ◌∙◌, refl, sym, ap, subst, ℕ, ◌≤◌, List, [], ◌∷◌, map, flat_map, Bool, false, Option, Some, None, arith}
use Rattle.std.specs.Prelude.{IsTrue, ◌&&◌, is_some, option_map, slice_get, nat_lt, nat_eq}
use Rattle.std.specs.List.{IsDistinct, list_all, sum_by}
use Rattle.std.specs.Str.{bytes_eq}
use Rattle.std.proofs.lemmas.Option.{slice_get-map}
use Rattle.std.proofs.lemmas.List.{length-map}
use Rattle.std.proofs.lemmas.List.Concat.{flat_map-append}
use Rattle.std.proofs.lemmas.List.Sums.{sum_by-cons}
use Rattle.brace_model.specs.declared.program.Ty.{Ty}
use Rattle.brace_model.specs.declared.program.Ty.TheVariants as ty
use Rattle.brace_model.specs.declared.program.Expr.{Expr}
use Rattle.brace_model.specs.declared.program.State.{State}
use Rattle.brace_model.specs.declared.program.Gift.{Gift}
use Rattle.brace_model.specs.declared.program.Spawn.{Spawn}
use Rattle.brace_model.specs.declared.program.Stmt.{Stmt}
use Rattle.brace_model.specs.declared.program.Class.{Class}
use Rattle.brace_model.specs.declared.program.Program.{Program}
use Rattle.brace_model.specs.Sites.{rule_sites, die_sites, spawn_sites, class_sites, loop_offsets, class_assignments}
use Rattle.brace_model.specs.Typing.{Names, is_of_type, type_of, in_turn, scope_after}
use Rattle.brace_model.specs.Lawful.{rule_scope, query_scope, is_ruled, is_given, is_spawn, LawfulClass, LawfulProgram}
use Rattle.brace_invert.specs.Split.{with_query, with_queries, forward_query, inverse_query, forward_program, inverse_program}
use Rattle.brace_invert.proofs.Sublists.{Sub, none, sub-refl, sub-append, sub-IsStrictlyIncreasing, sub-list_all, sub-IsDistinct}
use Rattle.brace_model.proofs.Blocks.{plain}
use Rattle.brace_invert.proofs.Pruned.{Pruned}
use Rattle.brace_invert.proofs.Halves.{halves, forward_pruned, inverse_pruned}
use Rattle.brace_invert.proofs.Numbers.{numbers_kept, constants_kept, sites_kept, loops_kept, assignments_kept}
use Rattle.brace_invert.proofs.Typed.{renamed, type_same, part_formed, is_there}

-- a way to take parts of queries
abbrev pub IsPart : (List Stmt → List Stmt) → Type 0
IsPart part = (s : List Stmt) → Pruned s (part s)

pub forward_is_part : IsPart forward_query
forward_is_part s = forward_pruned s _ _ (halves s (plain s) false)

pub inverse_is_part : IsPart inverse_query
inverse_is_part s = inverse_pruned s _ _ (halves s (plain s) false)

-- tests that agree
all_same : {A : Type 0} (p q : A → Bool) → ((x : A) → p x ≡ q x) → (xs : List A) → list_all p xs ≡ list_all q xs
all_same p q same [] = refl
all_same p q same (x ∷ xs) = ap (λ t. t && list_all p xs) (same x) ∙ ap (λ t. q x && t) (all_same p q same xs)

rule_same : (part : List Stmt → List Stmt) (names : Names) (t : Ty) (rule : Option Expr) → is_ruled (renamed part names) t rule ≡ is_ruled names t rule
rule_same part names t None = refl
rule_same part names t (Some e) = ap (is_of_type t) (type_same part e names)

given_to_same : (part : List Stmt → List Stmt) (names : Names) (states : List State) (gift : Gift) (o : Option State) → slice_get states gift.state ≡ o
    → is_given (renamed part names) states gift ≡ is_given names states gift
given_to_same part names states gift None e = rw e refl
given_to_same part names states gift (Some s) e = rw e (ap (is_of_type s.ty) (type_same part gift.value names))

spawn_same : (part : List Stmt → List Stmt) (names : Names) (states : List State) (spawn : Option Spawn) → is_spawn (renamed part names) states spawn ≡ is_spawn names states spawn
spawn_same part names states None = refl
spawn_same part names states (Some spawn) =
    ap (λ o. is_of_type ty.Bool o && list_all (is_given (renamed part names) states) spawn.gifts) (type_same part spawn.when names)
    ∙ ap (λ t. is_of_type ty.Bool (type_of spawn.when names) && t)
    (all_same (is_given (renamed part names) states) (is_given names states) (λ g. given_to_same part names states g (slice_get states g.state) refl) spawn.gifts)

is_some-from : {A : Type 0} (o : Option A) (a : A) → o ≡ Some a → IsTrue (is_some o)
is_some-from o a e = ap is_some e

class_lawful : (part : List Stmt → List Stmt) → IsPart part → (program : Program) (number : ℕ) (class : Class) → LawfulClass program number class → LawfulClass (with_queries part program) number (with_query part class)
class_lawful part is_part program number class lawful =
    let pruned = is_part class.query in
    let (last, formed) = is_there (in_turn (map scope_after class.query) (query_scope program number)) lawful.query_is_typed in
    record {
      class_is_named = lawful.class_is_named;
      fields_are_named = lawful.fields_are_named;
      field_names_differ = lawful.field_names_differ;
      few_fields = lawful.few_fields;
      visible_is_distance = lawful.visible_is_distance;
      reach_is_distance = lawful.reach_is_distance;
      x_is_position = lawful.x_is_position;
      y_is_position = lawful.y_is_position;
      effects_combine = lawful.effects_combine;
      rules_are_typed = all_same _ _ (λ s. rule_same part (rule_scope program number) s.ty s.rule) class.states ∙ lawful.rules_are_typed;
      die_is_typed = rule_same part (rule_scope program number) ty.Bool class.die ∙ lawful.die_is_typed;
      spawn_is_typed = spawn_same part (rule_scope program number) class.states class.spawn ∙ lawful.spawn_is_typed;
      gifts_differ = lawful.gifts_differ;
      query_is_typed = is_some-from _ (renamed part last) (part_formed part class.query (part class.query) pruned (query_scope program number) last formed);
      constants_in_range =
          rw (constants_kept class.query (part class.query) pruned, numbers_kept class.query (part class.query) pruned) lawful.constants_in_range;
      constants_differ = subst (IsDistinct nat_eq) (sym (numbers_kept class.query (part class.query) pruned)) lawful.constants_differ;
      rule_sites_rise = lawful.rule_sites_rise;
      die_sites_rise = lawful.die_sites_rise;
      spawn_sites_rise = lawful.spawn_sites_rise;
      query_sites_rise = sub-IsStrictlyIncreasing _ _ (sites_kept class.query (part class.query) pruned) lawful.query_sites_rise;
    }

class_at : (part : List Stmt → List Stmt) → IsPart part → (program : Program) (number : ℕ) (o : Option Class) → ((c : Class) → o ≡ Some c → LawfulClass program number c)
    → (class : Class) → option_map (with_query part) o ≡ Some class → LawfulClass (with_queries part program) number class
class_at part is_part program number None each class e = absurd (cc)
class_at part is_part program number (Some c) each class e =
    let same : with_query part c ≡ class = cc in
    subst (LawfulClass (with_queries part program) number) same (class_lawful part is_part program number c (each c refl))

sites_among_classes : (part : List Stmt → List Stmt) → IsPart part → (classes : List Class) → Sub (flat_map class_sites (map (with_query part) classes)) (flat_map class_sites classes)
sites_among_classes part is_part [] = none
sites_among_classes part is_part (c ∷ classes) =
    sub-append (class_sites (with_query part c)) (class_sites c) _ _
    (sub-append (rule_sites c) (rule_sites c) _ _ (sub-refl (rule_sites c)) (sub-append (die_sites c) (die_sites c) _ _ (sub-refl (die_sites c))
    (sub-append (spawn_sites c) (spawn_sites c) _ _ (sub-refl (spawn_sites c)) (sites_kept c.query (part c.query) (is_part c.query)))))
    (sites_among_classes part is_part classes)

loops_among_classes : (part : List Stmt → List Stmt) → IsPart part → (classes : List Class)
    → Sub (flat_map loop_offsets (flat_map (λ c. c.query) (map (with_query part) classes))) (flat_map loop_offsets (flat_map (λ c. c.query) classes))
loops_among_classes part is_part [] = none
loops_among_classes part is_part (c ∷ classes) =
    rw (flat_map-append loop_offsets (part c.query) (flat_map (λ c. c.query) (map (with_query part) classes)), flat_map-append loop_offsets c.query (flat_map (λ c. c.query) classes))
    (sub-append _ _ _ _ (loops_kept c.query (part c.query) (is_part c.query)) (loops_among_classes part is_part classes))

assignments_among : (part : List Stmt → List Stmt) → IsPart part → (classes : List Class) → sum_by class_assignments (map (with_query part) classes) ≤ sum_by class_assignments classes
assignments_among part is_part [] = omega arith
assignments_among part is_part (c ∷ classes) =
    omega (
      arith,
      assignments_kept c.query (part c.query) (is_part c.query),
      assignments_among part is_part classes,
      sum_by-cons class_assignments c classes,
      sum_by-cons class_assignments (with_query part c) (map (with_query part) classes),
    )

names_same : (part : List Stmt → List Stmt) (classes : List Class) → map (λ c. c.name) (map (with_query part) classes) ≡ map (λ c. c.name) classes
names_same part [] = refl
names_same part (c ∷ classes) = ap (λ ns. c.name ∷ ns) (names_same part classes)

pub part_lawful : (part : List Stmt → List Stmt) → IsPart part → (program : Program) → LawfulProgram program → LawfulProgram (with_queries part program)
part_lawful part is_part program lawful = record {
  few_classes = subst (λ n. n ≤ 16) (sym (length-map program.classes (with_query part))) lawful.few_classes;
  class_names_differ = subst (IsDistinct bytes_eq) (sym (names_same part program.classes)) lawful.class_names_differ;
  classes_are_lawful = λ number class is. class_at part is_part program number (slice_get program.classes number) (lawful.classes_are_lawful number) class (sym (slice_get-map (with_query part) program.classes number) ∙ is);
  sites_in_range = sub-list_all (λ site. nat_lt site 4096) _ _ (sites_among_classes part is_part program.classes) lawful.sites_in_range;
  sites_differ = sub-IsDistinct _ _ (sites_among_classes part is_part program.classes) lawful.sites_differ;
  few_assignments = omega (arith, assignments_among part is_part program.classes, lawful.few_assignments);
  loops_differ = sub-IsDistinct _ _ (loops_among_classes part is_part program.classes) lawful.loops_differ;
}

pub forward_is_lawful : (program : Program) → LawfulProgram program → LawfulProgram (forward_program program)
forward_is_lawful = part_lawful forward_query forward_is_part

pub inverse_is_lawful : (program : Program) → LawfulProgram program → LawfulProgram (inverse_program program)
inverse_is_lawful = part_lawful inverse_query inverse_is_part
