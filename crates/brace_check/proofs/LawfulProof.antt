-- The program of a script that is read from a source, and in which nothing is found, is lawful.
use Rattle.std.proofs.Common.{◌≡◌, refl, sym, ap, subst, ◌∙◌, ℕ, zero, suc, ◌+◌, ◌<◌, ◌≤◌, Bool, true, false, List, [], ◌∷◌, ◌++◌, map, flat_map, length, arith}
use Rattle.std.specs.Prelude.{nat_eq, not, Some, slice_get, codes, unwrap_or, option_to_list}
use Rattle.std.specs.Option.{option_map}
use Rattle.std.specs.List.{AllByRecursion, IsDistinct, list_any, range_with_len}
use Rattle.std.specs.Str.{bytes_eq}
use Rattle.std.proofs.lemmas.Bool.{and_parts}
use Rattle.std.proofs.lemmas.List.{length-map}
use Rattle.std.proofs.lemmas.Option.{slice_get-map}
use Rattle.brace_num.proofs.Lists.{none_front, each_front}
use Rattle.brace_syntax.specs.declared.tree.Ident.{Ident}
use Rattle.brace_syntax.specs.declared.tree.ClassTree.{ClassTree}
use Rattle.brace_names.specs.declared.resolved.Resolved.{Resolved}
use Rattle.brace_names.specs.declared.finding.Finding.{Finding}
use Rattle.brace_names.specs.declared.fault.NameFault.{NameFault}
use Rattle.brace_names.specs.declared.fault.NameFault.TheVariants.{DuplicateClass, DuplicateName}
use Rattle.brace_names.specs.declared.fault.Which.{Which}
use Rattle.brace_names.specs.declared.fault.Which.TheVariants as which
use Rattle.brace_names.specs.declared.declared.Field.{Field}
use Rattle.brace_names.specs.Tables.{repeated}
use Rattle.brace_names.specs.Classes.{Known, known, title, fields, is_coordinate, has_position}
use Rattle.brace_names.specs.Scopes.{Home, home_of, outermost}
use Rattle.brace_names.specs.Walk.{in_classes}
use Rattle.brace_names.specs.Findings as f
use Rattle.brace_names.specs.Found as names
use Rattle.brace_names.specs.Found.{declarations, class_names, too_many, position, found}
use Rattle.brace_names.specs.Faults as name_faults
use Rattle.brace_names.specs.Faults.{fault_of, site_of, assignment_of}
use Rattle.brace_model.specs.declared.program.Stmt.{Stmt}
use Rattle.brace_model.specs.declared.program.State.{State}
use Rattle.brace_model.specs.declared.program.Spawn.{Spawn}
use Rattle.brace_model.specs.declared.program.Class.{Class}
use Rattle.brace_model.specs.declared.program.Program.{Program}
use Rattle.brace_model.specs.Sites.{sites_of, sites_among, sites_of_spawn}
use Rattle.brace_model.specs.Typing.{Names}
use Rattle.brace_model.specs.Lawful.{rule_scope, query_scope, is_spawn, given_states, LawfulClass, LawfulProgram}
use Rattle.brace_check.specs.declared.share.Share.{Share}
use Rattle.brace_check.specs.Found.{member}
use Rattle.brace_check.specs.Faults.{faults}
use Rattle.brace_check.specs.Programs.{shares, class_of, classes_from, program_of}
use Rattle.brace_check.specs.Order.{in_text_order}
use Rattle.brace_check.specs.Resolved.{IsResolved}
use Rattle.brace_check.specs.Checked.{CheckedClass, IsChecked}
use Rattle.brace_check.proofs.Ties.{Heading, heading, heading_of, FieldsFit, Tied, all_back}
use Rattle.brace_check.proofs.Sound.{nil_back}
use Rattle.brace_check.proofs.Numbering.{Rises, increasing_from_rises, front_rises, first_rises, block_sites}
use Rattle.brace_check.proofs.ShareNumbers.{SharesRise, shares_rise, ruled_sites, sites_differ, sites_below, loops_apart, classes_in_order}
use Rattle.brace_check.proofs.CheckedMembers.{visible_fits, reach_fits, effects_fit, FromZero, from_zero, first_from_zero, constants_below, constants_apart, class_kept, classes_kept, states_typed, deaths_typed, first_typed, MembersOk, members_ok, Born, first_asked}
use Rattle.brace_check.proofs.FieldNumbers.{fields_fit, others_fit, classes_fit, state_called, own_called, Fine, AllFine, all_fine, text, names_differ, few_names, few_of, has_its_position, fields_count, fields_differ, is_placed, WordedClass, script_worded, fields_named}
use Rattle.brace_check.proofs.Told.{counted_sites, few_assignments}

first_born : (m : Names) (states : List State) (spawns : List Spawn) → AllByRecursion (Born m states) spawns
    → (is_spawn m states (slice_get spawns 0) ≡ true) × IsDistinct nat_eq (given_states (slice_get spawns 0))
unfolding IsDistinct
first_born m states [] h = (refl, tt)
first_born m states (s ∷ spawns) h = (h.0.is, h.0.differ)

first_query_rises : (lo hi : ℕ) (queries : List (List Stmt)) → Rises lo hi (flat_map block_sites queries)
    → Rises lo hi (block_sites (unwrap_or (slice_get queries 0) []))
first_query_rises lo hi [] h = h
first_query_rises lo hi (b ∷ queries) h = front_rises lo hi (block_sites b) (flat_map block_sites queries) h

-- the titles of the members of a class differ
titles_differ : (class : ClassTree) → AllFine (declarations class) → IsDistinct bytes_eq (map text (map title class.members))
titles_differ class fine =
    let again : List Finding = f.faults_at DuplicateName (repeated (map title class.members)) in
    let more : List Finding = too_many which.Fields (option_map (λ (one : Ident × Field). one.0) (slice_get (fields class) 64)) in
    names_differ DuplicateName (map title class.members) (each_front Fine again more (each_front Fine (again ++ more) (position class) fine))

classes_differ : (classes : List ClassTree) → AllFine (flat_map declarations classes) → AllByRecursion (λ (class : ClassTree). IsDistinct bytes_eq (map text (map title class.members))) classes
classes_differ [] fine = tt
classes_differ (class ∷ classes) fine = (
  titles_differ class (each_front Fine (declarations class) (flat_map declarations classes) fine),
  classes_differ classes (all_back Fine (declarations class) (flat_map declarations classes) fine),
)

module _ (trees : List ClassTree) (program : Program) (kept : map heading_of program.classes ≡ map heading trees) where
  headed : (number : ℕ) (class : ClassTree) → slice_get trees number ≡ Some class → slice_get (map heading_of program.classes) number ≡ Some (heading class)
  headed number class at = ap (λ (l : List Heading). slice_get l number) kept ∙ (slice_get-map heading trees number ∙ ap (option_map heading) at)

  count : length program.classes ≡ length trees
  count = sym (length-map program.classes heading_of) ∙ (ap length kept ∙ length-map trees heading)

  -- the scopes of a class
  scope_tied : (number : ℕ) (class : ClassTree) (in_query : Bool) → slice_get trees number ≡ Some class
      → Tied (outermost (home_of (known trees) number class) in_query) (record (rule_scope program number) { in_rule = not in_query })
  scope_tied number class in_query at = record {
    own = fields_fit (map heading_of program.classes) number class (headed number class at);
    others = λ k table is. subst (λ (l : List Heading). FieldsFit l k table) (sym kept) (others_fit trees k table is);
    classes = subst (λ (c : ℕ). AllByRecursion (λ (e : List ℕ × ℕ). e.1 < c) (known trees).classes) (sym count) (classes_fit trees);
    number = refl;
    in_rule = refl;
    loops = (refl, refl);
    locals = tt;
  }

  abbrev home : ℕ → ClassTree → Home
  home number class = home_of (known trees) number class

  class_checked : (number : ℕ) (class : ClassTree) (n : List ℕ) → slice_get trees number ≡ Some class
      → flat_map (member (home number class)) class.members ≡ [] → CheckedClass program number (class_of (home number class) class n).0
  class_checked number class n at clean =
      let h : Home = home number class in
      let s : Share = (shares h class.members n).0 in
      let lo : ℕ = length n in
      let hi : ℕ = length (shares h class.members n).1 in
      let r : SharesRise s lo hi = shares_rise h class.members n in
      let query : List Stmt = unwrap_or (slice_get s.queries 0) [] in
      let z : FromZero query = first_from_zero s.queries (from_zero h class.members n) in
      let rule : Names = rule_scope program number in
      let in_rule : Tied (outermost h false) rule = scope_tied number class false at in
      record {
        visible_is_distance = visible_fits h class.members clean;
        reach_is_distance = reach_fits h class.members clean;
        effects_combine = effects_fit h class.members clean;
        rules_are_typed = states_typed h rule in_rule class.members n clean;
        die_is_typed = first_typed h rule in_rule s.die (deaths_typed h rule in_rule class.members n clean);
        constants_in_range = constants_below query z;
        constants_differ = constants_apart query z;
        rule_sites_rise = increasing_from_rises lo hi (ruled_sites s.states) r.rules;
        die_sites_rise = increasing_from_rises lo hi (sites_among (option_to_list (slice_get s.die 0))) (first_rises sites_of lo hi s.die r.dies);
        spawn_sites_rise = increasing_from_rises lo hi (flat_map sites_of_spawn (option_to_list (slice_get s.spawn 0))) (first_rises sites_of_spawn lo hi s.spawn r.spawns);
        query_sites_rise = increasing_from_rises lo hi (block_sites query) (first_query_rises lo hi s.queries r.queries);
      }

  class_lawful : (number : ℕ) (class : ClassTree) (n : List ℕ) → slice_get trees number ≡ Some class → AllFine (declarations class)
      → AllFine (flat_map (names.member (home number class)) class.members)
      → flat_map (member (home number class)) class.members ≡ [] → WordedClass class
      → LawfulClass program number (class_of (home number class) class n).0
  class_lawful number class n at declared_ fine clean words =
      let h : Home = home number class in
      let s : Share = (shares h class.members n).0 in
      let c : CheckedClass program number (class_of h class n).0 = class_checked number class n at clean in
      let rule : Names = rule_scope program number in
      let again : List Finding = f.faults_at DuplicateName (repeated (map title class.members)) in
      let more : List Finding = too_many which.Fields (option_map (λ (one : Ident × Field). one.0) (slice_get (fields class) 64)) in
      let front : AllFine (again ++ more) = each_front Fine (again ++ more) (position class) declared_ in
      let titles : IsDistinct bytes_eq (map text (map title class.members)) = titles_differ class declared_ in
      let few : length (fields class) ≤ 64 = few_of which.Fields (fields class) 64 (all_back Fine again more front) in
      let positioned : has_position class ≡ true = has_its_position class (all_back Fine (again ++ more) (position class) declared_) in
      let placed : (list_any (is_coordinate (codes "x")) class.members ≡ true) × (list_any (is_coordinate (codes "y")) class.members ≡ true) =
      and_parts (list_any (is_coordinate (codes "x")) class.members) (list_any (is_coordinate (codes "y")) class.members) positioned in
      let ok : MembersOk s.states rule (query_scope program number) s =
      members_ok h (flat_map state_called class.members) (own_called class) rule (query_scope program number) (scope_tied number class false at) (scope_tied number class true at)
      (heading class) s.states (headed number class at) (ap (λ (h : Heading). h.states) (class_kept h class n)) class.members n fine clean in
      let born : (is_spawn rule s.states (slice_get s.spawn 0) ≡ true) × IsDistinct nat_eq (given_states (slice_get s.spawn 0)) = first_born rule s.states s.spawn ok.born in
      record {
        class_is_named = words.named;
        fields_are_named = fields_named h class.members n words.members;
        field_names_differ = fields_differ h class.members n titles;
        few_fields = subst (λ (k : ℕ). k ≤ 64) (fields_count h class.members n 0 0) few;
        visible_is_distance = c.visible_is_distance;
        reach_is_distance = c.reach_is_distance;
        x_is_position = is_placed h (codes "x") class.members n titles placed.0;
        y_is_position = is_placed h (codes "y") class.members n titles placed.1;
        effects_combine = c.effects_combine;
        rules_are_typed = c.rules_are_typed;
        die_is_typed = c.die_is_typed;
        spawn_is_typed = born.0;
        gifts_differ = born.1;
        query_is_typed = first_asked (query_scope program number) s.queries ok.asked;
        constants_in_range = c.constants_in_range;
        constants_differ = c.constants_differ;
        rule_sites_rise = c.rule_sites_rise;
        die_sites_rise = c.die_sites_rise;
        spawn_sites_rise = c.spawn_sites_rise;
        query_sites_rise = c.query_sites_rise;
      }

  -- classes that stand among all from a number on
  abbrev Among : ℕ → List ClassTree → Type 0
  Among number classes = (i : ℕ) (class : ClassTree) → slice_get classes i ≡ Some class → slice_get trees (number + i) ≡ Some class

  among_first : (number : ℕ) (class : ClassTree) (classes : List ClassTree) → Among number (class ∷ classes) → slice_get trees number ≡ Some class
  among_first number class classes h = let here : number + 0 ≡ number = omega arith in subst (λ (k : ℕ). slice_get trees k ≡ Some class) here (h 0 class refl)

  among_rest : (number : ℕ) (class : ClassTree) (classes : List ClassTree) → Among number (class ∷ classes) → Among (number + 1) classes
  among_rest number class classes h i c is =
      let next : number + suc i ≡ (number + 1) + i = omega arith in
      subst (λ (k : ℕ). slice_get trees k ≡ Some c) next (h (suc i) c is)

  classes_checked : (number : ℕ) (classes : List ClassTree) (n : List ℕ) → Among number classes → in_classes member (known trees) number classes ≡ []
      → (k : ℕ) (c : Class) → slice_get (classes_from (known trees) number classes n).0 k ≡ Some c → (j : ℕ) → number + k ≡ j → CheckedClass program j c
  classes_checked number [] n among clean k c is j at = absurd (cc)
  classes_checked number (class ∷ classes) n among clean zero c is j at =
      let same : (class_of (home number class) class n).0 ≡ c = cc in
      let here : number ≡ j = omega (arith, at) in
      subst (λ (i : ℕ). CheckedClass program i c) here
      (subst (CheckedClass program number) same
      (class_checked number class n (among_first number class classes among)
      (none_front (flat_map (member (home number class)) class.members) (in_classes member (known trees) (number + 1) classes) clean)))
  classes_checked number (class ∷ classes) n among clean (suc k) c is j at =
      let there : (number + 1) + k ≡ j = omega (arith, at) in
      classes_checked (number + 1) classes (class_of (home number class) class n).1 (among_rest number class classes among)
      (nil_back (flat_map (member (home number class)) class.members) (in_classes member (known trees) (number + 1) classes) clean) k c is j there

  classes_lawful : (number : ℕ) (classes : List ClassTree) (n : List ℕ) → Among number classes → AllFine (flat_map declarations classes) → AllFine (in_classes names.member (known trees) number classes)
      → in_classes member (known trees) number classes ≡ [] → AllByRecursion WordedClass classes
      → (k : ℕ) (c : Class) → slice_get (classes_from (known trees) number classes n).0 k ≡ Some c → (j : ℕ) → number + k ≡ j → LawfulClass program j c
  classes_lawful number [] n among declared_ fine clean words k c is j at = absurd (cc)
  classes_lawful number (class ∷ classes) n among declared_ fine clean words zero c is j at =
      let h : Home = home number class in
      let same : (class_of h class n).0 ≡ c = cc in
      let here : number ≡ j = omega (arith, at) in
      subst (λ (i : ℕ). LawfulClass program i c) here
      (subst (LawfulClass program number) same
      (class_lawful number class n (among_first number class classes among) (each_front Fine (declarations class) (flat_map declarations classes) declared_)
      (each_front Fine (flat_map (names.member h) class.members) (in_classes names.member (known trees) (number + 1) classes) fine)
      (none_front (flat_map (member h) class.members) (in_classes member (known trees) (number + 1) classes) clean) words.0))
  classes_lawful number (class ∷ classes) n among declared_ fine clean words (suc k) c is j at =
      let h : Home = home number class in
      let there : (number + 1) + k ≡ j = omega (arith, at) in
      classes_lawful (number + 1) classes (class_of h class n).1 (among_rest number class classes among)
      (all_back Fine (declarations class) (flat_map declarations classes) declared_)
      (all_back Fine (flat_map (names.member h) class.members) (in_classes names.member (known trees) (number + 1) classes) fine)
      (nil_back (flat_map (member h) class.members) (in_classes member (known trees) (number + 1) classes) clean) words.1 k c is j there

among_all : (trees : List ClassTree) (i : ℕ) (class : ClassTree) → slice_get trees i ≡ Some class → slice_get trees (0 + i) ≡ Some class
among_all trees i class at = let same : i ≡ 0 + i = omega arith in subst (λ (k : ℕ). slice_get trees k ≡ Some class) same at

-- no more is found than is allowed
few_found : (places_ : List ℕ) (limit : ℕ) (w : Which) → name_faults.too_many w (slice_get places_ limit) ≡ [] → length places_ ≤ limit
few_found [] limit w h = omega arith
few_found (p ∷ places_) zero w h = absurd (cc)
few_found (p ∷ places_) (suc limit) w h = let rest : length places_ ≤ limit = few_found places_ limit w h in omega (arith, rest)

class_names-map : (all : Known) (number : ℕ) (classes : List ClassTree) (n : List ℕ)
    → map (λ (c : Class). c.name) (classes_from all number classes n).0 ≡ map text (map (λ (class : ClassTree). class.name) classes)
class_names-map all number [] n = refl
class_names-map all number (class ∷ classes) n =
    ap (λ (l : List (List ℕ)). class.name.text ∷ l) (class_names-map all (number + 1) classes (class_of (home_of all number class) class n).1)

-- whatever the checks of names find
pub accepted_checked : (r : Resolved) → faults r ≡ [] → IsChecked (program_of r)
accepted_checked r clean number class is =
    let trees : List ClassTree = r.tree.classes in
    let at : 0 + number ≡ number = omega arith in
    classes_checked trees (program_of r) (classes_kept (known trees) 0 trees []) 0 trees [] (among_all trees) clean number class is number at

module _ (src : List ℕ) (r : Resolved) (is : IsResolved src r) where
  abbrev trees_ : List ClassTree
  trees_ = r.tree.classes

  abbrev all_found : List Finding
  all_found = found r.tree

  abbrev past_sites : List NameFault
  past_sites = name_faults.too_many which.Sites (slice_get (flat_map site_of all_found) 4096)

  abbrev past_said : List NameFault
  past_said = name_faults.too_many which.Assignments (slice_get (flat_map assignment_of all_found) 4096)

  faultless : flat_map fault_of all_found ++ past_sites ≡ []
  faultless = none_front (flat_map fault_of all_found ++ past_sites) past_said is.faultless

  few_sites : length (program_of r).sites ≤ 4096
  few_sites =
      subst (λ (l : List ℕ). length l ≤ 4096) (counted_sites r.tree)
      (few_found (flat_map site_of all_found) 4096 which.Sites (nil_back (flat_map fault_of all_found) past_sites faultless))

  few_said : length (flat_map assignment_of all_found) ≤ 4096
  few_said = few_found (flat_map assignment_of all_found) 4096 which.Assignments (nil_back (flat_map fault_of all_found ++ past_sites) past_said is.faultless)

  fine : AllFine all_found
  fine = all_fine all_found (none_front (flat_map fault_of all_found) past_sites faultless)

  abbrev names_of_classes : List Ident
  names_of_classes = map (λ (class : ClassTree). class.name) trees_

  abbrev members_found : List Finding
  members_found = in_classes names.member (known trees_) 0 trees_

  fine_front : AllFine (class_names names_of_classes ++ flat_map declarations trees_)
  fine_front = each_front Fine (class_names names_of_classes ++ flat_map declarations trees_) members_found fine

  fine_names : AllFine (class_names names_of_classes)
  fine_names = each_front Fine (class_names names_of_classes) (flat_map declarations trees_) fine_front

  fine_declared : AllFine (flat_map declarations trees_)
  fine_declared = all_back Fine (class_names names_of_classes) (flat_map declarations trees_) fine_front

  -- its sites are numbered in the order of its text
  pub sites_in_order : in_text_order trees_ (program_of r).classes ≡ range_with_len 0 (length (program_of r).sites)
  sites_in_order = classes_in_order (known trees_) 0 trees_ [] (classes_differ trees_ fine_declared)

  abbrev kept_ : map heading_of (program_of r).classes ≡ map heading trees_
  kept_ = classes_kept (known trees_) 0 trees_ []

  module _ (clean : faults r ≡ []) where
    lawful_class : (number : ℕ) (class : Class) → slice_get (program_of r).classes number ≡ Some class → LawfulClass (program_of r) number class
    lawful_class number class at =
        let here : 0 + number ≡ number = omega arith in
        classes_lawful trees_ (program_of r) kept_ 0 trees_ [] (among_all trees_) fine_declared
        (all_back Fine (class_names names_of_classes ++ flat_map declarations trees_) members_found fine) clean (script_worded src is.toks trees_ is.spelled is.read)
        number class at number here

    -- the program is lawful
    pub accepted_lawful : LawfulProgram (program_of r)
    accepted_lawful =
        let again : List Finding = f.faults_at DuplicateClass (repeated names_of_classes) in
        let more : List Finding = too_many which.Classes (slice_get names_of_classes 16) in
        let few : length names_of_classes ≤ 16 = few_names which.Classes names_of_classes 16 (all_back Fine again more fine_names) in
        let same : length (program_of r).classes ≡ length trees_ = count trees_ (program_of r) kept_ in
        let d : length names_of_classes ≡ length trees_ = length-map trees_ (λ (class : ClassTree). class.name) in
        record {
          few_classes = omega (arith, few, same, d);
          class_names_differ = subst (IsDistinct bytes_eq) (sym (class_names-map (known trees_) 0 trees_ []))
              (names_differ DuplicateClass names_of_classes (each_front Fine again more fine_names));
          classes_are_lawful = lawful_class;
          sites_in_range = sites_below (known trees_) trees_ 4096 few_sites;
          sites_differ = sites_differ (known trees_) trees_;
          few_assignments = few_assignments r.tree 4096 few_said;
          loops_differ = loops_apart src is.toks (known trees_) trees_ is.spelled is.read;
        }
