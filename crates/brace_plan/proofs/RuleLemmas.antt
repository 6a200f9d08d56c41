-- The compiled rules of a lawful class.
use Rattle.std.proofs.Common.{◌≡◌, ◌∙◌, ◌+◌, ◌<◌, ◌++◌, refl, sym, ap, subst, ℕ, ℤ, pos, negsuc, ◌≤ℤ◌, List, [], ◌∷◌, length, take, get_or, Bool, true, false, Option, Some, None, arith}
use Rattle.std.specs.Prelude.{slice_get}
use Rattle.std.specs.List.{AllZip, list_all}
use Rattle.std.proofs.lemmas.Bool.{and_parts}
use Rattle.std.proofs.lemmas.Int.{ints}
use Rattle.std.proofs.lemmas.Option.{slice_get_read, slice_get_within}
use Rattle.std.proofs.lemmas.Slice.Zip.{all_zipped_more}
use Rattle.std.proofs.lemmas.List.Sums.{AllPass-from_list_all}
use Rattle.brace_num.proofs.Lists.{take_next}
use Rattle.brace_model.specs.declared.program.Ty.{Ty}
use Rattle.brace_model.specs.declared.program.Ty.TheVariants as ty
use Rattle.brace_model.specs.declared.program.State.{State}
use Rattle.brace_model.specs.declared.program.Gift.{Gift}
use Rattle.brace_model.specs.declared.program.Spawn.{Spawn}
use Rattle.brace_model.specs.declared.program.Class.{Class}
use Rattle.brace_model.specs.declared.program.Program.{Program}
use Rattle.brace_model.specs.declared.world.Agent.{Agent}
use Rattle.brace_model.specs.World.{class_of}
use Rattle.brace_model.specs.Typing.{Names, type_of, is_of_type}
use Rattle.brace_model.specs.Lawful.{LawfulClass, LawfulProgram, rule_scope, is_distance, is_ruled, is_given, is_spawn, has_states, is_lawful_agent}
use Rattle.brace_model.proofs.TypeLemmas.{one_type}
use Rattle.brace_plan.specs.declared.rules.Rules.{Rules}
use Rattle.brace_plan.specs.Ruling.{IsRuleOf, IsCodeOf, AreRulesOf, AreAllRulesOf, condition_of, gifts_of}

-- a type that is told is the expression's
pub typed : (t : Ty) (o : Option Ty) → is_of_type t o ≡ true → o ≡ Some t
typed t None e = absurd (cc)
typed t (Some s) e = ap Some (sym (one_type t s e))

-- a gift has the type of its state
pub given_typed : (names : Names) (states : List State) (g : Gift) → is_given names states g ≡ true → (t : Ty) × (type_of g.value names ≡ Some t)
given_typed names states g given = by_state (slice_get states g.state) refl
  where
    by_state : (o : Option State) → slice_get states g.state ≡ o → (t : Ty) × (type_of g.value names ≡ Some t)
    by_state None found = absurd (let no_way : false ≡ true = rw found at given in cc)
    by_state (Some s) found =
        let fine : is_of_type s.ty (type_of g.value names) ≡ true = rw found at given in
        (s.ty, typed s.ty (type_of g.value names) fine)

-- the gifts of a `spawn` are typed
pub gifts_typed : (names : Names) (states : List State) (spawn : Option Spawn) → is_spawn names states spawn ≡ true → list_all (is_given names states) (gifts_of spawn) ≡ true
gifts_typed names states None e = refl
gifts_typed names states (Some spawn) e = (and_parts _ _ e).1

-- one code more
pub one_code : {A B : Type 0} (R : A → B → Type 0) (xs : List A) (i : ℕ) (x : A) (codes new : List B) (code : B) → i < length xs → x ≡ get_or xs i x
    → AllZip R (take i xs) codes → R x code → new ≡ codes ++ code ∷ [] → AllZip R (take (i + 1) xs) new
one_code R xs i x codes new code low is so_far here grown =
    subst (λ ys. AllZip R ys new) (sym (take_next xs i x low is))
    (subst (AllZip R (take i xs ++ x ∷ [])) (sym grown) (all_zipped_more R (take i xs) codes x code so_far here))

-- what passes a test stands in a list that does
pub one_passes : {A : Type 0} (test : A → Bool) (xs : List A) (i : ℕ) (x : A) → list_all test xs ≡ true → i < length xs → x ≡ get_or xs i x → test x ≡ true
one_passes test xs i x all low is = ap test is ∙ AllPass-from_list_all test xs all i x low

-- codes of a lawful class's rules
pub are_rules : (program : Program) (number : ℕ) (class : Class) (names : Names) (rules : Rules) (ss : List State) (gs : List Gift) → names ≡ rule_scope program number
    → ss ≡ class.states → gs ≡ gifts_of class.spawn → LawfulClass program number class
    → AllZip (λ (s : State) code. IsRuleOf names s.rule code) ss rules.states
    → ((t : Ty) → is_ruled names t class.die ≡ true → IsRuleOf names class.die rules.die)
    → ((states : List State) → is_spawn names states class.spawn ≡ true → IsRuleOf names (condition_of class.spawn) rules.spawn)
    → AllZip (λ (g : Gift) code. IsCodeOf names g.value code) gs rules.gifts
    → AreRulesOf (rule_scope program number) class rules
are_rules program number class names rules ss gs same states_are gifts_are lawful states die spawn gifts =
    subst (λ n. AreRulesOf n class rules) same (record {
      states = subst (λ xs. AllZip (λ (s : State) code. IsRuleOf names s.rule code) xs rules.states) states_are states;
      die = die ty.Bool (subst (λ n. is_ruled n ty.Bool class.die ≡ true) (sym same) lawful.die_is_typed);
      spawn = spawn class.states (subst (λ n. is_spawn n class.states class.spawn ≡ true) (sym same) lawful.spawn_is_typed);
      gifts = subst (λ xs. AllZip (λ (g : Gift) code. IsCodeOf names g.value code) xs rules.gifts) gifts_are gifts;
    })

-- ---- the rules of a lawful agent

lawful_class : (o : Option Class) (a : Agent) → has_states o a ≡ true → (class : Class) × (o ≡ Some class)
lawful_class None a e = absurd (cc)
lawful_class (Some class) a e = (class, refl)

-- a distance is not negative
pub not_negative : (z : ℤ) → is_distance z ≡ true → pos 0 ≤ℤ z
not_negative (pos n) is = grind (arith, ints)
not_negative (negsuc n) is = absurd (cc)

-- an agent's class, whose reach is not negative, and the class's compiled rules
pub record HasRules (program : Program) (a : Agent) (class : Class) (rules : Rules) : Type 0 where
  pub class_is : class_of program a ≡ Some class
  pub reach : pos 0 ≤ℤ class.reach
  pub rules_are : AreRulesOf (rule_scope program a.class) class rules

module _ (program : Program) (all : List Rules) (are : AreAllRulesOf program all) (a : Agent) (lawful : is_lawful_agent program a ≡ true) where
  class_there : (class : Class) × (class_of program a ≡ Some class)
  class_there = lawful_class (class_of program a) a (and_parts _ _ lawful).1

  pub class_within : a.class < length program.classes
  class_within = slice_get_within program.classes a.class class_there.0 class_there.1

  pub rules_within : a.class < length all
  rules_within = let (rules, found, of) = are.each a.class class_there.0 class_there.1 in slice_get_within all a.class rules found

  pub the_rules : (class : Class) (rules : Rules) → LawfulProgram program → class ≡ get_or program.classes a.class class → rules ≡ get_or all a.class rules
      → HasRules program a class rules
  the_rules class rules fine class_is rules_are =
      let here : class_of program a ≡ Some class = slice_get_read program.classes (length program.classes) a.class class refl class_within class_is in
      let (other, found, of) = are.each a.class class here in
      let both : Some other ≡ Some rules = sym found ∙ slice_get_read all (length all) a.class rules refl rules_within rules_are in
      let same : other ≡ rules = cc in
      record {
        class_is = here;
        reach = not_negative class.reach (fine.classes_are_lawful a.class class here).reach_is_distance;
        rules_are = subst (AreRulesOf (rule_scope program a.class) class) same of;
      }

-- the same, of a program by another name, and read from slices
pub read_rules : (program seen : Program) (all rs : List Rules) (classes : List Class) (a : Agent) (class : Class) (rules : Rules) → LawfulProgram program
    → AreAllRulesOf program all → program ≡ seen → is_lawful_agent seen a ≡ true → classes ≡ program.classes → rs ≡ all
    → class ≡ get_or classes a.class class → rules ≡ get_or rs a.class rules → HasRules seen a class rules
read_rules program seen all rs classes a class rules fine are view lawful classes_are all_are class_is rules_are =
    let its = subst (λ p. is_lawful_agent p a ≡ true) (sym view) lawful in
    subst (λ p. HasRules p a class rules) view
    (the_rules program all are a its class rules fine (class_is ∙ ap (λ cs. get_or cs a.class class) classes_are) (rules_are ∙ ap (λ rs. get_or rs a.class rules) all_are))
