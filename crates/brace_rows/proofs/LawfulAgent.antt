-- Agents that are read are lawful.
use Rattle.std.proofs.Common.{◌≡◌, ◌+◌, ◌∙◌, ℕ, Bool, true, false, ◌&&◌, List, [], ◌∷◌, ◌++◌, length, drop, map, zip, get_or, Option, Some, None, ℤ, Result, Ok, Err, sym, refl, ap, ap₂, subst, arith, eqb, inl, inr}
use Rattle.std.specs.Prelude.{◌⊎◌, nat_le, option_map, slice_get, unwrap_or, position}
use Rattle.std.specs.Cmp.Lexicographic.{pointwise}
use Rattle.std.specs.List.{list_all, cons_option}
use Rattle.std.specs.List.Sorted.{IsPermutation}
use Rattle.std.specs.Result.{result_ok}
use Rattle.std.specs.Str.{bytes_eq}
use Rattle.std.proofs.lemmas.Bool.{cases_Bool, false≢true, eqb-true}
use Rattle.std.proofs.lemmas.List.{length-drop}
use Rattle.std.proofs.lemmas.List.Quantifiers.{position-Some}
use Rattle.std.proofs.lemmas.List.Sorted.{All-permutation, length_permutation, sum_by-IsPermutation}
use Rattle.std.proofs.lemmas.List.Sums.{AllPass-from_list_all, list_all-from_AllPass}
use Rattle.std.proofs.lemmas.Option.{slice_get-get_or, same_Some, none-some}
use Rattle.brace_num.specs.Spelling.{count_of, int_of, fixed_of}
use Rattle.brace_num.proofs.Options.{ok_same}
use Rattle.brace_model.specs.declared.program.Ty.{Ty}
use Rattle.brace_model.specs.declared.program.Ty.TheVariants as ty
use Rattle.brace_model.specs.declared.program.Value.{Value}
use Rattle.brace_model.specs.declared.program.Value.TheVariants.{Int, Fixed, Flag}
use Rattle.brace_model.specs.declared.program.State.{State}
use Rattle.brace_model.specs.declared.program.Class.{Class}
use Rattle.brace_model.specs.declared.program.Program.{Program}
use Rattle.brace_model.specs.declared.world.Agent.{Agent}
use Rattle.brace_model.specs.Lawful.{LawfulAgents, has_states, is_lawful_agent}
use Rattle.brace_model.specs.Step.{greatest_id}
use Rattle.brace_model.specs.Typing.{same_type, type_of_value}
use Rattle.brace_rows.specs.declared.kinds.RowKind.{RowKind}
use Rattle.brace_rows.specs.AgentFile.{Fields, field, flag_of, value_of, values_in, complete, id_in_range, id_of, class_named, agent_with, agent_of_class, agent_in, agent_of, agents_in, are_too_many}
use Rattle.brace_rows.proofs.Entering.{few_agents, few_values}
use Rattle.brace_rows.proofs.Values.{there, complete_all, complete_gap}

err_not_ok : {A E : Type 0} (x : E) (y : A) → ◌≡◌ {A = Result A E} (Err x) (Ok y) → ⊥
err_not_ok x y e = cc

-- a value is of the type that it was read by
int_typed : (o : Option ℤ) (v : Value) → option_map Int o ≡ Some v → same_type ty.Int (type_of_value v) ≡ true
int_typed None v e = absurd (none-some v e)
int_typed (Some n) v e = subst (λ w. same_type ty.Int (type_of_value w) ≡ true) (same_Some (Int n) v e) refl

fixed_typed : (o : Option ℤ) (v : Value) → option_map Fixed o ≡ Some v → same_type ty.Fixed (type_of_value v) ≡ true
fixed_typed None v e = absurd (none-some v e)
fixed_typed (Some n) v e = subst (λ w. same_type ty.Fixed (type_of_value w) ≡ true) (same_Some (Fixed n) v e) refl

flag_typed : (o : Option Bool) (v : Value) → option_map Flag o ≡ Some v → same_type ty.Bool (type_of_value v) ≡ true
flag_typed None v e = absurd (none-some v e)
flag_typed (Some b) v e = subst (λ w. same_type ty.Bool (type_of_value w) ≡ true) (same_Some (Flag b) v e) refl

value_typed : (t : Ty) (text : List ℕ) (v : Value) → value_of t text ≡ Some v → same_type t (type_of_value v) ≡ true
value_typed ty.Int text v e = int_typed (int_of text) v e
value_typed ty.Fixed text v e = fixed_typed (fixed_of text) v e
value_typed ty.Bool text v e = flag_typed (flag_of text) v e

abbrev read_each : List State → List (List ℕ) → List (Option Value)
read_each states texts = map (λ p. value_of p.0.ty p.1) (zip states texts)

first_same : {A : Type 0} (x y : A) (xs ys : List A) → x ∷ xs ≡ y ∷ ys → (x ≡ y) × (xs ≡ ys)
first_same x y xs ys e = (cc, cc)

values_typed : (states : List State) (texts : List (List ℕ)) (values : List Value) → length texts ≡ length states → there values ≡ read_each states texts
    → pointwise same_type (map (λ s. s.ty) states) (map type_of_value values) ≡ true
values_typed [] texts [] long same = refl
values_typed [] texts (v ∷ values) long same = absurd cc
values_typed (s ∷ states) [] values long same = absurd (omega (arith, long))
values_typed (s ∷ states) (t ∷ texts) [] long same = absurd cc
values_typed (s ∷ states) (t ∷ texts) (v ∷ values) long same =
    let (one, more) = first_same (Some v) (value_of s.ty t) (there values) (read_each states texts) same in
    ap₂ (λ a b. a && b) (value_typed s.ty t v (sym one)) (values_typed states texts values (omega (arith, long)) more)

-- the values that are read are all there, or one is missing behind some
split_gap : (read : List (Option Value)) → ((values : List Value) × (there values ≡ read)) ⊎ ((values : List Value) × (rest : List (Option Value)) × (there values ++ None ∷ rest ≡ read))
split_gap [] = inl ([], refl)
split_gap (None ∷ read) = inr ([], read, refl)
split_gap (Some v ∷ read) = elim (split_gap read) [
  | inl (values, same) ↦ inl (v ∷ values, ap (λ l. Some v ∷ l) same)
  | inr (values, rest, same) ↦ inr (v ∷ values, rest, ap (λ l. Some v ∷ l) same)
]

complete_gives : (read : List (Option Value)) (values : List Value) → complete read ≡ Ok values → there values ≡ read
complete_gives read values e = elim (split_gap read) [
  | inl (some, same) ↦ let these : some ≡ values = ok_same some values (sym (complete_all read some same) ∙ e) in ap there (sym these) ∙ same
  | inr (some, rest, same) ↦ absurd (err_not_ok (length some + 2) values (sym (complete_gap some rest) ∙ ap complete same ∙ e))
]

id_is_low : (o : Option ℕ) (id : ℕ) → id_in_range o ≡ Some id → nat_le id greatest_id ≡ true
id_is_low None id e = absurd (none-some id e)
id_is_low (Some n) id e = elim (cases_Bool (nat_le n greatest_id)) [
  | inl low ↦ let same : n ≡ id = same_Some n id (rw low at e) in subst (λ i. nat_le i greatest_id ≡ true) same low
  | inr high ↦ let none : None ≡ Some id = rw high at e in absurd (none-some id none)
]

-- what an agent is made of
parts_of_agent : (class : ℕ) (id : Option ℕ) (values : Result (List Value) ℕ) (a : Agent) → agent_with class id values ≡ Ok a
    → (id ≡ Some a.id) × (values ≡ Ok a.states) × (class ≡ a.class)
parts_of_agent class None values a e = absurd (err_not_ok _ a e)
parts_of_agent class (Some id) (Err column) a e = absurd (err_not_ok _ a e)
parts_of_agent class (Some id) (Ok values) a e =
    let made : Agent = record { class = class; id = id; states = values } in
    let same : made ≡ a = ok_same made a e in
    (ap (λ (b : Agent). Some b.id) same, ap (λ (b : Agent). Ok b.states) same, ap (λ (b : Agent). b.class) same)

agent_fits : (program : Program) (number : ℕ) (class : Class) (fields : Fields) (a : Agent) → slice_get program.classes number ≡ Some class
    → agent_of_class number class.states fields ≡ Ok a → is_lawful_agent program a ≡ true
agent_fits program number class fields a there_is e = elim (cases_Bool (eqb (length fields) (length class.states + 2))) [
  | inl long ↦
      let (id, values, same) = parts_of_agent number (id_of (field 1 fields)) (complete (values_in class.states fields)) a (rw long at e) in
      let size : length (drop 2 fields) ≡ length class.states = length-drop 2 fields ∙ omega (arith, eqb-true _ _ long) in
      let typed = values_typed class.states (drop 2 fields) a.states size (complete_gives (values_in class.states fields) a.states values) in
      let found : slice_get program.classes a.class ≡ Some class = ap (slice_get program.classes) (sym same) ∙ there_is in
      ap₂ (λ p q. p && q) (id_is_low (count_of (field 1 fields)) a.id id) (ap (λ o. has_states o a) found ∙ typed)
  | inr other ↦ absurd (err_not_ok _ a (rw other at e))
]

class_there : (classes : List Class) (test : Class → Bool) (number : ℕ) → position test classes ≡ Some number
    → (class : Class) × (slice_get classes number ≡ Some class)
class_there [] test number e = absurd (none-some number e)
class_there (c ∷ rest) test number e =
    let below = position-Some test (c ∷ rest) number c e in
    (get_or (c ∷ rest) number c, slice_get-get_or (c ∷ rest) number c below.0)

pub agent_is_lawful : (program : Program) (fields : Fields) (a : Agent) → agent_of program fields ≡ Ok a → is_lawful_agent program a ≡ true
agent_is_lawful program fields a e = of_class (class_named program (field 0 fields)) refl e
  where
    of_class : (o : Option ℕ) → class_named program (field 0 fields) ≡ o → agent_in program fields o ≡ Ok a → is_lawful_agent program a ≡ true
    of_class None is e = absurd (err_not_ok _ a e)
    of_class (Some number) is e =
        let (class, found) = class_there program.classes (λ (c : Class). bytes_eq c.name (field 0 fields)) number is in
        agent_fits program number class fields a found
        (ap (λ o. agent_of_class number (unwrap_or (option_map (λ (c : Class). c.states) o) []) fields) (sym found) ∙ e)

-- the agents of records
pub agents_are_lawful : (program : Program) (rows : List Fields) → list_all (is_lawful_agent program) (agents_in program rows) ≡ true
agents_are_lawful program [] = refl
agents_are_lawful program (fields ∷ rows) = one (agent_of program fields) refl (agents_are_lawful program rows)
  where
    one : (r : Result Agent RowKind) → agent_of program fields ≡ r → list_all (is_lawful_agent program) (agents_in program rows) ≡ true
        → list_all (is_lawful_agent program) (cons_option (result_ok r) (agents_in program rows)) ≡ true
    one (Ok a) e more = ap₂ (λ p q. p && q) (agent_is_lawful program fields a e) more
    one (Err kind) e more = more

-- a test of all agents holds in another order
pub all_in_order : (p : Agent → Bool) (xs ys : List Agent) → IsPermutation xs ys → list_all p xs ≡ true → list_all p ys ≡ true
all_in_order p xs ys moves h = list_all-from_AllPass p ys (All-permutation (λ a. p a ≡ true) xs ys moves (AllPass-from_list_all p xs h))

-- lawful agents have low ids
pub ids_are_low : (program : Program) (xs : List Agent) → list_all (is_lawful_agent program) xs ≡ true → list_all (λ (a : Agent). nat_le a.id greatest_id) xs ≡ true
ids_are_low program [] h = refl
ids_are_low program (a ∷ xs) h =
    let (one, more) = both (is_lawful_agent program a) (list_all (is_lawful_agent program) xs) h in
    ap₂ (λ p q. p && q) (both (nat_le a.id greatest_id) (has_states (slice_get program.classes a.class) a) one).0 (ids_are_low program xs more)
  where
    both : (p q : Bool) → (p && q) ≡ true → (p ≡ true) × (q ≡ true)
    both true q e = (refl, e)
    both false q e = absurd (false≢true e)

-- the agents of records, in any order, within the limits
pub lawful_in_order : (program : Program) (rows : List Fields) (ys : List Agent) → IsPermutation (agents_in program rows) ys → are_too_many (agents_in program rows) ≡ false → LawfulAgents program ys
lawful_in_order program rows ys moves few = record {
  each_is_lawful = all_in_order (is_lawful_agent program) (agents_in program rows) ys moves (agents_are_lawful program rows);
  few_agents = rw (length_permutation (agents_in program rows) ys moves) (few_agents (agents_in program rows) few);
  few_values = rw (sum_by-IsPermutation (λ (a : Agent). length a.states) (agents_in program rows) ys moves) (few_values (agents_in program rows) few);
}
