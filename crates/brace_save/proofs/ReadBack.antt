-- An agent's text is read back: no byte in a field ends it, its parts between commas are its fields, and each spells its own.
use Rattle.std.proofs.Common.{◌≡◌, ◌∙◌, ℕ, zero, suc, ◌+◌, ◌-◌, ◌/◌, ◌%◌, ◌^◌, ◌<◌, List, [], ◌∷◌, ◌++◌, length, map, zip, cond, ltb, eqb, Bool, true, false, ◌&&◌, Option, Some, None, ℤ, Ok, Err, refl, sym, ap, ap₂, subst, arith, inl, inr}
use Rattle.std.specs.Prelude.{◌==◌, not, ◌||◌, pos, negsuc, nat_le, IsTrue, option_map, unwrap_or, slice_get, position}
use Rattle.std.specs.Cmp.Lexicographic.{pointwise}
use Rattle.std.specs.List.{AllByRecursion, IsDistinct, list_all, slice_split, onto_first, join_with_byte, position_or_len}
use Rattle.std.specs.Fmt.{decimal}
use Rattle.std.specs.Str.{bytes_eq}
use Rattle.std.specs.Str.Parse.{AllDigits}
use Rattle.std.proofs.lemmas.Bool.{cases_Bool, false≢true, eqb-true, lt-ltb, and_parts}
use Rattle.std.proofs.lemmas.Bool.Decides.{nat_tests}
use Rattle.std.proofs.lemmas.Int.{ints}
use Rattle.std.proofs.lemmas.List.{length-map}
use Rattle.std.proofs.lemmas.List.Splits.{slice_split-cons_no}
use Rattle.std.proofs.lemmas.Str.Parse.{digit_from_value}
use Rattle.std.proofs.lemmas.Slice.Eq.{bytes_eq-Decides}
use Rattle.std.proofs.lemmas.Option.{same_Some}
use Rattle.brace_num.specs.Exact.{fits}
use Rattle.brace_num.specs.Names.{is_name, is_letter, is_word, is_word_byte, begins, is_among, reserved_words}
use Rattle.brace_num.specs.Spelling.{canonical_count, canonical_int, canonical_fixed, six_digits}
use Rattle.brace_num.proofs.Canonical.{count_printed, int_printed, fixed_printed, decimal_digits, zeros_digits, pos_small, negsuc_small}
use Rattle.brace_num.proofs.Spellings.{count_found, int_reads, fixed_reads}
use Rattle.brace_model.specs.declared.program.Ty.{Ty}
use Rattle.brace_model.specs.declared.program.Ty.TheVariants as ty
use Rattle.brace_model.specs.declared.program.Value.{Value}
use Rattle.brace_model.specs.declared.program.Value.TheVariants.{Int, Fixed, Flag}
use Rattle.brace_model.specs.declared.program.State.{State}
use Rattle.brace_model.specs.declared.program.Class.{Class}
use Rattle.brace_model.specs.declared.program.Program.{Program}
use Rattle.brace_model.specs.declared.world.Agent.{Agent}
use Rattle.brace_model.specs.World.{class_of}
use Rattle.brace_model.specs.Step.{greatest_id}
use Rattle.brace_model.specs.Typing.{same_type, type_of_value}
use Rattle.brace_model.specs.Lawful.{LawfulProgram, has_states, is_lawful_agent}
use Rattle.brace_model.specs.Published.{spelled, class_name, agent_text}
use Rattle.brace_rows.specs.declared.kinds.RowKind.TheVariants.{WrongLength}
use Rattle.brace_rows.specs.AgentFile.{Fields, value_of, values_in, complete, id_of, id_in_range, class_named, states_in, agent_with, agent_of_class, agent_in, agent_of}
use Rattle.brace_rows.proofs.Values.{there, complete_all}
use Rattle.brace_save.specs.Texts.{value_fits}

abbrev comma : ℕ → Bool
comma b = b == 44

-- a byte that ends a field or a line
abbrev stops : ℕ → Bool
stops b = (b == 44) || (b == 10)

no_comma : (b : ℕ) → stops b ≡ false → comma b ≡ false
no_comma b h = elim (cases_Bool (comma b)) [
  | inl same ↦ absurd (false≢true (sym h ∙ ap (λ c. c || (b == 10)) same))
  | inr other ↦ other
]

pub no_feed : (b : ℕ) → stops b ≡ false → (b == 10) ≡ false
no_feed b h = elim (cases_Bool (comma b)) [
  | inl same ↦ absurd (false≢true (sym h ∙ ap (λ c. c || (b == 10)) same))
  | inr other ↦ sym (ap (λ c. c || (b == 10)) other) ∙ h
]

-- no such byte is in it
abbrev pub Free : List ℕ → Type 0
Free text = AllByRecursion (λ b. stops b ≡ false) text

pub free_both : (a b : List ℕ) → Free a → Free b → Free (a ++ b)
free_both [] b p q = q
free_both (x ∷ a) b p q = (p.0, free_both a b p.1 q)

split_at : (text rest : List ℕ) → Free text → slice_split comma (text ++ 44 ∷ rest) ≡ text ∷ slice_split comma rest
split_at [] rest free = refl
split_at (b ∷ text) rest free = slice_split-cons_no comma b (text ++ 44 ∷ rest) (no_comma b free.0) ∙ ap (onto_first b) (split_at text rest free.1)

pub split_end : (text : List ℕ) → Free text → slice_split comma text ≡ text ∷ []
split_end [] free = refl
split_end (b ∷ text) free = slice_split-cons_no comma b text (no_comma b free.0) ∙ ap (onto_first b) (split_end text free.1)

-- texts that are joined by commas are the parts between these
split_fields : (first : List ℕ) (texts : List (List ℕ)) → Free first → AllByRecursion Free texts → slice_split comma (join_with_byte 44 (first ∷ texts)) ≡ first ∷ texts
split_fields first [] f fs = split_end first f
split_fields first (t ∷ ts) f fs = split_at first (join_with_byte 44 (t ∷ ts)) f ∙ ap (λ l. first ∷ l) (split_fields t ts fs.0 fs.1)

digits_free : (ds : List ℕ) → AllDigits 10 ds → Free ds
digits_free [] d = tt
digits_free (c ∷ cs) d = let r = digit_from_value c d.0 in (grind arith, digits_free cs d.1)

pub count_free : (n : ℕ) → n < 2 ^ 64 → Free (canonical_count n)
count_free n h = digits_free (decimal n) (decimal_digits n h).0.1

int_free : (z : ℤ) → IsTrue (fits z) → Free (canonical_int z)
int_free (pos n) f = let h = pos_small n f in count_free n (omega arith)
int_free (negsuc n) f = let h = negsuc_small n f in (refl, count_free (suc n) (omega arith))

six_free : (n : ℕ) → n < 1000000 → Free (six_digits n)
six_free n h = digits_free (six_digits n) (zeros_digits (6 - length (decimal n)) (decimal n) (decimal_digits n (omega arith)).0.1)

magnitude_free : (m : ℕ) → m < 2 ^ 64 → Free (decimal (m / 1000000) ++ 46 ∷ six_digits (m % 1000000))
magnitude_free m h =
    let f : m % 1000000 < 1000000 = omega arith in
    free_both (decimal (m / 1000000)) (46 ∷ six_digits (m % 1000000)) (count_free (m / 1000000) (omega arith)) (refl, six_free (m % 1000000) f)

fixed_free : (z : ℤ) → IsTrue (fits z) → Free (canonical_fixed z)
fixed_free (pos n) f = let h = pos_small n f in magnitude_free n (omega arith)
fixed_free (negsuc n) f = let h = negsuc_small n f in (refl, magnitude_free (suc n) (omega arith))

value_free : (v : Value) → value_fits v ≡ true → Free (spelled v)
value_free (Int n) f = int_free n f
value_free (Fixed n) f = fixed_free n f
value_free (Flag true) f = (refl, (refl, (refl, (refl, tt))))
value_free (Flag false) f = (refl, (refl, (refl, (refl, (refl, tt)))))

pub values_free : (values : List Value) → list_all value_fits values ≡ true → AllByRecursion Free (map spelled values)
values_free [] f = tt
values_free (v ∷ values) f = let (one, more) = and_parts (value_fits v) (list_all value_fits values) f in (value_free v one, values_free values more)

no_word_byte : (b k : ℕ) → is_word_byte k ≡ false → is_word_byte b ≡ true → (b == k) ≡ false
no_word_byte b k never h = elim (cases_Bool (b == k)) [
  | inl same ↦
      let bad : is_word_byte k ≡ true = subst (λ c. is_word_byte c ≡ true) (eqb-true b k same) h in
      absurd (false≢true (sym never ∙ bad))
  | inr other ↦ other
]

word_byte : (b : ℕ) → is_word_byte b ≡ true → stops b ≡ false
word_byte b h = ap₂ (λ c d. c || d) (no_word_byte b 44 refl h) (no_word_byte b 10 refl h)

word_free : (text : List ℕ) → list_all is_word_byte text ≡ true → Free text
word_free [] h = tt
word_free (b ∷ text) h = let (one, more) = and_parts (is_word_byte b) (list_all is_word_byte text) h in (word_byte b one, word_free text more)

pub name_free : (text : List ℕ) → is_name text ≡ true → Free text
name_free text h =
    let word = and_parts (is_word text) (nat_le (length text) 64) (and_parts (is_word text && nat_le (length text) 64) (not (is_among reserved_words text)) h).0 in
    word_free text (and_parts (begins is_letter text) (list_all is_word_byte text) word.0).1

-- the spelling of a value spells it
value_back : (t : Ty) (v : Value) → same_type t (type_of_value v) ≡ true → value_fits v ≡ true → value_of t (spelled v) ≡ Some v
value_back ty.Int (Int n) s f = ap (option_map Int) ((int_reads (canonical_int n) n).0 (int_printed n f))
value_back ty.Int (Fixed n) s f = absurd (false≢true s)
value_back ty.Int (Flag b) s f = absurd (false≢true s)
value_back ty.Fixed (Int n) s f = absurd (false≢true s)
value_back ty.Fixed (Fixed n) s f = ap (option_map Fixed) ((fixed_reads (canonical_fixed n) n).0 (fixed_printed n f))
value_back ty.Fixed (Flag b) s f = absurd (false≢true s)
value_back ty.Bool (Int n) s f = absurd (false≢true s)
value_back ty.Bool (Fixed n) s f = absurd (false≢true s)
value_back ty.Bool (Flag true) s f = refl
value_back ty.Bool (Flag false) s f = refl

abbrev read_each : List State → List (List ℕ) → List (Option Value)
read_each states texts = map (λ p. value_of p.0.ty p.1) (zip states texts)

values_back : (states : List State) (values : List Value) → pointwise same_type (map (λ (s : State). s.ty) states) (map type_of_value values) ≡ true → list_all value_fits values ≡ true
    → (there values ≡ read_each states (map spelled values)) × (length values ≡ length states)
values_back [] [] s f = (refl, refl)
values_back [] (v ∷ values) s f = absurd (false≢true s)
values_back (t ∷ states) [] s f = absurd (false≢true s)
values_back (t ∷ states) (v ∷ values) s f =
    let (same, alike) = and_parts (same_type t.ty (type_of_value v)) (pointwise same_type (map (λ (s : State). s.ty) states) (map type_of_value values)) s in
    let (fit, more) = and_parts (value_fits v) (list_all value_fits values) f in
    let (each, long) = values_back states values alike more in
    (ap₂ (λ (o : Option Value) (l : List (Option Value)). o ∷ l) (sym (value_back t.ty v same fit)) each, ap suc long)

-- the first class of a name is the only one
other_name : (name : List ℕ) (classes : List Class) (i : ℕ) (c : Class) → AllByRecursion (λ y. bytes_eq name y ≡ false) (map (λ (d : Class). d.name) classes)
    → slice_get classes i ≡ Some c → bytes_eq name c.name ≡ false
other_name name [] i c h e = absurd cc
other_name name (d ∷ rest) zero c h e = subst (λ (k : Class). bytes_eq name k.name ≡ false) (same_Some d c e) h.0
other_name name (d ∷ rest) (suc i) c h e = other_name name rest i c h.1 e

class_place : (classes : List Class) (i : ℕ) (c : Class) → IsDistinct bytes_eq (map (λ (d : Class). d.name) classes) → slice_get classes i ≡ Some c
    → (position_or_len (λ (d : Class). bytes_eq d.name c.name) classes ≡ i) × (i < length classes)
unfolding IsDistinct
class_place [] i c h e = absurd cc
class_place (d ∷ rest) zero c h e =
    let same : d ≡ c = same_Some d c e in
    let this : bytes_eq d.name c.name ≡ true = (bytes_eq-Decides d.name c.name).1 (ap (λ (k : Class). k.name) same) in
    (grind arith, omega arith)
class_place (d ∷ rest) (suc i) c h e =
    let other : bytes_eq d.name c.name ≡ false = other_name d.name rest i c h.0 e in
    let (again, below) = class_place rest i c h.1 e in
    (grind arith, omega (arith, below))

class_found : (classes : List Class) (i : ℕ) (c : Class) → IsDistinct bytes_eq (map (λ (d : Class). d.name) classes) → slice_get classes i ≡ Some c
    → position (λ (d : Class). bytes_eq d.name c.name) classes ≡ Some i
class_found classes i c h e =
    let (at, below) = class_place classes i c h e in
    ap (λ k. cond (ltb k (length classes)) (Some k) None) at ∙ ap (λ b. cond b (Some i) None) (lt-ltb i (length classes) below)

id_back : (id : ℕ) → nat_le id greatest_id ≡ true → id < 2 ^ 64 → id_of (canonical_count id) ≡ Some id
id_back id low small = ap id_in_range (count_found (canonical_count id) id (count_printed id small)) ∙ ap (λ b. cond b (Some id) None) low

id_small : (id : ℕ) → nat_le id greatest_id ≡ true → id < 2 ^ 64
id_small id low = grind (arith, nat_tests)

-- what a lawful agent's text is read as
pub agent_back : (program : Program) (a : Agent) → LawfulProgram program → is_lawful_agent program a ≡ true → list_all value_fits a.states ≡ true
    → agent_of program (slice_split comma (agent_text program a)) ≡ Ok a
agent_back program a lawful is fit =
    let (low, states) = and_parts (nat_le a.id greatest_id) (has_states (class_of program a) a) is in
    of_class low (class_of program a) refl states
  where
    of_class : nat_le a.id greatest_id ≡ true → (o : Option Class) → class_of program a ≡ o → has_states o a ≡ true → agent_of program (slice_split comma (agent_text program a)) ≡ Ok a
    of_class low None at h = absurd (false≢true h)
    of_class low (Some class) at h =
        let small = id_small a.id low in
        let name : class_name program a ≡ class.name = ap (λ (o : Option Class). unwrap_or (option_map (λ (c : Class). c.name) o) []) at in
        let named = name_free class.name (lawful.classes_are_lawful a.class class at).class_is_named in
        let fields : Fields = class_name program a ∷ canonical_count a.id ∷ map spelled a.states in
        let split : slice_split comma (agent_text program a) ≡ fields =
        split_fields (class_name program a) (canonical_count a.id ∷ map spelled a.states) (subst Free (sym name) named) (count_free a.id small, values_free a.states fit) in
        let found : class_named program (class_name program a) ≡ Some a.class =
        ap (class_named program) name ∙ class_found program.classes a.class class lawful.class_names_differ at in
        let states : states_in program a.class ≡ class.states = ap (λ (o : Option Class). unwrap_or (option_map (λ (c : Class). c.states) o) []) at in
        let (each, long) = values_back class.states a.states h fit in
        let many : eqb (length fields) (length class.states + 2) ≡ true = let l = length-map a.states spelled in grind (arith, nat_tests) in
        ap (agent_of program) split ∙ ap (agent_in program fields) found ∙ ap (λ s. agent_of_class a.class s fields) states
        ∙ ap (λ b. cond b (agent_with a.class (id_of (canonical_count a.id)) (complete (values_in class.states fields))) (Err WrongLength)) many
        ∙ ap₂ (agent_with a.class) (id_back a.id low small) (complete_all (values_in class.states fields) a.states each)
