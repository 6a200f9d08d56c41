-- How long the text of a checkpoint is at most, by the limits of programs and of worlds.
use Rattle.std.proofs.Common.{◌≡◌, ◌∙◌, ℕ, ℤ, suc, ◌+◌, ◌*◌, ◌/◌, ◌%◌, ◌^◌, ◌<◌, ◌≤◌, List, [], ◌∷◌, ◌++◌, length, map, flat_map, Bool, true, false, Option, Some, None, refl, sym, ap, arith, length-append}
use Rattle.std.specs.Prelude.{◌&&◌, not, pos, negsuc, nat_le, IsTrue, codes, option_map, slice_get, unwrap_or}
use Rattle.std.specs.List.{list_all, join_with_byte}
use Rattle.std.proofs.lemmas.Bool.{false≢true, and_parts}
use Rattle.std.proofs.lemmas.Bool.Decides.{nat_tests}
use Rattle.std.proofs.lemmas.Fmt.{length-decimal-le}
use Rattle.std.proofs.lemmas.List.Folds.{list_all-append}
use Rattle.std.proofs.lemmas.List.Sums.{sum_by-cons}
use Rattle.brace_num.specs.Exact.{fits}
use Rattle.brace_num.specs.Names.{is_name, is_word, is_among, reserved_words}
use Rattle.brace_num.specs.Spelling.{canonical_count, canonical_int, canonical_fixed, six_digits}
use Rattle.brace_num.proofs.Canonical.{pos_small, negsuc_small, six_long}
use Rattle.brace_model.specs.declared.program.Ty.{Ty}
use Rattle.brace_model.specs.declared.program.Ty.TheVariants as ty
use Rattle.brace_model.specs.declared.program.Value.{Value}
use Rattle.brace_model.specs.declared.program.Value.TheVariants.{Int, Fixed, Flag}
use Rattle.brace_model.specs.declared.program.State.{State}
use Rattle.brace_model.specs.declared.program.Class.{Class}
use Rattle.brace_model.specs.declared.program.Program.{Program}
use Rattle.brace_model.specs.declared.world.Agent.{Agent}
use Rattle.brace_model.specs.World.{class_of}
use Rattle.brace_model.specs.Step.{greatest_id, count_values}
use Rattle.brace_model.specs.Lawful.{LawfulProgram, LawfulClass, has_states, is_lawful_agent}
use Rattle.brace_model.specs.Published.{spelled, class_name, agent_text}
use Rattle.brace_save.specs.Lines.{IsText}
use Rattle.brace_save.specs.Texts.{Moment, IsMoment, type_name, state_text, class_line, count_line, end_line, heading, lines, text, value_fits}
use Rattle.brace_save.proofs.Runs.{Fit, fit_first}
use Rattle.brace_save.proofs.Written.{text_both}

-- a name
name_short : (name : List ℕ) → is_name name ≡ true → length name ≤ 64
name_short name h =
    let short = is_word name && nat_le (length name) 64 in
    let word = (and_parts short (not (is_among reserved_words name)) h).0 in
    let few : nat_le (length name) 64 ≡ true =
    (and_parts (is_word name) (nat_le (length name) 64) word).1 in
    grind (arith, nat_tests)

-- spellings
count_short : (n : ℕ) → n < 2 ^ 64 → length (canonical_count n) ≤ 20
count_short n h = length-decimal-le 20 n (omega arith) (omega arith) h

int_short : (z : ℤ) → IsTrue (fits z) → length (canonical_int z) ≤ 28
int_short (pos n) f =
    let h = pos_small n f in
    let short : length (canonical_int (pos n)) ≤ 20 = count_short n (omega arith) in
    omega arith
int_short (negsuc n) f =
    let h = negsuc_small n f in
    let short = count_short (suc n) (omega arith) in
    let signed : length (canonical_int (negsuc n)) ≡ suc (length (canonical_count (suc n))) =
    refl in
    omega arith

-- millionths without their sign
abbrev magnitude : ℕ → List ℕ
magnitude m = canonical_count (m / 1000000) ++ 46 ∷ six_digits (m % 1000000)

magnitude_short : (m : ℕ) → m < 2 ^ 64 → length (magnitude m) ≤ 27
magnitude_short m h =
    let whole = count_short (m / 1000000) (omega arith) in
    let part = six_long (m % 1000000) (omega arith) in
    let joined : length (magnitude m) ≡ length (canonical_count (m / 1000000))
    + suc (length (six_digits (m % 1000000)))
    = length-append (canonical_count (m / 1000000)) (46 ∷ six_digits (m % 1000000)) in
    omega arith

fixed_short : (z : ℤ) → IsTrue (fits z) → length (canonical_fixed z) ≤ 28
fixed_short (pos n) f =
    let h = pos_small n f in
    let short : length (canonical_fixed (pos n)) ≤ 27 = magnitude_short n (omega arith) in
    omega arith
fixed_short (negsuc n) f =
    let h = negsuc_small n f in
    let short = magnitude_short (suc n) (omega arith) in
    let signed : length (canonical_fixed (negsuc n)) ≡ suc (length (magnitude (suc n))) = refl in
    omega arith

value_short : (v : Value) → value_fits v ≡ true → length (spelled v) ≤ 28
value_short (Int n) f = int_short n f
value_short (Fixed n) f = fixed_short n f
value_short (Flag true) f = let long : length (spelled (Flag true)) ≡ 4 = refl in omega arith
value_short (Flag false) f = let long : length (spelled (Flag false)) ≡ 5 = refl in omega arith

-- values behind another field
values_short : (first : List ℕ) (values : List Value) → list_all value_fits values ≡ true
    → length (join_with_byte 44 (first ∷ map spelled values))
    ≤ length first + 29 * length values
values_short first [] f =
    let alone : length (join_with_byte 44 (first ∷ map spelled [])) ≡ length first = refl in
    omega arith
values_short first (v ∷ values) f =
    let (one, more) = and_parts (value_fits v) (list_all value_fits values) f in
    let short = value_short v one in
    let behind = values_short (spelled v) values more in
    let joined : length (join_with_byte 44 (first ∷ map spelled (v ∷ values)))
    ≡ length first + suc (length (join_with_byte 44 (spelled v ∷ map spelled values)))
    = length-append first (44 ∷ join_with_byte 44 (spelled v ∷ map spelled values)) in
    omega arith

-- the line of an agent
agent_short : (program : Program) (a : Agent) → LawfulProgram program
    → is_lawful_agent program a ≡ true → list_all value_fits a.states ≡ true
    → length (agent_text program a) ≤ 85 + 29 * length a.states
agent_short program a lawful is fit =
    let (low, states) = and_parts (nat_le a.id greatest_id)
    (has_states (class_of program a) a) is in
    let small : a.id < 2 ^ 64 = grind (arith, nat_tests) in
    let id = count_short a.id small in
    let named = of_class (class_of program a) refl states in
    let behind = values_short (canonical_count a.id) a.states fit in
    let joined : length (agent_text program a) ≡ length (class_name program a)
    + suc (length (join_with_byte 44 (canonical_count a.id ∷ map spelled a.states)))
    = length-append (class_name program a)
    (44 ∷ join_with_byte 44 (canonical_count a.id ∷ map spelled a.states)) in
    omega arith
  where
    of_class : (o : Option Class) → class_of program a ≡ o → has_states o a ≡ true
        → length (class_name program a) ≤ 64
    of_class None at h = absurd (false≢true h)
    of_class (Some class) at h =
        let name : class_name program a ≡ class.name =
        ap (λ (o : Option Class). unwrap_or (option_map (λ (c : Class). c.name) o) []) at in
        let is = name_short class.name
        (lawful.classes_are_lawful a.class class at).class_is_named in
        omega (arith, ap length name)

-- lines as bytes
text_long : (l : List ℕ) (ls : List (List ℕ))
    → length (text (l ∷ ls)) ≡ length l + 1 + length (text ls)
text_long l ls =
    let ended : length (l ++ 10 ∷ []) ≡ length l + 1 = length-append l (10 ∷ []) in
    let joined : length (text (l ∷ ls)) ≡ length (l ++ 10 ∷ []) + length (text ls) =
    length-append (l ++ 10 ∷ []) (text ls) in
    omega arith

both_long : (a b : List (List ℕ)) → length (text (a ++ b)) ≡ length (text a) + length (text b)
both_long a b = ap length (text_both a b) ∙ length-append (text a) (text b)

none_short : length (text []) ≤ 0
none_short = let none : length (text []) ≡ 0 = refl in omega arith

agents_short : (program : Program) (agents : List Agent) → LawfulProgram program
    → Fit program agents → length (text (map (agent_text program) agents))
    ≤ 86 * length agents + 29 * count_values agents
agents_short program [] lawful fit =
    let none : length (text (map (agent_text program) [])) ≤ 0 = none_short in omega arith
agents_short program (a ∷ agents) lawful fit =
    let (is, more) = fit_first program a agents fit in
    let one = agent_short program a lawful is.lawful is.values_fit in
    let others = agents_short program agents lawful more in
    let long : length (text (map (agent_text program) (a ∷ agents)))
    ≡ length (agent_text program a) + 1 + length (text (map (agent_text program) agents))
    = text_long (agent_text program a) (map (agent_text program) agents) in
    let values : count_values (a ∷ agents) ≡ length a.states + count_values agents =
    sum_by-cons (λ (b : Agent). length b.states) a agents in
    omega arith

-- the lines of classes
type_short : (t : Ty) → length (type_name t) ≤ 5
type_short ty.Int = let long : length (type_name ty.Int) ≡ 3 = refl in omega arith
type_short ty.Fixed = let long : length (type_name ty.Fixed) ≡ 5 = refl in omega arith
type_short ty.Bool = let long : length (type_name ty.Bool) ≡ 4 = refl in omega arith

states_short : (states : List State)
    → list_all is_name (map (λ (s : State). s.name) states) ≡ true
    → length (flat_map state_text states) ≤ 71 * length states
states_short [] h = let none : length (flat_map state_text []) ≡ 0 = refl in omega arith
states_short (s ∷ states) h =
    let (one, more) = and_parts (is_name s.name)
    (list_all is_name (map (λ (t : State). t.name) states)) h in
    let name = name_short s.name one in
    let kind = type_short s.ty in
    let others = states_short states more in
    let long : length (state_text s) ≡ suc (length s.name) + suc (length (type_name s.ty)) =
    length-append (32 ∷ s.name) (58 ∷ type_name s.ty) in
    let both : length (flat_map state_text (s ∷ states))
    ≡ length (state_text s) + length (flat_map state_text states)
    = length-append (state_text s) (flat_map state_text states) in
    omega arith

class_short : (program : Program) (number : ℕ) (class : Class)
    → LawfulClass program number class → length (class_line class) ≤ 4614
class_short program number class is =
    let names = map (λ (s : State). s.name) class.states in
    let effects = map (λ e. e.name) class.effects in
    let fields = (and_parts (list_all is_name names) (list_all is_name effects)
    (sym (list_all-append is_name names effects) ∙ is.fields_are_named)).0 in
    let name = name_short class.name is.class_is_named in
    let states = states_short class.states fields in
    let few = is.few_fields in
    let front : length (codes "class " ++ class.name) ≡ 6 + length class.name =
    length-append (codes "class ") class.name in
    let long : length (class_line class) ≡ length (codes "class " ++ class.name)
    + length (flat_map state_text class.states)
    = length-append (codes "class " ++ class.name) (flat_map state_text class.states) in
    omega arith

classes_short : (classes : List Class)
    → ((i : ℕ) (class : Class) → slice_get classes i ≡ Some class
    → length (class_line class) ≤ 4614)
    → length (text (map class_line classes)) ≤ 4615 * length classes
classes_short [] h =
    let none : length (text (map class_line [])) ≤ 0 = none_short in omega arith
classes_short (class ∷ classes) h =
    let one = h 0 class refl in
    let others = classes_short classes (λ i other e. h (suc i) other e) in
    let long : length (text (map class_line (class ∷ classes)))
    ≡ length (class_line class) + 1 + length (text (map class_line classes))
    = text_long (class_line class) (map class_line classes) in
    omega arith

-- the other lines
line_short : (word : List ℕ) (k n : ℕ) → length word ≡ k → n < 2 ^ 64
    → length (count_line word n) ≤ k + 20
line_short word k n long small =
    let short = count_short n small in
    let joined : length (count_line word n) ≡ length word + length (canonical_count n) =
    length-append word (canonical_count n) in
    omega arith

-- a line of a word of five bytes and a count, before others
before_short : (word : List ℕ) (n most : ℕ) (others : List (List ℕ)) → length word ≡ 5
    → n < 2 ^ 64 → length (text others) ≤ most
    → length (text (count_line word n ∷ others)) ≤ 26 + most
before_short word n most others long small few =
    let short = line_short word 5 n long small in
    let all = text_long (count_line word n) others in
    omega arith

version_short : (word : List ℕ) (most : ℕ) (others : List (List ℕ)) → length word ≡ 18
    → length (text others) ≤ most → length (text (word ∷ others)) ≤ 19 + most
version_short word most others long few = let all = text_long word others in omega arith

heading_short : (program : Program) (b : Bool) (m : Moment) → IsMoment program b m
    → length (text (heading b m)) ≤ 97
heading_short program true m is =
    let t = is.tick_in_range in
    let n = is.numbered.in_range in
    let third = count_line (codes "next ") m.world.next ∷ [] in
    let second = count_line (codes "seed ") m.seed ∷ third in
    let first = count_line (codes "tick ") m.tick ∷ second in
    let next = before_short (codes "next ") m.world.next 0 [] refl (omega arith) none_short in
    let seed = before_short (codes "seed ") m.seed 26 third refl is.seed_in_range next in
    let tick = before_short (codes "tick ") m.tick 52 second refl (omega arith) seed in
    version_short (codes "brace checkpoint 2") 78 first refl tick
heading_short program false m is =
    let t = is.tick_in_range in
    let second = count_line (codes "seed ") m.seed ∷ [] in
    let first = count_line (codes "tick ") m.tick ∷ second in
    let seed = before_short (codes "seed ") m.seed 0 [] refl is.seed_in_range none_short in
    let tick = before_short (codes "tick ") m.tick 26 second refl (omega arith) seed in
    let short : length (text (heading false m)) ≤ 71 =
    version_short (codes "brace checkpoint 1") 52 first refl tick in
    omega arith

-- all lines: 16 classes, and agents and values within their limits
lines_short : (program : Program) (b : Bool) (m : Moment) → LawfulProgram program
    → IsMoment program b m → length (text (lines program b m)) ≤ 2 ^ 28
lines_short program b m lawful is =
    let top = heading b m in
    let classes = map class_line program.classes in
    let agents = map (agent_text program) m.world.agents in
    let end = end_line m.world.agents in
    let few : length m.world.agents ≤ 1048576 = is.lawful.few_agents in
    let values : count_values m.world.agents ≤ 4194304 = is.lawful.few_values in
    let kinds = lawful.few_classes in
    let first : length (text top) ≤ 97 = heading_short program b m is in
    let second : length (text classes) ≤ 4615 * length program.classes =
    classes_short program.classes
    (λ i class at. class_short program i class (lawful.classes_are_lawful i class at)) in
    let third : length (text agents)
    ≤ 86 * length m.world.agents + 29 * count_values m.world.agents
    = agents_short program m.world.agents lawful
    (record { lawful = is.lawful.each_is_lawful; values_fit = is.values_fit }) in
    let fourth : length end ≤ 24 =
    line_short (codes "end ") 4 (length m.world.agents) refl (omega arith) in
    let last = text_long end [] in
    let none = none_short in
    let front = both_long top classes in
    let before = both_long (top ++ classes) agents in
    let all : length (text (lines program b m))
    ≡ length (text ((top ++ classes) ++ agents)) + length (text (end ∷ []))
    = both_long ((top ++ classes) ++ agents) (end ∷ []) in
    omega arith

-- a text of a checkpoint
pub text_short : (program : Program) (m : Moment) (bytes : List ℕ) → LawfulProgram program
    → IsText program m bytes → length bytes ≤ 2 ^ 28
text_short program m bytes lawful is =
    let short = lines_short program is.tells_next m lawful is.moment_is in
    omega (arith, ap length is.same)
