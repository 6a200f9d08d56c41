-- The lines of a text: no line of a checkpoint holds a byte 10, so the text has just these lines.
use Rattle.std.proofs.Common.{◌≡◌, ◌∙◌, ℕ, suc, ◌+◌, ◌-◌, ◌^◌, ◌<◌, ◌≤◌, List, [], ◌∷◌, ◌++◌, length, take, drop, map, flat_map, get_or, ltb, Bool, true, false, Option, Some, None, refl, sym, ap, ap₂, subst, arith, append-nil, append_assoc, inl, inr}
use Rattle.std.specs.Prelude.{◌&&◌, ◌==◌, not, codes, option_map, slice_get, unwrap_or, nat_le}
use Rattle.std.specs.List.{All, AllByRecursion, list_all, join_with_byte}
use Rattle.std.proofs.lemmas.Bool.{cases_Bool, false≢true, and_parts}
use Rattle.std.proofs.lemmas.Bool.Decides.{nat_tests}
use Rattle.std.proofs.lemmas.List.{get_or_at, length-append, length_push, take_all, take_at, take-append-drop, take_more, take-append-le}
use Rattle.std.proofs.lemmas.List.Folds.{list_all-append}
use Rattle.std.proofs.lemmas.List.Splits.{join_with_byte-slice_split, length-slice_split, slice_split_at, slice_split_none}
use Rattle.std.proofs.lemmas.List.Sums.{AllPass-from_list_all}
use Rattle.brace_num.specs.Names.{is_name}
use Rattle.brace_num.specs.Spelling.{canonical_count}
use Rattle.brace_model.specs.declared.program.Ty.{Ty}
use Rattle.brace_model.specs.declared.program.Ty.TheVariants as ty
use Rattle.brace_model.specs.declared.program.State.{State}
use Rattle.brace_model.specs.declared.program.Class.{Class}
use Rattle.brace_model.specs.declared.program.Program.{Program}
use Rattle.brace_model.specs.declared.world.Agent.{Agent}
use Rattle.brace_model.specs.World.{class_of}
use Rattle.brace_model.specs.Step.{greatest_id}
use Rattle.brace_model.specs.Lawful.{LawfulProgram, has_states, is_lawful_agent}
use Rattle.brace_model.specs.Published.{spelled, class_name, agent_text}
use Rattle.brace_save.specs.Lines.{parts, whole_lines, unfinished}
use Rattle.brace_save.specs.Texts.{Moment, IsMoment, type_name, state_text, class_line, count_line, end_line, heading, lines, text, value_fits}
use Rattle.brace_save.proofs.ReadBack.{Free, count_free, name_free, no_feed, values_free}
use Rattle.brace_save.proofs.Runs.{Fit, fit_first}

-- no byte 10 is in it
abbrev pub one_line : List ℕ → Bool
one_line line = list_all (λ b. not (b == 10)) line

both_one : (a b : List ℕ) → one_line a ≡ true → one_line b ≡ true → one_line (a ++ b) ≡ true
both_one a b p q = list_all-append (λ c. not (c == 10)) a b ∙ ap₂ (λ x y. x && y) p q

free_one : (a : List ℕ) → Free a → one_line a ≡ true
free_one [] f = refl
free_one (b ∷ a) f = ap₂ (λ x y. not x && y) (no_feed b f.0) (free_one a f.1)

joined_one : (first : List ℕ) (more : List (List ℕ)) → Free first → AllByRecursion Free more → one_line (join_with_byte 44 (first ∷ more)) ≡ true
joined_one first [] f fs = free_one first f
joined_one first (next ∷ more) f fs = both_one first (44 ∷ join_with_byte 44 (next ∷ more)) (free_one first f) (joined_one next more fs.0 fs.1)

-- the lines of classes
name_one : (name : List ℕ) → is_name name ≡ true → one_line name ≡ true
name_one name h = free_one name (name_free name h)

type_one : (t : Ty) → one_line (type_name t) ≡ true
type_one ty.Int = refl
type_one _ = refl

state_one : (s : State) → is_name s.name ≡ true → one_line (state_text s) ≡ true
state_one s h = both_one (32 ∷ s.name) (58 ∷ type_name s.ty) (name_one s.name h) (type_one s.ty)

states_one : (states : List State) → list_all is_name (map (λ (s : State). s.name) states) ≡ true → one_line (flat_map state_text states) ≡ true
states_one [] h = refl
states_one (s ∷ states) h =
    let (one, more) = and_parts (is_name s.name) (list_all is_name (map (λ (t : State). t.name) states)) h in
    both_one (state_text s) (flat_map state_text states) (state_one s one) (states_one states more)

class_one : (class : Class) → is_name class.name ≡ true → list_all is_name (map (λ (s : State). s.name) class.states) ≡ true → one_line (class_line class) ≡ true
class_one class named fields =
    both_one (codes "class " ++ class.name) (flat_map state_text class.states) (both_one (codes "class ") class.name refl (name_one class.name named)) (states_one class.states fields)

classes_one : (classes : List Class) → ((i : ℕ) (class : Class) → slice_get classes i ≡ Some class → (is_name class.name ≡ true) × (list_all is_name (map (λ (s : State). s.name) class.states) ≡ true))
    → list_all one_line (map class_line classes) ≡ true
classes_one [] h = refl
classes_one (class ∷ classes) h =
    let (named, fields) = h 0 class refl in
    ap₂ (λ x y. x && y) (class_one class named fields) (classes_one classes (λ i other e. h (suc i) other e))

-- the lines of agents
agent_one : (program : Program) (a : Agent) → LawfulProgram program → is_lawful_agent program a ≡ true → list_all value_fits a.states ≡ true → one_line (agent_text program a) ≡ true
agent_one program a lawful is fit =
    let (low, states) = and_parts (nat_le a.id greatest_id) (has_states (class_of program a) a) is in
    of_class (class_of program a) refl states (let small : a.id < 2 ^ 64 = grind (arith, nat_tests) in small)
  where
    of_class : (o : Option Class) → class_of program a ≡ o → has_states o a ≡ true → a.id < 2 ^ 64 → one_line (agent_text program a) ≡ true
    of_class None at h small = absurd (false≢true h)
    of_class (Some class) at h small =
        let name : class_name program a ≡ class.name = ap (λ (o : Option Class). unwrap_or (option_map (λ (c : Class). c.name) o) []) at in
        let named = name_free class.name (lawful.classes_are_lawful a.class class at).class_is_named in
        joined_one (class_name program a) (canonical_count a.id ∷ map spelled a.states) (subst Free (sym name) named) (count_free a.id small, values_free a.states fit)

agents_one : (program : Program) (agents : List Agent) → LawfulProgram program → Fit program agents → list_all one_line (map (agent_text program) agents) ≡ true
agents_one program [] lawful fit = refl
agents_one program (a ∷ agents) lawful fit =
    let (is, more) = fit_first program a agents fit in
    ap₂ (λ x y. x && y) (agent_one program a lawful is.lawful is.values_fit) (agents_one program agents lawful more)

count_one : (word : List ℕ) (n : ℕ) → n < 2 ^ 64 → one_line word ≡ true → one_line (count_line word n) ≡ true
count_one word n small h = both_one word (canonical_count n) h (free_one (canonical_count n) (count_free n small))

heading_one : (program : Program) (b : Bool) (m : Moment) → IsMoment program b m → list_all one_line (heading b m) ≡ true
heading_one program true m is =
    let t = is.tick_in_range in
    let n = is.numbered.in_range in
    ap₂ (λ x y. x && y) (count_one (codes "tick ") m.tick (omega (arith, t)) refl)
    (ap₂ (λ x y. x && y) (count_one (codes "seed ") m.seed is.seed_in_range refl) (ap (λ x. x && true) (count_one (codes "next ") m.world.next (omega (arith, n)) refl)))
heading_one program false m is =
    let t = is.tick_in_range in
    ap₂ (λ x y. x && y) (count_one (codes "tick ") m.tick (omega (arith, t)) refl) (ap (λ x. x && true) (count_one (codes "seed ") m.seed is.seed_in_range refl))

-- no line of a moment's holds a byte 10
pub lines_one : (program : Program) (b : Bool) (m : Moment) → LawfulProgram program → IsMoment program b m → list_all one_line (lines program b m) ≡ true
lines_one program b m lawful is =
    let top = heading b m in
    let classes = map class_line program.classes in
    let agents = map (agent_text program) m.world.agents in
    let few = is.lawful.few_agents in
    let named : (i : ℕ) (class : Class) → slice_get program.classes i ≡ Some class → (is_name class.name ≡ true) × (list_all is_name (map (λ (s : State). s.name) class.states) ≡ true) =
    λ i class at.
    let one = lawful.classes_are_lawful i class at in (
      one.class_is_named,
      (and_parts (list_all is_name (map (λ (s : State). s.name) class.states)) (list_all is_name (map (λ e. e.name) class.effects))
          (sym (list_all-append is_name (map (λ (s : State). s.name) class.states) (map (λ e. e.name) class.effects)) ∙ one.fields_are_named)).0,
    ) in
    list_all-append one_line ((top ++ classes) ++ agents) (end_line m.world.agents ∷ [])
    ∙ ap₂ (λ x y. x && (y && true))
    (list_all-append one_line (top ++ classes) agents
    ∙ ap₂ (λ x y. x && y) (list_all-append one_line top classes ∙ ap₂ (λ x y. x && y) (heading_one program b m is) (classes_one program.classes named))
    (agents_one program m.world.agents lawful (record { lawful = is.lawful.each_is_lawful; values_fit = is.values_fit })))
    (count_one (codes "end ") (length m.world.agents) (omega (arith, few)) refl)

none_ends : (line : List ℕ) → one_line line ≡ true → All (λ b. (b == 10) ≡ false) line
none_ends line h k d le =
    let pass : not (get_or line k d == 10) ≡ true = AllPass-from_list_all (λ b. not (b == 10)) line h k d le in
    grind (arith, nat_tests)

-- the parts of a line and what stands behind it
line_parts : (line rest : List ℕ) → one_line line ≡ true → parts ((line ++ 10 ∷ []) ++ rest) ≡ line ∷ parts rest
line_parts line rest h = ap parts (append_assoc line (10 ∷ []) rest) ∙ slice_split_at (λ b. b == 10) line 10 rest (none_ends line h) refl

pub text_parts : (all : List (List ℕ)) → list_all one_line all ≡ true → parts (text all) ≡ all ++ [] ∷ []
text_parts [] h = refl
text_parts (line ∷ all) h =
    let (one, more) = and_parts (one_line line) (list_all one_line all) h in
    line_parts line (text all) one ∙ ap (λ l. line ∷ l) (text_parts all more)

pub whole_text : (all : List (List ℕ)) → list_all one_line all ≡ true → whole_lines (text all) ≡ all
whole_text all h =
    let e = text_parts all h in
    let last : length all ≡ length (all ++ [] ∷ []) - 1 = omega (arith, length_push all []) in
    ap (λ p. take (length p - 1) p) e ∙ take_at all ([] ∷ []) (length (all ++ [] ∷ []) - 1) last

pub none_unfinished : (all : List (List ℕ)) → list_all one_line all ≡ true → unfinished (text all) ≡ []
none_unfinished all h =
    let e = text_parts all h in
    let last : length all ≡ length (all ++ [] ∷ []) - 1 = omega (arith, length_push all []) in
    ap (λ p. get_or p (length p - 1) []) e ∙ get_or_at all [] [] [] (length (all ++ [] ∷ []) - 1) last

whole_more : (line : List ℕ) (split : List (List ℕ)) → 0 < length split → take (length (line ∷ split) - 1) (line ∷ split) ≡ line ∷ take (length split - 1) split
whole_more line split some =
    let n : length (line ∷ split) - 1 ≡ suc (length split - 1) = omega (arith, some) in
    ap (λ k. take k (line ∷ split)) n

take_on : (a b : List ℕ) (d : ℕ) → take (length a + d) (a ++ b) ≡ a ++ take d b
take_on [] b d = ap (λ n. take n b) (omega arith)
take_on (x ∷ a) b d =
    let n : length (x ∷ a) + d ≡ suc (length a + d) = omega arith in
    ap (λ k. take k (x ∷ (a ++ b))) n ∙ ap (λ l. x ∷ l) (take_on a b d)

front_one : (line : List ℕ) (n : ℕ) → one_line line ≡ true → one_line (take n line) ≡ true
front_one line n h =
    (and_parts (one_line (take n line)) (one_line (drop n line)) (sym (list_all-append (λ b. not (b == 10)) (take n line) (drop n line)) ∙ ap one_line (take-append-drop n line) ∙ h)).0

-- the whole lines of a proper front of a text are a proper front of its lines
pub front_lines : (all : List (List ℕ)) (n : ℕ) → list_all one_line all ≡ true → n < length (text all) → (k : ℕ) × (k < length all) × (whole_lines (take n (text all)) ≡ take k all)
front_lines [] n h le = absurd (omega (arith, le))
front_lines (line ∷ all) n h le = elim (cases_Bool (ltb (length line) n)) [
  | inl behind ↦
      let (one, more) = and_parts (one_line line) (list_all one_line all) h in
      let over : length line < n = grind (arith, nat_tests) in
      let ended = line ++ 10 ∷ [] in
      let long : length ended ≡ length line + 1 = length_push line 10 in
      let d = n - length ended in
      let whole_long = length-append ended (text all) in
      let (k, below, is) = front_lines all d more (omega (arith, le, long, whole_long, over)) in
      let at : n ≡ length ended + d = omega (arith, long, over) in
      let cut : take n (ended ++ text all) ≡ ended ++ take d (text all) = ap (λ j. take j (ended ++ text all)) at ∙ take_on ended (text all) d in
      let many = length-slice_split (λ b. b == 10) (take d (text all)) in (
        suc k,
        omega (arith, below),
        ap whole_lines cut ∙ ap (λ p. take (length p - 1) p) (line_parts line (take d (text all)) one)
            ∙ whole_more line (parts (take d (text all))) (omega (arith, many)) ∙ ap (λ l. line ∷ l) is,
      )
  | inr within ↦
      let (one, more) = and_parts (one_line line) (list_all one_line all) h in
      let low : n ≤ length line = grind (arith, nat_tests) in
      let cut : take n (text (line ∷ all)) ≡ take n line = ap (take n) (append_assoc line (10 ∷ []) (text all)) ∙ take-append-le n line (10 ∷ text all) low in
      (0, omega arith, ap whole_lines cut ∙ ap (λ p. take (length p - 1) p) (slice_split_none (λ b. b == 10) (take n line) (none_ends (take n line) (front_one line n one))))
]

-- a file that leaves nothing unfinished is the text of its whole lines
pub text_back : (bytes : List ℕ) → unfinished bytes ≡ [] → bytes ≡ text (whole_lines bytes)
text_back bytes none =
    let all = parts bytes in
    let n = length all - 1 in
    let some : length all ≡ n + 1 = omega (arith, length-slice_split (λ b. b == 10) bytes) in
    let split : all ≡ whole_lines bytes ++ [] ∷ [] =
    sym (take_all (n + 1) all (omega (arith, some))) ∙ take_more all n [] (omega (arith, some)) ∙ ap (λ l. take n all ++ l ∷ []) none in
    sym (join_with_byte-slice_split 10 bytes) ∙ ap (join_with_byte 10) split ∙ joined (whole_lines bytes)
  where
    joined : (ls : List (List ℕ)) → join_with_byte 10 (ls ++ [] ∷ []) ≡ text ls
    joined [] = refl
    joined (l ∷ []) = sym (append-nil (l ++ 10 ∷ []))
    joined (l ∷ k ∷ ls) = ap (λ t. l ++ 10 ∷ t) (joined (k ∷ ls)) ∙ sym (append_assoc l (10 ∷ []) (text (k ∷ ls)))
