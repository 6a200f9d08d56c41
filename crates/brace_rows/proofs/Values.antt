-- The values of a record's fields, read in turn.
use Rattle.std.proofs.Common.{◌≡◌, ◌≤◌, ◌<◌, ◌+◌, ◌∙◌, ℕ, false, List, [], ◌∷◌, ◌++◌, length, take, drop, map, zip, get_or, Option, Some, None, Ok, Err, sym, refl, ap, ap₂, subst, arith, cond, ltb, append-nil, ⊎_elim}
use Rattle.std.specs.Prelude.{filter_map, is_none, position}
use Rattle.std.specs.List.{position_or_len}
use Rattle.std.proofs.lemmas.Bool.{cases_lt, lt-ltb}
use Rattle.std.proofs.lemmas.Bool.Decides.{nat_tests}
use Rattle.csv.specs.Records.{field_at}
use Rattle.csv.proofs.RecordFacts.{field-get, field-there}
use Rattle.std.proofs.lemmas.List.{get_or_past, get_or-map, get_or-drop, length-map, length-drop, length-append, length-take, map-append, take-append-drop, take_all, take_more, at_drop_more}
use Rattle.std.proofs.lemmas.Slice.Zip.{get_or-zip, length-zip}
use Rattle.brace_model.specs.declared.program.Value.{Value}
use Rattle.brace_model.specs.declared.program.State.{State}
use Rattle.brace_rows.specs.AgentFile.{Fields, field, value_of, values_in, complete, without_gap}

-- values that are all there
abbrev pub there : List Value → List (Option Value)
there values = map Some values

first_gap : (values : List Value) (rest : List (Option Value)) → position_or_len is_none (there values ++ rest) ≡ length values + position_or_len is_none rest
first_gap [] rest = omega arith
first_gap (v ∷ values) rest = omega (arith, first_gap values rest)

kept : (values : List Value) → filter_map (λ v. v) (there values) ≡ values
kept [] = refl
kept (v ∷ values) = ap (λ l. v ∷ l) (kept values)

not_below_itself : (n : ℕ) → ltb n n ≡ false
not_below_itself n = grind (arith, nat_tests)

-- all values are there
pub complete_all : (read : List (Option Value)) (values : List Value) → there values ≡ read → complete read ≡ Ok values
complete_all read values same =
    let at_end : position_or_len is_none (there values) ≡ length (there values) =
    ap (position_or_len is_none) (sym (append-nil (there values))) ∙ first_gap values [] ∙ sym (length-map values Some ∙ omega arith) in
    let none : position is_none (there values) ≡ None =
    ap (λ i. cond (ltb i (length (there values))) (Some i) None) at_end ∙ ap (λ b. cond b (Some (length (there values))) None) (not_below_itself (length (there values))) in
    subst (λ l. complete l ≡ Ok values) same (ap (without_gap (there values)) none ∙ ap Ok (kept values))

-- a value is missing behind those that are there
pub complete_gap : (values : List Value) (rest : List (Option Value)) → complete (there values ++ None ∷ rest) ≡ Err (length values + 2)
complete_gap values rest =
    let read = there values ++ None ∷ rest in
    let gap : position_or_len is_none read ≡ length values = first_gap values (None ∷ rest) ∙ omega arith in
    let long : length values < length read = omega (arith, length-append (there values) (None ∷ rest), length-map values Some) in
    let some : position is_none read ≡ Some (length values) =
    ap (λ i. cond (ltb i (length read)) (Some i) None) gap ∙ ap (λ b. cond b (Some (length values)) None) (lt-ltb (length values) (length read) long) in
    ap (without_gap read) some

pub length_values : (states : List State) (fields : Fields) → length fields ≡ length states + 2 → length (values_in states fields) ≡ length states
length_values states fields long =
    let rest : length (drop 2 fields) ≡ length states = length-drop 2 fields ∙ omega (arith, long) in
    let both = length-zip states (drop 2 fields) in
    length-map (zip states (drop 2 fields)) (λ p. value_of p.0.ty p.1) ∙ omega (arith, both, rest)

-- what a state gets
pub value_at_place : (states : List State) (fields : Fields) (i : ℕ) (s : State) (e : Option Value) → length fields ≡ length states + 2 → i < length states → s ≡ get_or states i s
    → get_or (values_in states fields) i e ≡ value_of s.ty (field (i + 2) fields)
value_at_place states fields i s e long below is =
    let rest : length (drop 2 fields) ≡ length states = length-drop 2 fields ∙ omega (arith, long) in
    let pairs : i < length (zip states (drop 2 fields)) = omega (arith, length-zip states (drop 2 fields), rest, below) in
    let two : 2 + i ≡ i + 2 = omega arith in
    get_or-map (λ (p : State × List ℕ). value_of p.0.ty p.1) (zip states (drop 2 fields)) i (s, []) e pairs
    ∙ ap (λ (p : State × List ℕ). value_of p.0.ty p.1) (get_or-zip states (drop 2 fields) i (s, []) below (omega (arith, rest, below)))
    ∙ ap₂ (λ (t : State) (text : List ℕ). value_of t.ty text) (sym is) (get_or-drop 2 fields i [] ∙ ap (λ n. get_or fields n []) two)

-- the values read so far are the first ones
abbrev pub ReadSoFar : List State → Fields → List Value → ℕ → Type 0
ReadSoFar states fields values i = there values ≡ take i (values_in states fields)

pub read_more : (states : List State) (fields : Fields) (values : List Value) (i : ℕ) (s : State) (v : Value) → length fields ≡ length states + 2 → i < length states → s ≡ get_or states i s
    → ReadSoFar states fields values i → Some v ≡ value_of s.ty (field (i + 2) fields) → ReadSoFar states fields (values ++ v ∷ []) (i + 1)
read_more states fields values i s v long below is so_far some =
    let read = values_in states fields in
    map-append Some values (v ∷ [])
    ∙ ap₂ (λ (a : List (Option Value)) (o : Option Value). a ++ o ∷ []) so_far (some ∙ sym (value_at_place states fields i s None long below is))
    ∙ sym (take_more read i None (omega (arith, length_values states fields long, below)))

pub read_bad : (states : List State) (fields : Fields) (values : List Value) (i : ℕ) (s : State) → length fields ≡ length states + 2 → i < length states → s ≡ get_or states i s
    → ReadSoFar states fields values i → None ≡ value_of s.ty (field (i + 2) fields) → Err (i + 2) ≡ complete (values_in states fields)
read_bad states fields values i s long below is so_far none =
    let read = values_in states fields in
    let size = length_values states fields long in
    let cut : read ≡ there values ++ None ∷ drop (i + 1) read =
    sym (take-append-drop i read)
    ∙ ap₂ (λ (a b : List (Option Value)). a ++ b) (sym so_far) (at_drop_more (λ l. l) read i None (omega (arith, size, below)) ∙ ap (λ v. v ∷ drop (i + 1) read) (value_at_place states fields i s None long below is ∙ sym none)) in
    let many : length values ≡ i = omega (arith, length-map values Some, ap length so_far, length-take i read, size, below) in
    sym (ap complete cut ∙ complete_gap values (drop (i + 1) read) ∙ ap (λ n. Err (n + 2)) many)

pub read_end : (states : List State) (fields : Fields) (values : List Value) (i : ℕ) → length fields ≡ length states + 2 → length states ≤ i
    → ReadSoFar states fields values i → Ok values ≡ complete (values_in states fields)
read_end states fields values i long over so_far =
    sym (complete_all (values_in states fields) values (so_far ∙ take_all i (values_in states fields) (omega (arith, length_values states fields long, over))))

-- the field of a record that csv finds, or none behind the last
pub field_some : (fields : Fields) (i : ℕ) (text : List ℕ) → Some text ≡ field_at fields i → text ≡ field i fields
field_some fields i text e = sym (field-get fields i text (sym e))

pub field_none : (fields : Fields) (i : ℕ) → None ≡ field_at fields i → [] ≡ field i fields
field_none fields i e = ⊎_elim
    (λ below. absurd (field-there fields i below (sym e)))
    (λ over. sym (get_or_past fields i [] over))
    (cases_lt i (length fields))
