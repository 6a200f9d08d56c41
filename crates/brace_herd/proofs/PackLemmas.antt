-- The agent of a row is that of the row's words.
use Rattle.std.proofs.Common.{◌≡◌, ◌∙◌, ◌<◌, arith, refl, sym, ap, ap₂, subst, ℕ, zero, suc, ◌+◌, ℤ, All, List, [], ◌∷◌, map, length, get_or, slice_get, Option, Some, None}
use Rattle.std.specs.Prelude.{option_map, unwrap_or}
use Rattle.std.specs.List.{range_with_len}
use Rattle.std.proofs.lemmas.List.Elements.{All-head, All-tail}
use Rattle.std.proofs.lemmas.List.FromFn.{fill_by_all, get_or-map-range_with_len, length-map-range_with_len}
use Rattle.std.proofs.lemmas.Option.{slice_get-map}
use Rattle.brace_model.specs.declared.program.Class.{Class}
use Rattle.brace_model.specs.declared.program.Program.{Program}
use Rattle.brace_model.specs.declared.program.State.{State}
use Rattle.brace_model.specs.declared.program.Ty.{Ty}
use Rattle.brace_model.specs.declared.program.Ty.TheVariants as ty
use Rattle.brace_model.specs.declared.program.Value.{Value}
use Rattle.brace_model.specs.declared.world.Agent.{Agent}
use Rattle.brace_model.specs.Value.{typed}
use Rattle.brace_model.specs.Words.{agent_with, values_of}
use Rattle.brace_fold.specs.declared.order.Moved.{Moved}
use Rattle.brace_fold.specs.Asked.{by_row, no_agent}
use Rattle.brace_fold.specs.Listed.{agents_in}
use Rattle.brace_fold.specs.Rows.{types_of, values_in}
use Rattle.brace_herd.specs.inner.Packing.{agent_at, types_in, word_at, words_at}

-- values of types and words that are given by their places
by_place : (type : ℕ → Ty) (word : ℕ → ℤ) (a n : ℕ)
    → values_of (map type (range_with_len a n)) (map word (range_with_len a n))
    ≡ map (λ i. typed (type i) (word i)) (range_with_len a n)
by_place type word a zero = refl
by_place type word a (suc n) =
    ap (λ (l : List Value). typed (type a) (word a) ∷ l) (by_place type word (a + 1) n)

-- the values of the words of a row
row_values : (types : List Ty) (states : List (List ℤ)) (row : ℕ)
    → values_of types (words_at states row (length types)) ≡ values_in types states row
row_values types states row =
    let type = λ (i : ℕ). get_or types i ty.Int in
    let count = length types in
    ap (λ l. values_of l (words_at states row count))
    (fill_by_all type types count ty.Int refl (λ k low. refl))
    ∙ by_place type (word_at states row) 0 count

abbrev own_types : Class → List Ty
own_types class = map (λ (s : State). s.ty) class.states

-- the types of a class
of_class : (o : Option Class) → types_of o ≡ unwrap_or (option_map own_types o) []
of_class None = refl
of_class (Some class) = refl

types_there : (program : Program) (class : ℕ) (types : List Ty)
    → slice_get (types_in program) class ≡ Some types
    → types_of (slice_get program.classes class) ≡ types
types_there program class types there =
    of_class (slice_get program.classes class)
    ∙ ap (λ (o : Option (List Ty)). unwrap_or o [])
    (sym (slice_get-map own_types program.classes class) ∙ there)

-- the agent of a class, an id, types and words that are those of a row
pub agent_is : (program : Program) (rows : Moved) (row class id : ℕ) (types : List Ty)
    (words : List ℤ) → class ≡ get_or rows.classes.items row 0 → id ≡ get_or rows.ids.items row 0
    → slice_get (types_in program) class ≡ Some types
    → words ≡ words_at rows.states.items row (length types)
    → agent_with class id types words ≡ agent_at program rows row
agent_is program rows row class id types words is numbered there read =
    let states = rows.states.items in
    let values : values_of types words ≡ values_in (types_of (slice_get program.classes class)) states row =
    ap (values_of types) read ∙ row_values types states row
    ∙ ap (λ l. values_in l states row) (sym (types_there program class types there)) in
    ap (λ (vs : List Value). made class id vs) values
    ∙ ap (λ n. made n id (values_in (types_of (slice_get program.classes n)) states row)) is
    ∙ ap (λ n. made (get_or rows.classes.items row 0) n
    (values_in (types_of (slice_get program.classes (get_or rows.classes.items row 0))) states row))
    numbered
  where
    made : ℕ → ℕ → List Value → Agent
    made class id states = record { class = class; id = id; states = states }

-- the agents of some rows, where those of all are these
pub rows_are : (program : Program) (rows : Moved) (those : List Agent)
    → agents_in program rows ≡ those → (picks : List ℕ) → All (λ row. row < length those) picks
    → map (agent_at program rows) picks ≡ by_row those picks
rows_are program rows those are [] within = refl
rows_are program rows those are (row ∷ picks) within =
    ap₂ (λ (a : Agent) l. a ∷ l)
    (one (All-head (λ n. n < length those) row picks within))
    (rows_are program rows those are picks (All-tail (λ n. n < length those) row picks within))
  where
    at : ℕ → Agent
    at = agent_at program rows

    count : ℕ
    count = length rows.ids.items

    one : row < length those → at row ≡ get_or those row no_agent
    one low =
        let many : length those ≡ count =
        ap length (sym are) ∙ length-map-range_with_len at 0 count in
        sym (ap (λ l. get_or l row no_agent) (sym are)
        ∙ get_or-map-range_with_len at 0 count row row no_agent
        (subst (λ n. row < n) many low) (omega arith))
