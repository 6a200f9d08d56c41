-- The agents that columns have, row by row, and by rising id.
use Rattle.std.proofs.Common.{◌≡◌, ◌∙◌, refl, sym, ap, ap₂, subst, ℕ, ◌<◌, ◌≤◌, ℤ, pos, true, false, List, [], ◌∷◌, ◌++◌, append-nil, map, length, get_or, slice_get, Option, Some, None, arith}
use Rattle.std.specs.Prelude.{nat_eq, nat_le, unwrap_or}
use Rattle.std.specs.Cmp.Lexicographic.{pointwise}
use Rattle.std.specs.List.{All, IsDistinct, list_all}
use Rattle.std.specs.List.Sorted.{IsPermutation}
use Rattle.std.proofs.lemmas.Bool.{true≢false, and_parts}
use Rattle.std.proofs.lemmas.List.{get_or-map, length-map}
use Rattle.std.proofs.lemmas.List.FromFn.{fill_by_all}
use Rattle.std.proofs.lemmas.List.Sorted.{All-permutation, IsPermutation-sym, IsPermutation-trans}
use Rattle.std.proofs.lemmas.List.Sums.{AllPass-from_list_all, list_all-from_AllPass}
use Rattle.std.proofs.lemmas.Option.{get_or_from_slice_get, slice_get-get_or, slice_get_within}
use Rattle.brace_num.proofs.Orders.{by_key_keeps, by_key_rises, by_key_unique, distinct_moved, rises_by_keys, rising_differ}
use Rattle.brace_model.specs.declared.program.Class.{Class}
use Rattle.brace_model.specs.declared.program.Program.{Program}
use Rattle.brace_model.specs.declared.program.State.{State}
use Rattle.brace_model.specs.declared.program.Ty.{Ty}
use Rattle.brace_model.specs.declared.program.Ty.TheVariants as ty
use Rattle.brace_model.specs.declared.program.Value.{Value}
use Rattle.brace_model.specs.declared.program.Value.TheVariants as val
use Rattle.brace_model.specs.declared.world.Agent.{Agent}
use Rattle.brace_model.specs.Lawful.{has_states, is_lawful_agent}
use Rattle.brace_model.specs.Step.{greatest_id}
use Rattle.brace_model.specs.Typing.{same_type, type_of_value}
use Rattle.brace_model.specs.Value.{typed}
use Rattle.brace_model.specs.World.{RisesById, class_of, ids, no_value, number, value_at}
use Rattle.brace_model.proofs.TypeLemmas.{one_type}
use Rattle.brace_fold.specs.declared.columns.Columns.{Columns}
use Rattle.brace_fold.specs.Rows.{AreColumns, AreMoved, AreRows, HasRoom, IsWide, by_id, row_in, rows_in, types_of, value_in, values_in, words_of}
use Rattle.brace_fold.specs.declared.order.Moved.{Moved}
use Rattle.brace_fold.proofs.Crowdings.{got-mapped}
use denote.Ref.{Bor}

-- ---- values of their types

typed_number : (v : Value) → typed (type_of_value v) (number v) ≡ v
typed_number (val.Int n) = refl
typed_number (val.Fixed n) = refl
typed_number (val.Flag true) = refl
typed_number (val.Flag false) = refl

same_types : (ts us : List Ty) → pointwise same_type ts us ≡ true → us ≡ ts
same_types [] [] h = refl
same_types [] (u ∷ us) h = absurd (true≢false (sym h))
same_types (t ∷ ts) [] h = absurd (true≢false (sym h))
same_types (t ∷ ts) (u ∷ us) h =
    let (one, rest) = and_parts (same_type t u) (pointwise same_type ts us) h in
    ap₂ (λ (t : Ty) (l : List Ty). t ∷ l) (sym (one_type t u one)) (same_types ts us rest)

-- the types of a lawful agent's states
types_are : (program : Program) (a : Agent) → is_lawful_agent program a ≡ true
    → types_of (class_of program a) ≡ map type_of_value a.states
types_are program a lawful = by (class_of program a)
    (and_parts (nat_le a.id greatest_id) (has_states (class_of program a) a) lawful).1
  where
    by : (o : Option Class) → has_states o a ≡ true → types_of o ≡ map type_of_value a.states
    by None h = absurd (true≢false (sym h))
    by (Some class) h =
        sym (same_types (map (λ (s : State). s.ty) class.states) (map type_of_value a.states) h)

-- a class has no more states than there are columns
enough : (program : Program) (columns : Columns) → IsWide program columns → (a : Agent)
    → length (types_of (class_of program a)) ≤ length (words_of columns)
enough program columns wide a = by (class_of program a) refl
  where
    by : (o : Option Class) → class_of program a ≡ o
        → length (types_of o) ≤ length (words_of columns)
    by None e = omega arith
    by (Some class) e =
        let there : length class.states ≤ length columns.states.now =
        one_wide program.classes a.class class e wide in
        omega (
          arith,
          there,
          length-map class.states (λ (s : State). s.ty),
          length-map columns.states.now (λ (c : Bor (List ℤ)). c.now),
        )
      where
        one_wide : (classes : List Class) (k : ℕ) (c : Class) → slice_get classes k ≡ Some c
            → All (λ (c : Class). length c.states ≤ length columns.states.now) classes
            → length c.states ≤ length columns.states.now
        one_wide classes k c there all =
            subst (λ (x : Class). length x.states ≤ length columns.states.now)
            (get_or_from_slice_get classes k c c there)
            (all k c (slice_get_within classes k c there))

module _ (program : Program) (agents : List Agent) (columns : Columns)
    (are : AreColumns agents columns) (wide : IsWide program columns)
    (lawful : All (λ a. is_lawful_agent program a ≡ true) agents) where
  module _ (k : ℕ) (d : Agent) (low : k < length agents) where
    abbrev a : Agent
    a = get_or agents k d

    abbrev words : List (List ℤ)
    words = words_of columns

    -- a value of the agent, read from the columns
    one_value : (types : List Ty) → types ≡ map type_of_value a.states
        → length types ≤ length words → (i : ℕ) → i < length a.states
        → value_in types words k i ≡ get_or a.states i no_value
    one_value types same enough i less =
        let v = get_or a.states i no_value in
        let many : length types ≡ length a.states =
        ap length same ∙ length-map a.states type_of_value in
        let type : get_or types i ty.Int ≡ type_of_value v =
        ap (λ l. get_or l i ty.Int) same
        ∙ get_or-map type_of_value a.states i no_value ty.Int less in
        let there = slice_get-get_or words i [] (omega (arith, less, many, enough)) in
        let column = are.states i (get_or words i []) there in
        let word : get_or (get_or words i []) k (pos 0) ≡ number (value_at a.states i) =
        ap (λ l. get_or l k (pos 0)) column
        ∙ got-mapped (λ (b : Agent). number (value_at b.states i)) agents k d (pos 0) low in
        let value : value_at a.states i ≡ v =
        ap (λ o. unwrap_or o no_value) (slice_get-get_or a.states i no_value less) in
        ap₂ typed type (word ∙ ap number value) ∙ typed_number v

    all_values : (types : List Ty) → types ≡ map type_of_value a.states
        → length types ≤ length words → values_in types words k ≡ a.states
    all_values types same enough =
        let many : length a.states ≡ length types =
        sym (ap length same ∙ length-map a.states type_of_value) in
        sym (fill_by_all (value_in types words k) a.states (length types) no_value many
        (λ i less. sym (one_value types same enough i (omega (arith, less, many)))))

    one_row : row_in program columns k ≡ a
    one_row =
        let class : get_or columns.classes.now k 0 ≡ a.class =
        ap (λ l. get_or l k 0) are.classes ∙ got-mapped (λ (b : Agent). b.class) agents k d 0 low in
        let id : get_or columns.ids.now k 0 ≡ a.id =
        ap (λ l. get_or l k 0) are.ids_are ∙ got-mapped (λ (b : Agent). b.id) agents k d 0 low in
        let types : types_of (slice_get program.classes (get_or columns.classes.now k 0))
        ≡ map type_of_value a.states =
        ap (λ n. types_of (slice_get program.classes n)) class
        ∙ types_are program a (lawful k d low) in
        let fits : length (types_of (slice_get program.classes (get_or columns.classes.now k 0)))
        ≤ length words =
        subst (λ n. length (types_of (slice_get program.classes n)) ≤ length words) (sym class)
        (enough program columns wide a) in
        made class id (all_values _ types fits)
      where
        agent : ℕ → ℕ → List Value → Agent
        agent class id states = record { class = class; id = id; states = states }

        made : {m n : ℕ} {vs : List Value} → m ≡ a.class → n ≡ a.id → vs ≡ a.states
            → agent m n vs ≡ a
        made {m} {n} {vs} p q r = ap₂ (λ m n. agent m n vs) p q ∙ ap (agent a.class a.id) r

  -- columns of lawful agents have just these
  pub rows_are : rows_in program columns ≡ agents
  rows_are =
      let many : length agents ≡ length columns.ids.now =
      sym (ap length are.ids_are ∙ length-map agents (λ (a : Agent). a.id)) in
      sym (fill_by_all (row_in program columns) agents (length columns.ids.now) nobody many
      (λ k low. sym (one_row k nobody (omega (arith, low, many)))))
    where
      nobody : Agent
      nobody = record { class = 0; id = 0; states = [] }

-- ---- lawful agents

pub all_lawful : (program : Program) (agents : List Agent)
    → list_all (is_lawful_agent program) agents ≡ true
    → All (λ a. is_lawful_agent program a ≡ true) agents
all_lawful program agents lawful = AllPass-from_list_all (is_lawful_agent program) agents lawful

pub lawful_moved : (program : Program) (xs ys : List Agent) → IsPermutation xs ys
    → list_all (is_lawful_agent program) xs ≡ true → list_all (is_lawful_agent program) ys ≡ true
lawful_moved program xs ys perm lawful = list_all-from_AllPass (is_lawful_agent program) ys
    (All-permutation (λ a. is_lawful_agent program a ≡ true) xs ys perm
    (all_lawful program xs lawful))

-- no two agents of rows have one id where those of a list rise
pub rows_apart : (agents rows : List Agent) → RisesById agents → IsPermutation agents rows
    → IsDistinct nat_eq (ids rows)
rows_apart agents rows rises perm =
    let id : Agent → ℕ = λ a. a.id in
    distinct_moved id agents rows perm (rising_differ id agents (rises_by_keys id agents rises))

-- agents whose ids rise are those of their rows by rising id
pub by_id_is : (agents rows : List Agent) → RisesById agents → IsPermutation agents rows
    → by_id rows ≡ agents
by_id_is agents rows rises perm =
    let id : Agent → ℕ = λ a. a.id in
    by_key_unique id rows agents (rows_apart agents rows rises perm)
    (IsPermutation-sym _ _ perm) rises

-- columns of lawful agents, no two with one id, are rows of these
pub are_rows : (program : Program) (agents : List Agent) (columns : Columns)
    → AreColumns agents columns → IsWide program columns
    → list_all (is_lawful_agent program) agents ≡ true → IsDistinct nat_eq (ids agents)
    → AreRows program columns
are_rows program agents columns are wide lawful apart =
    let same = rows_are program agents columns are wide (all_lawful program agents lawful) in
    record {
      lawful = subst (λ l. list_all (is_lawful_agent program) l ≡ true) (sym same) lawful;
      apart = subst (λ l. IsDistinct nat_eq (ids l)) (sym same) apart;
      are = subst (λ l. AreColumns l columns) (sym same) are;
    }

-- columns of agents that were just moved have these, as they are lent, and room for all states
pub lent_are : (program : Program) (agents : List Agent) (rows : Moved) (columns : Columns)
    → AreMoved (agents ++ []) rows → HasRoom program (length rows.states.items)
    → ((l : List Agent) → AreMoved l rows → AreColumns l columns)
    → length columns.states.now ≡ length rows.states.items
    → AreColumns agents columns × IsWide program columns
lent_are program agents rows columns moved wide are long = (
  are agents (subst (λ l. AreMoved l rows) (append-nil agents) moved),
  subst (HasRoom program) (sym long) wide,
)

-- agents in another order are the same by rising id
pub by_id_moved : (agents rows : List Agent) → IsDistinct nat_eq (ids agents)
    → IsPermutation agents rows → by_id rows ≡ by_id agents
by_id_moved agents rows apart perm =
    let id : Agent → ℕ = λ a. a.id in
    by_key_unique id rows (by_id agents) (distinct_moved id agents rows perm apart)
    (IsPermutation-trans _ _ _ (IsPermutation-sym _ _ perm) (by_key_keeps id agents))
    (by_key_rises id agents apart)

-- columns that were moved, as they are lent
pub moved_are : (agents : List Agent) (moved : Moved) (columns : Columns) → AreMoved agents moved
    → columns.classes.now ≡ moved.classes.items → columns.ids.now ≡ moved.ids.items
    → words_of columns ≡ moved.states.items → AreColumns agents columns
moved_are agents moved columns is classes ids_is words = record {
  classes = classes ∙ is.classes;
  ids_are = ids_is ∙ is.ids_are;
  states = λ i column e.
      is.states i column (subst (λ l. slice_get l i ≡ Some column) words e);
}
