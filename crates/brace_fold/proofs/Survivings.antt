-- Agents read from columns row by row, and those of them that live on.
use Rattle.std.proofs.Common.{◌≡◌, ◌∙◌, refl, sym, ap, ap₂, subst, ℕ, zero, suc, ◌+◌, ◌-◌, ◌<◌, ◌≤◌, ℤ, pos, Bool, true, false, cond, List, [], ◌∷◌, ◌++◌, append-nil, map, filter, length, get_or, replicate, slice_get, Option, Some, All, arith, ⊎_elim, inl, inr, map-id}
use Rattle.std.specs.Prelude.{not, leb, ◌≤ℤ◌, ◌⊎◌, option_map, unwrap_or}
use Rattle.std.specs.List.{cons_option, range_with_len}
use Rattle.std.proofs.lemmas.Bool.{cases_eq, cases_lt, leb-false}
use Rattle.std.proofs.lemmas.Int.{ints, clamps}
use Rattle.std.proofs.lemmas.List.{get_or_append_left, get_or-append_right, length-map, length-set, map-append}
use Rattle.std.proofs.lemmas.List.Elements.{All-filter}
use Rattle.std.proofs.lemmas.List.FromFn.{filter_of_map_range_with_len_more, get_or-map-range_with_len, length-map-range_with_len, map-range_with_len_more}
use Rattle.std.proofs.lemmas.Option.{get_or_from_slice_get, none-some, same_Some, slice_get-get_or, slice_get-map, slice_get_past, slice_get_within, unwrap_or-slice_get}
use Rattle.brace_num.specs.Exact.{clamped}
use Rattle.brace_model.specs.declared.program.Class.{Class}
use Rattle.brace_model.specs.declared.program.Program.{Program}
use Rattle.brace_model.specs.declared.program.State.{State}
use Rattle.brace_model.specs.declared.program.Ty.{Ty}
use Rattle.brace_model.specs.declared.program.Ty.TheVariants as ty
use Rattle.brace_model.specs.declared.program.Value.{Value}
use Rattle.brace_model.specs.declared.program.Value.TheVariants as val
use Rattle.brace_model.specs.declared.world.Agent.{Agent}
use Rattle.brace_model.specs.Next.{changed, moved, within_reach}
use Rattle.brace_model.specs.Value.{typed}
use Rattle.brace_model.specs.World.{class_of, no_value, number, value_at}
use Rattle.brace_code.specs.declared.lane.Lane.{Lane}
use Rattle.brace_plan.specs.Leaving.{survivor}
use Rattle.brace_fold.specs.declared.columns.Columns.{Columns}
use Rattle.brace_fold.specs.declared.order.Moved.{Moved}
use Rattle.brace_fold.specs.declared.outcome.Column.{Column}
use Rattle.brace_fold.specs.declared.outcome.Outcome.{Outcome}
use Rattle.brace_fold.specs.Rows.{AreMoved, row_in, rows_in, types_of, value_in, values_in, words_of}
use Rattle.brace_fold.specs.inner.Rulings.{agent_at, child_of, is_set, living_from, new_number, new_states, rows_left}
use Rattle.brace_fold.specs.inner.Rulings as ruling
use Rattle.brace_fold.proofs.Crowdings.{value-other, value-set}
use Rattle.brace_fold.proofs.Doings.{All-back}
use denote.Ref.{Bor}

-- ---- one agent

-- one state more
pub states-more : (types : List Ty) (words : List (List ℤ)) (row i : ℕ) (t : Ty) (column : List ℤ)
    (word : ℤ)
    (old new : List Value) → slice_get types i ≡ Some t → slice_get words i ≡ Some column
    → slice_get column row ≡ Some word → old ≡ map (value_in types words row) (range_with_len 0 i)
    → new ≡ old ++ typed t word ∷ [] → new ≡ map (value_in types words row)
    (range_with_len 0 (i + 1))
states-more types words row i t column word old new has there read so_far grown =
    let value : typed t word ≡ value_in types words row i =
    ap₂ typed (sym (get_or_from_slice_get types i t ty.Int has))
    (sym (ap (λ l. get_or l row (pos 0)) (get_or_from_slice_get words i column [] there)
    ∙ get_or_from_slice_get column row word (pos 0) read)) in
    let on : 0 + i ≡ i = omega arith in
    grown ∙ ap₂ (λ l v. l ++ v ∷ []) so_far value
    ∙ sym (map-range_with_len_more (value_in types words row) 0 i i on)

-- the agent of a row
pub agent-is : (program : Program) (own : Class) (columns : Columns) (row number class id : ℕ)
    (states : List Value) → slice_get columns.classes.now row ≡ Some class → class ≡ number
    → slice_get columns.ids.now row ≡ Some id → slice_get program.classes number ≡ Some own
    → states ≡ values_in (map (λ (s : State). s.ty) own.states) (words_of columns) row
    → ◌≡◌ {A = Agent} (record { class = class; id = id; states = states })
    (row_in program columns row)
agent-is program own columns row number class id states read same known has are =
    let here : class ≡ get_or columns.classes.now row 0 =
    sym (get_or_from_slice_get columns.classes.now row class 0 read) in
    let mine : id ≡ get_or columns.ids.now row 0 =
    sym (get_or_from_slice_get columns.ids.now row id 0 known) in
    let found : Some own ≡ slice_get program.classes (get_or columns.classes.now row 0) =
    sym has ∙ ap (slice_get program.classes) (sym same ∙ here) in
    let values : states ≡ (row_in program columns row).states =
    are ∙ ap (λ (o : Option Class). values_in (types_of o) (words_of columns) row) found in
    ap₂ (λ c n. agent c n states) here mine ∙ ap (agent (get_or columns.classes.now row 0)
    (get_or columns.ids.now row 0)) values
  where
    agent : ℕ → ℕ → List Value → Agent
    agent class id states = record { class = class; id = id; states = states }

module _ (program : Program) (columns : Columns) where
  pub rows-long : length (rows_in program columns) ≡ length columns.ids.now
  rows-long = length-map-range_with_len (row_in program columns) 0 (length columns.ids.now)

  pub row-at : (k : ℕ) (d : Agent) → k < length columns.ids.now
      → get_or (rows_in program columns) k d ≡ row_in program columns k
  row-at k d low =
      let on : 0 + k ≡ k = omega arith in
      get_or-map-range_with_len (row_in program columns) 0 (length columns.ids.now) k k d low on

-- one child more
pub born-more : (class : Class) (gifts : List Column) (agents : List Agent) (lanes : List Lane)
    (born : List Agent) (k : ℕ) (child : Agent) → length born ≡ k
    → ((j : ℕ) (a d : Agent) (l : Lane) → j < k
    → get_or born j a ≡ child_of class gifts j (agent_at agents d (get_or lanes j l)))
    → ((d : Agent) (l : Lane) → child ≡ child_of class gifts k
    (agent_at agents d (get_or lanes k l)))
    → (j : ℕ) (a d : Agent) (l : Lane) → j < k + 1
    → get_or (born ++ child ∷ []) j a ≡ child_of class gifts j
    (agent_at agents d (get_or lanes j l))
born-more class gifts agents lanes born k child long before here j a d l low = ⊎_elim
    (λ (less : j < k).
    get_or_append_left born (child ∷ []) a j (omega (arith, less, long)) ∙ before j a d l less)
    (λ (past : k ≤ j).
    let same : j ≡ k = omega (arith, past, low) in
    subst (λ n. get_or (born ++ child ∷ []) n a ≡ child_of class gifts n
    (agent_at agents d (get_or lanes n l)))
    (sym same) (last ∙ here d l))
    (cases_lt j k)
  where
    last : get_or (born ++ child ∷ []) k a ≡ child
    last =
        let none : k - k ≡ 0 = omega arith in
        get_or-append_right born (child ∷ []) k k a long (omega arith)
        ∙ ap (λ n. get_or (child ∷ []) n a) none

-- ---- agents in columns

-- no agents
pub none-moved : (moved : Moved) → moved.classes.items ≡ [] → moved.ids.items ≡ []
    → ((i : ℕ) (column : List ℤ) → slice_get moved.states.items i ≡ Some column → column ≡ [])
    → AreMoved [] moved
none-moved moved classes ids_are states = record {
  classes = classes;
  ids_are = ids_are;
  states = states;
}

pub unset-is : (n i : ℕ) (column : List ℤ) → slice_get (replicate n []) i ≡ Some column
    → column ≡ []
unset-is zero i column there = absurd (none-some column there)
unset-is (suc n) zero column there = sym (same_Some [] column there)
unset-is (suc n) (suc i) column there = unset-is n i column there

-- some agents more
pub agents-more : (agents : List Agent) (old new : Moved) (more : List Agent) → AreMoved agents old
    → new.classes.items ≡ old.classes.items ++ map (λ a. a.class) more
    → new.ids.items ≡ old.ids.items ++ map (λ a. a.id) more
    → length new.states.items ≡ length old.states.items
    → ((k : ℕ) (c : List ℤ) → k < length old.states.items → get_or new.states.items k c
    ≡ get_or old.states.items k c ++ map (λ a. number (value_at a.states k)) more)
    → AreMoved (agents ++ more) new
agents-more agents old new more is classes ids_are long each = record {
  classes = classes ∙ ap (λ l. l ++ map (λ (x : Agent). x.class) more) is.classes
      ∙ sym (map-append (λ (x : Agent). x.class) agents more);
  ids_are = ids_are ∙ ap (λ l. l ++ map (λ (x : Agent). x.id) more) is.ids_are
      ∙ sym (map-append (λ (x : Agent). x.id) agents more);
  states = λ i column there.
      let low = slice_get_within new.states.items i column there in
      let less : i < length old.states.items = subst (λ n. i < n) long low in
      let before = is.states i (get_or old.states.items i column)
      (slice_get-get_or old.states.items i column less) in
      sym (get_or_from_slice_get new.states.items i column column there) ∙ each i column less
      ∙ ap (λ l. l ++ map (λ (x : Agent). number (value_at x.states i)) more) before
      ∙ sym (map-append (λ (x : Agent). number (value_at x.states i)) agents more);
}

-- ---- those that live on

-- one row more
left-more : (die : Option Column) (k : ℕ)
    → rows_left die (k + 1) ≡ rows_left die k ++ cond (not (is_set die k)) (k ∷ []) []
left-more die k =
    let lives : ℕ → Bool = λ row. not (is_set die row) in
    let first : 0 + k ≡ k = omega arith in
    ap (filter lives) (sym (map-id (range_with_len 0 (k + 1))))
    ∙ filter_of_map_range_with_len_more lives (λ row. row) 0 k k first
    ∙ ap (λ l. filter lives l ++ cond (lives k) (k ∷ []) []) (map-id (range_with_len 0 k))

pub left-living : (die : Option Column) (k : ℕ) (rows new : List ℕ) → rows ≡ rows_left die k
    → is_set die k ≡ false → new ≡ rows ++ k ∷ [] → new ≡ rows_left die (k + 1)
left-living die k rows new are lives more =
    more ∙ ap (λ l. l ++ k ∷ []) are
    ∙ sym (left-more die k ∙ ap (λ b. rows_left die k ++ cond (not b) (k ∷ []) []) lives)

pub left-dead : (die : Option Column) (k : ℕ) (rows new : List ℕ) → rows ≡ rows_left die k
    → is_set die k ≡ true → new ≡ rows → new ≡ rows_left die (k + 1)
left-dead die k rows new are dies same =
    same ∙ are
    ∙ sym (left-more die k ∙ ap (λ b. rows_left die k ++ cond (not b) (k ∷ []) []) dies
    ∙ append-nil (rows_left die k))

-- an agent with the values of a row
abbrev leaf : Class → Outcome → (ℕ → Agent) → ℕ → Agent
leaf class out agent row =
    changed class (agent row) (new_states out.states.items row (agent row).states)

living-one : (class : Class) (out : Outcome) (agent : ℕ → Agent) (row : ℕ) (rest : List Agent)
    (rows : List ℕ) → rest ≡ map (leaf class out agent) rows → (dies : Bool)
    → cons_option (survivor dies class (agent row)
    (new_states out.states.items row (agent row).states)) rest
    ≡ map (leaf class out agent) (cond (not dies) (row ∷ rows) rows)
living-one class out agent row rest rows same true = same
living-one class out agent row rest rows same false =
    ap (λ l. leaf class out agent row ∷ l) same

-- those that live on are the agents of the rows that do
living-rows : (class : Class) (out : Outcome) (agent : ℕ → Agent) (row n : ℕ)
    → living_from class out row (map agent (range_with_len row n))
    ≡ map (leaf class out agent) (filter (λ r. not (is_set out.die r)) (range_with_len row n))
living-rows class out agent row zero = refl
living-rows class out agent row (suc n) =
    living-one class out agent row _ _ (living-rows class out agent (row + 1) n)
    (is_set out.die row)

-- ---- the words of those that live on

-- a value moved into reach of an old one
held-at : (reach : ℤ) (old : List Value) (place : ℕ) (new : List Value) → place < length new
    → number (value_at (moved reach old place new) place)
    ≡ clamped (number (value_at old place)) (number (value_at new place)) reach
held-at reach old place new low = ap number (value-set new place
    (val.Fixed (clamped (number (value_at old place)) (number (value_at new place)) reach)) low)

-- the others stay
held-not : (reach : ℤ) (old : List Value) (place : ℕ) (new : List Value) (state : ℕ)
    → (state ≡ place → ⊥) → value_at (moved reach old place new) state ≡ value_at new state
held-not reach old place new state other = value-other new place state
    (val.Fixed (clamped (number (value_at old place)) (number (value_at new place)) reach)) other

-- what is in reach stays
held-twice : (old new reach : ℤ) → pos 0 ≤ℤ reach
    → clamped old (clamped old new reach) reach ≡ clamped old new reach
held-twice old new reach h = grind (arith, ints, clamps)

module _ (class : Class) (old new : List Value) (state : ℕ) where
  -- no coordinate
  plain : (state ≡ class.x → ⊥) → (state ≡ class.y → ⊥)
      → value_at (within_reach class old new) state ≡ value_at new state
  plain x y =
      held-not class.reach old class.y (moved class.reach old class.x new) state y
      ∙ held-not class.reach old class.x new state x

  -- no such state
  past : length new ≤ state → value_at (within_reach class old new) state ≡ no_value
  past low =
      let long : length (within_reach class old new) ≡ length new =
      length-set (moved class.reach old class.x new) class.y _ ∙ length-set new class.x _ in
      ap (λ o. unwrap_or o no_value)
      (slice_get_past (within_reach class old new) state (omega (arith, low, long)))

  -- a coordinate
  held : state < length new → pos 0 ≤ℤ class.reach → (state ≡ class.x) ⊎ (state ≡ class.y)
      → number (value_at (within_reach class old new) state)
      ≡ clamped (number (value_at old state)) (number (value_at new state)) class.reach
  held low reach which = by (cases_eq state class.x) (cases_eq state class.y)
    where
      once : List Value
      once = moved class.reach old class.x new

      there : state < length once
      there = omega (
        arith,
        low,
        length-set new class.x
            (val.Fixed (clamped (number (value_at old class.x)) (number (value_at new class.x))
            class.reach)),
      )

      at-x : state ≡ class.x → number (value_at once state)
          ≡ clamped (number (value_at old state)) (number (value_at new state)) class.reach
      at-x same = subst (λ n. number (value_at (moved class.reach old n new) state)
          ≡ clamped (number (value_at old state)) (number (value_at new state)) class.reach) same
          (held-at class.reach old state new low)

      at-y : state ≡ class.y → number (value_at (within_reach class old new) state)
          ≡ clamped (number (value_at old state)) (number (value_at once state)) class.reach
      at-y same = subst (λ n. number (value_at (moved class.reach old n once) state)
          ≡ clamped (number (value_at old state)) (number (value_at once state)) class.reach) same
          (held-at class.reach old state once there)

      by : (state ≡ class.x) ⊎ (state ≡ class.x → ⊥) → (state ≡ class.y) ⊎ (state ≡ class.y → ⊥)
          → number (value_at (within_reach class old new) state)
          ≡ clamped (number (value_at old state)) (number (value_at new state)) class.reach
      by (inl x) (inl y) =
          at-y y ∙ ap (λ w. clamped (number (value_at old state)) w class.reach) (at-x x)
          ∙ held-twice (number (value_at old state)) (number (value_at new state)) class.reach reach
      by (inl x) (inr y) =
          ap number (held-not class.reach old class.y once state y) ∙ at-x x
      by (inr x) (inl y) =
          at-y y ∙ ap (λ v. clamped (number (value_at old state)) (number v) class.reach)
          (held-not class.reach old class.x new state x)
      by (inr x) (inr y) = absurd (⊎_elim x y which)

-- ---- the new words of one state

news-low : (columns : List (Option Column)) (row : ℕ) (olds : List Value) (state : ℕ)
    → state < length columns → state < length olds → state < length (new_states columns row olds)
news-low [] row olds state few low = absurd (omega (arith, few))
news-low (o ∷ columns) row [] state few low = absurd (omega (arith, low))
news-low (o ∷ columns) row (v ∷ olds) zero few low = omega arith
news-low (o ∷ columns) row (v ∷ olds) (suc state) few low =
    omega (arith, news-low columns row olds state (omega (arith, few)) (omega (arith, low)))

news-past : (columns : List (Option Column)) (row : ℕ) (olds : List Value) (state : ℕ)
    → (length columns ≤ state) ⊎ (length olds ≤ state)
    → length (new_states columns row olds) ≤ state
news-past [] row olds state past = omega arith
news-past (o ∷ columns) row [] state past = omega arith
news-past (o ∷ columns) row (v ∷ olds) zero past =
    absurd (⊎_elim (λ few. omega (arith, few)) (λ low. omega (arith, low)) past)
news-past (o ∷ columns) row (v ∷ olds) (suc state) past =
    let shorter = news-past columns row olds state (⊎_elim (λ few. inl (omega (arith, few)))
    (λ low. inr (omega (arith, low))) past) in
    omega (arith, shorter)

news-at : (columns : List (Option Column)) (row : ℕ) (olds : List Value) (state : ℕ)
    (o : Option Column) → slice_get columns state ≡ Some o → state < length olds
    → value_at (new_states columns row olds) state ≡ ruling.value_in o row (value_at olds state)
news-at [] row olds state o there low = absurd (none-some o there)
news-at (p ∷ columns) row [] state o there low = absurd (omega (arith, low))
news-at (p ∷ columns) row (v ∷ olds) zero o there low =
    ap (λ q. ruling.value_in q row v) (same_Some p o there)
news-at (p ∷ columns) row (v ∷ olds) (suc state) o there low =
    news-at columns row olds state o there (omega (arith, low))

-- past the end of a list
pub outside : {A : Type 0} (xs : List A) (i : ℕ) → false ≡ leb (suc i) (length xs)
    → length xs ≤ i
outside xs i past =
    let less : length xs < suc i = leb-false (suc i) (length xs) (sym past) in omega (arith, less)

module _ (own class : Class) (out : Outcome) (columns : Columns) (state row : ℕ) where
  abbrev types : List Ty
  types = map (λ (s : State). s.ty) own.states

  abbrev olds : List Value
  olds = values_in types (words_of columns) row

  olds-long : length olds ≡ length own.states
  olds-long =
      length-map-range_with_len (value_in types (words_of columns) row) 0 (length types)
      ∙ length-map own.states (λ (s : State). s.ty)

  -- a class that has no such state
  pub no-state : (length out.states.items ≤ state) ⊎ (length own.states ≤ state)
      → pos 0 ≡ new_number own class out columns state row
  no-state without =
      sym (ap number (past class olds (new_states out.states.items row olds) state
      (news-past out.states.items row olds state (⊎_elim inl
      (λ low. inr (omega (arith, low, olds-long))) without))))

  module _ (s : State) (column : Bor (List ℤ)) (o : Option Column)
      (has : slice_get own.states state ≡ Some s)
      (there : slice_get out.states.items state ≡ Some o)
      (shown : slice_get columns.states.now state ≡ Some column) where
    low : state < length olds
    low = omega (arith, slice_get_within own.states state s has, olds-long)

    old-at : value_at olds state ≡ typed s.ty (get_or column.now row (pos 0))
    old-at =
        let first : 0 + state ≡ state = omega arith in
        let type = slice_get-map (λ (s : State). s.ty) own.states state
        ∙ ap (option_map (λ (s : State). s.ty)) has in
        let words = slice_get-map (λ (v : Bor (List ℤ)). v.now) columns.states.now state
        ∙ ap (option_map (λ (v : Bor (List ℤ)). v.now)) shown in
        unwrap_or-slice_get olds state no_value
        ∙ get_or-map-range_with_len (value_in types (words_of columns) row) 0
        (length types) state state no_value
        (omega (
          arith,
          slice_get_within own.states state s has,
          length-map own.states (λ (s : State). s.ty),
        )) first
        ∙ ap₂ typed (get_or_from_slice_get types state s.ty ty.Int type)
        (ap (λ l. get_or l row (pos 0))
        (get_or_from_slice_get (words_of columns) state column.now [] words))

    new-at : value_at (new_states out.states.items row olds) state
        ≡ ruling.value_in o row (typed s.ty (get_or column.now row (pos 0)))
    new-at =
        news-at out.states.items row olds state o there low ∙ ap (ruling.value_in o row) old-at

    -- a state that is no coordinate
    pub plain-number : (new : ℤ)
        → new ≡ number (ruling.value_in o row (typed s.ty (get_or column.now row (pos 0))))
        → (state ≡ class.x → ⊥) → (state ≡ class.y → ⊥)
        → new ≡ new_number own class out columns state row
    plain-number new is x y =
        is ∙ ap number (sym new-at)
        ∙ sym (ap number (plain class olds (new_states out.states.items row olds) state x y))

    -- a coordinate
    pub held-number : (new : ℤ)
        → new ≡ number (ruling.value_in o row (typed s.ty (get_or column.now row (pos 0))))
        → pos 0 ≤ℤ class.reach → (state ≡ class.x) ⊎ (state ≡ class.y)
        → clamped (number (typed s.ty (get_or column.now row (pos 0)))) new class.reach
        ≡ new_number own class out columns state row
    held-number new is reach which =
        let news = new_states out.states.items row olds in
        ap₂ (λ v w. clamped (number v) w class.reach) (sym old-at) (is ∙ ap number (sym new-at))
        ∙ sym (held class olds news state
        (news-low out.states.items row olds state (slice_get_within out.states.items state o there)
        low)
        reach which)

-- ---- those that live on, in columns

-- what rows have is what their agents have
rows-have : {B : Type 0} (f : ℕ → B) (g : Agent → B) (agent : ℕ → Agent) (P : ℕ → Type 0)
    → ((row : ℕ) → P row → f row ≡ g (agent row)) → (rows : List ℕ) → All P rows
    → map f rows ≡ map g (map agent rows)
rows-have f g agent P same [] all = refl
rows-have f g agent P same (row ∷ rows) all =
    ap₂ (λ x xs. x ∷ xs) (same row (all zero row (omega arith)))
    (rows-have f g agent P same rows (λ k d low. all (suc k) d (omega (arith, low))))

pub rows-more : (program : Program) (own class : Class) (out : Outcome) (columns : Columns)
    (rows : List ℕ) (agents : List Agent) (old new : Moved)
    → rows ≡ rows_left out.die (length columns.ids.now)
    → All (λ a. class_of program a ≡ Some own) (rows_in program columns)
    → AreMoved agents old
    → new.classes.items ≡ old.classes.items ++ map (λ row. get_or columns.classes.now row 0) rows
    → new.ids.items ≡ old.ids.items ++ map (λ row. get_or columns.ids.now row 0) rows
    → length new.states.items ≡ length old.states.items
    → ((k : ℕ) (c : List ℤ) → k < length old.states.items → get_or new.states.items k c
    ≡ get_or old.states.items k c ++ map (new_number own class out columns k) rows)
    → AreMoved (agents ++ living_from class out 0 (rows_in program columns)) new
rows-more program own class out columns rows agents old new are alike is classes ids_are long
    each =
    subst (λ l. AreMoved (agents ++ l) new) (sym living)
    (agents-more agents old new (map agent rows) is
    (classes ∙ ap (λ l. old.classes.items ++ l) (by (λ row. get_or columns.classes.now row 0)
    (λ a. a.class) (λ row of. refl)))
    (ids_are ∙ ap (λ l. old.ids.items ++ l) (by (λ row. get_or columns.ids.now row 0)
    (λ a. a.id) (λ row of. refl)))
    long
    (λ k c low. each k c low ∙ ap (λ l. get_or old.states.items k c ++ l)
    (by (new_number own class out columns k) (λ a. number (value_at a.states k)) (λ row of.
    ap (λ values. number (value_at (within_reach class values
    (new_states out.states.items row values)) k)) (values row of)))))
  where
    IsOf : ℕ → Type 0
    IsOf row = class_of program (row_in program columns row) ≡ Some own

    all : All IsOf rows
    all =
        let every = range_with_len 0 (length columns.ids.now) in
        subst (All IsOf) (sym are) (All-filter (λ row. not (is_set out.die row)) IsOf every
        (All-back (row_in program columns) (λ a. class_of program a ≡ Some own) every alike))

    agent : ℕ → Agent
    agent = leaf class out (row_in program columns)

    living : living_from class out 0 (rows_in program columns) ≡ map agent rows
    living =
        living-rows class out (row_in program columns) 0 (length columns.ids.now)
        ∙ ap (map agent) (sym are)

    by : {B : Type 0} (f : ℕ → B) (g : Agent → B)
        → ((row : ℕ) → IsOf row → f row ≡ g (agent row)) → map f rows ≡ map g (map agent rows)
    by f g same = rows-have f g agent IsOf same rows all

    values : (row : ℕ) → IsOf row
        → values_in (map (λ (s : State). s.ty) own.states) (words_of columns) row
        ≡ (row_in program columns row).states
    values row of =
        ap (λ (o : Option Class). values_in (types_of o) (words_of columns) row) (sym of)
