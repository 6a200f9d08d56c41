-- What holds of the members of a class in which nothing is found.
use Rattle.std.proofs.Common.{◌≡◌, refl, sym, subst, ℕ, zero, suc, ◌+◌, ◌≤◌, ◌<◌, nat_lt, Bool, true, false, List, [], ◌∷◌, ◌++◌, map, flat_map, arith, tests, ap, ◌∙◌, inl, inr}
use Rattle.std.specs.Prelude.{not, nat_eq, IsTrue, slice_get, unwrap_or, sum, Some, None, Option, is_some, option_map, option_and_then}
use Rattle.std.specs.List.{AllByRecursion, IsDistinct, list_all, range_with_len, filter}
use Rattle.std.proofs.lemmas.Bool.{true≢false, and_from, lt-ltb, cases_Bool}
use Rattle.brace_num.proofs.Lists.{none_front, each_append, each_front}
use Rattle.brace_syntax.specs.declared.tree.MemberTree.{MemberTree}
use Rattle.brace_syntax.specs.declared.tree.MemberTree.TheVariants as m
use Rattle.brace_model.specs.declared.program.Stmt.{Stmt}
use Rattle.brace_model.specs.Query.{constants}
use Rattle.brace_model.specs.Sites.{constant_numbers}
use Rattle.brace_model.specs.Lawful.{is_distance, combines, is_ruled, is_given, is_spawn}
use Rattle.brace_check.specs.declared.fault.CheckFault.{CheckFault}
use Rattle.brace_check.specs.declared.fault.CheckFault.TheVariants.{BadRange, WrongCombinator}
use Rattle.brace_check.specs.Findings.{fault_if, millionths, gives, given_type}
use Rattle.brace_check.specs.Found.{member, valued}
use Rattle.brace_check.specs.Programs.{effect_of, visible_of, reach_of, first_or_0, share, shares, class_of, classes_from, gifts_in}
use Rattle.brace_check.proofs.Numbering.{range_rises, are_rising, rising_differ, BlockDeclares, none_declared, block_numbers}
use Rattle.brace_names.specs.Kinds.{type_named, comb_named}
use Rattle.brace_names.specs.Scopes.{Home, outermost, home_of, Scope}
use Rattle.brace_check.proofs.Sound.{nil_back, has_type, RunSound, block_sound}
use Rattle.std.proofs.lemmas.List.{map-append}
use Rattle.std.proofs.lemmas.List.Folds.{list_all-append}
use Rattle.brace_syntax.specs.declared.tree.ExprTree.{ExprTree}
use Rattle.brace_syntax.specs.declared.tree.ClassTree.{ClassTree}
use Rattle.brace_names.specs.Classes.{Known}
use Rattle.brace_model.specs.declared.program.Ty.{Ty}
use Rattle.brace_model.specs.declared.program.Ty.TheVariants as ty
use Rattle.brace_model.specs.declared.program.Expr.{Expr}
use Rattle.brace_model.specs.declared.program.State.{State}
use Rattle.brace_model.specs.Typing.{Names, is_of_type, type_of as type_in, in_turn, scope_after}
use Rattle.brace_check.specs.Meanings.{expression, number_of, part}
use Rattle.brace_check.proofs.Ties.{StateHeading, EffectHeading, Heading, state_declared, effect_declared, heading, state_heading, effect_heading, heading_of, same-self, declared, Tied, TargetIs, target_is, all_back, Entry, found_entry}
use Rattle.std.specs.Str.{bytes_eq}
use Rattle.std.proofs.lemmas.Option.{slice_get-map}
use Rattle.std.proofs.lemmas.Slice.Eq.{bytes_eq-Decides}
use Rattle.brace_syntax.specs.declared.tree.Ident.{Ident}
use Rattle.brace_syntax.specs.declared.tree.GiftTree.{GiftTree}
use Rattle.brace_names.specs.declared.fault.NameFault.TheVariants.{DuplicateName}
use Rattle.brace_names.specs.declared.declared.Field.{Field}
use Rattle.brace_names.specs.declared.declared.Field.TheVariants as field
use Rattle.brace_names.specs.declared.finding.Finding.{Finding}
use Rattle.brace_names.specs.Tables.{look, repeated}
use Rattle.brace_names.specs.Findings as f
use Rattle.brace_names.specs.Found as names
use Rattle.brace_names.specs.Found.{is_state, states_given, gifts_found}
use Rattle.brace_model.specs.declared.program.Gift.{Gift}
use Rattle.brace_model.specs.declared.program.Spawn.{Spawn}
use Rattle.brace_check.specs.declared.share.Share.{Share}
use Rattle.brace_check.specs.Found as checks
use Rattle.brace_check.proofs.FieldNumbers.{CalledSo, Fine, AllFine, Apart, text, names_differ}

none_if : (test : Bool) (f : CheckFault) → fault_if (not test) f ≡ [] → test ≡ true
none_if true f h = refl
none_if false f h = absurd (cc)

module _ (home : Home) where
  abbrev rest : MemberTree → List MemberTree → Type 0
  rest one members = flat_map (member home) (one ∷ members) ≡ []

  behind_one : (one : MemberTree) (members : List MemberTree) → rest one members → flat_map (member home) members ≡ []
  behind_one one members h = nil_back (member home one) (flat_map (member home) members) h

  first_one : (one : MemberTree) (members : List MemberTree) → rest one members → member home one ≡ []
  first_one one members h = none_front (member home one) (flat_map (member home) members) h

  -- the visible range is a distance
  pub visible_fits : (members : List MemberTree) → flat_map (member home) members ≡ []
      → IsTrue (is_distance (first_or_0 (flat_map visible_of members)))
  visible_fits [] h = refl
  visible_fits (m.Visible range at ∷ members) h =
      none_if (is_distance (millionths range.digits)) (BadRange range.at) (first_one (m.Visible range at) members h)
  visible_fits (one ∷ members) h = visible_fits members (behind_one one members h)

  -- so is the reach
  pub reach_fits : (members : List MemberTree) → flat_map (member home) members ≡ []
      → IsTrue (is_distance (first_or_0 (flat_map reach_of members)))
  reach_fits [] h = refl
  reach_fits (m.Reach range at ∷ members) h =
      none_if (is_distance (millionths range.digits)) (BadRange range.at) (first_one (m.Reach range at) members h)
  reach_fits (one ∷ members) h = reach_fits members (behind_one one members h)

  -- combinators fit
  pub effects_fit : (members : List MemberTree) → flat_map (member home) members ≡ []
      → IsTrue (list_all (λ e. combines e.comb e.ty) (flat_map effect_of members))
  effects_fit [] h = refl
  effects_fit (m.Effect shared type name c at ∷ members) h =
      and_from (combines (comb_named c) (type_named type)) (list_all (λ e. combines e.comb e.ty) (flat_map effect_of members))
      (none_if (combines (comb_named c) (type_named type)) (WrongCombinator name.at) (first_one (m.Effect shared type name c at) members h))
      (effects_fit members (behind_one (m.Effect shared type name c at) members h))
  effects_fit (one ∷ members) h = effects_fit members (behind_one one members h)

-- a block whose constants are numbered from 0 on
pub record FromZero (b : List Stmt) : Type 0 where
  pub count : ℕ
  pub declares : BlockDeclares b 0 count

module _ (home : Home) where
  one_from_zero : (one : MemberTree) (n : List ℕ) → AllByRecursion FromZero (share home one n).0.queries
  one_from_zero (m.Run statements at) n =
      (record { count = _; declares = (block_numbers statements).declares (outermost home true) n }, tt)
  one_from_zero _ n = tt

  -- the constants of each query are numbered from 0 on
  pub from_zero : (members : List MemberTree) (n : List ℕ) → AllByRecursion FromZero (shares home members n).0.queries
  from_zero [] n = tt
  from_zero (one ∷ members) n =
      each_append FromZero (share home one n).0.queries
      (shares home members (share home one n).1).0.queries
      (one_from_zero one n) (from_zero members (share home one n).1)

-- the first of them
pub first_from_zero : (queries : List (List Stmt)) → AllByRecursion FromZero queries → FromZero (unwrap_or (slice_get queries 0) [])
first_from_zero [] h = record { count = 0; declares = none_declared 0 }
first_from_zero (b ∷ queries) h = h.0

below_range : (a n c : ℕ) → a + n ≤ c → list_all (λ k. nat_lt k c) (range_with_len a n) ≡ true
below_range a zero c h = refl
below_range a (suc n) c h =
    let more : (a + 1) + n ≤ c = omega (arith, h) in
    let here : a < c = omega (arith, h) in
    and_from (nat_lt a c) (list_all (λ k. nat_lt k c) (range_with_len (a + 1) n)) (lt-ltb a c here) (below_range (a + 1) n c more)

-- so the constants of a query have numbers of their own
pub constants_below : (b : List Stmt) → FromZero b → list_all (λ n. nat_lt n (sum (map constants b))) (flat_map constant_numbers b) ≡ true
constants_below b z =
    subst (λ (l : List ℕ). list_all (λ n. nat_lt n (sum (map constants b))) l ≡ true) (sym z.declares.numbers)
    (subst (λ (c : ℕ). list_all (λ n. nat_lt n c) (range_with_len 0 z.count) ≡ true) (sym z.declares.many)
    (below_range 0 z.count z.count (omega arith)))

pub constants_apart : (b : List Stmt) → FromZero b → IsDistinct nat_eq (flat_map constant_numbers b)
constants_apart b z =
    subst (IsDistinct nat_eq) (sym z.declares.numbers) (rising_differ 0 (range_with_len 0 z.count) (are_rising 0 (0 + z.count) (range_with_len 0 z.count) (range_rises 0 z.count)))

-- a program keeps what its script declares
state_kept : (home : Home) (one : MemberTree) (n : List ℕ) → map state_heading (share home one n).0.states ≡ state_declared one
state_kept home (m.State shared type name x at) n = refl
state_kept home _ n = refl

states_kept : (home : Home) (members : List MemberTree) (n : List ℕ) → map state_heading (shares home members n).0.states ≡ flat_map state_declared members
states_kept home [] n = refl
states_kept home (one ∷ members) n =
    let a : List State = (share home one n).0.states in
    let k : List ℕ = (share home one n).1 in
    let b : List State = (shares home members k).0.states in
    map-append state_heading a b
    ∙ (ap (λ (l : List StateHeading). l ++ map state_heading b) (state_kept home one n)
    ∙ ap (λ (l : List StateHeading). state_declared one ++ l) (states_kept home members k))

effects_kept : (members : List MemberTree) → map effect_heading (flat_map effect_of members) ≡ flat_map effect_declared members
effects_kept [] = refl
effects_kept (m.Effect shared type name c at ∷ members) =
    ap (λ (l : List EffectHeading). record { ty = type_named type; shared = shared; comb = comb_named c } ∷ l) (effects_kept members)
effects_kept (_ ∷ members) = effects_kept members

pub class_kept : (home : Home) (class : ClassTree) (n : List ℕ) → heading_of (class_of home class n).0 ≡ heading class
class_kept home class n =
    ap (λ (states : List StateHeading). record { states = states; effects = map effect_heading (flat_map effect_of class.members) }) (states_kept home class.members n)
    ∙ ap (λ (effects : List EffectHeading). record { states = flat_map state_declared class.members; effects = effects }) (effects_kept class.members)

pub classes_kept : (all : Known) (number : ℕ) (classes : List ClassTree) (n : List ℕ) → map heading_of (classes_from all number classes n).0 ≡ map heading classes
classes_kept all number [] n = refl
classes_kept all number (class ∷ classes) n =
    let home : Home = home_of all number class in
    let k : List ℕ = (class_of home class n).1 in
    ap (λ (h : Heading). h ∷ map heading_of (classes_from all (number + 1) classes k).0) (class_kept home class n)
    ∙ ap (λ (l : List Heading). heading class ∷ l) (classes_kept all (number + 1) classes k)

module _ (home : Home) (names : Names) (tied : Tied (outermost home false) names) where
  -- a value in which nothing is found
  value_typed : (want : Ty) (x : ExprTree) (n : List ℕ) → valued (Some want) x (outermost home false) ≡ []
      → is_of_type want (type_in (expression x (outermost home false) n).0 names) ≡ true
  value_typed want x n h = ap (is_of_type want) (has_type (outermost home false) names tied x n want h) ∙ same-self want

  abbrev ruled : State → Bool
  ruled s = is_ruled names s.ty s.rule

  state_typed : (one : MemberTree) (n : List ℕ) → member home one ≡ [] → list_all ruled (share home one n).0.states ≡ true
  state_typed (m.State shared type name (Some x) at) n h =
      and_from (is_of_type (type_named type) (type_in (expression x (outermost home false) n).0 names)) true (value_typed (type_named type) x n h) refl
  state_typed _ n h = refl

  pub states_typed : (members : List MemberTree) (n : List ℕ) → flat_map (member home) members ≡ [] → list_all ruled (shares home members n).0.states ≡ true
  states_typed [] n h = refl
  states_typed (one ∷ members) n h =
      let a : List State = (share home one n).0.states in
      let k : List ℕ = (share home one n).1 in
      let b : List State = (shares home members k).0.states in
      list_all-append ruled a b
      ∙ and_from (list_all ruled a) (list_all ruled b)
      (state_typed one n (none_front (member home one) (flat_map (member home) members) h))
      (states_typed members k (nil_back (member home one) (flat_map (member home) members) h))

  abbrev bool_typed : Expr → Type 0
  bool_typed e = is_of_type ty.Bool (type_in e names) ≡ true

  death_typed : (one : MemberTree) (n : List ℕ) → member home one ≡ [] → AllByRecursion bool_typed (share home one n).0.die
  death_typed (m.Die x at) n h = (value_typed ty.Bool x n h, tt)
  death_typed _ n h = tt

  pub deaths_typed : (members : List MemberTree) (n : List ℕ) → flat_map (member home) members ≡ [] → AllByRecursion bool_typed (shares home members n).0.die
  deaths_typed [] n h = tt
  deaths_typed (one ∷ members) n h =
      let k : List ℕ = (share home one n).1 in
      each_append bool_typed (share home one n).0.die (shares home members k).0.die
      (death_typed one n (none_front (member home one) (flat_map (member home) members) h))
      (deaths_typed members k (nil_back (member home one) (flat_map (member home) members) h))

  pub first_typed : (conditions : List Expr) → AllByRecursion bool_typed conditions → is_ruled names ty.Bool (slice_get conditions 0) ≡ true
  first_typed [] h = refl
  first_typed (e ∷ conditions) h = h.0

-- the state of a number
record StateThere (states : List State) (i : ℕ) (t : Ty) : Type 0 where
  state : State
  is : slice_get states i ≡ Some state
  typed : state.ty ≡ t

state_there : (states : List State) (i : ℕ) (h : StateHeading) (o : Option State) → slice_get states i ≡ o → option_map state_heading o ≡ Some h → StateThere states i h.ty
state_there states i h None is found = absurd (cc)
state_there states i h (Some s) is found =
    let same : state_heading s ≡ h = cc in
    record { state = s; is = is; typed = ap (λ (g : StateHeading). g.ty) same }

abbrev number_given : Scope → GiftTree → ℕ
number_given n g = number_of (look n.home.own g.state.text)

-- a gift in which nothing is found
record GiftOk (n : Scope) (m : Names) (states : List State) (g : GiftTree) : Type 0 where
  number : ℕ
  ty : Ty
  shared : Bool
  named : look n.home.own g.state.text ≡ Some (field.State number ty shared)
  given : (k : List ℕ) → is_given m states (record { state = number_given n g; value = (expression g.value n k).0 }) ≡ true

all_states : (own : List (List ℕ × Field)) (names_ : List Ident) → AllByRecursion (λ name. is_state (look own name.text) ≡ true) names_
    → filter (λ name. is_state (look own name.text)) names_ ≡ names_
all_states own [] h = refl
all_states own (name ∷ names_) h = rw h.0 (ap (λ (l : List Ident). name ∷ l) (all_states own names_ h.1))

abbrev given_names : List GiftTree → List Ident
given_names gifts = map (λ g. g.state) gifts

module _ (n : Scope) (m : Names) (tied : Tied n m) (hd : Heading) (states : List State)
    (there : slice_get (declared m) m.own ≡ Some hd) (kept : map state_heading states ≡ hd.states) where
  gift_to : (g : GiftTree) (o : Option Field) → look n.home.own g.state.text ≡ o → TargetIs m o → gives g.state.at o ++ valued (given_type o) g.value n ≡ [] → GiftOk n m states g
  gift_to g (Some (field.State i t shared)) is known clean =
      let at : slice_get hd.states i ≡ Some (record { ty = t; shared = shared }) = sym (ap (λ (o : Option Heading). option_and_then (λ h. slice_get h.states i) o) there) ∙ known in
      let st : StateThere states i t = state_there states i (record { ty = t; shared = shared }) (slice_get states i) refl
      (sym (slice_get-map state_heading states i) ∙ (ap (λ (l : List StateHeading). slice_get l i) kept ∙ at)) in
      record {
        number = i;
        ty = t;
        shared = shared;
        named = is;
        given = λ k.
            let typed : type_in (expression g.value n k).0 m ≡ Some t = has_type n m tied g.value k t clean in
            let found : slice_get states (number_given n g) ≡ Some st.state = ap (λ (o : Option Field). slice_get states (number_of o)) is ∙ st.is in
            rw found (ap (is_of_type st.state.ty) typed ∙ (ap (λ (u : Ty). is_of_type u (Some t)) st.typed ∙ same-self t));
      }
  gift_to g _ is known clean = absurd (cc)

  gift_ok : (g : GiftTree) → checks.gift n g ≡ [] → GiftOk n m states g
  gift_ok g clean = gift_to g (look n.home.own g.state.text) refl (target_is n m tied g.state.text) clean

  gifts_ok : (gifts : List GiftTree) → flat_map (checks.gift n) gifts ≡ [] → AllByRecursion (GiftOk n m states) gifts
  gifts_ok [] clean = tt
  gifts_ok (g ∷ gifts) clean =
      (gift_ok g (none_front (checks.gift n g) (flat_map (checks.gift n) gifts) clean), gifts_ok gifts (nil_back (checks.gift n g) (flat_map (checks.gift n) gifts) clean))

  all_given : (gifts : List GiftTree) (k : List ℕ) → AllByRecursion (GiftOk n m states) gifts → list_all (is_given m states) (gifts_in gifts n k).0 ≡ true
  all_given [] k h = refl
  all_given (g ∷ gifts) k h =
      let j : List ℕ = (expression g.value n k).1 in
      and_from (is_given m states (record { state = number_given n g; value = (expression g.value n k).0 })) (list_all (is_given m states) (gifts_in gifts n j).0)
      (h.0.given k) (all_given gifts j h.1)

  gifts_numbers : (gifts : List GiftTree) (k : List ℕ) → map (λ (g : Gift). g.state) (gifts_in gifts n k).0 ≡ map (number_given n) gifts
  gifts_numbers [] k = refl
  gifts_numbers (g ∷ gifts) k = ap (λ (l : List ℕ). number_given n g ∷ l) (gifts_numbers gifts (expression g.value n k).1)

  are_states : (gifts : List GiftTree) → AllByRecursion (GiftOk n m states) gifts → AllByRecursion (λ (name : Ident). is_state (look n.home.own name.text) ≡ true) (given_names gifts)
  are_states [] h = tt
  are_states (g ∷ gifts) h = (ap is_state h.0.named, are_states gifts h.1)

  module _ (called : List (List ℕ)) (are_called : AllByRecursion (λ e. CalledSo called e.0 e.1) n.home.own) where
    -- the name of a gift is that of the state of its number
    called_at : (g : GiftTree) → GiftOk n m states g → slice_get called (number_given n g) ≡ Some g.state.text
    called_at g h =
        let e : Entry (bytes_eq g.state.text) (CalledSo called) (field.State h.number h.ty h.shared) = found_entry (bytes_eq g.state.text) (CalledSo called) n.home.own (field.State h.number h.ty h.shared) are_called h.named in
        let same : g.state.text ≡ e.key = (bytes_eq-Decides g.state.text e.key).0 e.passes in
        ap (λ (o : Option Field). slice_get called (number_of o)) h.named ∙ (e.is ∙ ap (λ (name : List ℕ). Some name) (sym same))

    -- so two names that stand for one state are one name
    one_state : (g other : GiftTree) → GiftOk n m states g → GiftOk n m states other → number_given n g ≡ number_given n other → bytes_eq g.state.text other.state.text ≡ true
    one_state g other h k e =
        let same : Some g.state.text ≡ Some other.state.text = sym (called_at g h) ∙ (ap (slice_get called) e ∙ called_at other k) in
        let name : g.state.text ≡ other.state.text = cc in
        (bytes_eq-Decides g.state.text other.state.text).1 name

    apart_numbers : (g : GiftTree) (gifts : List GiftTree) → GiftOk n m states g → AllByRecursion (GiftOk n m states) gifts → Apart g.state.text (map text (given_names gifts))
        → AllByRecursion (λ j. nat_eq (number_given n g) j ≡ false) (map (number_given n) gifts)
    apart_numbers g [] h all apart = tt
    apart_numbers g (other ∷ gifts) h all apart = (
      elim (cases_Bool (nat_eq (number_given n g) (number_given n other))) [
        | inr differ ↦ differ
        | inl same ↦
            let e : number_given n g ≡ number_given n other = grind (arith, tests) in
            absurd (true≢false (sym (one_state g other h all.0 e) ∙ apart.0))
      ],
      apart_numbers g gifts h all.1 apart.1,
    )

    numbers_differ : (gifts : List GiftTree) → AllByRecursion (GiftOk n m states) gifts → IsDistinct bytes_eq (map text (given_names gifts)) → IsDistinct nat_eq (map (number_given n) gifts)
    unfolding IsDistinct
    numbers_differ [] h differ = tt
    numbers_differ (g ∷ gifts) h differ = (apart_numbers g gifts h.0 h.1 differ.0, numbers_differ gifts h.1 differ.1)

    gifts_differ : (gifts : List GiftTree) → AllByRecursion (GiftOk n m states) gifts → AllFine (f.faults_at DuplicateName (repeated (states_given n gifts)))
        → IsDistinct nat_eq (map (number_given n) gifts)
    gifts_differ gifts h fine =
        numbers_differ gifts h
        (subst (λ (l : List Ident). IsDistinct bytes_eq (map text l)) (all_states n.home.own (given_names gifts) (are_states gifts h))
        (names_differ DuplicateName (states_given n gifts) fine))

-- a `spawn` that is well formed, whose gifts are to states that differ
pub record Born (m : Names) (states : List State) (s : Spawn) : Type 0 where
  pub is : is_spawn m states (Some s) ≡ true
  pub differ : IsDistinct nat_eq (map (λ (g : Gift). g.state) s.gifts)

-- a query that is well formed
abbrev pub Asked : Names → List Stmt → Type 0
Asked m query = is_some (in_turn (map scope_after query) m) ≡ true

-- what is known of a member of a class, and of members
pub record MembersOk (states : List State) (rule query : Names) (s : Share) : Type 0 where
  pub asked : AllByRecursion (Asked query) s.queries
  pub born : AllByRecursion (Born rule states) s.spawn

module _ (home : Home) (called : List (List ℕ)) (are_called : AllByRecursion (λ e. CalledSo called e.0 e.1) home.own) (rule query : Names) (in_rule : Tied (outermost home false) rule) (in_query : Tied (outermost home true) query)
    (hd : Heading) (states : List State) (there : slice_get (declared rule) rule.own ≡ Some hd) (kept : map state_heading states ≡ hd.states) where
  abbrev scope_ : Scope
  scope_ = outermost home false

  spawn_ok : (x : ExprTree) (gifts : List GiftTree) (at : ℕ) (k : List ℕ) → AllFine (names.member home (m.Spawn x gifts at)) → checks.member home (m.Spawn x gifts at) ≡ []
      → MembersOk states rule query (share home (m.Spawn x gifts at) k).0
  spawn_ok x gifts at k fine clean =
      let given : List Finding = flat_map (names.gift scope_) gifts in
      let again : List Finding = f.faults_at DuplicateName (repeated (states_given scope_ gifts)) in
      let value : List CheckFault = valued (Some ty.Bool) x scope_ in
      let both : AllFine (given ++ again) = each_front Fine (given ++ again) (f.site at) (all_back Fine (names.expression x scope_) (gifts_found scope_ gifts at) fine) in
      let g : AllByRecursion (GiftOk scope_ rule states) gifts = gifts_ok scope_ rule in_rule hd states there kept gifts (nil_back value (flat_map (checks.gift scope_) gifts) clean) in
      let j : List ℕ = (expression x scope_ k).1 in
      record {
        asked = tt;
        born = (
          record {
            is = and_from (is_of_type ty.Bool (type_in (expression x scope_ k).0 rule)) (list_all (is_given rule states) (gifts_in gifts scope_ j).0)
                (ap (is_of_type ty.Bool) (has_type scope_ rule in_rule x k ty.Bool (none_front value (flat_map (checks.gift scope_) gifts) clean)))
                (all_given scope_ rule in_rule hd states there kept gifts j g);
            differ = subst (IsDistinct nat_eq) (sym (gifts_numbers scope_ rule in_rule hd states there kept gifts j))
                (gifts_differ scope_ rule in_rule hd states there kept called are_called gifts g (all_back Fine given again both));
          },
          tt,
        );
      }

  member_ok : (x : MemberTree) (k : List ℕ) → AllFine (names.member home x) → checks.member home x ≡ [] → MembersOk states rule query (share home x k).0
  member_ok (m.Run xs at) k fine clean =
      let run : RunSound (map part xs) (outermost home true) query k = block_sound xs (outermost home true) query in_query clean k in
      record { asked = (ap is_some run.gives, tt); born = tt }
  member_ok (m.Spawn x gifts at) k fine clean = spawn_ok x gifts at k fine clean
  member_ok _ k fine clean = record { asked = tt; born = tt }

  pub members_ok : (xs : List MemberTree) (k : List ℕ) → AllFine (flat_map (names.member home) xs) → flat_map (checks.member home) xs ≡ [] → MembersOk states rule query (shares home xs k).0
  members_ok [] k fine clean = record { asked = tt; born = tt }
  members_ok (x ∷ xs) k fine clean =
      let j : List ℕ = (share home x k).1 in
      let h : MembersOk states rule query (share home x k).0 =
      member_ok x k (each_front Fine (names.member home x) (flat_map (names.member home) xs) fine) (none_front (checks.member home x) (flat_map (checks.member home) xs) clean) in
      let g : MembersOk states rule query (shares home xs j).0 =
      members_ok xs j (all_back Fine (names.member home x) (flat_map (names.member home) xs) fine) (nil_back (checks.member home x) (flat_map (checks.member home) xs) clean) in
      record {
        asked = each_append (Asked query) (share home x k).0.queries (shares home xs j).0.queries h.asked g.asked;
        born = each_append (Born rule states) (share home x k).0.spawn (shares home xs j).0.spawn h.born g.born;
      }

-- the first of them
pub first_asked : (m : Names) (queries : List (List Stmt)) → AllByRecursion (Asked m) queries → Asked m (unwrap_or (slice_get queries 0) [])
first_asked m [] h = refl
first_asked m (query ∷ queries) h = h.0
