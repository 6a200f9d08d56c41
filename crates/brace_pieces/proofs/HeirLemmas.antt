-- What an agent leaves to the next world is of its class, has as many values, and stands within the
-- class's reach of where it stood.
use Rattle.std.proofs.Common.{◌≡◌, ◌∙◌, refl, sym, ap, subst, ℕ, suc, ◌<◌, ℤ, pos, ◌≤ℤ◌, List, [], ◌∷◌, map, filter_map, zip, length, Bool, true, false, if◌then◌else◌, Option, Some, None, Ok, Err, arith, codes, length-set, FitsSigned}
use Rattle.std.specs.Prelude.{slice_get, slice_set, slice_index}
use Rattle.std.specs.List.{reduce, cons_option, list_all}
use Rattle.std.specs.Result.{result_ok, result_err}
use Rattle.std.specs.Str.{bytes_eq}
use Rattle.std.proofs.lemmas.Int.{ints, clamps}
use Rattle.std.proofs.lemmas.Bool.{and_parts}
use Rattle.std.proofs.lemmas.List.{get_or-set_same, get_or-set_other}
use Rattle.std.proofs.lemmas.List.Elements.{filter_map-append}
use Rattle.std.proofs.lemmas.Option.{unwrap_or-slice_get, same_Some, none-some, slice_get_within}
use Rattle.std.proofs.lemmas.Slice.Eq.{bytes_eq-Decides}
use Rattle.brace_num.specs.Exact.{clamped}
use Rattle.brace_model.specs.declared.program.Value.{Value}
use Rattle.brace_model.specs.declared.program.Value.TheVariants.{Fixed}
use Rattle.brace_model.specs.declared.program.State.{State}
use Rattle.brace_model.specs.declared.program.Gift.{Gift}
use Rattle.brace_model.specs.declared.program.Spawn.{Spawn}
use Rattle.brace_model.specs.declared.program.Class.{Class}
use Rattle.brace_model.specs.declared.program.Program.{Program}
use Rattle.brace_model.specs.declared.fault.Stop.{Stop}
use Rattle.brace_model.specs.declared.world.Agent.{Agent}
use Rattle.brace_model.specs.World.{value_at, no_value, number, x_of, y_of}
use Rattle.brace_model.specs.Value.{Scope, Worth, value}
use Rattle.brace_model.specs.Query.{opening_scope}
use Rattle.brace_model.specs.Next.{next_in, unless_stopped, first_stop, earlier_stop, update_in, left_by, rules_in, ruled, condition_in, spawns_in, gifts_in, child_in, holds, values_of, with_gifts, changed}
use Rattle.brace_model.specs.Lawful.{LawfulClass, is_position}
use Rattle.brace_cuts.specs.Space.{AreWithin}
use Rattle.brace_invert.proofs.RangeLemmas.{distance_low}
use Rattle.brace_pieces.specs.Continued.{left_or_kept}
use Rattle.brace_pieces.specs.Numbers.{expression_fits, rule_fits, gifts_fit, class_fits}
use Rattle.brace_num.proofs.Exactness.{clamped_fits}
use Rattle.brace_model.specs.declared.program.Expr.{Expr}
use Rattle.std.specs.Int.{w64}
use Rattle.brace_pieces.proofs.FitLemmas.{AllFit, HasFit, ok_fit, own_value_fits, none_fit, one_more_fits, put_fits}
use Rattle.brace_num.proofs.Lists.{none_front}

-- ---- places

-- a class has two states for a place, and a reach
pub record HasPlace (c : Class) : Type 0 where
  pub x_there : c.x < length c.states
  pub y_there : c.y < length c.states
  pub apart : c.x ≡ c.y → ⊥
  pub some_reach : pos 0 ≤ℤ c.reach

record IsState (name : List ℕ) (o : Option State) : Type 0 where
  pub state : State
  pub is : o ≡ Some state
  pub named : state.name ≡ name

state_of : (name : List ℕ) (o : Option State) → is_position name o ≡ true → IsState name o
state_of name None e = absurd (cc)
state_of name (Some s) e =
    record { state = s; is = refl; named = (bytes_eq-Decides s.name name).0 (and_parts (bytes_eq s.name name) _ e).0 }

pub has_place : (program : Program) (n : ℕ) (c : Class) → LawfulClass program n c → HasPlace c
has_place program n c lawful =
    let x = state_of (codes "x") (slice_get c.states c.x) lawful.x_is_position in
    let y = state_of (codes "y") (slice_get c.states c.y) lawful.y_is_position in
    record {
      x_there = slice_get_within c.states c.x x.state x.is;
      y_there = slice_get_within c.states c.y y.state y.is;
      apart = λ e. absurd (omega (arith, ap (λ l. slice_index l 0) (sym x.named ∙ ap (λ s. s.name) (same_Some x.state y.state (sym x.is ∙ ap (slice_get c.states) e ∙ y.is)) ∙ y.named)));
      some_reach = distance_low c.reach lawful.reach_is_distance;
    }

-- ---- an agent with other states

-- an agent has as many values as another, stands slice_get_within a class's reach of it, and has values that
-- fit where the other's do
pub record IsNear (c : Class) (a b : Agent) : Type 0 where
  pub as_long : length b.states ≡ length a.states
  pub along_x : AreWithin c.reach (x_of c a) (x_of c b)
  pub along_y : AreWithin c.reach (y_of c a) (y_of c b)
  pub stays_fit : AllFit a.states → class_fits c ≡ true → AllFit b.states

pub near_itself : (c : Class) (a : Agent) → HasPlace c → IsNear c a a
near_itself c a place = record { as_long = refl; along_x = none_far (x_of c a) c.reach place.some_reach; along_y = none_far (y_of c a) c.reach place.some_reach; stays_fit = λ own written. own }
  where
    none_far : (z d : ℤ) → pos 0 ≤ℤ d → AreWithin d z z
    none_far z d h = (omega (arith, ints, h), omega (arith, ints, h))

clamped_near : (old new reach z : ℤ) → pos 0 ≤ℤ reach → z ≡ clamped old new reach → AreWithin reach old z
clamped_near old new reach z h e = (omega (arith, ints, clamps, h, e), omega (arith, ints, clamps, h, e))

value_put : (vs : List Value) (i : ℕ) (v : Value) → i < length vs → value_at (slice_set vs i v) i ≡ v
value_put vs i v low = unwrap_or-slice_get (slice_set vs i v) i no_value ∙ get_or-set_same vs i v no_value low

value_beside : (vs : List Value) (i j : ℕ) (v : Value) → (j ≡ i → ⊥) → value_at (slice_set vs i v) j ≡ value_at vs j
value_beside vs i j v other = unwrap_or-slice_get (slice_set vs i v) j no_value ∙ get_or-set_other vs i j v no_value other ∙ sym (unwrap_or-slice_get vs j no_value)

-- new states fit where the old ones do and the numbers of the class
abbrev StayFit : Class → Agent → List Value → Type 0
StayFit c a states = AllFit a.states → class_fits c ≡ true → AllFit states

pub near_changed : (c : Class) (a : Agent) (states : List Value) → HasPlace c → length a.states ≡ length c.states → length states ≡ length a.states → StayFit c a states → IsNear c a (changed c a states)
near_changed c a states place whole long fit =
    let old_x : ℤ = x_of c a in
    let old_y : ℤ = y_of c a in
    let new_x : ℤ = clamped old_x (number (value_at states c.x)) c.reach in
    let first : List Value = slice_set states c.x (Fixed new_x) in
    let new_y : ℤ = clamped old_y (number (value_at first c.y)) c.reach in
    let first_long : length first ≡ length states = length-set states c.x (Fixed new_x) in
    let both_long : length (slice_set first c.y (Fixed new_y)) ≡ length first = length-set first c.y (Fixed new_y) in
    let at_x = value_beside first c.y c.x (Fixed new_y) place.apart ∙ value_put states c.x (Fixed new_x) (omega (arith, place.x_there, whole, long)) in
    let at_y = value_put first c.y (Fixed new_y) (omega (arith, place.y_there, whole, long, first_long)) in
    record {
      as_long = both_long ∙ first_long ∙ long;
      along_x = clamped_near old_x (number (value_at states c.x)) c.reach _ place.some_reach (ap number at_x);
      along_y = clamped_near old_y (number (value_at first c.y)) c.reach _ place.some_reach (ap number at_y);
      stays_fit = λ own written.
          let new_fit = fit own written in
          let x_fits = clamped_fits old_x (number (value_at states c.x)) c.reach (own c.x) (new_fit c.x) place.some_reach in
          let first_fit = put_fits states c.x (Fixed new_x) new_fit x_fits in
          let y_fits = clamped_fits old_y (number (value_at first c.y)) c.reach (own c.y) (first_fit c.y) place.some_reach in
          put_fits first c.y (Fixed new_y) first_fit y_fits;
    }

-- ---- updates

nothing_stops : (stops : List Stop) → reduce earlier_stop stops ≡ None → stops ≡ []
nothing_stops [] e = refl
nothing_stops (stop ∷ stops) e = absurd (cc)

all_kept : (outcomes : List Worth) → filter_map result_err outcomes ≡ [] → length (values_of outcomes) ≡ length outcomes
all_kept [] e = refl
all_kept (Ok v ∷ outcomes) e = ap suc (all_kept outcomes e)
all_kept (Err stop ∷ outcomes) e = absurd (cc)

as_many_rules : (scope : Scope) (ss : List State) (vs : List Value) → length vs ≡ length ss → length (map (λ p. ruled scope p.0.rule p.1) (zip ss vs)) ≡ length vs
as_many_rules scope [] [] e = refl
as_many_rules scope [] (v ∷ vs) e = absurd (omega (arith, e))
as_many_rules scope (s ∷ ss) [] e = refl
as_many_rules scope (s ∷ ss) (v ∷ vs) e = ap suc (as_many_rules scope ss vs (omega (arith, e)))

pub as_many_values : (scope : Scope) (c : Class) (a : Agent) → first_stop (update_in scope c a) ≡ None → length a.states ≡ length c.states → length (values_of (rules_in scope c a)) ≡ length a.states
as_many_values scope c a none whole =
    let rest : List Worth = condition_in scope c.die ∷ (spawns_in scope c.spawn ∷ gifts_in scope c.spawn) in
    let nothing = nothing_stops (filter_map result_err (update_in scope c a)) none in
    let front = none_front (filter_map result_err (rules_in scope c a)) (filter_map result_err rest) (sym (filter_map-append result_err (rules_in scope c a) rest) ∙ nothing) in
    all_kept (rules_in scope c a) front ∙ as_many_rules scope c.states a.states whole

pub gifts_as_long : (old : List Value) (gifts : List Gift) (given : List Value) → length (with_gifts old gifts given) ≡ length old
gifts_as_long old [] given = refl
gifts_as_long old (g ∷ gifts) [] = refl
gifts_as_long old (g ∷ gifts) (v ∷ given) = gifts_as_long (slice_set old g.state v) gifts given ∙ length-set old g.state v

-- over an agent's own states what its rules and gifts come to fits
module _ (seed tick : ℕ) (totals : List ℤ) (a : Agent) (own : AllFit a.states) where
  abbrev scope : Scope
  scope = opening_scope seed tick [] totals a

  ruled_fit : (rule : Option Expr) (old : Value) → rule_fits rule ≡ true → FitsSigned w64 (number old) → HasFit (ruled scope rule old)
  ruled_fit None old written f = ok_fit old f
  ruled_fit (Some rule) old written f = own_value_fits rule seed tick totals a own written

  or_left_out : (w : Worth) (vs : List Value) → HasFit w → AllFit vs → AllFit (cons_option (result_ok w) vs)
  or_left_out (Ok v) vs f all = one_more_fits v vs (f v refl) all
  or_left_out (Err stop) vs f all = all

  rules_all_fit : (ss : List State) (vs : List Value) → list_all (λ (st : State). rule_fits st.rule) ss ≡ true → AllFit vs → AllFit (values_of (map (λ p. ruled scope p.0.rule p.1) (zip ss vs)))
  rules_all_fit [] [] written all = none_fit
  rules_all_fit [] (v ∷ vs) written all = none_fit
  rules_all_fit (st ∷ ss) [] written all = none_fit
  rules_all_fit (st ∷ ss) (v ∷ vs) written all =
      let (here, rest) = and_parts (rule_fits st.rule) (list_all (λ (st : State). rule_fits st.rule) ss) written in
      or_left_out (ruled scope st.rule v) (values_of (map (λ p. ruled scope p.0.rule p.1) (zip ss vs))) (ruled_fit st.rule v here (all 0)) (rules_all_fit ss vs rest (λ i. all (suc i)))

  given_all_fit : (bears : Bool) (gifts : List Gift) → list_all (λ (g : Gift). expression_fits g.value) gifts ≡ true → AllFit (values_of (if bears then map (λ (g : Gift). value g.value scope) gifts else []))
  given_all_fit false gifts written = none_fit
  given_all_fit true [] written = none_fit
  given_all_fit true (g ∷ gifts) written =
      let (here, rest) = and_parts (expression_fits g.value) (list_all (λ (g : Gift). expression_fits g.value) gifts) written in
      or_left_out (value g.value scope) (values_of (map (λ (g : Gift). value g.value scope) gifts)) (own_value_fits g.value seed tick totals a own here) (given_all_fit true gifts rest)

gifts_all_fit : (old : List Value) (gifts : List Gift) (given : List Value) → AllFit old → AllFit given → AllFit (with_gifts old gifts given)
gifts_all_fit old [] given all more = all
gifts_all_fit old (g ∷ gifts) [] all more = all
gifts_all_fit old (g ∷ gifts) (v ∷ given) all more = gifts_all_fit (slice_set old g.state v) gifts given (put_fits old g.state v all (more 0)) (λ i. more (suc i))

-- what is there on a condition
if_there : (test : Bool) (x b : Agent) → (if test then Some x else None) ≡ Some b → (test ≡ true) × (Some x ≡ Some b)
if_there true x b e = (refl, e)
if_there false x b e = absurd (none-some b e)

lives_on : (dies : Bool) (x b : Agent) → (if dies then None else Some x) ≡ Some b → Some x ≡ Some b
lives_on true x b e = absurd (none-some b e)
lives_on false x b e = e

-- what an agent leaves, itself or a child
pub record IsHeir (c : Class) (a b : Agent) : Type 0 where
  pub same_id : b.id ≡ a.id
  pub same_class : b.class ≡ a.class
  pub is_near : IsNear c a b

module _ (c : Class) (place : HasPlace c) (a : Agent) (whole : length a.states ≡ length c.states) where
  itself : (b : Agent) → Some a ≡ Some b → IsHeir c a b
  itself b e = subst (IsHeir c a) (same_Some a b e) (record { same_id = refl; same_class = refl; is_near = near_itself c a place })

  with_states : (states : List Value) → length states ≡ length a.states → StayFit c a states → (b : Agent) → Some (changed c a states) ≡ Some b → IsHeir c a b
  with_states states long fit b e = subst (IsHeir c a) (same_Some (changed c a states) b e) (record { same_id = refl; same_class = refl; is_near = near_changed c a states place whole long fit })

  module _ (seed tick : ℕ) (totals : List ℤ) where
    abbrev here : Scope
    here = opening_scope seed tick [] totals a

    child_of : (spawn : Option Spawn) → c.spawn ≡ spawn → (b : Agent) → child_in here c a spawn ≡ Some b → IsHeir c a b
    child_of None is b e = absurd (none-some b e)
    child_of (Some spawn) is b e =
        let given : List Value = values_of (gifts_in here (Some spawn)) in
        let (bears, gives) = if_there (holds (value spawn.when here)) (changed c a (with_gifts a.states spawn.gifts given)) b e in
        with_states (with_gifts a.states spawn.gifts given) (gifts_as_long a.states spawn.gifts given)
        (λ own written. gifts_all_fit a.states spawn.gifts given own
        (given_all_fit seed tick totals a own (holds (value spawn.when here)) spawn.gifts (sym (ap gifts_fit is) ∙ (and_parts (list_all (λ (st : State). rule_fits st.rule) c.states) (gifts_fit c.spawn) written).1))) b gives

    agent_by_stop : (o : Option Stop) → first_stop (update_in here c a) ≡ o → (b : Agent) → (left_or_kept a (unless_stopped tick a o (left_by here c a))).agent ≡ Some b → IsHeir c a b
    agent_by_stop (Some stop) is b e = itself b e
    agent_by_stop None is b e =
        with_states (values_of (rules_in here c a)) (as_many_values here c a is whole)
        (λ own written. rules_all_fit seed tick totals a own c.states a.states (and_parts (list_all (λ (st : State). rule_fits st.rule) c.states) (gifts_fit c.spawn) written).0 own) b (lives_on (holds (condition_in here c.die)) (changed c a (values_of (rules_in here c a))) b e)

    child_by_stop : (o : Option Stop) → first_stop (update_in here c a) ≡ o → (b : Agent) → (left_or_kept a (unless_stopped tick a o (left_by here c a))).child ≡ Some b → IsHeir c a b
    child_by_stop (Some stop) is b e = absurd (none-some b e)
    child_by_stop None is b e = child_of c.spawn refl b e

    pub agent_is_heir : (b : Agent) → (left_or_kept a (next_in seed tick (Some c) totals a)).agent ≡ Some b → IsHeir c a b
    agent_is_heir b e = agent_by_stop (first_stop (update_in here c a)) refl b e

    pub child_is_heir : (b : Agent) → (left_or_kept a (next_in seed tick (Some c) totals a)).child ≡ Some b → IsHeir c a b
    child_is_heir b e = child_by_stop (first_stop (update_in here c a)) refl b e
