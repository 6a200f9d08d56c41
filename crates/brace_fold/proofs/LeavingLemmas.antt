-- What the agents of lanes leave by what their rules came to.
use Rattle.std.proofs.Common.{◌≡◌, ◌∙◌, refl, sym, ap, ap₂, subst, ℕ, zero, suc, ◌+◌, ◌-◌, ◌<◌, ◌≤◌, List, [], ◌∷◌, ◌++◌, append_assoc, map, filter, filter_map, length, take, drop, get_or, arith, Bool, false, true, if◌then◌else◌, Option, Some, None}
use Rattle.std.specs.Prelude.{option_to_list, reverse}
use Rattle.std.specs.List.{All, AllZip, cons_option}
use Rattle.std.specs.Result.{result_err}
use Rattle.std.proofs.lemmas.List.{reverse-append}
use Rattle.std.proofs.lemmas.List.Elements.{filter_map-append}
use Rattle.brace_model.specs.declared.program.Class.{Class}
use Rattle.brace_model.specs.declared.program.Value.{Value}
use Rattle.brace_model.specs.declared.world.Agent.{Agent}
use Rattle.brace_model.specs.World.{no_value}
use Rattle.brace_model.specs.Value.{Scope, Worth}
use Rattle.brace_model.specs.Next.{changed, holds, values_of, with_gifts}
use Rattle.brace_code.specs.declared.lane.Frame.{Frame}
use Rattle.brace_code.specs.declared.lane.Lane.{Lane}
use Rattle.brace_code.specs.Lanes.{Shows}
use Rattle.brace_plan.specs.declared.rules.Rules.{Rules}
use Rattle.brace_plan.specs.Ruling.{gifts_by, gifts_of, rules_by}
use Rattle.brace_plan.specs.Leaving.{dies_by, given_by, leaves_by, spawns_by, survivor, update_by}
use Rattle.brace_fold.specs.declared.outcome.Column.{Column}
use Rattle.brace_fold.specs.declared.outcome.Outcome.{Outcome}
use Rattle.brace_fold.specs.inner.Rulings.{AreBorn, AreLanes, IsOutcome, IsRun, Leaves, agent_at, child_of, given_at, is_set, lives_in, living_from, new_states, row_lane, value_in}
use Rattle.brace_fold.proofs.Choosing.{all-chosen, all-kept, chosen-all, kept-chosen}
use Rattle.brace_fold.proofs.RunLemmas.{fine, gifts-at, rule-at, rules-at}

fine-values : (vs : List Value) → values_of (map fine vs) ≡ vs
fine-values [] = refl
fine-values (v ∷ vs) = ap (λ l. v ∷ l) (fine-values vs)

no-stops : (vs : List Value) → filter_map result_err (map fine vs) ≡ []
no-stops [] = refl
no-stops (v ∷ vs) = no-stops vs

-- ---- the states of an agent take the values of a row

pub set-all : (columns : List (Option Column)) (row : ℕ) (old new : List Value) → length new ≡ length old → length old ≤ length columns
    → ((j : ℕ) (d e : Value) (o : Option Column) → j < length old → get_or new j d ≡ value_in (get_or columns j o) row (get_or old j e))
    → new ≡ new_states columns row old
set-all columns row [] [] long low each = sym (no-pairs columns)
  where
    no-pairs : (columns : List (Option Column)) → new_states columns row [] ≡ []
    no-pairs [] = refl
    no-pairs (o ∷ columns) = refl
set-all columns row [] (v ∷ new) long low each = absurd (omega (arith, long))
set-all columns row (v ∷ old) [] long low each = absurd (omega (arith, long))
set-all [] row (v ∷ old) (w ∷ new) long low each = absurd (omega (arith, low))
set-all (o ∷ columns) row (v ∷ old) (w ∷ new) long low each =
    ap₂ (λ x xs. x ∷ xs) (each zero w v o (omega arith))
    (set-all columns row old new (omega (arith, long)) (omega (arith, low)) (λ j d e p less. each (suc j) d e p (omega (arith, less))))

-- as many of the values as there are columns
pub new-front : (columns : List (Option Column)) (row : ℕ) (olds : List Value) → new_states columns row (take (length columns) olds) ≡ new_states columns row olds
new-front [] row olds = refl
new-front (o ∷ columns) row [] = refl
new-front (o ∷ columns) row (v ∷ olds) = ap (λ vs. value_in o row v ∷ vs) (new-front columns row olds)

-- ---- agents are taken one by one, the last first

consed : (o : Option Agent) (agents : List Agent) → cons_option o agents ≡ option_to_list o ++ agents
consed None agents = refl
consed (Some a) agents = refl

module _ (agents rest : List Agent) (a : Agent) (is : agents ≡ rest ++ a ∷ []) where
  turned : reverse agents ≡ a ∷ reverse rest
  turned = ap reverse is ∙ reverse-append rest (a ∷ [])

  module _ (count row : ℕ) (low : row < count) where
    one-left : count - row ≡ suc (count - (row + 1))
    one-left = omega (arith, low)

    pub kept-one : (class : Class) (out : Outcome) (left after whole : List Agent)
        → left ++ living_from class out row (take (count - row) (reverse agents)) ≡ whole → after ≡ left ++ option_to_list (lives_in class out row a)
        → after ++ living_from class out (row + 1) (take (count - (row + 1)) (reverse rest)) ≡ whole
    kept-one class out left after whole before more =
        let further = living_from class out (row + 1) (take (count - (row + 1)) (reverse rest)) in
        ap (λ xs. xs ++ further) more
        ∙ append_assoc left (option_to_list (lives_in class out row a)) further
        ∙ ap (λ xs. left ++ xs) (sym (consed (lives_in class out row a) further))
        ∙ sym (ap₂ (λ n xs. left ++ living_from class out row (take n xs)) one-left turned)
        ∙ before

    pub dropped-one : (behind : List Agent) → drop (count - row) (reverse agents) ≡ behind → drop (count - (row + 1)) (reverse rest) ≡ behind
    dropped-one behind before = sym (ap₂ (λ n (xs : List Agent). drop n xs) one-left turned) ∙ before

-- ---- what rows come to, their lanes come to

living-each : (class : Class) (out : Outcome) (f : Lane → Option Agent) (d : Agent) (l : Lane) (row : ℕ) (agents : List Agent) (lanes : List Lane)
    → length lanes ≡ length agents → ((k : ℕ) → k < length lanes → lives_in class out (row + k) (get_or agents k d) ≡ f (get_or lanes k l))
    → living_from class out row agents ≡ filter_map f lanes
living-each class out f d l row [] [] long each = refl
living-each class out f d l row [] (x ∷ lanes) long each = absurd (omega (arith, long))
living-each class out f d l row (a ∷ agents) [] long each = absurd (omega (arith, long))
living-each class out f d l row (a ∷ agents) (x ∷ lanes) long each =
    let first : row + 0 ≡ row = omega arith in
    ap₂ (λ o xs. cons_option o xs) (subst (λ n. lives_in class out n a ≡ f x) first (each zero (omega arith)))
    (living-each class out f d l (row + 1) agents lanes (omega (arith, long)) (λ k low.
    let next : row + suc k ≡ row + 1 + k = omega arith in
    subst (λ n. lives_in class out n (get_or agents k d) ≡ f (get_or lanes k l)) next (each (suc k) (omega (arith, low)))))

module _ (class : Class) (rules : Rules) (agents : List Agent) (d : Agent) (frame : Frame) (lanes parents : List Lane) (scope : Lane → Scope)
    (shows : Shows frame scope) (are : AreLanes (length agents) lanes) (out : Outcome) (is : IsOutcome frame lanes rules out)
    (chosen : parents ≡ filter (λ (l : Lane). is_set out.spawn l.this) lanes)
    (gifts : List Column) (given : AllZip (IsRun frame parents) rules.gifts gifts) where
  abbrev of : Lane → Agent
  of lane = agent_at agents d lane

  abbrev bears : Lane → Bool
  bears lane = is_set out.spawn lane.this

  abbrev child : Lane → Option Agent
  child lane = (leaves_by (scope lane) class rules (of lane)).child

  row-is : (k : ℕ) (l : Lane) → k < length lanes → (get_or lanes k l).this ≡ k
  row-is k l low = ap (λ (x : Lane). x.this) (are.each k l (subst (λ n. k < n) are.long low))

  states-at : (k : ℕ) (l : Lane) → k < length lanes
      → rules_by (scope (get_or lanes k l)) rules.states (of (get_or lanes k l)).states
      ≡ map fine (new_states out.states.items (get_or lanes k l).this (of (get_or lanes k l)).states)
  states-at k l low =
      let olds = (of (get_or lanes k l)).states in
      rules-at frame lanes scope shows rules.states out.states.items is.states olds k l low
      ∙ ap (λ n. map fine (new_states out.states.items n olds)) (sym (row-is k l low))

  dies-at : (k : ℕ) (l : Lane) → k < length lanes → dies_by (scope (get_or lanes k l)) rules ≡ fine (value_in out.die (get_or lanes k l).this no_value)
  dies-at k l low =
      rule-at frame lanes scope shows rules.die out.die is.die no_value k l low ∙ ap (λ n. fine (value_in out.die n no_value)) (sym (row-is k l low))

  spawns-at : (k : ℕ) (l : Lane) → k < length lanes → spawns_by (scope (get_or lanes k l)) rules ≡ fine (value_in out.spawn (get_or lanes k l).this no_value)
  spawns-at k l low =
      rule-at frame lanes scope shows rules.spawn out.spawn is.spawn no_value k l low ∙ ap (λ n. fine (value_in out.spawn n no_value)) (sym (row-is k l low))

  holds-at : (k : ℕ) (l : Lane) → k < length lanes → holds (spawns_by (scope (get_or lanes k l)) rules) ≡ bears (get_or lanes k l)
  holds-at k l low = ap holds (spawns-at k l low)

  -- ---- those that live on

  abbrev leaf : Lane → Option Agent
  leaf lane = (leaves_by (scope lane) class rules (of lane)).agent

  lives-at : (k : ℕ) (l : Lane) → k < length lanes → lives_in class out (0 + k) (get_or agents k d) ≡ leaf (get_or lanes k l)
  lives-at k l low =
      let lane = get_or lanes k l in
      let a = of lane in
      let first : 0 + k ≡ k = omega arith in
      ap (λ n. lives_in class out n (get_or agents k d)) first
      ∙ ap (λ (x : Lane). lives_in class out x.this (of x)) (sym (are.each k l (subst (λ n. k < n) are.long low)))
      ∙ ap (λ vs. survivor (is_set out.die lane.this) class a vs) (sym (fine-values (new_states out.states.items lane.this a.states)))
      ∙ sym (ap₂ (λ (w : Worth) ws. survivor (holds w) class a (values_of ws)) (dies-at k l low) (states-at k l low))

  lives-are : (l : Lane) → living_from class out 0 agents ≡ filter_map leaf lanes
  lives-are l = living-each class out leaf d l 0 agents lanes are.long (λ k low. lives-at k l low)

  -- ---- their children

  -- those that bear, in their scopes
  parents-bear : All (λ lane. holds (spawns_by (scope lane) rules) ≡ true) parents
  parents-bear =
      subst (All (λ lane. holds (spawns_by (scope lane) rules) ≡ true)) (sym chosen)
      (all-chosen bears (λ lane. holds (spawns_by (scope lane) rules) ≡ true) lanes (λ k l low on. holds-at k l low ∙ on))

  child-at : (k : ℕ) (l : Lane) → k < length parents → child (get_or parents k l) ≡ Some (child_of class gifts k (of (get_or parents k l)))
  child-at k l low =
      let lane = get_or parents k l in
      let a = of lane in
      ap (λ (b : Bool). if b then Some (changed class a (with_gifts a.states (gifts_of class.spawn) (values_of (gifts_by (scope lane) rules.gifts)))) else None)
      (parents-bear k l low)
      ∙ ap (λ ws. Some (changed class a (with_gifts a.states (gifts_of class.spawn) (values_of ws)))) (gifts-at frame parents scope shows rules.gifts gifts given k l low)
      ∙ ap (λ vs. Some (changed class a (with_gifts a.states (gifts_of class.spawn) vs))) (fine-values (given_at gifts k))

  others-bear-none : All (λ lane. bears lane ≡ false → child lane ≡ None) lanes
  others-bear-none = λ k l low off.
      let lane = get_or lanes k l in
      let a = of lane in
      ap (λ (b : Bool). if b then Some (changed class a (with_gifts a.states (gifts_of class.spawn) (values_of (gifts_by (scope lane) rules.gifts)))) else None)
      (holds-at k l low ∙ off)

  children-are : (born : List Agent) → AreBorn class gifts agents parents born → born ≡ filter_map child lanes
  children-are born are_born =
      sym (kept-chosen child bears lanes others-bear-none
      ∙ ap (filter_map child) (sym chosen)
      ∙ all-kept child parents born are_born.long
      (λ k x y low. child-at k x low ∙ ap (λ (b : Agent). Some b) (sym (are_born.each k y d x low))))

  -- ---- nothing stops their updates

  abbrev AreGiven : Lane → Type 0
  AreGiven lane = (vs : List Value) × (gifts_by (scope lane) rules.gifts ≡ map fine vs)

  gifts-are : All (λ lane. bears lane ≡ true → AreGiven lane) lanes
  gifts-are =
      chosen-all bears AreGiven lanes
      (subst (All AreGiven) chosen (λ k l low. (given_at gifts k, gifts-at frame parents scope shows rules.gifts gifts given k l low)))

  given-case : (k : ℕ) (l : Lane) → k < length lanes → (b : Bool) → bears (get_or lanes k l) ≡ b
      → (vs : List Value) × (given_by (scope (get_or lanes k l)) rules ≡ map fine vs)
  given-case k l low true on =
      let lane = get_or lanes k l in
      let (vs, e) = gifts-are k l low on in
      (vs, ap (λ (b : Bool). if b then gifts_by (scope lane) rules.gifts else []) (holds-at k l low ∙ on) ∙ e)
  given-case k l low false off =
      let lane = get_or lanes k l in
      ([], ap (λ (b : Bool). if b then gifts_by (scope lane) rules.gifts else []) (holds-at k l low ∙ off))

  quiet-at : All (λ lane. filter_map result_err (update_by (scope lane) rules (of lane)) ≡ []) lanes
  quiet-at = λ k l low.
      let lane = get_or lanes k l in
      let (vs, e) = given-case k l low (bears lane) refl in
      let new = new_states out.states.items lane.this (of lane).states in
      ap₂ (λ (xs : List Worth) ys. filter_map result_err (xs ++ ys)) (states-at k l low)
      (ap₂ (λ (w : Worth) ws. w ∷ ws) (dies-at k l low) (ap₂ (λ (w : Worth) ws. w ∷ ws) (spawns-at k l low) e))
      ∙ filter_map-append result_err (map fine new) (fine (value_in out.die lane.this no_value) ∷ fine (value_in out.spawn lane.this no_value) ∷ map fine vs)
      ∙ ap₂ (λ xs ys. xs ++ ys) (no-stops new) (no-stops vs)

  -- ---- all that they leave

  pub leaves-of : (born old new : List Agent) → AreBorn class gifts agents parents born → new ≡ old ++ born
      → Leaves class rules agents lanes scope d out old new
  leaves-of born old new are_born bears_them = record {
    quiet = quiet-at;
    left = lives-are (row_lane 0);
    born = bears_them ∙ ap (λ l. old ++ l) (children-are born are_born);
  }
