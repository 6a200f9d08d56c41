-- A step from lawful agents leads to lawful agents.
use Rattle.std.proofs.Common.{◌≡◌, ◌∙◌, sym, refl, ap, subst, ℕ, zero, suc, ◌+◌, ◌<◌, ◌≤◌, ℤ, List, [], ◌∷◌, ◌++◌, length, take, take_all, map, filter_map, zip, arith, Option, Some, None, Result, Ok, Err, Bool, true, false, le-leb, length-append, append-nil, codes}
use Rattle.std.specs.Prelude.{leb, ◌&&◌, if◌then◌else◌, slice_get, slice_set, option_map}
use Rattle.std.specs.List.{AllZip, list_all, cons_option, reduce}
use Rattle.std.specs.Option.{option_and_then}
use Rattle.std.specs.Result.{result_ok, result_err}
use Rattle.std.specs.Cmp.Lexicographic.{pointwise}
use Rattle.std.proofs.lemmas.List.Folds.{list_all-append}
use Rattle.std.proofs.lemmas.List.Sums.{sum_by-cons, sum_by-append}
use Rattle.brace_model.specs.declared.program.Ty.{Ty}
use Rattle.brace_model.specs.declared.program.Ty.TheVariants as ty
use Rattle.brace_model.specs.declared.program.Value.{Value}
use Rattle.brace_model.specs.declared.program.Who.{Who}
use Rattle.brace_model.specs.declared.program.Who.TheVariants.{This, Outer, Inner}
use Rattle.brace_model.specs.declared.program.State.{State}
use Rattle.brace_model.specs.declared.program.Gift.{Gift}
use Rattle.brace_model.specs.declared.program.Spawn.{Spawn}
use Rattle.brace_model.specs.declared.program.Class.{Class}
use Rattle.brace_model.specs.declared.program.Program.{Program}
use Rattle.brace_model.specs.declared.program.Expr.{Expr}
use Rattle.brace_model.specs.declared.fault.Fault.{Fault}
use Rattle.brace_model.specs.declared.fault.Stop.{Stop}
use Rattle.brace_model.specs.declared.world.Agent.{Agent}
use Rattle.brace_model.specs.World.{World, class_of, value_at}
use Rattle.brace_model.specs.Value.{Scope, Worth, value, agent_of}
use Rattle.brace_model.specs.Typing.{Names, same_type, state_type, type_of_value, type_of, is_of_type, only, may_name}
use Rattle.brace_model.specs.FaultOrder.{least}
use Rattle.brace_model.specs.Query.{opening_scope, query_faults}
use Rattle.brace_model.specs.Next.{Next, next, next_in, totals_in, next_of, unless_stopped, first_stop, earlier_stop, update_in, left_by, holds, condition_in, spawns_in, gifts_in, child_in, changed, moved, with_gifts, values_of, ruled, rules_in, update_fault}
use Rattle.brace_model.specs.Step.{step, all_next, living, children, numbered, first_too_far, birth_fault, grown, most_agents, most_values, greatest_id, count_values}
use Rattle.brace_model.specs.Lawful.{LawfulProgram, LawfulClass, LawfulAgents, is_lawful_agent, has_states, is_position, rule_scope, is_ruled, is_given, is_spawn}
use Rattle.brace_model.specs.Typed.{Fits}
use Rattle.brace_model.proofs.TypeLemmas.{passed, only_same, one_type, IsOf, just, sound}
use Rattle.brace_eval.proofs.NumberLemmas.{ok, same-next, not-both, none-some}
use Rattle.brace_eval.proofs.LawLemmas.{stepped, stepped-ok, unmapped, keeps-limits, last-fits}
use Rattle.std.proofs.lemmas.Bool.{and_from, and_parts}
use Rattle.std.proofs.lemmas.Option.{same_Some}

-- ---- tests

own_type : (t : Ty) → same_type t t ≡ true
own_type ty.Int = refl
own_type _ = refl

of_type : (t : Ty) (o : Option Ty) → is_of_type t o ≡ true → o ≡ Some t
of_type t None e = absurd (cc)
of_type t (Some s) e = ap Some (sym (one_type t s e))

nothing_typed : (t : Ty) → None ≡ Some t → ⊥
nothing_typed t e = cc

-- ---- counts

up : (x n : ℕ) → x ≤ n → x ≤ suc n
up x n le = omega (arith, le)

both_up : (x n : ℕ) → x ≤ n → suc x ≤ suc n
both_up x n le = omega (arith, le)

less : (x k n : ℕ) → x ≤ n → x ≤ k + n
less x k n le = omega (arith, le)

summed : (x a y k n : ℕ) → x ≡ a + y → a ≡ k → y ≤ n → x ≤ k + n
summed x a y k n sum same le = omega (arith, sum, same, le)

up_to : (x y z : ℕ) → x ≤ y → z ≡ y → x ≤ z
up_to x y z le is = omega (arith, le, is)

through : (x y z : ℕ) → x ≤ y → y ≤ z → x ≤ z
through x y z le more = omega (arith, le, more)

within : (x y m : ℕ) → x < suc m → x ≡ y → y ≤ m
within x y m le is = omega (arith, le, is)

of_parts : (x a b c m : ℕ) → x ≡ a + b → b ≡ c → a + c ≤ m → x ≤ m
of_parts x a b c m sum same le = omega (arith, sum, same, le)

-- ---- values of the types of states

-- each value is of its state's type
abbrev AreOf : List State → List Value → Type 0
AreOf = AllZip (λ (s : State) (v : Value). type_of_value v ≡ s.ty)

are_of : (ss : List State) (vs : List Value)
    → pointwise same_type (map (λ (s : State). s.ty) ss) (map type_of_value vs) ≡ true → AreOf ss vs
are_of [] [] e = tt
are_of [] (v ∷ vs) e = absurd (cc)
are_of (s ∷ ss) [] e = absurd (cc)
are_of (s ∷ ss) (v ∷ vs) e =
    let (here, rest) = and_parts (same_type s.ty (type_of_value v)) _ e in
    (sym (one_type s.ty (type_of_value v) here), are_of ss vs rest)

of_are : (ss : List State) (vs : List Value) → AreOf ss vs
    → pointwise same_type (map (λ (s : State). s.ty) ss) (map type_of_value vs) ≡ true
of_are [] [] of = refl
of_are [] (v ∷ vs) of = absurd of
of_are (s ∷ ss) [] of = absurd of
of_are (s ∷ ss) (v ∷ vs) of =
    and_from (same_type s.ty (type_of_value v)) _ (ap (same_type s.ty) of.0 ∙ own_type s.ty) (of_are ss vs of.1)

as_long : (ss : List State) (vs : List Value) → AreOf ss vs → length vs ≡ length ss
as_long [] [] of = refl
as_long [] (v ∷ vs) of = absurd of
as_long (s ∷ ss) [] of = absurd of
as_long (s ∷ ss) (v ∷ vs) of = ap suc (as_long ss vs of.1)

value_is : (ss : List State) (vs : List Value) (i : ℕ) (s : State) → AreOf ss vs → slice_get ss i ≡ Some s
    → type_of_value (value_at vs i) ≡ s.ty
value_is [] [] i s of found = absurd (cc)
value_is [] (v ∷ vs) i s of found = absurd of
value_is (t ∷ ss) [] i s of found = absurd of
value_is (t ∷ ss) (v ∷ vs) zero s of found = of.0 ∙ ap (λ (u : State). u.ty) (same_Some t s found)
value_is (t ∷ ss) (v ∷ vs) (suc i) s of found = value_is ss vs i s of.1 found

-- a value of the type of a state, put in the state's place
put : (ss : List State) (vs : List Value) (i : ℕ) (s : State) (v : Value) → AreOf ss vs → slice_get ss i ≡ Some s
    → type_of_value v ≡ s.ty → AreOf ss (slice_set vs i v)
put [] [] i s v of found is = absurd (cc)
put [] (x ∷ vs) i s v of found is = absurd of
put (t ∷ ss) [] i s v of found is = absurd of
put (t ∷ ss) (x ∷ vs) zero s v of found is = (is ∙ ap (λ (u : State). u.ty) (sym (same_Some t s found)), of.1)
put (t ∷ ss) (x ∷ vs) (suc i) s v of found is = (of.0, put ss vs i s v of.1 found is)

moved_is : (ss : List State) (reach : ℤ) (old new : List Value) (name : List ℕ) (place : ℕ)
    → is_position name (slice_get ss place) ≡ true → AreOf ss new → AreOf ss (moved reach old place new)
moved_is ss reach old new name place is of = by_state (slice_get ss place) refl is
  where
    by_state : (o : Option State) → slice_get ss place ≡ o → is_position name o ≡ true → AreOf ss (moved reach old place new)
    by_state None found e = absurd (cc)
    by_state (Some s) found e =
        let fixed = (and_parts s.shared (same_type s.ty ty.Fixed) (and_parts _ _ e).1).1 in
        put ss new place s _ of found (sym (one_type s.ty ty.Fixed fixed))

-- ---- what a rule may name

opens : (program : Program) (seed tick : ℕ) (totals : List ℤ) (a : Agent) (class : Class) → class_of program a ≡ Some class
    → AreOf class.states a.states → Fits (rule_scope program a.class) (opening_scope seed tick [] totals a)
opens program seed tick totals a class is of = record { states = named; constants = λ n t e. absurd (nothing_typed t e) }
  where
    named : (who : Who) (i : ℕ) (t : Ty) → state_type (rule_scope program a.class) who i ≡ Some t
        → type_of_value (value_at (agent_of (opening_scope seed tick [] totals a) who).states i) ≡ t
    named Outer i t e = absurd (nothing_typed t e)
    named Inner i t e = absurd (nothing_typed t e)
    named This i t e =
        let type_in : State → Option Ty = λ s. only (may_name (rule_scope program a.class) a.class s.shared) s.ty in
        let p = passed (slice_get program.classes a.class) (λ c. option_and_then type_in (slice_get c.states i)) t e in
        let q = passed (slice_get p.from.states i) type_in t p.gives in
        let own : p.from ≡ class = same_Some p.from class (sym p.was ∙ is) in
        let found : slice_get class.states i ≡ Some q.from = ap (λ (c : Class). slice_get c.states i) (sym own) ∙ q.was in
        value_is class.states a.states i q.from of found ∙ only_same _ q.from.ty t q.gives

-- ---- updates that nothing stops

abbrev Unstopped : List Worth → Type 0
Unstopped outcomes = filter_map result_err outcomes ≡ []

one_there : (stop : Stop) (stops : List Stop) → (stop ∷ stops) ≡ [] → ⊥
one_there stop stops e = cc

none_there : (stops : List Stop) → reduce earlier_stop stops ≡ None → stops ≡ []
none_there [] e = refl
none_there (s ∷ rest) e = absurd (cc)

first_part : (xs ys : List Worth) → Unstopped (xs ++ ys) → Unstopped xs
first_part [] ys q = refl
first_part (Ok v ∷ xs) ys q = first_part xs ys q
first_part (Err s ∷ xs) ys q = absurd (one_there s _ q)

second_part : (xs ys : List Worth) → Unstopped (xs ++ ys) → Unstopped ys
second_part [] ys q = q
second_part (Ok v ∷ xs) ys q = second_part xs ys q
second_part (Err s ∷ xs) ys q = absurd (one_there s _ q)

abbrev outcomes : Scope → List State → List Value → List Worth
outcomes scope ss vs = map (λ p. ruled scope p.0.rule p.1) (zip ss vs)

abbrev gift_values : Scope → List Gift → List Worth
gift_values scope gifts = map (λ (g : Gift). value g.value scope) gifts

-- in a scope where each name has a value of its type
module _ (names : Names) (scope : Scope) (fits : Fits names scope) where
  rule_is : (t : Ty) (rule : Option Expr) (old : Value) → is_ruled names t rule ≡ true → type_of_value old ≡ t
      → IsOf t (ruled scope rule old)
  rule_is t None old typed is v e = just old v t e is
  rule_is t (Some rule) old typed is v e = sound rule names scope fits t (of_type t (type_of rule names) typed) v e

  rules_are : (ss : List State) (vs : List Value) → list_all (λ (s : State). is_ruled names s.ty s.rule) ss ≡ true → AreOf ss vs
      → Unstopped (outcomes scope ss vs) → AreOf ss (values_of (outcomes scope ss vs))
  rules_are [] [] typed of q = tt
  rules_are [] (v ∷ vs) typed of q = absurd of
  rules_are (s ∷ ss) [] typed of q = absurd of
  rules_are (s ∷ ss) (v ∷ vs) typed of q =
      let (here, rest) = and_parts (is_ruled names s.ty s.rule) _ typed in
      by_worth (ruled scope s.rule v) (rule_is s.ty s.rule v here of.0) (rules_are ss vs rest of.1) q
    where
      by_worth : (w : Worth) → IsOf s.ty w → (Unstopped (outcomes scope ss vs) → AreOf ss (values_of (outcomes scope ss vs)))
          → Unstopped (w ∷ outcomes scope ss vs) → AreOf (s ∷ ss) (values_of (w ∷ outcomes scope ss vs))
      by_worth (Ok u) is rest q = (is u refl, rest q)
      by_worth (Err stop) is rest q = absurd (one_there stop _ q)

  gift_put : (ss : List State) (old : List Value) (g : Gift) (v : Value) → is_given names ss g ≡ true → AreOf ss old
      → value g.value scope ≡ Ok v → AreOf ss (slice_set old g.state v)
  gift_put ss old g v given of came = by_state (slice_get ss g.state) refl
    where
      by_state : (o : Option State) → slice_get ss g.state ≡ o → AreOf ss (slice_set old g.state v)
      by_state None found = absurd (let no_way : false ≡ true = rw found at given in cc)
      by_state (Some s) found =
          let typed : is_of_type s.ty (type_of g.value names) ≡ true = rw found at given in
          put ss old g.state s v of found (sound g.value names scope fits s.ty (of_type s.ty (type_of g.value names) typed) v came)

  gifts_are : (ss : List State) (gifts : List Gift) (old : List Value) → list_all (is_given names ss) gifts ≡ true → AreOf ss old
      → Unstopped (gift_values scope gifts) → AreOf ss (with_gifts old gifts (values_of (gift_values scope gifts)))
  gifts_are ss [] old typed of q = of
  gifts_are ss (g ∷ gifts) old typed of q =
      let (here, rest) = and_parts (is_given names ss g) _ typed in
      by_worth (value g.value scope) refl here (λ new is. gifts_are ss gifts new rest is) q
    where
      by_worth : (w : Worth) → value g.value scope ≡ w → is_given names ss g ≡ true
          → ((new : List Value) → AreOf ss new → Unstopped (gift_values scope gifts) → AreOf ss (with_gifts new gifts (values_of (gift_values scope gifts))))
          → Unstopped (w ∷ gift_values scope gifts) → AreOf ss (with_gifts old (g ∷ gifts) (values_of (w ∷ gift_values scope gifts)))
      by_worth (Ok v) came here rest q = rest (slice_set old g.state v) (gift_put ss old g v here of came) q
      by_worth (Err stop) came here rest q = absurd (one_there stop _ q)

-- ---- what a lawful agent leaves

-- a lawful agent with as many states
pub record Heir (program : Program) (a b : Agent) : Type 0 where
  pub lawful : is_lawful_agent program b ≡ true
  pub long : length b.states ≡ length a.states

-- what an agent leaves is lawful
pub record Leaves (program : Program) (a : Agent) (n : Next) : Type 0 where
  pub lives : (b : Agent) → n.agent ≡ Some b → Heir program a b
  pub bears : (b : Agent) → n.child ≡ Some b → Heir program a b

module _ (program : Program) (a : Agent) (class : Class) (is : class_of program a ≡ Some class) (low : leb a.id greatest_id ≡ true)
    (of : AreOf class.states a.states) (lawful : LawfulClass program a.class class) where
  heir : (new : List Value) → AreOf class.states new → Heir program a (changed class a new)
  heir new fit =
      let once = moved_is class.states class.reach a.states new (codes "x") class.x lawful.x_is_position fit in
      let twice = moved_is class.states class.reach a.states (moved class.reach a.states class.x new) (codes "y") class.y lawful.y_is_position once in
      let states : has_states (class_of program a) (changed class a new) ≡ true =
      ap (λ (o : Option Class). has_states o (changed class a new)) is ∙ of_are class.states _ twice in
      record {
        lawful = and_from (leb a.id greatest_id) _ low states;
        long = as_long class.states _ twice ∙ sym (as_long class.states a.states of);
      }

  heir_there : (new : List Value) (b : Agent) → AreOf class.states new → Some (changed class a new) ≡ Some b → Heir program a b
  heir_there new b fit e = subst (Heir program a) (same_Some (changed class a new) b e) (heir new fit)

  module _ (scope : Scope) (fits : Fits (rule_scope program a.class) scope) where
    lives_on : (b : Agent) (dies : Bool) → holds (condition_in scope class.die) ≡ dies → Unstopped (rules_in scope class a)
        → (left_by scope class a).agent ≡ Some b → Heir program a b
    lives_on b true h q has =
        let gone : (left_by scope class a).agent ≡ None = ap (λ (d : Bool). if d then None else Some (changed class a (values_of (rules_in scope class a)))) h in
        absurd (none-some b (left_by scope class a).agent gone has)
    lives_on b false h q has =
        let stays : (left_by scope class a).agent ≡ Some (changed class a (values_of (rules_in scope class a))) =
        ap (λ (d : Bool). if d then None else Some (changed class a (values_of (rules_in scope class a)))) h in
        heir_there (values_of (rules_in scope class a)) b
        (rules_are (rule_scope program a.class) scope fits class.states a.states lawful.rules_are_typed of q) (sym stays ∙ has)

    bears_one : (b : Agent) (spawn : Spawn) (born : Bool) → holds (value spawn.when scope) ≡ born
        → is_spawn (rule_scope program a.class) class.states (Some spawn) ≡ true → Unstopped (gifts_in scope (Some spawn))
        → child_in scope class a (Some spawn) ≡ Some b → Heir program a b
    bears_one b spawn false h typed q has =
        let given = values_of (gifts_in scope (Some spawn)) in
        let none : child_in scope class a (Some spawn) ≡ None = ap (λ (d : Bool). if d then Some (changed class a (with_gifts a.states spawn.gifts given)) else None) h in
        absurd (none-some b (child_in scope class a (Some spawn)) none has)
    bears_one b spawn true h typed q has =
        let values = gift_values scope spawn.gifts in
        let all : gifts_in scope (Some spawn) ≡ values = ap (λ (d : Bool). if d then values else []) h in
        let one : child_in scope class a (Some spawn) ≡ Some (changed class a (with_gifts a.states spawn.gifts (values_of values))) =
        ap (λ (d : Bool). if d then Some (changed class a (with_gifts a.states spawn.gifts (values_of (gifts_in scope (Some spawn))))) else None) h
        ∙ ap (λ (ws : List Worth). Some (changed class a (with_gifts a.states spawn.gifts (values_of ws)))) all in
        heir_there (with_gifts a.states spawn.gifts (values_of values)) b
        (gifts_are (rule_scope program a.class) scope fits class.states spawn.gifts a.states (and_parts _ _ typed).1 of (subst Unstopped all q)) (sym one ∙ has)

    bears_any : (b : Agent) (spawn : Option Spawn) → is_spawn (rule_scope program a.class) class.states spawn ≡ true → Unstopped (gifts_in scope spawn)
        → child_in scope class a spawn ≡ Some b → Heir program a b
    bears_any b None typed q has = absurd (none-some b None refl has)
    bears_any b (Some spawn) typed q has = bears_one b spawn _ refl typed q has

    leaves : Unstopped (update_in scope class a) → Leaves program a (left_by scope class a)
    leaves q =
        let rest = second_part (rules_in scope class a) (condition_in scope class.die ∷ spawns_in scope class.spawn ∷ gifts_in scope class.spawn) q in
        record {
          lives = λ b has. lives_on b _ refl (first_part (rules_in scope class a) (condition_in scope class.die ∷ spawns_in scope class.spawn ∷ gifts_in scope class.spawn) q) has;
          bears = λ b has. bears_any b class.spawn lawful.spawn_is_typed (second_part (condition_in scope class.die ∷ spawns_in scope class.spawn ∷ []) (gifts_in scope class.spawn) rest) has;
        }

    next_leaves : (tick : ℕ) (n : Next) (s : Option Stop) → first_stop (update_in scope class a) ≡ s → next_of tick class a scope ≡ ok n
        → Leaves program a n
    next_leaves tick n (Some stop) e came =
        absurd (not-both (update_fault tick a stop) n (sym (ap (λ (o : Option Stop). unless_stopped tick a o (left_by scope class a)) e) ∙ came))
    next_leaves tick n None e came =
        let left = same-next (left_by scope class a) n (sym (ap (λ (o : Option Stop). unless_stopped tick a o (left_by scope class a)) e) ∙ came) in
        subst (Leaves program a) left (leaves (none_there _ e))

-- a lawful agent whose update does not fault leaves lawful ones
pub next_lawful : (program : Program) (seed tick : ℕ) → LawfulProgram program → (o : Option Class) (totals : List ℤ) (a : Agent) (n : Next)
    → class_of program a ≡ o → is_lawful_agent program a ≡ true → next_in seed tick o totals a ≡ ok n → Leaves program a n
next_lawful program seed tick laws None totals a n is lawful came =
    absurd (let no_way : false ≡ true = sym (ap (λ (o : Option Class). has_states o a) is) ∙ (and_parts (leb a.id greatest_id) _ lawful).1 in cc)
next_lawful program seed tick laws (Some class) totals a n is lawful came =
    let (low, states) = and_parts (leb a.id greatest_id) _ lawful in
    let of = are_of class.states a.states (sym (ap (λ (o : Option Class). has_states o a) is) ∙ states) in
    next_leaves program a class is low of (laws.classes_are_lawful a.class class is) (opening_scope seed tick [] totals a)
    (opens program seed tick totals a class is of) tick n _ refl came

-- ---- what lawful agents leave

abbrev pub AreLawful : Program → List Agent → Type 0
AreLawful program agents = list_all (is_lawful_agent program) agents ≡ true

-- what agents leave is lawful; those that live on are as few, with as few values
pub record AllLeave (program : Program) (agents : List Agent) (left : List Next) : Type 0 where
  pub lives : AreLawful program (living left)
  pub bears : AreLawful program (children left)
  pub few : length (living left) ≤ length agents
  pub values : count_values (living left) ≤ count_values agents

one_more : (test : Agent → Bool) (o : Option Agent) (agents : List Agent) → ((b : Agent) → o ≡ Some b → test b ≡ true)
    → list_all test agents ≡ true → list_all test (cons_option o agents) ≡ true
one_more test None agents is all = all
one_more test (Some b) agents is all = and_from (test b) _ (is b refl) all

one_longer : (o : Option Agent) (agents : List Agent) (n : ℕ) → length agents ≤ n → length (cons_option o agents) ≤ suc n
one_longer None agents n le = up (length agents) n le
one_longer (Some b) agents n le = both_up (length agents) n le

values_more : (o : Option Agent) (agents : List Agent) (k n : ℕ) → ((b : Agent) → o ≡ Some b → length b.states ≡ k)
    → count_values agents ≤ n → count_values (cons_option o agents) ≤ k + n
values_more None agents k n is le = less (count_values agents) k n le
values_more (Some b) agents k n is le =
    summed (count_values (b ∷ agents)) (length b.states) (count_values agents) k n (sum_by-cons (λ (a : Agent). length a.states) b agents) (is b refl) le

-- the same of one agent more
pub all_more : (program : Program) (a : Agent) (agents : List Agent) (n : Next) (left : List Next) → Leaves program a n
    → AllLeave program agents left → AllLeave program (a ∷ agents) (n ∷ left)
all_more program a agents n left one all =
    let values = values_more n.agent (living left) (length a.states) (count_values agents) (λ b has. (one.lives b has).long) all.values in
    record {
      lives = one_more (is_lawful_agent program) n.agent (living left) (λ b has. (one.lives b has).lawful) all.lives;
      bears = one_more (is_lawful_agent program) n.child (children left) (λ b has. (one.bears b has).lawful) all.bears;
      few = one_longer n.agent (living left) (length agents) all.few;
      values = up_to _ _ _ values (sum_by-cons (λ (b : Agent). length b.states) a agents);
    }

all_fewer : (program : Program) (a : Agent) (agents : List Agent) (left : List Next) → AllLeave program agents left
    → AllLeave program (a ∷ agents) left
all_fewer program a agents left all =
    record {
      lives = all.lives;
      bears = all.bears;
      few = up _ _ all.few;
      values = up_to _ _ _ (less _ (length a.states) _ all.values) (sum_by-cons (λ (b : Agent). length b.states) a agents);
    }

module _ (program : Program) (f : Agent → Result Next Fault)
    (leave : (a : Agent) (n : Next) → is_lawful_agent program a ≡ true → f a ≡ ok n → Leaves program a n) where
  all_leave : (agents : List Agent) → AreLawful program agents → AllLeave program agents (filter_map result_ok (map f agents))
  all_leave [] all = record { lives = refl; bears = refl; few = omega arith; values = omega arith }
  all_leave (a ∷ agents) all =
      let (here, rest) = and_parts (is_lawful_agent program a) _ all in
      by_result (f a) refl here (all_leave agents rest)
    where
      by_result : (x : Result Next Fault) → f a ≡ x → is_lawful_agent program a ≡ true
          → AllLeave program agents (filter_map result_ok (map f agents))
          → AllLeave program (a ∷ agents) (filter_map result_ok (x ∷ map f agents))
      by_result (Ok n) is here rest = all_more program a agents n (filter_map result_ok (map f agents)) (leave a n here is) rest
      by_result (Err e) is here rest = all_fewer program a agents (filter_map result_ok (map f agents)) rest

-- ---- children with ids of their own

other_id : (o : Option Class) (c : Agent) (n : ℕ) → has_states o (record c { id = n }) ≡ has_states o c
other_id None c n = refl
other_id (Some class) c n = refl

numbered_lawful : (program : Program) (next : ℕ) (born : List Agent) → AreLawful program born → next + length born ≤ suc greatest_id
    → AreLawful program (numbered next born)
numbered_lawful program next [] all fits = refl
numbered_lawful program next (c ∷ born) all fits =
    let (here, rest) = and_parts (is_lawful_agent program c) _ all in
    let low : next ≤ greatest_id = omega (arith, fits) in
    let states = other_id (class_of program c) c next ∙ (and_parts (leb c.id greatest_id) _ here).1 in
    and_from (leb next greatest_id && has_states (class_of program c) (record c { id = next })) _
    (and_from (leb next greatest_id) _ (le-leb next greatest_id low) states)
    (numbered_lawful program (suc next) born rest (omega (arith, fits)))

numbered_long : (next : ℕ) (born : List Agent) → length (numbered next born) ≡ length born
numbered_long next [] = refl
numbered_long next (c ∷ born) = ap suc (numbered_long (suc next) born)

numbered_values : (next : ℕ) (born : List Agent) → count_values (numbered next born) ≡ count_values born
numbered_values next [] = refl
numbered_values next (c ∷ born) =
    sum_by-cons (λ (a : Agent). length a.states) (record c { id = next }) (numbered (suc next) born)
    ∙ ap (λ (n : ℕ). length c.states + n) (numbered_values (suc next) born)
    ∙ sym (sum_by-cons (λ (a : Agent). length a.states) c born)

-- the agents of the grown world, where they are few
pub grown_lawful : (program : Program) (next : ℕ) (ls bs : List Agent) → AreLawful program ls → AreLawful program bs
    → next + length bs ≤ suc greatest_id → length ls + length bs ≤ most_agents → count_values ls + count_values bs ≤ most_values
    → LawfulAgents program (ls ++ numbered next bs)
grown_lawful program next ls bs lives bears fits few values =
    record {
      each_is_lawful =
          list_all-append (is_lawful_agent program) ls (numbered next bs)
          ∙ and_from (list_all (is_lawful_agent program) ls) _ lives (numbered_lawful program next bs bears fits);
      few_agents = of_parts _ (length ls) _ (length bs) most_agents (length-append ls (numbered next bs)) (numbered_long next bs) few;
      few_values =
          of_parts _ (count_values ls) _ (count_values bs) most_values (sum_by-append (λ (a : Agent). length a.states) ls (numbered next bs)) (numbered_values next bs) values;
    }

-- with no child that goes too far the grown world keeps to the limits
kept_lawful : (program : Program) (next : ℕ) (ls bs : List Agent) → AreLawful program ls → AreLawful program bs
    → length ls ≤ most_agents → count_values ls ≤ most_values → first_too_far ls next bs ≡ None
    → LawfulAgents program (ls ++ numbered next bs)
kept_lawful program next ls [] lives bears few values far =
    subst (LawfulAgents program) (sym (append-nil ls)) (record { each_is_lawful = lives; few_agents = few; few_values = values })
kept_lawful program next ls (b ∷ bs) lives bears few values far =
    let (agents, sums, low) = keeps-limits ls next (b ∷ bs) (length bs) (last-fits ls next b bs far) in
    let all : take (suc (length bs)) (b ∷ bs) ≡ b ∷ bs = take_all (suc (length bs)) (b ∷ bs) (omega arith) in
    let long = ap (λ (l : List Agent). length (ls ++ l)) all ∙ length-append ls (b ∷ bs) in
    let many = ap (λ (l : List Agent). count_values (ls ++ l)) all ∙ sum_by-append (λ (a : Agent). length a.states) ls (b ∷ bs) in
    grown_lawful program next ls (b ∷ bs) lives bears (omega (arith, low)) (within _ _ most_agents agents long) (within _ _ most_values sums many)

pub steps-lawful : (program : Program) (seed tick : ℕ) (world after : World) → LawfulProgram program → LawfulAgents program world.agents
    → step program seed tick world ≡ stepped after → LawfulAgents program after.agents
steps-lawful program seed tick world after laws agents is =
    let left = filter_map result_ok (all_next program seed tick world.agents) in
    let far = first_too_far (living left) world.next (children left) in
    let (none, same) = stepped-ok (least (query_faults program seed tick world.agents)) (least (filter_map result_err (all_next program seed tick world.agents)))
    (option_map (birth_fault program tick) far) (grown world.next (living left) (children left)) after is in
    let all = all_leave program (next program seed tick world.agents)
    (λ a n lawful came. next_lawful program seed tick laws (class_of program a) (totals_in program seed tick world.agents a (class_of program a)) a n refl lawful came)
    world.agents agents.each_is_lawful in
    subst (λ (w : World). LawfulAgents program w.agents) same
    (kept_lawful program world.next (living left) (children left) all.lives all.bears (through _ _ most_agents all.few agents.few_agents) (through _ _ most_values all.values agents.few_values)
    (unmapped (birth_fault program tick) far none))
