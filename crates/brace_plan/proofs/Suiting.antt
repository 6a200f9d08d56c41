-- Scopes that suit: where a query begins, after a constant, and in a loop.
use Rattle.std.proofs.Common.{◌≡◌, ◌∙◌, refl, sym, ap, subst, ℕ, zero, suc, ℤ, Bool, true, false, List, [], ◌∷◌, map, length, Option, Some, None, arith}
use Rattle.std.specs.Prelude.{◌==◌, if◌then◌else◌, is_none, nat_lt, slice_get, slice_set}
use Rattle.std.specs.Option.{option_and_then}
use Rattle.std.specs.List.{list_all, Contains}
use Rattle.std.specs.Cmp.Lexicographic.{pointwise}
use Rattle.std.proofs.lemmas.Bool.{and_parts}
use Rattle.std.proofs.lemmas.Bool.Decides.{nat_tests}
use Rattle.std.proofs.lemmas.List.{get_or-set_same, get_or-set_other}
use Rattle.std.proofs.lemmas.Option.{unwrap_or-slice_get}
use Rattle.std.proofs.lemmas.List.Elements.{All-contains}
use Rattle.std.proofs.lemmas.List.Sums.{AllPass-from_list_all}
use Rattle.brace_model.specs.declared.program.Ty.{Ty}
use Rattle.brace_model.specs.declared.program.Value.{Value}
use Rattle.brace_model.specs.declared.program.Who.{Who}
use Rattle.brace_model.specs.declared.program.Who.TheVariants.{This, Outer, Inner}
use Rattle.brace_model.specs.declared.program.State.{State}
use Rattle.brace_model.specs.declared.program.Class.{Class}
use Rattle.brace_model.specs.declared.program.Program.{Program}
use Rattle.brace_model.specs.declared.program.Stmt.{Stmt}
use Rattle.brace_model.specs.declared.world.Agent.{Agent}
use Rattle.brace_model.specs.World.{value_at, no_value}
use Rattle.brace_model.specs.Value.{Scope, agent_of}
use Rattle.brace_model.specs.Query.{bound, inside, opening_scope}
use Rattle.brace_model.specs.Typing.{Names, same_type, type_of_value, may_name, only, class_named, state_type, constant_type, within_loop}
use Rattle.brace_model.specs.Typed.{Fits}
use Rattle.brace_model.specs.Lawful.{has_states, is_lawful_agent, rule_scope, query_scope}
use Rattle.brace_model.proofs.TypeLemmas.{passed, some_is, only_same, one_type}
use Rattle.brace_plan.specs.inner.Doing.{Suits, variable_of}

same_names : (x y : Names) → Some x ≡ Some y → x ≡ y
same_names x y e = cc

same_state : (x y : State) → Some x ≡ Some y → x ≡ y
same_state x y e = cc

-- ---- values of an agent's states

state_is : (ss : List State) (vs : List Value) (i : ℕ) (s : State) → pointwise same_type (map (λ (st : State). st.ty) ss) (map type_of_value vs) ≡ true
    → slice_get ss i ≡ Some s → type_of_value (value_at vs i) ≡ s.ty
state_is [] vs i s e found = absurd (cc)
state_is (t ∷ ss) [] i s e found = absurd (cc)
state_is (t ∷ ss) (v ∷ vs) zero s e found =
    let (here, rest) = and_parts (same_type t.ty (type_of_value v)) _ e in
    sym (one_type t.ty (type_of_value v) here) ∙ ap (λ (st : State). st.ty) (same_state t s found)
state_is (t ∷ ss) (v ∷ vs) (suc i) s e found =
    let (here, rest) = and_parts (same_type t.ty (type_of_value v)) _ e in
    state_is ss vs i s rest found

has_types : (o : Option Class) (c : Class) (a : Agent) → has_states o a ≡ true → o ≡ Some c → pointwise same_type (map (λ (st : State). st.ty) c.states) (map type_of_value a.states) ≡ true
has_types o c a e is = sym (ap (λ x. has_states x a) is) ∙ e

-- a state that may be named, of an agent that has the states of the class
state_typed : (names : Names) (n i : ℕ) (t : Ty) (a : Agent) → has_states (slice_get names.classes n) a ≡ true
    → option_and_then (λ c. option_and_then (λ s. only (may_name names n s.shared) s.ty) (slice_get c.states i)) (slice_get names.classes n) ≡ Some t
    → type_of_value (value_at a.states i) ≡ t
state_typed names n i t a has e =
    let p = passed (slice_get names.classes n) _ t e in
    let q = passed (slice_get p.from.states i) _ t p.gives in
    state_is p.from.states a.states i q.from (has_types (slice_get names.classes n) p.from a has p.was) q.was ∙ only_same (may_name names n q.from.shared) q.from.ty t q.gives

lawful_has : (program : Program) (names : Names) (a : Agent) (n : ℕ) → names.classes ≡ program.classes → is_lawful_agent program a ≡ true → a.class ≡ n → has_states (slice_get names.classes n) a ≡ true
lawful_has program names a n same lawful is =
    ap (λ k. has_states (slice_get names.classes k) a) (sym is) ∙ ap (λ cs. has_states (slice_get cs a.class) a) same ∙ (and_parts _ _ lawful).1

-- a state of the agent of a name, whose class is that of the name
named_typed : (names : Names) (who : Who) (n i : ℕ) (t : Ty) (a : Agent) → class_named names who ≡ Some n → has_states (slice_get names.classes n) a ≡ true
    → state_type names who i ≡ Some t → type_of_value (value_at a.states i) ≡ t
named_typed names who n i t a named has e =
    let p = passed (class_named names who) _ t e in
    let same : p.from ≡ n = (let k : Some p.from ≡ Some n = sym p.was ∙ named in cc) in
    state_typed names p.from i t a (ap (λ m. has_states (slice_get names.classes m) a) same ∙ has) p.gives

-- ---- where a query and a rule begin

no_class : (names : Names) (who : Who) (i : ℕ) (t : Ty) (A : Type 0) → class_named names who ≡ None → state_type names who i ≡ Some t → A
no_class names who i t A none e =
    let p = passed (class_named names who) _ t e in
    absurd (let k : None ≡ Some p.from = sym none ∙ p.was in cc)

pub opening_fits : (program : Program) (in_rule : Bool) (seed tick : ℕ) (query : List Stmt) (totals : List ℤ) (a : Agent) (number : ℕ) → is_lawful_agent program a ≡ true
    → a.class ≡ number → Fits (record (rule_scope program number) { in_rule = in_rule }) (opening_scope seed tick query totals a)
opening_fits program in_rule seed tick query totals a number lawful is = record { states = states; constants = λ n t e. absurd (cc) }
  where
    names : Names
    names = record (rule_scope program number) { in_rule = in_rule }

    states : (who : Who) (i : ℕ) (t : Ty) → state_type names who i ≡ Some t → type_of_value (value_at (agent_of (opening_scope seed tick query totals a) who).states i) ≡ t
    states This i t e = named_typed names This number i t a refl (lawful_has program names a number refl lawful is) e
    states Outer i t e = no_class names Outer i t _ refl e
    states Inner i t e = no_class names Inner i t _ refl e

pub opening_suits : (program : Program) (world : List Agent) (seed tick : ℕ) (query : List Stmt) (a : Agent) (number : ℕ) → list_all (is_lawful_agent program) world ≡ true
    → is_lawful_agent program a ≡ true → a.class ≡ number → Suits program world (query_scope program number) (opening_scope seed tick query [] a)
opening_suits program world seed tick query a number all lawful is = record {
  classes = refl;
  agents = all;
  fits = opening_fits program false seed tick query [] a number lawful is;
  in_loop = refl;
}

-- ---- after a constant

set_here : (xs : List Value) (n : ℕ) (v : Value) → nat_lt n (length xs) ≡ true → value_at (slice_set xs n v) n ≡ v
set_here xs n v low = unwrap_or-slice_get (slice_set xs n v) n no_value ∙ get_or-set_same xs n v no_value (grind (arith, nat_tests, low))

set_else : (xs : List Value) (n m : ℕ) (v : Value) → (n == m) ≡ false → value_at (slice_set xs n v) m ≡ value_at xs m
set_else xs n m v other = unwrap_or-slice_get (slice_set xs n v) m no_value ∙ get_or-set_other xs n m v no_value (λ e. grind (arith, nat_tests, other, e)) ∙ sym (unwrap_or-slice_get xs m no_value)

constant_is : (test : Bool) (s t : Ty) (rest : Option Ty) (n m : ℕ) (v w old : Value) → (n == m) ≡ test → (if test then Some s else rest) ≡ Some t → type_of_value v ≡ s
    → ((n == m) ≡ true → w ≡ v) → ((n == m) ≡ false → w ≡ old) → (rest ≡ Some t → type_of_value old ≡ t) → type_of_value w ≡ t
constant_is true s t rest n m v w old is e of here apart typed = ap type_of_value (here is) ∙ of ∙ some_is s t e
constant_is false s t rest n m v w old is e of here apart typed = ap type_of_value (apart is) ∙ typed e

same_number : (n m : ℕ) → (n == m) ≡ true → n ≡ m
same_number n m e = grind (arith, nat_tests, e)

pub bound_suits : (program : Program) (world : List Agent) (names : Names) (scope : Scope) (n : ℕ) (v : Value) (t : Ty) → Suits program world names scope
    → nat_lt n (length scope.locals) ≡ true → type_of_value v ≡ t → Suits program world (record names { known = (n, t) ∷ names.known }) (bound scope n v)
bound_suits program world names scope n v t suits low of = record {
  classes = suits.classes;
  agents = suits.agents;
  fits = record { states = states; constants = constants };
  in_loop = suits.in_loop;
}
  where
    states : (who : Who) (i : ℕ) (s : Ty) → state_type (record names { known = (n, t) ∷ names.known }) who i ≡ Some s → type_of_value (value_at (agent_of (bound scope n v) who).states i) ≡ s
    states This i s e = suits.fits.states This i s e
    states Outer i s e = suits.fits.states Outer i s e
    states Inner i s e = suits.fits.states Inner i s e

    constants : (m : ℕ) (s : Ty) → constant_type ((n, t) ∷ names.known) m ≡ Some s → type_of_value (value_at (slice_set scope.locals n v) m) ≡ s
    constants m s e = constant_is (n == m) t s (constant_type names.known m) n m v _ (value_at scope.locals m) refl e of
        (λ k. subst (λ j. value_at (slice_set scope.locals n v) j ≡ v) (same_number n m k) (set_here scope.locals n v low))
        (set_else scope.locals n m v) (suits.fits.constants m s)

-- ---- in a loop

pub inside_suits : (program : Program) (world : List Agent) (names within : Names) (scope : Scope) (b : Agent) (class : ℕ) → Suits program world names scope
    → within_loop names class ≡ Some within → is_lawful_agent program b ≡ true → b.class ≡ class → Suits program world within (inside scope b)
inside_suits program world names within scope b class suits entered lawful is = by_place (is_none names.outer_class) refl entered
  where
    outer_states : (who : Who) (i : ℕ) (t : Ty) → state_type (record names { outer_class = Some class }) who i ≡ Some t
        → type_of_value (value_at (agent_of (record scope { outer = Some b }) who).states i) ≡ t
    outer_states This i t e = suits.fits.states This i t e
    outer_states Inner i t e = suits.fits.states Inner i t e
    outer_states Outer i t e = named_typed (record names { outer_class = Some class }) Outer class i t b refl (lawful_has program names b class suits.classes lawful is) e

    inner_states : (who : Who) (i : ℕ) (t : Ty) → state_type (record names { inner_class = Some class }) who i ≡ Some t
        → type_of_value (value_at (agent_of (record scope { inner = Some b }) who).states i) ≡ t
    inner_states This i t e = suits.fits.states This i t e
    inner_states Outer i t e = suits.fits.states Outer i t e
    inner_states Inner i t e = named_typed (record names { inner_class = Some class }) Inner class i t b refl (lawful_has program names b class suits.classes lawful is) e

    by_inner : (free : Bool) → only free (record names { inner_class = Some class }) ≡ Some within → is_none scope.outer ≡ false → Suits program world within (inside scope b)
    by_inner false e used = absurd (cc)
    by_inner true e used = subst (λ n. Suits program world n (inside scope b)) (same_names _ within e)
        (subst (λ z. Suits program world (record names { inner_class = Some class }) (if z then record scope { outer = Some b } else record scope { inner = Some b })) (sym used)
        (record { classes = suits.classes; agents = suits.agents; fits = record { states = inner_states; constants = suits.fits.constants }; in_loop = suits.in_loop }))

    by_place : (free : Bool) → is_none names.outer_class ≡ free
        → (if free then Some (record names { outer_class = Some class }) else only (is_none names.inner_class) (record names { inner_class = Some class })) ≡ Some within
        → Suits program world within (inside scope b)
    by_place true first e = subst (λ n. Suits program world n (inside scope b)) (same_names _ within e)
        (subst (λ z. Suits program world (record names { outer_class = Some class }) (if z then record scope { outer = Some b } else record scope { inner = Some b })) (sym (suits.in_loop ∙ first))
        (record { classes = suits.classes; agents = suits.agents; fits = record { states = outer_states; constants = suits.fits.constants }; in_loop = refl }))
    by_place false first e = by_inner (is_none names.inner_class) e (suits.in_loop ∙ first)

-- the loop's agent is that of the loop's variable
pub variable_is : (scope : Scope) (b : Agent) (o : Option ℕ) → is_none scope.outer ≡ is_none o → agent_of (inside scope b) (variable_of o) ≡ b
variable_is scope b None e = ap (λ z. agent_of (if z then record scope { outer = Some b } else record scope { inner = Some b }) Outer) e
variable_is scope b (Some class) e = ap (λ z. agent_of (if z then record scope { outer = Some b } else record scope { inner = Some b }) Inner) e

-- each agent of lawful ones is lawful
pub one_lawful : (program : Program) (world : List Agent) (a : Agent) → list_all (is_lawful_agent program) world ≡ true → Contains world a → is_lawful_agent program a ≡ true
one_lawful program world a all found = All-contains (λ b. is_lawful_agent program b ≡ true) world a (AllPass-from_list_all (is_lawful_agent program) world all) found
