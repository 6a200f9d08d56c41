-- How the scopes of a script and of its program are tied, and what a statement declares in both.
use Rattle.std.proofs.Common.{◌≡◌, refl, sym, ap, subst, ◌∙◌, ℕ, Bool, true, false, List, [], ◌∷◌, ◌++◌, map, flat_map, arith, zero, suc, ◌+◌, ◌<◌, length, inl, inr}
use Rattle.std.specs.Prelude.{◌||◌, ◌==◌, Option, Some, None, option_map, option_and_then, slice_get, Result, Ok, Err, ⊤, not, cond, is_none, if◌then◌else◌}
use Rattle.std.specs.List.{AllByRecursion}
use Rattle.std.proofs.lemmas.Option.{slice_get-map}
use Rattle.brace_num.proofs.Booleans.{or_true}
use Rattle.brace_syntax.specs.declared.tree.MemberTree.{MemberTree}
use Rattle.brace_syntax.specs.declared.tree.MemberTree.TheVariants as m
use Rattle.brace_syntax.specs.declared.tree.ClassTree.{ClassTree}
use Rattle.brace_names.specs.declared.declared.Field.{Field}
use Rattle.brace_names.specs.declared.declared.Field.TheVariants as field
use Rattle.brace_names.specs.Kinds.{type_named, comb_named}
use Rattle.brace_model.specs.declared.program.Ty.{Ty}
use Rattle.brace_model.specs.declared.program.Ty.TheVariants as ty
use Rattle.brace_model.specs.declared.program.Comb.{Comb}
use Rattle.brace_model.specs.declared.program.Who.{Who}
use Rattle.brace_model.specs.declared.program.Who.TheVariants.{Outer, Inner}
use Rattle.brace_model.specs.declared.program.State.{State}
use Rattle.brace_model.specs.declared.program.Effect.{Effect}
use Rattle.brace_model.specs.declared.program.Class.{Class}
use Rattle.brace_model.specs.Typing.{Names, same_type, only, class_named, may_name, state_type, effect_named, is_sited, constant_type, within_loop}
use Rattle.brace_check.specs.declared.fault.CheckFault.{CheckFault}
use Rattle.brace_check.specs.Types.{typed_at, with_type}
use Rattle.brace_check.specs.Findings.{fault_if}
use Rattle.std.specs.Map.{lookup}
use Rattle.std.specs.Str.{bytes_eq}
use Rattle.std.proofs.lemmas.Bool.{cases_Bool, ne_eqb}
use Rattle.brace_num.proofs.Lists.{each_weaker, each_append}
use Rattle.brace_syntax.specs.declared.tree.Ident.{Ident}
use Rattle.brace_names.specs.declared.scope.Local.{Local}
use Rattle.brace_names.specs.declared.scope.Local.TheVariants as local
use Rattle.brace_names.specs.declared.scope.Named.{Named}
use Rattle.brace_names.specs.declared.scope.Named.TheVariants as named
use Rattle.brace_names.specs.declared.scope.LoopField.{LoopField}
use Rattle.brace_names.specs.Tables.{look, has, with_name}
use Rattle.brace_names.specs.Scopes.{Scope, class_number, field_in, read_own, constant_or, read, field_of, of_loop, inside, past, declaring}
use Rattle.brace_check.specs.Meanings.{loop_agent, Meaning, part, part_step}
use Rattle.brace_syntax.specs.declared.tree.StmtTree.{StmtTree}
use Rattle.brace_syntax.specs.declared.tree.StmtTree.TheVariants as s
use Rattle.brace_names.specs.Walk.{Part, constants_in, Sought, part_of, part_step as walk_step}
use Rattle.brace_names.proofs.Folds.{ProvedStmt, stmts_of, Statements, proved, of_statement, stmts-proved, of-Const, of-when, of-either, of-Foreach, of-Assign, of-AssignThis, of-AssignLoop}
use Rattle.brace_names.proofs.StmtLemmas.{constants-cons, Same}
use Rattle.brace_model.specs.declared.program.Stmt.{Stmt}

-- a state, an effect and a class but for their names and values
pub record StateHeading : Type 0 where
  pub ty : Ty
  pub shared : Bool

pub record EffectHeading : Type 0 where
  pub ty : Ty
  pub shared : Bool
  pub comb : Comb

pub record Heading : Type 0 where
  pub states : List StateHeading
  pub effects : List EffectHeading

-- of a script
abbrev pub state_declared : MemberTree → List StateHeading
state_declared (m.State shared type name rule at) = record { ty = type_named type; shared = shared } ∷ []
state_declared _ = []

abbrev pub effect_declared : MemberTree → List EffectHeading
effect_declared (m.Effect shared type name c at) = record { ty = type_named type; shared = shared; comb = comb_named c } ∷ []
effect_declared _ = []

abbrev pub heading : ClassTree → Heading
heading class = record { states = flat_map state_declared class.members; effects = flat_map effect_declared class.members }

-- and of a program
abbrev pub state_heading : State → StateHeading
state_heading s = record { ty = s.ty; shared = s.shared }

abbrev pub effect_heading : Effect → EffectHeading
effect_heading e = record { ty = e.ty; shared = e.shared; comb = e.comb }

abbrev pub heading_of : Class → Heading
heading_of c = record { states = map state_heading c.states; effects = map effect_heading c.effects }

-- the class of a number has a field
abbrev pub FieldIs : List Heading → ℕ → Field → Type 0
FieldIs headings class (field.State i t shared) =
    option_and_then (λ h. slice_get h.states i) (slice_get headings class) ≡ Some (record { ty = t; shared = shared })
FieldIs headings class (field.Effect i t shared c) =
    option_and_then (λ h. slice_get h.effects i) (slice_get headings class) ≡ Some (record { ty = t; shared = shared; comb = c })

-- each name of a table stands for a field of the class
abbrev pub FieldsFit : List Heading → ℕ → List (List ℕ × Field) → Type 0
FieldsFit headings class = AllByRecursion (λ e. FieldIs headings class e.1)

-- small facts
pub same-self : (t : Ty) → same_type t t ≡ true
same-self ty.Int = refl
same-self _ = refl

pub sited : (test : Bool) (n : ℕ) → is_sited test (only test n) ≡ true
sited true n = refl
sited false n = refl

pub record TypeOk (f : Ty → Result Ty ℕ) (r : Result Ty ℕ) (t : Ty) : Type 0 where
  pub operand : Ty
  pub is : r ≡ Ok operand
  pub gives : f operand ≡ Ok t

pub type_ok : (f : Ty → Result Ty ℕ) (r : Result Ty ℕ) (t : Ty) → with_type f r ≡ Ok t → TypeOk f r t
type_ok f (Ok u) t h = record { operand = u; is = refl; gives = h }
type_ok f (Err at) t h = absurd (cc)

pub typed_ok : (at : ℕ) (o : Option Ty) (t : Ty) → typed_at at o ≡ Ok t → o ≡ Some t
typed_ok at None t h = absurd (cc)
typed_ok at (Some u) t h = let same : u ≡ t = cc in ap (λ (v : Ty). Some v) same

pub not_if : (test : Bool) (f : CheckFault) → fault_if test f ≡ [] → test ≡ false
not_if true f h = absurd (cc)
not_if false f h = refl

-- of another class only what is public may be named, of one's own all
pub own_may : (names : Names) (shared : Bool) → may_name names names.own shared ≡ true
own_may names shared = let self : (names.own == names.own) ≡ true = grind arith in ap (λ (b : Bool). shared || b) self ∙ or_true shared

-- a state by its number
module _ (test : Bool → Bool) (h : StateHeading) (passes : test h.shared ≡ true) where
  on_state : (o : Option State) → option_map state_heading o ≡ Some h → option_and_then (λ s. only (test s.shared) s.ty) o ≡ Some h.ty
  on_state None is = absurd (cc)
  on_state (Some s) is =
      let same : state_heading s ≡ h = cc in
      subst (λ (g : StateHeading). test g.shared ≡ true → only (test s.shared) s.ty ≡ Some g.ty) same (λ yes. ap (λ (b : Bool). only b s.ty) yes) passes

  on_class : (o : Option Class) (i : ℕ) → option_and_then (λ g. slice_get g.states i) (option_map heading_of o) ≡ Some h
      → option_and_then (λ c. option_and_then (λ s. only (test s.shared) s.ty) (slice_get c.states i)) o ≡ Some h.ty
  on_class None i is = absurd (cc)
  on_class (Some c) i is = on_state (slice_get c.states i) (sym (slice_get-map state_heading c.states i) ∙ is)

-- an effect by its number
pub record EffectIs (h : EffectHeading) (o : Option Effect) : Type 0 where
  pub effect : Effect
  pub named : o ≡ Some effect
  pub is : effect_heading effect ≡ h

module _ (test : Bool → Bool) (h : EffectHeading) (passes : test h.shared ≡ true) where
  on_effect : (o : Option Effect) → option_map effect_heading o ≡ Some h → EffectIs h (option_and_then (λ e. only (test e.shared) e) o)
  on_effect None is = absurd (cc)
  on_effect (Some e) is =
      let same : effect_heading e ≡ h = cc in
      let yes : test e.shared ≡ true = subst (λ (g : EffectHeading). test g.shared ≡ true) (sym same) passes in
      record { effect = e; named = ap (λ (b : Bool). only b e) yes; is = same }

  on_class_effect : (o : Option Class) (i : ℕ) → option_and_then (λ g. slice_get g.effects i) (option_map heading_of o) ≡ Some h
      → EffectIs h (option_and_then (λ c. option_and_then (λ e. only (test e.shared) e) (slice_get c.effects i)) o)
  on_class_effect None i is = absurd (cc)
  on_class_effect (Some c) i is = on_effect (slice_get c.effects i) (sym (slice_get-map effect_heading c.effects i) ∙ is)

-- what the classes in scope declare
abbrev pub declared : Names → List Heading
declared names = map heading_of names.classes

module _ (names : Names) (who : Who) (class i : ℕ) (t : Ty) (shared : Bool) (is : class_named names who ≡ Some class) (may : may_name names class shared ≡ true) where
  headed : slice_get (declared names) class ≡ option_map heading_of (slice_get names.classes class)
  headed = slice_get-map heading_of names.classes class

  -- a state of an agent that may be named
  pub state_typed : FieldIs (declared names) class (field.State i t shared) → state_type names who i ≡ Some t
  state_typed found =
      ap (λ (o : Option ℕ). option_and_then (λ class. option_and_then (λ c. option_and_then (λ s. only (may_name names class s.shared) s.ty) (slice_get c.states i)) (slice_get names.classes class)) o) is
      ∙ on_class (may_name names class) (record { ty = t; shared = shared }) may (slice_get names.classes class) i
      (ap (λ (o : Option Heading). option_and_then (λ g. slice_get g.states i) o) (sym headed) ∙ found)

  -- an effect of an agent that may be named
  pub effect_is : (c : Comb) → FieldIs (declared names) class (field.Effect i t shared c) → EffectIs (record { ty = t; shared = shared; comb = c }) (effect_named names who i)
  effect_is c found =
      subst (λ (o : Option ℕ). EffectIs (record { ty = t; shared = shared; comb = c })
      (option_and_then (λ class. option_and_then (λ c. option_and_then (λ e. only (may_name names class e.shared) e) (slice_get c.effects i)) (slice_get names.classes class)) o)) (sym is)
      (on_class_effect (may_name names class) (record { ty = t; shared = shared; comb = c }) may (slice_get names.classes class) i
      (ap (λ (o : Option Heading). option_and_then (λ g. slice_get g.effects i) o) (sym headed) ∙ found))

-- the entry that is found
pub record Entry {K A : Type 0} (p : K → Bool) (P : K → A → Type 0) (x : A) : Type 0 where
  pub key : K
  pub passes : p key ≡ true
  pub is : P key x

-- what holds of all entries holds of it
pub found_entry : {K A : Type 0} (p : K → Bool) (P : K → A → Type 0) (table : List (K × A)) (x : A) → AllByRecursion (λ e. P e.0 e.1) table → lookup p table ≡ Some x → Entry p P x
found_entry p P [] x all is = absurd (cc)
found_entry p P (e ∷ table) x all is = elim (cases_Bool (p e.0)) [
  | inl same ↦
      let found : Some e.1 ≡ Some x = subst (λ (b : Bool). cond b (Some e.1) (lookup p table) ≡ Some x) same is in
      let here : e.1 ≡ x = cc in
      let there : Entry p P e.1 = record { key = e.0; passes = same; is = all.0 } in
      subst (Entry p P) here there
  | inr apart ↦ found_entry p P table x all.1 (subst (λ (b : Bool). cond b (Some e.1) (lookup p table) ≡ Some x) apart is)
]

pub found_among : {K A : Type 0} (p : K → Bool) (P : A → Type 0) (table : List (K × A)) (x : A) → AllByRecursion (λ e. P e.1) table → lookup p table ≡ Some x → P x
found_among {K = K} {A = A} p P table x all is = (found_entry p (λ (key : K) (x : A). P x) table x all is).is

-- a table of names keeps what holds of its entries
pub named_too : {A : Type 0} (P : List ℕ → A → Type 0) (table : List (List ℕ × A)) (name : List ℕ) (x : A) → AllByRecursion (λ e. P e.0 e.1) table → P name x
    → AllByRecursion (λ e. P e.0 e.1) (with_name table name x)
named_too {A = A} P table name x all this = elim (cases_Bool (has table name)) [
  | inl there ↦ rw there all
  | inr new ↦ rw new (each_append (λ (e : List ℕ × A). P e.0 e.1) table ((name, x) ∷ []) all (this, tt))
]

module _ {A : Type 0} (P : A → Type 0) where
  pub all_back : (xs ys : List A) → AllByRecursion P (xs ++ ys) → AllByRecursion P ys
  all_back [] ys h = h
  all_back (x ∷ xs) ys h = all_back xs ys h.1

-- so many loops stand around
abbrev pub LoopsAre : ℕ → Option ℕ → Option ℕ → Type 0
LoopsAre zero outer inner = (outer ≡ None) × (inner ≡ None)
LoopsAre (suc zero) outer inner = (is_none outer ≡ false) × (inner ≡ None)
LoopsAre (suc (suc loops)) outer inner = ⊤

-- a constant is known with its type, and a loop variable is of its class
abbrev pub LocalIs : Names → ℕ → Local → Type 0
LocalIs m count (local.Constant n t) = (n < count) × (constant_type m.known n ≡ Some t)
LocalIs m count (local.Loop loops (Some class)) = class_named m (loop_agent loops) ≡ Some class
LocalIs m count (local.Loop loops None) = ⊤

pub record Tied (n : Scope) (m : Names) : Type 0 where
  pub own : FieldsFit (declared m) n.home.number n.home.own
  pub others : (class : ℕ) (table : List (List ℕ × Field)) → slice_get n.home.known.fields class ≡ Some table → FieldsFit (declared m) class table
  pub classes : AllByRecursion (λ e. e.1 < length m.classes) n.home.known.classes
  pub number : m.own ≡ n.home.number
  pub in_rule : m.in_rule ≡ not n.in_query
  pub loops : LoopsAre n.loops m.outer_class m.inner_class
  pub locals : AllByRecursion (λ e. LocalIs m n.constants e.1) n.locals

-- what a name stands for is in the program
abbrev pub NamedIs : Names → Option Named → Type 0
NamedIs m None = ⊤
NamedIs m (Some (named.Constant n t)) = constant_type m.known n ≡ Some t
NamedIs m (Some (named.Field f)) = FieldIs (declared m) m.own f

abbrev pub TargetIs : Names → Option Field → Type 0
TargetIs m None = ⊤
TargetIs m (Some f) = FieldIs (declared m) m.own f

abbrev pub LoopIs : Names → Option LoopField → Type 0
LoopIs m None = ⊤
LoopIs m (Some x) = (class_named m (loop_agent x.loops) ≡ Some x.class) × FieldIs (declared m) x.class x.field

module _ (n : Scope) (m : Names) (tied : Tied n m) where
  own_field : (name : List ℕ) (o : Option Field) → look n.home.own name ≡ o → TargetIs m o
  own_field name None is = tt
  own_field name (Some f) is =
      subst (λ (k : ℕ). FieldIs (declared m) k f) (sym tied.number) (found_among (bytes_eq name) (FieldIs (declared m) n.home.number) n.home.own f tied.own is)

  -- a field of the class
  pub target_is : (name : List ℕ) → TargetIs m (look n.home.own name)
  target_is name = own_field name (look n.home.own name) refl

  as_named : (o : Option Field) → TargetIs m o → NamedIs m (option_map (λ f. named.Field f) o)
  as_named None h = tt
  as_named (Some f) h = h

  -- `this.n`
  pub own_is : (name : List ℕ) → NamedIs m (read_own n name)
  own_is name = as_named (look n.home.own name) (target_is name)

  local_or : (name : List ℕ) (o : Option Local) → look n.locals name ≡ o → NamedIs m (constant_or o (read_own n name))
  local_or name (Some (local.Constant k t)) is = (found_among (bytes_eq name) (LocalIs m n.constants) n.locals (local.Constant k t) tied.locals is).1
  local_or name _ is = own_is name

  -- `n`
  pub read_is : (name : List ℕ) → NamedIs m (read n name)
  read_is name = local_or name (look n.locals name) refl

  in_class : (loops class : ℕ) (name : List ℕ) (o : Option (List (List ℕ × Field))) (p : Option Field) → slice_get n.home.known.fields class ≡ o
      → option_and_then (λ own. look own name) o ≡ p → class_named m (loop_agent loops) ≡ Some class
      → LoopIs m (option_map (λ f. record { loops = loops; class = class; field = f }) p)
  in_class loops class name o None is found agent = tt
  in_class loops class name None (Some f) is found agent = absurd (cc)
  in_class loops class name (Some own) (Some f) is found agent = (agent, found_among (bytes_eq name) (FieldIs (declared m) class) own f (tied.others class own is) found)

  of_local : (name : List ℕ) (variable : List ℕ) (o : Option Local) → look n.locals variable ≡ o → LoopIs m (field_of n name o)
  of_local name variable (Some (local.Loop loops (Some class))) is =
      in_class loops class name (slice_get n.home.known.fields class) (field_in n class name) refl refl
      (found_among (bytes_eq variable) (LocalIs m n.constants) n.locals (local.Loop loops (Some class)) tied.locals is)
  of_local name variable _ is = tt

  -- `q.n`
  pub of_loop_is : (variable name : List ℕ) → LoopIs m (of_loop n variable name)
  of_loop_is variable name = of_local name variable (look n.locals variable) refl

-- behind things in which constants stand
local_past : (m : Names) (few count : ℕ) (l : Local) → LocalIs m few l → LocalIs m (few + count) l
local_past m few count (local.Constant k t) is = (let under : k < few = is.0 in omega (arith, under), is.1)
local_past m few count (local.Loop loops (Some class)) is = is
local_past m few count (local.Loop loops None) is = is

-- with other constants and other locals
tied_anew : (n : Scope) (m : Names) (known : List (ℕ × Ty)) (constants : ℕ) (locals : List (List ℕ × Local)) → Tied n m
    → AllByRecursion (λ (e : List ℕ × Local). LocalIs (record m { known = known }) constants e.1) locals
    → Tied (record n { constants = constants; locals = locals }) (record m { known = known })
tied_anew n m known constants locals h are = record {
  own = h.own;
  others = h.others;
  classes = h.classes;
  number = h.number;
  in_rule = h.in_rule;
  loops = h.loops;
  locals = are;
}

pub tied_past : (n : Scope) (m : Names) (count : ℕ) → Tied n m → Tied (past count n) m
tied_past n m count h = tied_anew n m m.known (n.constants + count) n.locals h
    (each_weaker (λ (e : List ℕ × Local). LocalIs m n.constants e.1) (λ (e : List ℕ × Local). LocalIs m (n.constants + count) e.1)
    (λ e is. local_past m n.constants count e.1 is) n.locals h.locals)

-- behind the declaration of a constant
module _ (m : Names) (number : ℕ) (t : Ty) where
  abbrev pub knowing : Names
  knowing = record m { known = (number, t) ∷ m.known }

  local_known : (l : Local) → LocalIs m number l → LocalIs knowing (number + 1) l
  local_known (local.Constant k u) is =
      let few : k < number = is.0 in
      let apart : (number == k) ≡ false = ne_eqb number k (λ e. let same : number ≡ k = e in absurd (omega (arith, few, same))) in
      (omega (arith, few), ap (λ (b : Bool). if b then Some t else constant_type m.known k) apart ∙ is.1)
  local_known (local.Loop loops (Some class)) is = is
  local_known (local.Loop loops None) is = is

  last_known : LocalIs knowing (number + 1) (local.Constant number t)
  last_known =
      let self : (number == number) ≡ true = grind arith in
      (omega arith, ap (λ (b : Bool). if b then Some t else constant_type m.known number) self)

pub tied_declared : (n : Scope) (m : Names) (name : Ident) (t : Ty) → Tied n m → Tied (past 1 (declaring name t n)) (knowing m n.constants t)
tied_declared n m name t h = tied_anew n m (knowing m n.constants t).known (n.constants + 1) (declaring name t n).locals h
    (named_too (λ (key : List ℕ) (l : Local). LocalIs (knowing m n.constants t) (n.constants + 1) l) n.locals name.text (local.Constant n.constants t)
    (each_weaker (λ (e : List ℕ × Local). LocalIs m n.constants e.1) (λ (e : List ℕ × Local). LocalIs (knowing m n.constants t) (n.constants + 1) e.1)
    (λ e is. local_known m n.constants t e.1 is) n.locals h.locals)
    (last_known m n.constants t))

-- a loop over the class of a number is entered
pub record Entered (m : Names) (loops number : ℕ) : Type 0 where
  pub inner : Names
  pub is : within_loop m number ≡ Some inner
  pub classes : inner.classes ≡ m.classes
  pub own : inner.own ≡ m.own
  pub in_rule : inner.in_rule ≡ m.in_rule
  pub known : inner.known ≡ m.known
  pub loops_are : LoopsAre (loops + 1) inner.outer_class inner.inner_class
  pub over : class_named inner (loop_agent loops) ≡ Some number
  pub kept : (who : Who) (class : ℕ) → class_named m who ≡ Some class → class_named inner who ≡ Some class

pub entered : (m : Names) (loops number : ℕ) → loops < 2 → LoopsAre loops m.outer_class m.inner_class → Entered m loops number
entered m zero number few are = record {
  inner = record m { outer_class = Some number };
  is = ap (λ (o : Option ℕ). if is_none o then Some (record m { outer_class = Some number }) else only (is_none m.inner_class) (record m { inner_class = Some number })) are.0;
  classes = refl;
  own = refl;
  in_rule = refl;
  known = refl;
  loops_are = (refl, are.1);
  over = refl;
  kept = kept;
}
  where
    kept : (who : Who) (class : ℕ) → class_named m who ≡ Some class → class_named (record m { outer_class = Some number }) who ≡ Some class
    kept Outer class is = let never : None ≡ Some class = sym are.0 ∙ is in absurd (cc)
    kept _ class is = is
entered m (suc zero) number few are = record {
  inner = record m { inner_class = Some number };
  is = ap (λ (b : Bool). if b then Some (record m { outer_class = Some number }) else only (is_none m.inner_class) (record m { inner_class = Some number })) are.0
      ∙ ap (λ (o : Option ℕ). only (is_none o) (record m { inner_class = Some number })) are.1;
  classes = refl;
  own = refl;
  in_rule = refl;
  known = refl;
  loops_are = tt;
  over = refl;
  kept = kept;
}
  where
    kept : (who : Who) (class : ℕ) → class_named m who ≡ Some class → class_named (record m { inner_class = Some number }) who ≡ Some class
    kept Inner class is = let never : None ≡ Some class = sym are.1 ∙ is in absurd (cc)
    kept _ class is = is
entered m (suc (suc loops)) number few are = absurd (omega (arith, few))

-- in the block of a loop
module _ (n : Scope) (m : Names) (class variable : Ident) (number : ℕ) (named_ : class_number n class.text ≡ Some number) (e : Entered m n.loops number) (h : Tied n m) where
  local_kept : (l : Local) → LocalIs m n.constants l → LocalIs e.inner n.constants l
  local_kept (local.Constant k t) is = (is.0, ap (λ (known : List (ℕ × Ty)). constant_type known k) e.known ∙ is.1)
  local_kept (local.Loop loops (Some class)) is = e.kept (loop_agent loops) class is
  local_kept (local.Loop loops None) is = is

  pub tied_inside : Tied (inside class variable n) e.inner
  tied_inside = record {
    own = subst (λ (classes : List Class). FieldsFit (map heading_of classes) n.home.number n.home.own) (sym e.classes) h.own;
    others = λ k table is. subst (λ (classes : List Class). FieldsFit (map heading_of classes) k table) (sym e.classes) (h.others k table is);
    classes = subst (λ (classes : List Class). AllByRecursion (λ (e : List ℕ × ℕ). e.1 < length classes) n.home.known.classes) (sym e.classes) h.classes;
    number = e.own ∙ h.number;
    in_rule = e.in_rule ∙ h.in_rule;
    loops = e.loops_are;
    locals = named_too (λ (key : List ℕ) (l : Local). LocalIs e.inner n.constants l) n.locals variable.text (local.Loop n.loops (class_number n class.text))
        (each_weaker (λ (l : List ℕ × Local). LocalIs m n.constants l.1) (λ (l : List ℕ × Local). LocalIs e.inner n.constants l.1) (λ l is. local_kept l.1 is) n.locals h.locals)
        (subst (λ (o : Option ℕ). LocalIs e.inner n.constants (local.Loop n.loops o)) (sym named_) e.over);
  }

module _ {A : Type 0} (v : Sought A) where
  abbrev StmtSame : StmtTree → Type 0
  StmtSame x = Same (part_of v x) (part x)

  trees_same : (ys : List (ProvedStmt StmtSame)) → constants_in (map (part_of v) (stmts_of ys)) ≡ constants_in (map part (stmts_of ys))
  trees_same [] = refl
  trees_same (y ∷ ys) =
      constants-cons (part_of v y.0) (map (part_of v) (stmts_of ys))
      ∙ (ap (λ (k : ℕ). k + constants_in (map (part_of v) (stmts_of ys))) y.1.constants
      ∙ (ap (λ (k : ℕ). (part y.0).constants + k) (trees_same ys)
      ∙ sym (constants-cons (part y.0) (map part (stmts_of ys)))))

  back : (x : StmtTree) (p : Part (List A)) (q : Part (Meaning Stmt)) → part_of v x ≡ p → part x ≡ q → Same p q → StmtSame x
  back x p q e g h = subst (λ (r : Part (List A)). Same r (part x)) (sym e) (subst (λ (r : Part (Meaning Stmt)). Same p r) (sym g) h)

  kinds_same : Statements StmtSame
  kinds_same = record {
    const = λ type name x at. back (s.Const type name x at) _ _ (of-Const (walk_step v) type name x at) (of-Const part_step type name x at) (record { declared = refl; constants = refl });
    when = λ c a at. back (s.If c (stmts_of a) None at) _ _ (of-when (walk_step v) c (stmts_of a) at) (of-when part_step c (stmts_of a) at)
        (record { declared = refl; constants = ap (λ (k : ℕ). k + 0) (trees_same a) });
    either_way = λ c a b at. back (s.If c (stmts_of a) (Some (stmts_of b)) at) _ _ (of-either (walk_step v) c (stmts_of a) (stmts_of b) at) (of-either part_step c (stmts_of a) (stmts_of b) at)
        (record {
          declared = refl;
          constants = ap (λ (k : ℕ). k + constants_in (map (part_of v) (stmts_of b))) (trees_same a) ∙ ap (λ (k : ℕ). constants_in (map part (stmts_of a)) + k) (trees_same b);
        });
    foreach = λ class variable other a at. back (s.Foreach class variable other (stmts_of a) at) _ _
        (of-Foreach (walk_step v) class variable other (stmts_of a) at) (of-Foreach part_step class variable other (stmts_of a) at) (record { declared = refl; constants = trees_same a });
    assign = λ name x. back (s.Assign name x) _ _ (of-Assign (walk_step v) name x) (of-Assign part_step name x) (record { declared = refl; constants = refl });
    assign_this = λ name x at. back (s.AssignThis name x at) _ _ (of-AssignThis (walk_step v) name x at) (of-AssignThis part_step name x at) (record { declared = refl; constants = refl });
    assign_loop = λ variable name x. back (s.AssignLoop variable name x) _ _ (of-AssignLoop (walk_step v) variable name x) (of-AssignLoop part_step variable name x)
        (record { declared = refl; constants = refl });
  }

  pub same_part : (x : StmtTree) → Same (part_of v x) (part x)
  same_part = of_statement StmtSame kinds_same

  pub same_blocks : (xs : List StmtTree) → constants_in (map (part_of v) xs) ≡ constants_in (map part xs)
  same_blocks xs =
      subst (λ (l : List StmtTree). constants_in (map (part_of v) l) ≡ constants_in (map part l)) (stmts-proved StmtSame kinds_same xs)
      (trees_same (proved StmtSame kinds_same xs))
