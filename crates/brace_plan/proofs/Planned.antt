-- What planning makes of statements and of blocks.
use Rattle.std.proofs.Common.{◌≡◌, ◌∙◌, refl, sym, ap, ap₂, subst, ℕ, ◌+◌, ◌-◌, ◌<◌, ◌≤◌, Bool, true, false, List, [], ◌∷◌, ◌++◌, map, length, take, drop, get_or, Option, Some, None, append-nil}
use Rattle.std.specs.Prelude.{is_some, is_none, slice_get, if◌then◌else◌}
use Rattle.std.proofs.lemmas.List.{drop_more, take_all, map-append}
use Rattle.std.proofs.lemmas.List.Concat.{flat_map-append}
use Rattle.brace_num.proofs.Lists.{take_next}
use Rattle.brace_model.specs.declared.program.Ty.{Ty}
use Rattle.brace_model.specs.declared.program.Who.{Who}
use Rattle.brace_model.specs.declared.program.Who.TheVariants.{Inner}
use Rattle.brace_model.specs.declared.program.Class.{Class}
use Rattle.brace_model.specs.declared.program.Expr.{Expr}
use Rattle.brace_model.specs.declared.program.Stmt.{Stmt}
use Rattle.brace_model.specs.declared.program.Stmt.TheVariants.{Const, If, Foreach, Assign}
use Rattle.brace_model.specs.Typing.{Names, only, within_loop, type_of, scope_after}
use Rattle.brace_code.specs.declared.code.Code.{Code}
use Rattle.brace_code.specs.declared.names.Known.{Known}
use Rattle.brace_code.specs.Codes.{Computes, type_given}
use Rattle.brace_plan.specs.declared.loops.Loop.{Loop}
use Rattle.brace_plan.specs.declared.action.Bound.{Bound}
use Rattle.brace_plan.specs.declared.action.Action.{Action}
use Rattle.brace_plan.specs.declared.action.Action.TheVariants as action
use Rattle.brace_plan.specs.Narrowing.{Nested, nested, bounds_over, all_loops, loops_of}
use Rattle.brace_plan.specs.inner.Doing.{names_with, variable_of, variable_in, DoesOne, Does, DoesAll}
use Rattle.brace_plan.specs.Planning.{told, told_by}
use Rattle.brace_plan.proofs.Doing.{does_const, does_assign, does_if, does_loop, does_more}
use Rattle.brace_plan.proofs.Formed.{IsFormed, After, formed_const, formed_if, formed_loop, formed_assign, rest_formed, after_more, cut_back}
use Rattle.brace_plan.proofs.Steps.{loops-Const, loops-If, loops-Foreach, loops-Assign, told-Const, told-If, told-Foreach, told-Assign}

abbrev Known_at : Type 0
Known_at = List (ℕ × Ty)

-- a statement that is well formed with these constants in scope
abbrev IsTyped : Known → Known_at → Stmt → Type 0
IsTyped known constants s = is_some (scope_after s (names_with known constants)) ≡ true

-- what compiling promises
abbrev Compiled : Known → Known_at → Expr → Code → Type 0
Compiled known constants e code = (t : Ty) → type_of e (names_with known constants) ≡ Some t → Computes (names_with known constants) e t code

module _ (known : Known) (constants : Known_at) where
  abbrev here : Names
  here = names_with known constants

  pub planned_const : (s : Stmt) (n : ℕ) (e : Expr) (code : Code) (type : Ty) (last : Known_at) → s ≡ Const n e → IsTyped known constants s → Compiled known constants e code
      → type ≡ type_given code → last ≡ (n, type) ∷ constants → DoesOne here (names_with known last) s (action.Const n code)
  planned_const s n e code type last is typed compiled given grown =
      let f = formed_const n e here (sym (ap (λ x. is_some (scope_after x here)) is) ∙ typed) in
      let computes = compiled f.type f.typed in
      subst (λ x. DoesOne here (names_with known last) x (action.Const n code)) (sym is)
      (does_const here e f.type code f.typed computes n (names_with known last) (ap (names_with known) (grown ∙ ap (λ t. (n, t) ∷ constants) (given ∙ computes.type))))

  pub planned_assign : (s : Stmt) (who : Who) (effect : ℕ) (e : Expr) (at : ℕ) (code : Code) → s ≡ Assign who effect e at → IsTyped known constants s → Compiled known constants e code
      → DoesOne here here s (action.Assign who effect code)
  planned_assign s who effect e at code is typed compiled =
      let f = formed_assign who effect e at here (sym (ap (λ x. is_some (scope_after x here)) is) ∙ typed) in
      subst (λ x. DoesOne here here x (action.Assign who effect code)) (sym is) (does_assign here e f.type code f.typed (compiled f.type f.typed) who effect at)

  pub assign_scope : (s : Stmt) (who : Who) (effect : ℕ) (e : Expr) (at : ℕ) → s ≡ Assign who effect e at → IsTyped known constants s → scope_after s here ≡ Some here
  assign_scope s who effect e at is typed =
      ap (λ x. scope_after x here) is ∙ (formed_assign who effect e at here (sym (ap (λ x. is_some (scope_after x here)) is) ∙ typed)).after

  pub planned_if : (s : Stmt) (e : Expr) (a b : List Stmt) (code : Code) (x y : List Action) (mid last : Known_at) → s ≡ If e a b → IsTyped known constants s → Compiled known constants e code
      → DoesAll here a x → mid ≡ constants → DoesAll (names_with known mid) b y → last ≡ mid → DoesOne here (names_with known last) s (action.If code x y)
  planned_if s e a b code x y mid last is typed compiled first same second ends =
      let f = formed_if e a b here (sym (ap (λ z. is_some (scope_after z here)) is) ∙ typed) in
      subst (λ z. DoesOne here (names_with known last) z (action.If code x y)) (sym is)
      (subst (λ k. DoesOne here (names_with known k) (If e a b) (action.If code x y)) (sym (ends ∙ same))
      (does_if here e _ code f.condition (compiled _ f.condition) a b x y first (subst (λ k. DoesAll (names_with known k) b y) same second)))

  -- what is known in a loop
  abbrev Enters : ℕ → Known → Type 0
  Enters class inside = (cs : Known_at) (within : Names) → within_loop (names_with known cs) class ≡ Some within → within ≡ names_with inside cs

  pub planned_loop : (class at : ℕ) (body : List Stmt) (bounds : List Bound) (x : List Action) (inside : Known) (variable : Who) → IsTyped known constants (Foreach class body at)
      → variable ≡ variable_in known → bounds ≡ bounds_over (map nested body) variable (slice_get known.classes.now class) → Enters class inside → DoesAll (names_with inside constants) body x
      → DoesOne here here (Foreach class body at) (action.Foreach class bounds x at)
  planned_loop class at body bounds x inside variable typed is_variable is enters does =
      let f = formed_loop class body at here typed in
      does_loop here f.inside class at body bounds x f.entered f.formed (is ∙ ap (λ v. bounds_over (map nested body) v (slice_get known.classes.now class)) is_variable)
      (subst (λ k. DoesAll k body x) (sym (enters constants f.inside f.entered)) does)

  variable_inside : (names within : Names) (class : ℕ) (o : Option ℕ) → names.outer_class ≡ o
      → (if is_none o then Some (record names { outer_class = Some class }) else only (is_none names.inner_class) (record names { inner_class = Some class })) ≡ Some within
      → (variable_of within.outer_class ≡ Inner) × (within.classes ≡ names.classes)
  variable_inside names within class None is e = let same : record names { outer_class = Some class } ≡ within = cc in (ap (λ k. variable_of k.outer_class) (sym same), ap (λ k. k.classes) (sym same))
  variable_inside names within class (Some n) is e = by_inner (is_none names.inner_class) e
    where
      by_inner : (free : Bool) → only free (record names { inner_class = Some class }) ≡ Some within → (variable_of within.outer_class ≡ Inner) × (within.classes ≡ names.classes)
      by_inner false k = absurd (cc)
      by_inner true k =
          let same : record names { inner_class = Some class } ≡ within = cc in
          (ap (λ m. variable_of m.outer_class) (sym same) ∙ ap variable_of is, ap (λ m. m.classes) (sym same))

  pub told_loop : (class at : ℕ) (body : List Stmt) (bounds : List Bound) (x : List Action) (inside : Known) (variable : Who) → IsTyped known constants (Foreach class body at)
      → variable ≡ variable_in known → bounds ≡ bounds_over (map nested body) variable (slice_get known.classes.now class) → Enters class inside
      → told_by x ≡ loops_of inside.classes.now (variable_in inside) body → told (action.Foreach class bounds x at) ≡ loops_of known.classes.now (variable_in known) (Foreach class body at ∷ [])
  told_loop class at body bounds x inside variable typed is_variable is enters tells =
      let f = formed_loop class body at here typed in
      let (inner, classes) = variable_inside here f.inside class known.outer refl f.entered in
      let entered = enters constants f.inside f.entered in
      let inner_is : variable_in inside ≡ Inner = ap (λ k. variable_of k.outer_class) (sym entered) ∙ inner in
      let classes_are : inside.classes.now ≡ known.classes.now = ap (λ k. k.classes) (sym entered) ∙ classes in
      let bounds_are = is ∙ ap (λ v. bounds_over (map nested body) v (slice_get known.classes.now class)) is_variable in
      told-Foreach class bounds x at
      ∙ ap (λ ls. let l : Loop = record { at = at; class = class; bounds = length bounds } in l ∷ ls)
      (tells ∙ ap (λ cs. loops_of cs (variable_in inside) body) classes_are ∙ ap (λ v. loops_of known.classes.now v body) inner_is ∙ sym (append-nil (loops_of known.classes.now Inner body)))
      ∙ sym (loops-Foreach class body at known.classes.now (variable_in known) bounds bounds_are)

pub told_if : (classes : List Class) (variable : Who) (s : Stmt) (e : Expr) (a b : List Stmt) (code : Code) (x y : List Action) → s ≡ If e a b
    → told_by x ≡ loops_of classes variable a → told_by y ≡ loops_of classes variable b → told (action.If code x y) ≡ loops_of classes variable (s ∷ [])
told_if classes variable s e a b code x y is first second =
    told-If code x y ∙ ap₂ (λ p q. p ++ q) first second ∙ sym (append-nil (loops_of classes variable a ++ loops_of classes variable b)) ∙ sym (loops-If e a b classes variable)
    ∙ ap (λ z. loops_of classes variable (z ∷ [])) (sym is)

pub told_const : (classes : List Class) (variable : Who) (s : Stmt) (n : ℕ) (e : Expr) (code : Code) → s ≡ Const n e → told (action.Const n code) ≡ loops_of classes variable (s ∷ [])
told_const classes variable s n e code is = told-Const n code ∙ sym (loops-Const n e classes variable) ∙ ap (λ z. loops_of classes variable (z ∷ [])) (sym is)

pub told_assign : (classes : List Class) (variable : Who) (s : Stmt) (who : Who) (effect : ℕ) (e : Expr) (at : ℕ) (code : Code) → s ≡ Assign who effect e at
    → told (action.Assign who effect code) ≡ loops_of classes variable (s ∷ [])
told_assign classes variable s who effect e at code is = told-Assign who effect code ∙ sym (loops-Assign who effect e at classes variable) ∙ ap (λ z. loops_of classes variable (z ∷ [])) (sym is)

-- ---- blocks

module _ (block : List Stmt) (i : ℕ) (s : Stmt) (low : i < length block) (is : s ≡ get_or block i s) where
  next_is : drop i block ≡ s ∷ drop (i + 1) block
  next_is = drop_more block i s low ∙ ap (λ x. x ∷ drop (i + 1) block) (sym is)

  taken_is : take (i + 1) block ≡ take i block ++ s ∷ []
  taken_is = take_next block i s low is

  pub after_next : (names mid last : Names) → After (take i block) names mid → scope_after s mid ≡ Some last → After (take (i + 1) block) names last
  after_next names mid last e step = subst (λ b. After b names last) (sym taken_is) (after_more (take i block) s names mid last e step)

  pub rest_next : (mid last : Names) → IsFormed (drop i block) mid → scope_after s mid ≡ Some last → IsFormed (drop (i + 1) block) last
  rest_next mid last e step = rest_formed s (drop (i + 1) block) mid last (subst (λ b. IsFormed b mid) next_is e) step

  pub does_next : (names mid last : Names) (actions new : List Action) (y : Action) → Does names mid (take i block) actions → DoesOne mid last s y → new ≡ actions ++ y ∷ [] → Does names last (take (i + 1) block) new
  does_next names mid last actions new y first second grown =
      subst (λ b. Does names last b new) (sym taken_is) (subst (Does names last (take i block ++ s ∷ [])) (sym grown) (does_more names mid last (take i block) s actions y first second))

  pub told_next : (classes : List Class) (variable : Who) (actions new : List Action) (y : Action) → told_by actions ≡ loops_of classes variable (take i block)
      → told y ≡ loops_of classes variable (s ∷ []) → new ≡ actions ++ y ∷ [] → told_by new ≡ loops_of classes variable (take (i + 1) block)
  told_next classes variable actions new y first second grown =
      ap told_by grown ∙ flat_map-append told actions (y ∷ []) ∙ ap₂ (λ p q. p ++ q) first (append-nil (told y) ∙ second)
      ∙ sym (flat_map-append (λ (x : Nested). x.loops classes variable) (map nested (take i block)) (map nested (s ∷ [])))
      ∙ ap (λ ns. all_loops ns classes variable) (sym (map-append nested (take i block) (s ∷ [])))
      ∙ ap (loops_of classes variable) (sym taken_is)

pub block_cut : (known : Known) (block : List Stmt) (i outside : ℕ) (constants last kept : Known_at) → length block ≤ i → outside ≡ length constants
    → After (take i block) (names_with known constants) (names_with known last) → kept ≡ drop (length last - outside) last → kept ≡ constants
block_cut known block i outside constants last kept past is after cut =
    cut ∙ ap (λ n. drop (length last - n) last) is ∙ cut_back block (names_with known constants) (names_with known last) (subst (λ b. After b (names_with known constants) (names_with known last)) (take_all i block past) after)
