-- What a well-formed statement says of its parts.
use Rattle.std.proofs.Common.{◌≡◌, ◌∙◌, refl, sym, ap, subst, append_assoc, arith, ℕ, ◌-◌, drop, length, List, [], ◌∷◌, ◌++◌, map, Bool, true, false, Option, Some, None}
use Rattle.std.specs.Prelude.{is_some, option_map}
use Rattle.std.specs.Option.{option_and_then}
use Rattle.std.proofs.lemmas.Bool.{and_parts}
use Rattle.std.proofs.lemmas.List.{length-append, drop_at}
use Rattle.brace_model.specs.declared.program.Ty.{Ty}
use Rattle.brace_model.specs.declared.program.Ty.TheVariants as ty
use Rattle.brace_model.specs.declared.program.Who.{Who}
use Rattle.brace_model.specs.declared.program.Effect.{Effect}
use Rattle.brace_model.specs.declared.program.Expr.{Expr}
use Rattle.brace_model.specs.declared.program.Stmt.{Stmt}
use Rattle.brace_model.specs.declared.program.Stmt.TheVariants.{Const, If, Foreach, Assign}
use Rattle.brace_model.specs.Typing.{Names, only, effect_named, type_of, is_of_type, within_loop, takes, in_turn, scope_after}
use Rattle.brace_model.proofs.Blocks as b
use Rattle.brace_model.proofs.Blocks.{Plain, plain}
use Rattle.brace_model.proofs.LawEquations.{scope_after-Const, scope_after-If, scope_after-Foreach, scope_after-Assign}

-- a block that is well formed in a scope
abbrev pub IsFormed : List Stmt → Names → Type 0
IsFormed s names = is_some (in_turn (map scope_after s) names) ≡ true

only_there : (test : Bool) (names : Names) → is_some (only test names) ≡ true → (test ≡ true) × (only test names ≡ Some names)
only_there true names e = (refl, refl)
only_there false names e = absurd (cc)

bool_type : (o : Option Ty) → is_of_type ty.Bool o ≡ true → o ≡ Some ty.Bool
bool_type (Some ty.Bool) e = refl
bool_type _ e = absurd (cc)

two_steps : {A : Type 0} (f : A → Option Names) (o : Option A) → is_some (option_and_then f o) ≡ true → (a : A) × (o ≡ Some a) × (is_some (f a) ≡ true)
two_steps f None e = absurd (cc)
two_steps f (Some a) e = (a, refl, e)

pub record FormedIf (c : Expr) (a b : List Stmt) (names : Names) : Type 0 where
  pub condition : type_of c names ≡ Some ty.Bool
  pub first : IsFormed a names
  pub second : IsFormed b names
  pub after : scope_after (If c a b) names ≡ Some names

pub formed_if : (c : Expr) (a b : List Stmt) (names : Names) → is_some (scope_after (If c a b) names) ≡ true → FormedIf c a b names
formed_if c a b names e =
    let (test, same) = only_there _ names (sym (ap is_some (scope_after-If c a b names)) ∙ e) in
    let (condition, blocks) = and_parts _ _ test in
    let (first, second) = and_parts _ _ blocks in
    record { condition = bool_type (type_of c names) condition; first = first; second = second; after = scope_after-If c a b names ∙ same }

pub record FormedLoop (class : ℕ) (body : List Stmt) (at : ℕ) (names : Names) : Type 0 where
  pub inside : Names
  pub entered : within_loop names class ≡ Some inside
  pub formed : IsFormed body inside
  pub after : scope_after (Foreach class body at) names ≡ Some names

pub formed_loop : (class : ℕ) (body : List Stmt) (at : ℕ) (names : Names) → is_some (scope_after (Foreach class body at) names) ≡ true → FormedLoop class body at names
formed_loop class body at names e =
    let (test, same) = only_there _ names (sym (ap is_some (scope_after-Foreach class body at names)) ∙ e) in
    let (in_range, fits) = and_parts _ _ test in
    let (inside, entered, formed) = two_steps (in_turn (map scope_after body)) (within_loop names class) fits in
    record { inside = inside; entered = entered; formed = formed; after = scope_after-Foreach class body at names ∙ same }

pub record FormedConst (n : ℕ) (e : Expr) (names : Names) : Type 0 where
  pub type : Ty
  pub typed : type_of e names ≡ Some type
  pub after : scope_after (Const n e) names ≡ Some (record names { known = (n, type) ∷ names.known })

const_there : (n : ℕ) (names : Names) (o : Option Ty) → is_some (option_map (λ t. record names { known = (n, t) ∷ names.known }) o) ≡ true → (t : Ty) × (o ≡ Some t)
const_there n names None e = absurd (cc)
const_there n names (Some t) e = (t, refl)

pub formed_const : (n : ℕ) (e : Expr) (names : Names) → is_some (scope_after (Const n e) names) ≡ true → FormedConst n e names
formed_const n e names is =
    let (t, typed) = const_there n names (type_of e names) (sym (ap is_some (scope_after-Const n e names)) ∙ is) in
    record { type = t; typed = typed; after = scope_after-Const n e names ∙ ap (option_map (λ t. record names { known = (n, t) ∷ names.known })) typed }

pub record FormedAssign (who : Who) (effect : ℕ) (e : Expr) (at : ℕ) (names : Names) : Type 0 where
  pub type : Ty
  pub typed : type_of e names ≡ Some type
  pub after : scope_after (Assign who effect e at) names ≡ Some names

taken_type : (effect : Option Effect) (o : Option Ty) → takes effect o ≡ true → (t : Ty) × (o ≡ Some t)
taken_type None o e = absurd (cc)
taken_type (Some effect) None e = absurd (cc)
taken_type (Some effect) (Some t) e = (t, refl)

pub formed_assign : (who : Who) (effect : ℕ) (e : Expr) (at : ℕ) (names : Names) → is_some (scope_after (Assign who effect e at) names) ≡ true → FormedAssign who effect e at names
formed_assign who effect e at names is =
    let (taken, same) = only_there _ names (sym (ap is_some (scope_after-Assign who effect e at names)) ∙ is) in
    let (t, typed) = taken_type (effect_named names who effect) (type_of e names) taken in
    record { type = t; typed = typed; after = scope_after-Assign who effect e at names ∙ same }

-- ---- blocks

-- what is in scope after a block
abbrev pub After : List Stmt → Names → Names → Type 0
After s names last = in_turn (map scope_after s) names ≡ Some last

pub first_formed : (x : Stmt) (s : List Stmt) (names : Names) → IsFormed (x ∷ s) names → is_some (scope_after x names) ≡ true
first_formed x s names e = let (mid, is, rest) = two_steps (in_turn (map scope_after s)) (scope_after x names) e in ap is_some is

pub rest_formed : (x : Stmt) (s : List Stmt) (names mid : Names) → IsFormed (x ∷ s) names → scope_after x names ≡ Some mid → IsFormed s mid
rest_formed x s names mid e is = sym (ap (λ o. is_some (option_and_then (in_turn (map scope_after s)) o)) is) ∙ e

onward : (o : Option Names) (f g : Names → Option Names) (mid last : Names) → ((n : Names) → f n ≡ Some mid → g n ≡ Some last) → option_and_then f o ≡ Some mid → option_and_then g o ≡ Some last
onward None f g mid last h e = absurd (cc)
onward (Some n) f g mid last h e = h n e

pub after_more : (s : List Stmt) (x : Stmt) (names mid last : Names) → After s names mid → scope_after x mid ≡ Some last → After (s ++ x ∷ []) names last
after_more [] x names mid last e is =
    let same : names ≡ mid = cc in
    ap (option_and_then (in_turn [])) (ap (scope_after x) same ∙ is)
after_more (y ∷ s) x names mid last e is =
    onward (scope_after y names) (in_turn (map scope_after s)) (in_turn (map scope_after (s ++ x ∷ []))) mid last (λ n h. after_more s x n mid last h is) e

after_split : (f : Names → Option Names) (o : Option Names) (last : Names) → option_and_then f o ≡ Some last → (mid : Names) × (o ≡ Some mid) × (f mid ≡ Some last)
after_split f None last e = absurd (cc)
after_split f (Some mid) last e = (mid, refl, e)

same_some : (x y : Names) → Some x ≡ Some y → x ≡ y
same_some x y e = cc

-- what was known is known still
abbrev Grew : Names → Names → Type 0
Grew names last = (more : List (ℕ × Ty)) × (last.known ≡ more ++ names.known)

grew_from : (names mid last : Names) → names ≡ mid → Grew mid last → Grew names last
grew_from names mid last e h = subst (λ n. Grew n last) (sym e) h

grew : (s : List Stmt) → Plain s → (names last : Names) → After s names last → Grew names last
grew _ b.none names last e = ([], ap (λ n. n.known) (sym (same_some names last e)))
grew _ (b.const n x s h) names last e =
    let (mid, first, rest) = after_split (in_turn (map scope_after s)) (scope_after (Const n x) names) last e in
    let f = formed_const n x names (ap is_some first) in
    let (more, is) = grew s h mid last rest in
    let mid_is = ap (λ m. m.known) (same_some _ mid (sym f.after ∙ first)) in
    (more ++ (n, f.type) ∷ [], is ∙ ap (λ k. more ++ k) (sym mid_is) ∙ sym (append_assoc more ((n, f.type) ∷ []) names.known))
grew _ (b.cond c x y s hx hy h) names last e =
    let (mid, first, rest) = after_split (in_turn (map scope_after s)) (scope_after (If c x y) names) last e in
    grew_from names mid last (same_some names mid (sym (formed_if c x y names (ap is_some first)).after ∙ first)) (grew s h mid last rest)
grew _ (b.loop class at body s hb h) names last e =
    let (mid, first, rest) = after_split (in_turn (map scope_after s)) (scope_after (Foreach class body at) names) last e in
    grew_from names mid last (same_some names mid (sym (formed_loop class body at names (ap is_some first)).after ∙ first)) (grew s h mid last rest)
grew _ (b.say who effect x at s h) names last e =
    let (mid, first, rest) = after_split (in_turn (map scope_after s)) (scope_after (Assign who effect x at) names) last e in
    grew_from names mid last (same_some names mid (sym (formed_assign who effect x at names (ap is_some first)).after ∙ first)) (grew s h mid last rest)

-- behind a block its constants are cut off
pub cut_back : (s : List Stmt) (names last : Names) → After s names last → drop (length last.known - length names.known) last.known ≡ names.known
cut_back s names last e =
    let (more, is) = grew s (plain s) names last e in
    ap (λ k. drop (length k - length names.known) k) is
    ∙ drop_at more names.known (length (more ++ names.known) - length names.known) (omega (arith, length-append more names.known))
