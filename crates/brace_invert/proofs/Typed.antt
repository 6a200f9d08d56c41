-- Types of expressions and blocks, in a program whose classes have other queries; a part of a well-formed block is well formed.
use Rattle.std.proofs.Common.{◌≡◌, ◌∙◌, refl, sym, ap, ap₂, subst, ℕ, List, [], ◌∷◌, ◌++◌, map, flat_map, length, Bool, true, false, Option, Some, None}
use Rattle.std.specs.Prelude.{◌&&◌, if◌then◌else◌, is_some, is_none, option_map, slice_get, nat_lt}
use Rattle.std.specs.Option.{option_and_then}
use Rattle.std.proofs.lemmas.Option.{slice_get-map}
use Rattle.std.proofs.lemmas.List.{length-map, map-append}
use Rattle.brace_model.specs.declared.program.Ty.{Ty}
use Rattle.brace_model.specs.declared.program.Ty.TheVariants as ty
use Rattle.brace_model.specs.declared.program.Value.TheVariants.{Flag}
use Rattle.brace_model.specs.declared.program.Who.{Who}
use Rattle.brace_model.specs.declared.program.Who.TheVariants.{This}
use Rattle.brace_model.specs.declared.program.Effect.{Effect}
use Rattle.brace_model.specs.declared.program.Class.{Class}
use Rattle.brace_model.specs.declared.program.Expr.{Expr}
use Rattle.brace_model.specs.declared.program.Expr.TheVariants.{Lit}
use Rattle.brace_model.specs.declared.program.Expr.TheOpen as expr
use Rattle.brace_model.specs.declared.program.Expr.TheFolds.{map-Expr, ind-Expr, fold-roll-Expr}
use Rattle.brace_model.specs.declared.program.Stmt.{Stmt}
use Rattle.brace_model.specs.declared.program.Stmt.TheVariants.{Const, If, Foreach, Assign}
use Rattle.brace_model.specs.Typing.{Names, only, class_named, state_type, effect_named, unary_type, binary_type, choice_type, is_sited, is_sum, same_type, unary_faults, binary_faults, type_step, type_of, is_of_type, within_loop, takes, in_turn, scope_after}
use Rattle.brace_model.specs.Sites.{constant_numbers}
use Rattle.brace_model.proofs.LawEquations.{type_of-Lit, scope_after-Const, scope_after-If, scope_after-Foreach, scope_after-Assign}
use Rattle.brace_invert.specs.Split.{unread, places, with_query}
use Rattle.brace_invert.proofs.Pruned as pruned
use Rattle.brace_invert.proofs.Pruned.{Pruned}
use Rattle.std.proofs.lemmas.Bool.{and_from, and_parts}

-- the same names, in a program whose classes have other queries
abbrev pub renamed : (List Stmt → List Stmt) → Names → Names
renamed part names = record names { classes = map (with_query part) names.classes }

-- what a class has but for its query
seen_in : {A : Type 0} (part : List Stmt → List Stmt) (classes : List Class) (n : ℕ) (f : Class → Option A) → ((c : Class) → f (with_query part c) ≡ f c)
    → option_and_then f (slice_get (map (with_query part) classes) n) ≡ option_and_then f (slice_get classes n)
seen_in part classes n f same = ap (option_and_then f) (slice_get-map (with_query part) classes n) ∙ through (slice_get classes n)
  where
    through : (o : Option Class) → option_and_then f (option_map (with_query part) o) ≡ option_and_then f o
    through None = refl
    through (Some c) = same c

-- the same of a class that may be named
named_in : {A : Type 0} (o : Option ℕ) (f g : ℕ → Option A) → ((n : ℕ) → f n ≡ g n) → option_and_then f o ≡ option_and_then g o
named_in None f g same = refl
named_in (Some n) f g same = same n

state_same : (part : List Stmt → List Stmt) (names : Names) (who : Who) (i : ℕ) → state_type (renamed part names) who i ≡ state_type names who i
state_same part names who i = named_in (class_named names who) _ _ (λ n. seen_in part names.classes n _ (λ c. refl))

effect_same : (part : List Stmt → List Stmt) (names : Names) (who : Who) (i : ℕ) → effect_named (renamed part names) who i ≡ effect_named names who i
effect_same part names who i = named_in (class_named names who) _ _ (λ n. seen_in part names.classes n _ (λ c. refl))

-- an expression has the same type
abbrev IsSame : (List Stmt → List Stmt) → Expr → Type 0
IsSame part e = (names : Names) → type_of e (renamed part names) ≡ type_of e names

abbrev Known : (List Stmt → List Stmt) → Type 0
Known part = (e : Expr) × IsSame part e

abbrev known : (part : List Stmt → List Stmt) → Known part → Expr
known part p = p.0

abbrev Types : Type 0
Types = Names → Option Ty

layer_same : (part : List Stmt → List Stmt) (y : expr.Expr-F (Known part)) (names : Names)
    → type_step (map-Expr Expr Types type_of (map-Expr (Known part) Expr (known part) y)) (renamed part names) ≡ type_step (map-Expr Expr Types type_of (map-Expr (Known part) Expr (known part) y)) names
layer_same part (expr.Field who i) names = state_same part names who i
layer_same part (expr.Total effect type site) names = ap (λ o. if names.in_rule then option_and_then (λ e. only (same_type e.ty type && is_sited (is_sum e.comb) site) type) o else None) (effect_same part names This effect)
layer_same part (expr.Unary op site a) names = ap (λ o. if is_sited (unary_faults op) site then option_and_then (unary_type op) o else None) (a.1 names)
layer_same part (expr.Binary op site a b) names =
    ap₂ (λ o p. if is_sited (binary_faults op) site then option_and_then (λ s. option_and_then (binary_type op s) p) o else None) (a.1 names) (b.1 names)
layer_same part (expr.Choice c a b) names =
    ap₂ (λ o q. option_and_then (λ p. option_and_then (λ s. option_and_then (choice_type p s) (type_of b.0 (renamed part names))) q) o) (c.1 names) (a.1 names)
    ∙ ap (λ o. option_and_then (λ p. option_and_then (λ s. option_and_then (choice_type p s) o) (type_of a.0 names)) (type_of c.0 names)) (b.1 names)
layer_same part _ names = refl

pub type_same : (part : List Stmt → List Stmt) (e : Expr) (names : Names) → type_of e (renamed part names) ≡ type_of e names
type_same part = ind-Expr (IsSame part) (λ x y is names.
    let step = subst (λ z. type_step (map-Expr Expr Types type_of z) (renamed part names) ≡ type_step (map-Expr Expr Types type_of z) names) is (layer_same part y names) in
    ap (λ f. f (renamed part names)) (fold-roll-Expr Types type_step x) ∙ step ∙ sym (ap (λ f. f names) (fold-roll-Expr Types type_step x)))

-- what an answer of two steps says of each
pub two_steps : {A B : Type 0} (f : A → Option B) (o : Option A) (b : B) → option_and_then f o ≡ Some b → (a : A) × (o ≡ Some a) × (f a ≡ Some b)
two_steps f None b e = absurd (cc)
two_steps f (Some a) b e = (a, refl, e)

pub only_where : {A : Type 0} (test : Bool) (a b : A) → only test a ≡ Some b → (test ≡ true) × (a ≡ b)
only_where true a b e = (refl, cc)
only_where false a b e = absurd (cc)

pub is_there : {A : Type 0} (o : Option A) → is_some o ≡ true → (a : A) × (o ≡ Some a)
is_there None e = absurd (cc)
is_there (Some a) e = (a, refl)

-- what is in scope after a block
abbrev pub After : List Stmt → Names → Names → Type 0
After s names last = in_turn (map scope_after s) names ≡ Some last

-- a block that is well formed in a scope
abbrev pub IsFormed : List Stmt → Names → Type 0
IsFormed s names = (last : Names) × After s names last

-- what a block says of its first statement's parts, where it is well formed, and of the rest
pub record FormedIf (c : Expr) (a b s : List Stmt) (names last : Names) : Type 0 where
  pub condition : type_of c names ≡ Some ty.Bool
  pub first : IsFormed a names
  pub second : IsFormed b names
  pub rest : After s names last

pub record FormedLoop (class : ℕ) (body s : List Stmt) (names last : Names) : Type 0 where
  pub inside : Names
  pub entered : within_loop names class ≡ Some inside
  pub known_class : nat_lt class (length names.classes) ≡ true
  pub body_is_formed : IsFormed body inside
  pub rest : After s names last

pub record FormedConst (n : ℕ) (e : Expr) (s : List Stmt) (names last : Names) : Type 0 where
  pub type : Ty
  pub typed : type_of e names ≡ Some type
  pub rest : After s (record names { known = (n, type) ∷ names.known }) last

pub record FormedAssign (who : Who) (effect : ℕ) (e : Expr) (s : List Stmt) (names last : Names) : Type 0 where
  pub type : Ty
  pub typed : type_of e names ≡ Some type
  pub taken : takes (effect_named names who effect) (type_of e names) ≡ true
  pub rest : After s names last

pub after_split : (x : Stmt) (s : List Stmt) (names last : Names) → After (x ∷ s) names last → (mid : Names) × (scope_after x names ≡ Some mid) × After s mid last
after_split x s names last e = two_steps (in_turn (map scope_after s)) (scope_after x names) last e

-- the same scope goes on where a statement leaves it as it is
stays : (x : Stmt) (s : List Stmt) (names last : Names) (test : Bool) → scope_after x names ≡ only test names → After (x ∷ s) names last → (test ≡ true) × After s names last
stays x s names last test is e =
    let (mid, first, rest) = after_split x s names last e in
    let (holds, same) = only_where test names mid (sym is ∙ first) in
    (holds, subst (λ n. After s n last) (sym same) rest)

bool_type : (o : Option Ty) → is_of_type ty.Bool o ≡ true → o ≡ Some ty.Bool
bool_type (Some ty.Bool) e = refl
bool_type _ e = absurd (cc)

pub formed_if : (c : Expr) (a b s : List Stmt) (names last : Names) → After (If c a b ∷ s) names last → FormedIf c a b s names last
formed_if c a b s names last e =
    let (test, rest) = stays (If c a b) s names last _ (scope_after-If c a b names) e in
    let (condition, blocks) = and_parts _ _ test in
    let (first, second) = and_parts _ _ blocks in
    record { condition = bool_type (type_of c names) condition; first = is_there _ first; second = is_there _ second; rest = rest }

pub formed_loop : (class : ℕ) (body : List Stmt) (at : ℕ) (s : List Stmt) (names last : Names) → After (Foreach class body at ∷ s) names last → FormedLoop class body s names last
formed_loop class body at s names last e =
    let (test, rest) = stays (Foreach class body at) s names last _ (scope_after-Foreach class body at names) e in
    let (in_range, fits) = and_parts _ _ test in
    let (end, is) = is_there _ fits in
    let (inside, entered, formed) = two_steps (in_turn (map scope_after body)) (within_loop names class) end is in
    record { inside = inside; entered = entered; known_class = in_range; body_is_formed = (end, formed); rest = rest }

constant_bound : (n : ℕ) (names last : Names) (o : Option Ty) → option_map (λ t. record names { known = (n, t) ∷ names.known }) o ≡ Some last
    → (t : Ty) × (o ≡ Some t) × (last ≡ record names { known = (n, t) ∷ names.known })
constant_bound n names last None e = absurd (cc)
constant_bound n names last (Some t) e = (t, refl, cc)

pub formed_const : (n : ℕ) (e : Expr) (s : List Stmt) (names last : Names) → After (Const n e ∷ s) names last → FormedConst n e s names last
formed_const n e s names last is =
    let (mid, first, rest) = after_split (Const n e) s names last is in
    let (t, typed, bound) = constant_bound n names mid (type_of e names) (sym (scope_after-Const n e names) ∙ first) in
    record { type = t; typed = typed; rest = subst (λ m. After s m last) bound rest }

pub formed_assign : (who : Who) (effect : ℕ) (e : Expr) (at : ℕ) (s : List Stmt) (names last : Names) → After (Assign who effect e at ∷ s) names last → FormedAssign who effect e s names last
formed_assign who effect e at s names last is =
    let (taken, rest) = stays (Assign who effect e at) s names last _ (scope_after-Assign who effect e at names) is in
    let (t, typed) = taken_type (effect_named names who effect) (type_of e names) taken in
    record { type = t; typed = typed; taken = taken; rest = rest }
  where
    taken_type : (effect : Option Effect) (o : Option Ty) → takes effect o ≡ true → (t : Ty) × (o ≡ Some t)
    taken_type None o e = absurd (cc)
    taken_type (Some effect) None e = absurd (cc)
    taken_type (Some effect) (Some t) e = (t, refl)

-- a part of a well-formed block
in_turn-through : (xs ys : List (Names → Option Names)) (o : Option Names) → ((names : Names) → in_turn (xs ++ ys) names ≡ option_and_then (in_turn ys) (in_turn xs names))
    → option_and_then (in_turn (xs ++ ys)) o ≡ option_and_then (in_turn ys) (option_and_then (in_turn xs) o)
in_turn-through xs ys None h = refl
in_turn-through xs ys (Some n) h = h n

in_turn-append : (xs ys : List (Names → Option Names)) (names : Names) → in_turn (xs ++ ys) names ≡ option_and_then (in_turn ys) (in_turn xs names)
in_turn-append [] ys names = refl
in_turn-append (x ∷ xs) ys names = in_turn-through xs ys (x names) (in_turn-append xs ys)

pub after_cons : (x : Stmt) (s : List Stmt) (names mid last : Names) → scope_after x names ≡ Some mid → After s mid last → After (x ∷ s) names last
after_cons x s names mid last first rest = ap (option_and_then (in_turn (map scope_after s))) first ∙ rest

after_append : (r s : List Stmt) (names mid last : Names) → After r names mid → After s mid last → After (r ++ s) names last
after_append r s names mid last first rest =
    ap (λ fs. in_turn fs names) (map-append scope_after r s) ∙ in_turn-append (map scope_after r) (map scope_after s) names ∙ ap (option_and_then (in_turn (map scope_after s))) first ∙ rest

only_so : (test : Bool) (names : Names) → test ≡ true → only test names ≡ Some names
only_so test names e = ap (λ t. only t names) e

unread_known : (n : ℕ) (names : Names) → scope_after (unread n) names ≡ Some (record names { known = (n, ty.Bool) ∷ names.known })
unread_known n names = scope_after-Const n (Lit (Flag false)) names ∙ ap (option_map (λ t. record names { known = (n, t) ∷ names.known })) (type_of-Lit (Flag false) names)

unread_formed : (ns : List ℕ) (names : Names) → IsFormed (map unread ns) names
unread_formed [] names = (names, refl)
unread_formed (n ∷ ns) names =
    let (last, rest) = unread_formed ns (record names { known = (n, ty.Bool) ∷ names.known }) in
    (last, after_cons (unread n) (map unread ns) names _ last (unread_known n names) rest)

if_formed : (c : Expr) (a b : List Stmt) (names : Names) → type_of c names ≡ Some ty.Bool → IsFormed a names → IsFormed b names → scope_after (If c a b) names ≡ Some names
if_formed c a b names condition first second =
    scope_after-If c a b names
    ∙ only_so _ names (and_from _ _ (ap (is_of_type ty.Bool) condition) (and_from _ _ (ap is_some first.1) (ap is_some second.1)))

places_formed : (ns : List ℕ) (names : Names) → After (places ns) names names
places_formed [] names = refl
places_formed (n ∷ ns) names =
    after_cons _ [] names names names (if_formed (Lit (Flag false)) (map unread (n ∷ ns)) [] names (type_of-Lit (Flag false) names) (unread_formed (n ∷ ns) names) (names, refl)) refl

chosen_same : (part : List Stmt → List Stmt) (first second : Bool) (x y : Names)
    → (if first then Some (renamed part x) else only second (renamed part y)) ≡ option_map (renamed part) (if first then Some x else only second y)
chosen_same part true second x y = refl
chosen_same part false true x y = refl
chosen_same part false false x y = refl

within_same : (part : List Stmt → List Stmt) (names : Names) (class : ℕ) → within_loop (renamed part names) class ≡ option_map (renamed part) (within_loop names class)
within_same part names class = chosen_same part (is_none names.outer_class) (is_none names.inner_class) (record names { outer_class = Some class }) (record names { inner_class = Some class })

loop_formed : (class : ℕ) (body : List Stmt) (at : ℕ) (names inside : Names) → nat_lt class (length names.classes) ≡ true → within_loop names class ≡ Some inside → IsFormed body inside
    → scope_after (Foreach class body at) names ≡ Some names
loop_formed class body at names inside in_range entered formed =
    scope_after-Foreach class body at names
    ∙ only_so _ names (and_from _ _ in_range (ap (λ o. is_some (option_and_then (in_turn (map scope_after body)) o)) entered ∙ ap is_some formed.1))

pub part_formed : (part : List Stmt → List Stmt) (s p : List Stmt) → Pruned s p → (names last : Names) → After s names last → After p (renamed part names) (renamed part last)
part_formed part _ _ pruned.none names last e = ap (option_map (renamed part)) e
part_formed part _ _ (pruned.const n x s p h) names last e =
    let f = formed_const n x s names last e in
    after_cons (Const n x) p (renamed part names) _ (renamed part last)
    (scope_after-Const n x (renamed part names) ∙ ap (option_map (λ t. record (renamed part names) { known = (n, t) ∷ names.known })) (type_same part x names ∙ f.typed))
    (part_formed part s p h _ last f.rest)
part_formed part _ _ (pruned.cond c a pa b pb s p ha hb h) names last e =
    let f = formed_if c a b s names last e in
    after_cons (If c pa pb) p (renamed part names) (renamed part names) (renamed part last)
    (if_formed c pa pb (renamed part names) (type_same part c names ∙ f.condition)
    (renamed part f.first.0, part_formed part a pa ha names f.first.0 f.first.1) (renamed part f.second.0, part_formed part b pb hb names f.second.0 f.second.1))
    (part_formed part s p h names last f.rest)
part_formed part _ _ (pruned.loop class at body pb s p hb h) names last e =
    let f = formed_loop class body at s names last e in
    after_cons (Foreach class pb at) p (renamed part names) (renamed part names) (renamed part last)
    (loop_formed class pb at (renamed part names) (renamed part f.inside) (ap (nat_lt class) (length-map names.classes (with_query part)) ∙ f.known_class)
    (within_same part names class ∙ ap (option_map (renamed part)) f.entered)
    (renamed part f.body_is_formed.0, part_formed part body pb hb f.inside f.body_is_formed.0 f.body_is_formed.1))
    (part_formed part s p h names last f.rest)
part_formed part _ _ (pruned.away class at body s p h) names last e =
    after_append (places (flat_map constant_numbers body)) p (renamed part names) (renamed part names) (renamed part last) (places_formed (flat_map constant_numbers body) (renamed part names))
    (part_formed part s p h names last (formed_loop class body at s names last e).rest)
part_formed part _ _ (pruned.kept who effect x at s p h) names last e =
    let f = formed_assign who effect x at s names last e in
    after_cons (Assign who effect x at) p (renamed part names) (renamed part names) (renamed part last)
    (scope_after-Assign who effect x at (renamed part names)
    ∙ ap₂ (λ f o. only (takes f o) (renamed part names)) (effect_same part names who effect) (type_same part x names) ∙ only_so _ (renamed part names) f.taken)
    (part_formed part s p h names last f.rest)
part_formed part _ _ (pruned.left_out who effect x at s p h) names last e = part_formed part s p h names last (formed_assign who effect x at s names last e).rest
