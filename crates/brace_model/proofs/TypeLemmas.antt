-- The value of a well-typed expression is of its type.
use Rattle.std.proofs.Common.{◌≡◌, ◌∙◌, refl, sym, ap, subst, ℕ, ℤ, pos, Bool, true, false, Option, Some, None, Result, Ok, Err}
use Rattle.std.specs.Prelude.{◌&&◌, if◌then◌else◌, slice_index_or}
use Rattle.std.specs.Option.{option_and_then}
use Rattle.brace_num.specs.declared.kinds.Kind.{Kind}
use Rattle.brace_num.specs.Exact.{fitting}
use Rattle.brace_model.specs.declared.program.Ty.{Ty}
use Rattle.brace_model.specs.declared.program.Ty.TheVariants as ty
use Rattle.brace_model.specs.declared.program.Value.{Value}
use Rattle.brace_model.specs.declared.program.Value.TheVariants.{Int, Fixed, Flag}
use Rattle.brace_model.specs.declared.program.UnOp.{UnOp}
use Rattle.brace_model.specs.declared.program.UnOp.TheVariants as un
use Rattle.brace_model.specs.declared.program.BinOp.{BinOp}
use Rattle.brace_model.specs.declared.program.BinOp.TheVariants as bin
use Rattle.brace_model.specs.declared.program.Who.TheVariants.{This}
use Rattle.brace_model.specs.declared.program.Expr.{Expr}
use Rattle.brace_model.specs.declared.program.Expr.TheOpen as expr
use Rattle.brace_model.specs.declared.program.Expr.TheFolds.{map-Expr, ind-Expr, fold-roll-Expr}
use Rattle.brace_model.specs.Value.{Scope, Worth, made, typed, like, unary, strict, with_value, choose, binary, total_read, value_step, value}
use Rattle.brace_model.specs.Typing.{Names, same_type, is_number, type_of_value, only, effect_named, is_sited, is_sum, unary_faults, binary_faults, unary_type, operation_type, binary_type, choice_type, type_step, type_of}
use Rattle.brace_model.specs.Typed.{Fits}

-- ---- what an answer says of its parts

-- a step was taken from what was there
pub record Passed (A : Type 0) (o : Option A) (f : A → Option Ty) (t : Ty) : Type 0 where
  pub from : A
  pub was : o ≡ Some from
  pub gives : f from ≡ Some t

pub passed : {A : Type 0} (o : Option A) (f : A → Option Ty) (t : Ty) → option_and_then f o ≡ Some t → Passed A o f t
passed (Some a) f t e = record { from = a; was = refl; gives = e }
passed None f t e = absurd (cc)

-- an outcome that goes on has a value
record Reached (w : Worth) (f : Value → Worth) (v : Value) : Type 0 where
  pub from : Value
  pub was : w ≡ Ok from
  pub gives : f from ≡ Ok v

reached : (w : Worth) (f : Value → Worth) (v : Value) → with_value w f ≡ Ok v → Reached w f v
reached (Ok u) f v e = record { from = u; was = refl; gives = e }
reached (Err stop) f v e = absurd (cc)

pub some_is : (s t : Ty) → Some s ≡ Some t → s ≡ t
some_is s t e = cc

ok_is : (u v : Value) → (let w : Worth = Ok u in w) ≡ Ok v → u ≡ v
ok_is u v e = cc

pub only_true : (test : Bool) (s t : Ty) → only test s ≡ Some t → test ≡ true
only_true true s t e = refl
only_true false s t e = absurd (cc)

pub only_same : (test : Bool) (s t : Ty) → only test s ≡ Some t → s ≡ t
only_same true s t e = cc
only_same false s t e = absurd (cc)

pub chosen_some : (test : Bool) (o : Option Ty) (t : Ty) → (if test then o else None) ≡ Some t → o ≡ Some t
chosen_some true o t e = e
chosen_some false o t e = absurd (cc)

pub chosen_true : (test : Bool) (o : Option Ty) (t : Ty) → (if test then o else None) ≡ Some t → test ≡ true
chosen_true true o t e = refl
chosen_true false o t e = absurd (cc)

pub and_first : (p q : Bool) → (p && q) ≡ true → p ≡ true
and_first true q e = refl
and_first false q e = absurd (cc)

pub and_second : (p q : Bool) → (p && q) ≡ true → q ≡ true
and_second true q e = e
and_second false q e = absurd (cc)

pub one_type : (s t : Ty) → same_type s t ≡ true → s ≡ t
one_type ty.Int ty.Int e = refl
one_type ty.Int ty.Fixed e = absurd (cc)
one_type ty.Int ty.Bool e = absurd (cc)
one_type ty.Fixed ty.Int e = absurd (cc)
one_type ty.Fixed ty.Fixed e = refl
one_type ty.Fixed ty.Bool e = absurd (cc)
one_type ty.Bool ty.Int e = absurd (cc)
one_type ty.Bool ty.Fixed e = absurd (cc)
one_type ty.Bool ty.Bool e = refl

-- ---- values and operations

-- a value that is there is of a type
abbrev pub IsOf : Ty → Worth → Type 0
IsOf t w = (v : Value) → w ≡ Ok v → type_of_value v ≡ t

pub just : (u v : Value) (t : Ty) → (let w : Worth = Ok u in w) ≡ Ok v → type_of_value u ≡ t → type_of_value v ≡ t
just u v t e is = ap type_of_value (sym (ok_is u v e)) ∙ is

typed_is : (t : Ty) (n : ℤ) → type_of_value (typed t n) ≡ t
typed_is ty.Int n = refl
typed_is _ n = refl

like_is : (u : Value) (n : ℤ) → is_number (type_of_value u) ≡ true → type_of_value (like u n) ≡ type_of_value u
like_is (Flag b) n e = absurd (cc)
like_is _ n e = refl

made_is : (f : ℤ → Value) (t : Ty) (site : Option ℕ) (r : Result ℤ Kind) → ((n : ℤ) → type_of_value (f n) ≡ t) → IsOf t (made f site r)
made_is f t site (Ok n) is v e = just (f n) v t e (is n)
made_is f t site (Err kind) is v e = absurd (cc)

-- a number of the type that another has
made_like_is : (u : Value) (t : Ty) (site : Option ℕ) (r : Result ℤ Kind) → only (is_number (type_of_value u)) (type_of_value u) ≡ Some t
    → IsOf t (made (like u) site r)
made_like_is u t site r e v came =
    made_is (like u) (type_of_value u) site r (λ n. like_is u n (only_true _ _ t e)) v came ∙ only_same _ _ t e

like_only_is : (u : Value) (n : ℤ) (t : Ty) (v : Value) → only (is_number (type_of_value u)) (type_of_value u) ≡ Some t
    → (let w : Worth = Ok (like u n) in w) ≡ Ok v → type_of_value v ≡ t
like_only_is u n t v e came = just (like u n) v t came (like_is u n (only_true _ _ t e) ∙ only_same _ _ t e)

total_is : (t : Ty) (site : Option ℕ) (n : ℤ) → IsOf t (total_read t site n)
total_is t None n v e = just _ v t e (typed_is t _)
total_is t (Some site) n v e = made_is (typed t) t (Some site) (fitting n) (typed_is t) v e

unary_is : (op : UnOp) (site : Option ℕ) (u : Value) (t : Ty) → unary_type op (type_of_value u) ≡ Some t → IsOf t (unary op site u)
unary_is un.Not site u t e v came = just _ v t came (only_same _ ty.Bool t e)
unary_is un.Sqrt site u t e v came = made_is Fixed ty.Fixed site _ (λ n. refl) v came ∙ only_same _ ty.Fixed t e
unary_is un.ToFixed site u t e v came = made_is Fixed ty.Fixed site _ (λ n. refl) v came ∙ only_same _ ty.Fixed t e
unary_is un.Trunc site u t e v came = just _ v t came (only_same _ ty.Int t e)
unary_is _ site u t e v came = made_like_is u t site _ e v came

rem_is : (u : Value) (t : Ty) (site : Option ℕ) (r : Result ℤ Kind) → only (same_type (type_of_value u) ty.Int) ty.Int ≡ Some t
    → IsOf t (made (like u) site r)
rem_is (Int m) t site r e v came = made_is (like (Int m)) ty.Int site r (λ n. refl) v came ∙ only_same true ty.Int t e
rem_is _ t site r e v came = absurd (cc)

strict_is : (op : BinOp) (site : Option ℕ) (u x : Value) (t : Ty) → operation_type op (type_of_value u) ≡ Some t
    → type_of_value x ≡ type_of_value u → IsOf t (strict op site u x)
strict_is bin.Rem site u x t e same v came = rem_is u t site _ e v came
strict_is bin.Lt site u x t e same v came = just _ v t came (only_same _ ty.Bool t e)
strict_is bin.Le site u x t e same v came = just _ v t came (only_same _ ty.Bool t e)
strict_is bin.Gt site u x t e same v came = just _ v t came (only_same _ ty.Bool t e)
strict_is bin.Ge site u x t e same v came = just _ v t came (only_same _ ty.Bool t e)
strict_is bin.Eq site u x t e same v came = just _ v t came (some_is ty.Bool t e)
strict_is bin.Ne site u x t e same v came = just _ v t came (some_is ty.Bool t e)
strict_is bin.Min site u x t e same v came = like_only_is u _ t v e came
strict_is bin.Max site u x t e same v came = like_only_is u _ t v e came
strict_is bin.And site u x t e same v came =
    just x v t came (same ∙ one_type _ ty.Bool (only_true _ ty.Bool t e) ∙ only_same _ ty.Bool t e)
strict_is bin.Or site u x t e same v came =
    just x v t came (same ∙ one_type _ ty.Bool (only_true _ ty.Bool t e) ∙ only_same _ ty.Bool t e)
strict_is _ site u x t e same v came = made_like_is u t site _ e v came

choose_is : (u : Value) (a b : Worth) (t : Ty) → IsOf t a → IsOf t b → IsOf t (choose u a b)
choose_is (Flag true) a b t first second v e = first v e
choose_is _ a b t first second v e = second v e

flag_is : (b : Bool) → IsOf ty.Bool (Ok (Flag b))
flag_is b v e = just (Flag b) v ty.Bool e refl

as_type : (s t : Ty) (w : Worth) → s ≡ t → IsOf s w → IsOf t w
as_type s t w is of v e = of v e ∙ is

both_is : (op : BinOp) (site : Option ℕ) (a b : Worth) (s t : Ty) → operation_type op s ≡ Some t → IsOf s a → IsOf s b
    → IsOf t (with_value a (λ x. with_value b (strict op site x)))
both_is op site a b s t e first second v came =
    let p = reached a (λ x. with_value b (strict op site x)) v came in
    let q = reached b (strict op site p.from) v p.gives in
    let is = first p.from p.was in
    let typed_so : operation_type op (type_of_value p.from) ≡ Some t = ap (operation_type op) is ∙ e in
    strict_is op site p.from q.from t typed_so (second q.from q.was ∙ sym is) v q.gives

binary_is : (op : BinOp) (site : Option ℕ) (a b : Worth) (s t : Ty) → operation_type op s ≡ Some t → IsOf s a → IsOf s b
    → IsOf t (binary op site a b)
binary_is bin.And site a b s t e first second v came =
    let p = reached a (λ x. choose x b (Ok (Flag false))) v came in
    let bool = one_type s ty.Bool (only_true _ ty.Bool t e) in
    let same = only_same _ ty.Bool t e in
    choose_is p.from b (Ok (Flag false)) t (as_type s t b (bool ∙ same) second) (as_type ty.Bool t _ same (flag_is false)) v p.gives
binary_is bin.Or site a b s t e first second v came =
    let p = reached a (λ x. choose x (Ok (Flag true)) b) v came in
    let bool = one_type s ty.Bool (only_true _ ty.Bool t e) in
    let same = only_same _ ty.Bool t e in
    choose_is p.from (Ok (Flag true)) b t (as_type ty.Bool t _ same (flag_is true)) (as_type s t b (bool ∙ same) second) v p.gives
binary_is bin.Add site a b s t e first second v came = both_is bin.Add site a b s t e first second v came
binary_is bin.Sub site a b s t e first second v came = both_is bin.Sub site a b s t e first second v came
binary_is bin.Mul site a b s t e first second v came = both_is bin.Mul site a b s t e first second v came
binary_is bin.Div site a b s t e first second v came = both_is bin.Div site a b s t e first second v came
binary_is bin.Rem site a b s t e first second v came = both_is bin.Rem site a b s t e first second v came
binary_is bin.Lt site a b s t e first second v came = both_is bin.Lt site a b s t e first second v came
binary_is bin.Le site a b s t e first second v came = both_is bin.Le site a b s t e first second v came
binary_is bin.Gt site a b s t e first second v came = both_is bin.Gt site a b s t e first second v came
binary_is bin.Ge site a b s t e first second v came = both_is bin.Ge site a b s t e first second v came
binary_is bin.Eq site a b s t e first second v came = both_is bin.Eq site a b s t e first second v came
binary_is bin.Ne site a b s t e first second v came = both_is bin.Ne site a b s t e first second v came
binary_is bin.Min site a b s t e first second v came = both_is bin.Min site a b s t e first second v came
binary_is bin.Max site a b s t e first second v came = both_is bin.Max site a b s t e first second v came

-- ---- expressions

abbrev IsSound : Expr → Type 0
IsSound e =
    (names : Names) (scope : Scope) → Fits names scope → (t : Ty) → type_of e names ≡ Some t → IsOf t (value e scope)

abbrev Sound : Type 0
Sound = (e : Expr) × IsSound e

abbrev sound_one : Sound → Expr
sound_one p = p.0

abbrev Types : Type 0
Types = Names → Option Ty

abbrev Worths : Type 0
Worths = Scope → Worth

layer_sound : (y : expr.Expr-F Sound) (names : Names) (scope : Scope) → Fits names scope → (t : Ty)
    → type_step (map-Expr Expr Types type_of (map-Expr Sound Expr sound_one y)) names ≡ Some t
    → IsOf t (value_step (map-Expr Expr Worths value (map-Expr Sound Expr sound_one y)) scope)
layer_sound (expr.Lit u) names scope fits t e v came = just u v t came (some_is _ t e)
layer_sound (expr.Field who i) names scope fits t e v came = just _ v t came (fits.states who i t e)
layer_sound (expr.Total effect type site) names scope fits t e v came =
    let p = passed (effect_named names This effect) (λ x. only (same_type x.ty type && is_sited (is_sum x.comb) site) type) t (chosen_some names.in_rule _ t e) in
    total_is type site (slice_index_or scope.totals effect (pos 0)) v came ∙ only_same _ type t p.gives
layer_sound (expr.Local n) names scope fits t e v came = just _ v t came (fits.constants n t e)
layer_sound (expr.Unary op site a) names scope fits t e v came =
    let p = passed (type_of a.0 names) (unary_type op) t (chosen_some (is_sited (unary_faults op) site) _ t e) in
    let q = reached (value a.0 scope) (unary op site) v came in
    let is = a.1 names scope fits p.from p.was q.from q.was in
    unary_is op site q.from t (ap (unary_type op) is ∙ p.gives) v q.gives
layer_sound (expr.Binary op site a b) names scope fits t e v came =
    let p = passed (type_of a.0 names) (λ s. option_and_then (binary_type op s) (type_of b.0 names)) t (chosen_some (is_sited (binary_faults op) site) _ t e) in
    let q = passed (type_of b.0 names) (binary_type op p.from) t p.gives in
    let same = one_type p.from q.from (chosen_true (same_type p.from q.from) (operation_type op p.from) t q.gives) in
    binary_is op site (value a.0 scope) (value b.0 scope) p.from t (chosen_some (same_type p.from q.from) (operation_type op p.from) t q.gives)
    (a.1 names scope fits p.from p.was) (as_type q.from p.from _ (sym same) (b.1 names scope fits q.from q.was)) v came
layer_sound (expr.Choice c a b) names scope fits t e v came =
    let p = passed (type_of c.0 names) (λ p. option_and_then (λ s. option_and_then (choice_type p s) (type_of b.0 names)) (type_of a.0 names)) t e in
    let q = passed (type_of a.0 names) (λ s. option_and_then (choice_type p.from s) (type_of b.0 names)) t p.gives in
    let r = passed (type_of b.0 names) (choice_type p.from q.from) t q.gives in
    let tests = only_true (same_type p.from ty.Bool && same_type q.from r.from) q.from t r.gives in
    let is : q.from ≡ t = only_same (same_type p.from ty.Bool && same_type q.from r.from) q.from t r.gives in
    let same = one_type q.from r.from (and_second (same_type p.from ty.Bool) (same_type q.from r.from) tests) in
    let w = reached (value c.0 scope) (λ x. choose x (value a.0 scope) (value b.0 scope)) v came in
    choose_is w.from (value a.0 scope) (value b.0 scope) t (as_type q.from t _ is (a.1 names scope fits q.from q.was))
    (as_type r.from t _ (sym same ∙ is) (b.1 names scope fits r.from r.was)) v w.gives
layer_sound (expr.Rand site) names scope fits t e v came = just _ v t came (some_is ty.Fixed t e)

pub sound : (e : Expr) → IsSound e
sound = ind-Expr IsSound (λ x y is names scope fits t e v came.
    let typed_so : type_step (map-Expr Expr Types type_of x) names ≡ Some t = sym (ap (λ f. f names) (fold-roll-Expr Types type_step x)) ∙ e in
    let came_so : value_step (map-Expr Expr Worths value x) scope ≡ Ok v = sym (ap (λ f. f scope) (fold-roll-Expr Worths value_step x)) ∙ came in
    subst (λ z. type_step (map-Expr Expr Types type_of z) names ≡ Some t → value_step (map-Expr Expr Worths value z) scope ≡ Ok v → type_of_value v ≡ t) is
    (λ g h. layer_sound y names scope fits t g v h) typed_so came_so)
