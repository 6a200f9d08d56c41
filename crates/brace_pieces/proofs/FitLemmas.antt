-- Where the numbers that are written in an expression fit 64 bits, so does its value over an agent's
-- own states and totals.
use Rattle.std.proofs.Common.{◌≡◌, ◌∙◌, refl, sym, ap, subst, ℕ, zero, suc, ◌*◌, ◌^◌, ◌<◌, ◌≤◌, ℤ, pos, negsuc, List, [], ◌∷◌, Bool, true, false, ◌&&◌, if◌then◌else◌, Option, Some, None, Result, Ok, Err, inl, inr, arith, unsigned_abs, int_div, int_rem, ◌*ℤ◌, ◌+ℤ◌, ◌-ℤ◌, neg_ℤ, FitsSigned, div-le_self}
use Rattle.std.specs.Prelude.{slice_set, slice_index_or, not}
use Rattle.std.specs.List.{list_all}
use Rattle.std.specs.Ordering.{int_eq}
use Rattle.std.specs.Int.{w64, int_max, int_min}
use Rattle.std.specs.Result.{result_unwrap_or}
use Rattle.std.proofs.lemmas.Int.{ints, clamps, quot_fits, rem_below}
use Rattle.std.proofs.lemmas.Bool.{and_parts, cases_lt}
use Rattle.std.proofs.lemmas.Bool.Decides.{nat_tests}
use Rattle.std.proofs.Math.Nat.{mul-le-mul_right}
use Rattle.brace_draw.specs.Draw.{draw_word, draw_value}
use Rattle.brace_draw.proofs.Words.{word_low}
use Rattle.brace_num.specs.declared.kinds.Kind.{Kind}
use Rattle.brace_num.specs.declared.kinds.Kind.TheVariants.{Overflow, DivZero, NegRoot}
use Rattle.brace_num.specs.Exact.{fits, fitting, is_zero, exact_add, exact_sub, exact_neg, exact_abs, exact_sqrt, exact_to_fixed, exact_int_rem, root}
use Rattle.brace_num.proofs.Roots.{root_is}
use Rattle.brace_invert.proofs.Sites.{binary_by}
use Rattle.brace_num.proofs.Options.{ok_same, ok_not_err}
use Rattle.brace_model.specs.declared.program.Ty.{Ty}
use Rattle.brace_model.specs.declared.program.Ty.TheVariants as ty
use Rattle.brace_model.specs.declared.program.Value.{Value}
use Rattle.brace_model.specs.declared.program.Value.TheVariants.{Int, Fixed, Flag}
use Rattle.brace_model.specs.declared.program.UnOp.{UnOp}
use Rattle.brace_model.specs.declared.program.UnOp.TheVariants as un
use Rattle.brace_model.specs.declared.program.BinOp.{BinOp}
use Rattle.brace_model.specs.declared.program.BinOp.TheVariants as bin
use Rattle.brace_model.specs.declared.program.Who.{Who}
use Rattle.brace_model.specs.declared.program.Who.TheVariants.{This, Outer, Inner}
use Rattle.brace_model.specs.declared.program.Expr.{Expr}
use Rattle.brace_model.specs.declared.program.Expr.TheOpen as expr
use Rattle.brace_model.specs.declared.program.Expr.TheFolds.{map-Expr, ind-Expr, fold-roll-Expr}
use Rattle.brace_model.specs.declared.fault.Stop.{Stop}
use Rattle.brace_model.specs.declared.world.Agent.{Agent}
use Rattle.brace_model.specs.World.{value_at, number}
use Rattle.brace_model.specs.Value.{Scope, Worth, made, typed, like, product, quotient, unary, strict, with_value, choose, binary, total_read, value_step, value, agent_of}
use Rattle.brace_model.specs.Query.{opening_scope}
use Rattle.brace_pieces.specs.Numbers.{step_fits, expression_fits}

-- ---- numbers

pub fit_so : (z : ℤ) → fits z ≡ true → FitsSigned w64 z
fit_so z e = grind (arith, e)

pub zero_fits : FitsSigned w64 (pos 0)
zero_fits = grind arith

one_fits : FitsSigned w64 (pos 1)
one_fits = grind arith

flag_fits : (b : Bool) → FitsSigned w64 (number (Flag b))
flag_fits true = one_fits
flag_fits false = zero_fits

least_fits : (a b : ℤ) → FitsSigned w64 a → FitsSigned w64 b → FitsSigned w64 (int_min a b)
least_fits a b f g = grind (arith, ints, clamps)

most_fits : (a b : ℤ) → FitsSigned w64 a → FitsSigned w64 b → FitsSigned w64 (int_max a b)
most_fits a b f g = grind (arith, ints, clamps)

small_fits : (n : ℕ) → n < 2 ^ 63 → FitsSigned w64 (pos n)
small_fits n h = grind (arith, h)

-- a number that is there fits
abbrev Sure : Result ℤ Kind → Type 0
Sure r = (n : ℤ) → r ≡ Ok n → FitsSigned w64 n

ok_sure : (a : ℤ) → FitsSigned w64 a → Sure (Ok a)
ok_sure a f n e = subst (FitsSigned w64) (ok_same a n e) f

err_sure : (k : Kind) → Sure (Err k)
err_sure k n e = absurd (ok_not_err n k (sym e))

sure_if : (b : Bool) (z : ℤ) → fits z ≡ b → Sure (if b then Ok z else Err Overflow)
sure_if true z is = ok_sure z (fit_so z is)
sure_if false z is = err_sure Overflow

fitting_sure : (z : ℤ) → Sure (fitting z)
fitting_sure z = sure_if (fits z) z refl

root_low : (a r : ℕ) → r * r ≤ a * 1000000 → a < 2 ^ 63 → r < 2 ^ 63
root_low a r below low = elim (cases_lt r (2 ^ 63)) [
  | inl less ↦ less
  | inr more ↦ let square : 2 ^ 63 * r ≤ r * r = mul-le-mul_right r more in absurd (omega (arith, square, below, low, more))
]

low_of : (a : ℕ) → FitsSigned w64 (pos a) → a < 2 ^ 63
low_of a f = grind (arith, f)

sqrt_sure : (z : ℤ) → FitsSigned w64 z → Sure (exact_sqrt z)
sqrt_sure (pos a) f = ok_sure (pos (root (a * 1000000))) (small_fits _ (root_low a (root (a * 1000000)) (root_is (a * 1000000)).below (low_of a f)))
sqrt_sure (negsuc a) f = err_sure NegRoot

div_if : (b : Bool) (x y : ℤ) → Sure (if b then Err DivZero else fitting (int_div x y))
div_if true x y = err_sure DivZero
div_if false x y = fitting_sure (int_div x y)

abs_low : (z : ℤ) → FitsSigned w64 z → unsigned_abs z ≤ 2 ^ 63
abs_low (pos n) f = grind (arith, f)
abs_low (negsuc n) f = grind (arith, f)

abs_fits : (z : ℤ) → unsigned_abs z < 2 ^ 63 → FitsSigned w64 z
abs_fits (pos n) h = grind (arith, h)
abs_fits (negsuc n) h = grind (arith, h)

some_abs : (z : ℤ) → is_zero z ≡ false → 0 < unsigned_abs z
some_abs z e = grind (arith, nat_tests, e)

rem_if : (b : Bool) (x y : ℤ) → is_zero y ≡ b → FitsSigned w64 y → Sure (if b then Err DivZero else Ok (int_rem x y))
rem_if true x y is f = err_sure DivZero
rem_if false x y is f =
    let less = rem_below x y (some_abs y is) in
    ok_sure (int_rem x y) (abs_fits (int_rem x y) (omega (arith, less, abs_low y f)))

draw_fits : (seed tick agent site : ℕ) → FitsSigned w64 (pos (draw_value seed tick agent site))
draw_fits seed tick agent site =
    let low = word_low seed tick agent site in
    let less : draw_value seed tick agent site ≤ draw_word seed tick agent site * 1000000 = div-le_self _ _ in
    small_fits _ (omega (arith, low, less))

-- ---- values

-- a value that is there fits
abbrev pub HasFit : Worth → Type 0
HasFit w = (v : Value) → w ≡ Ok v → FitsSigned w64 (number v)

pub ok_fit : (u : Value) → FitsSigned w64 (number u) → HasFit (Ok u)
ok_fit u f v e = subst (λ x. FitsSigned w64 (number x)) (ok_same u v e) f

err_fit : (stop : Stop) → HasFit (Err stop)
err_fit stop v e = absurd (ok_not_err v stop (sym e))

made_fit : (f : ℤ → Value) → ((n : ℤ) → FitsSigned w64 n → FitsSigned w64 (number (f n))) → (site : Option ℕ) (r : Result ℤ Kind) → Sure r → HasFit (made f site r)
made_fit f h site (Ok n) sure = ok_fit (f n) (h n (sure n refl))
made_fit f h site (Err kind) sure = err_fit _

like_fits : (u : Value) (n : ℤ) → FitsSigned w64 n → FitsSigned w64 (number (like u n))
like_fits (Flag b) n f = zero_fits
like_fits _ n f = f

typed_fits : (t : Ty) (n : ℤ) → FitsSigned w64 n → FitsSigned w64 (number (typed t n))
typed_fits ty.Bool n f = flag_fits (not (int_eq n (pos 0)))
typed_fits _ n f = f

or_zero : (r : Result ℤ Kind) → Sure r → FitsSigned w64 (result_unwrap_or r (pos 0))
or_zero (Ok n) sure = sure n refl
or_zero (Err kind) sure = zero_fits

total_fits : (t : Ty) (site : Option ℕ) (n : ℤ) → HasFit (total_read t site n)
total_fits t None n = ok_fit _ (typed_fits t _ (or_zero (fitting n) (fitting_sure n)))
total_fits t (Some site) n = made_fit (typed t) (typed_fits t) (Some site) (fitting n) (fitting_sure n)

same_fits : (n : ℤ) → FitsSigned w64 n → FitsSigned w64 n
same_fits n f = f

unary_fits : (op : UnOp) (site : Option ℕ) (u : Value) → FitsSigned w64 (number u) → HasFit (unary op site u)
unary_fits un.Neg site u f = made_fit (like u) (like_fits u) site (exact_neg (number u)) (fitting_sure (neg_ℤ (number u)))
unary_fits un.Not site u f = ok_fit _ (flag_fits (int_eq (number u) (pos 0)))
unary_fits un.Abs site u f = made_fit (like u) (like_fits u) site (exact_abs (number u)) (fitting_sure (pos (unsigned_abs (number u))))
unary_fits un.Sqrt site u f = made_fit Fixed same_fits site (exact_sqrt (number u)) (sqrt_sure (number u) f)
unary_fits un.ToFixed site u f = made_fit Fixed same_fits site (exact_to_fixed (number u)) (fitting_sure (number u *ℤ pos 1000000))
unary_fits un.Trunc site u f = ok_fit _ (quot_fits w64 (number u) (pos 1000000) f (grind arith))

product_sure : (u x : Value) → Sure (product u x)
product_sure (Int a) x = fitting_sure (a *ℤ number x)
product_sure (Fixed a) x = fitting_sure (int_div (a *ℤ number x) (pos 1000000))
product_sure (Flag a) x = fitting_sure (int_div (number (Flag a) *ℤ number x) (pos 1000000))

quotient_sure : (u x : Value) → Sure (quotient u x)
quotient_sure (Int a) x = div_if (is_zero (number x)) a (number x)
quotient_sure (Fixed a) x = div_if (is_zero (number x)) (a *ℤ pos 1000000) (number x)
quotient_sure (Flag a) x = div_if (is_zero (number x)) (number (Flag a) *ℤ pos 1000000) (number x)

strict_fits : (op : BinOp) (site : Option ℕ) (u x : Value) → FitsSigned w64 (number u) → FitsSigned w64 (number x) → HasFit (strict op site u x)
strict_fits bin.Add site u x f g = made_fit (like u) (like_fits u) site (exact_add (number u) (number x)) (fitting_sure (number u +ℤ number x))
strict_fits bin.Sub site u x f g = made_fit (like u) (like_fits u) site (exact_sub (number u) (number x)) (fitting_sure (number u -ℤ number x))
strict_fits bin.Mul site u x f g = made_fit (like u) (like_fits u) site (product u x) (product_sure u x)
strict_fits bin.Div site u x f g = made_fit (like u) (like_fits u) site (quotient u x) (quotient_sure u x)
strict_fits bin.Rem site u x f g = made_fit (like u) (like_fits u) site (exact_int_rem (number u) (number x)) (rem_if (is_zero (number x)) (number u) (number x) refl g)
strict_fits bin.Min site u x f g = ok_fit _ (like_fits u _ (least_fits (number u) (number x) f g))
strict_fits bin.Max site u x f g = ok_fit _ (like_fits u _ (most_fits (number u) (number x) f g))
strict_fits bin.And site u x f g = ok_fit x g
strict_fits bin.Or site u x f g = ok_fit x g
strict_fits _ site u x f g = ok_fit _ (flag_fits _)

choose_fits : (u : Value) (a b : Worth) → HasFit a → HasFit b → HasFit (choose u a b)
choose_fits (Flag true) a b f g = f
choose_fits _ a b f g = g

with_fit : (w : Worth) (next : Value → Worth) → HasFit w → ((u : Value) → FitsSigned w64 (number u) → HasFit (next u)) → HasFit (with_value w next)
with_fit (Ok u) next f h = h u (f u refl)
with_fit (Err stop) next f h = err_fit stop

two_fits : (op : BinOp) (site : Option ℕ) (a b : Worth) → HasFit a → HasFit b → HasFit (with_value a (λ x. with_value b (strict op site x)))
two_fits op site a b f g = with_fit a (λ x. with_value b (strict op site x)) f (λ u h. with_fit b (strict op site u) g (λ x k. strict_fits op site u x h k))

binary_fits : (op : BinOp) (site : Option ℕ) (a b : Worth) → HasFit a → HasFit b → HasFit (binary op site a b)
binary_fits op site a b f g = binary_by HasFit op site a b (with_fit a (λ x. choose x b (Ok (Flag false))) f (λ u h. choose_fits u b (Ok (Flag false)) g (ok_fit _ zero_fits)))
    (with_fit a (λ x. choose x (Ok (Flag true)) b) f (λ u h. choose_fits u (Ok (Flag true)) b (ok_fit _ one_fits) g)) (two_fits op site a b f g)

-- ---- expressions

-- all values fit
abbrev pub AllFit : List Value → Type 0
AllFit vs = (i : ℕ) → FitsSigned w64 (number (value_at vs i))

-- what a scope has fits
record ScopeFits (scope : Scope) : Type 0 where
  pub agents : (who : Who) → AllFit (agent_of scope who).states
  pub constants : AllFit scope.locals

abbrev IsFit : Expr → Type 0
IsFit e = (scope : Scope) → ScopeFits scope → expression_fits e ≡ true → HasFit (value e scope)

abbrev Fit : Type 0
Fit = (e : Expr) × IsFit e

abbrev fit_one : Fit → Expr
fit_one p = p.0

abbrev Worths : Type 0
Worths = Scope → Worth

layer_fits : (y : expr.Expr-F Fit) (scope : Scope) → ScopeFits scope → step_fits (map-Expr Expr Bool expression_fits (map-Expr Fit Expr fit_one y)) ≡ true
    → HasFit (value_step (map-Expr Expr Worths value (map-Expr Fit Expr fit_one y)) scope)
layer_fits (expr.Lit u) scope own e = ok_fit u (fit_so (number u) e)
layer_fits (expr.Field who i) scope own e = ok_fit _ (own.agents who i)
layer_fits (expr.Total effect type site) scope own e = total_fits type site (slice_index_or scope.totals effect (pos 0))
layer_fits (expr.Local n) scope own e = ok_fit _ (own.constants n)
layer_fits (expr.Unary op site a) scope own e = with_fit (value a.0 scope) (unary op site) (a.1 scope own e) (unary_fits op site)
layer_fits (expr.Binary op site a b) scope own e =
    let (first, second) = and_parts (expression_fits a.0) (expression_fits b.0) e in
    binary_fits op site (value a.0 scope) (value b.0 scope) (a.1 scope own first) (b.1 scope own second)
layer_fits (expr.Choice c a b) scope own e =
    let (test, rest) = and_parts (expression_fits c.0) (expression_fits a.0 && expression_fits b.0) e in
    let (first, second) = and_parts (expression_fits a.0) (expression_fits b.0) rest in
    with_fit (value c.0 scope) (λ x. choose x (value a.0 scope) (value b.0 scope)) (c.1 scope own test)
    (λ u h. choose_fits u (value a.0 scope) (value b.0 scope) (a.1 scope own first) (b.1 scope own second))
layer_fits (expr.Rand site) scope own e = ok_fit _ (draw_fits scope.seed scope.tick scope.this.id site)

value_fits : (e : Expr) → IsFit e
value_fits = ind-Expr IsFit (λ x y is scope own e v came.
    let fit_so : step_fits (map-Expr Expr Bool expression_fits x) ≡ true = sym (fold-roll-Expr Bool step_fits x) ∙ e in
    let came_so : value_step (map-Expr Expr Worths value x) scope ≡ Ok v = sym (ap (λ f. f scope) (fold-roll-Expr Worths value_step x)) ∙ came in
    subst (λ z. step_fits (map-Expr Expr Bool expression_fits z) ≡ true → value_step (map-Expr Expr Worths value z) scope ≡ Ok v → FitsSigned w64 (number v)) is
    (λ g h. layer_fits y scope own g v h) fit_so came_so)

-- over an agent's own states and totals
pub own_value_fits : (e : Expr) (seed tick : ℕ) (totals : List ℤ) (a : Agent) → AllFit a.states → expression_fits e ≡ true
    → (v : Value) → value e (opening_scope seed tick [] totals a) ≡ Ok v → FitsSigned w64 (number v)
own_value_fits e seed tick totals a own fit v came =
    value_fits e (opening_scope seed tick [] totals a) (record { agents = each; constants = λ n. zero_fits }) fit v came
  where
    each : (who : Who) → AllFit (agent_of (opening_scope seed tick [] totals a) who).states
    each This = own
    each Outer = own
    each Inner = own

-- ---- lists of values

pub none_fit : AllFit []
none_fit i = zero_fits

pub one_more_fits : (v : Value) (vs : List Value) → FitsSigned w64 (number v) → AllFit vs → AllFit (v ∷ vs)
one_more_fits v vs f all zero = f
one_more_fits v vs f all (suc i) = all i

-- values of which one is put
pub put_fits : (vs : List Value) (i : ℕ) (v : Value) → AllFit vs → FitsSigned w64 (number v) → AllFit (slice_set vs i v)
put_fits [] i v all f j = all j
put_fits (x ∷ vs) zero v all f zero = f
put_fits (x ∷ vs) zero v all f (suc j) = all (suc j)
put_fits (x ∷ vs) (suc i) v all f zero = all zero
put_fits (x ∷ vs) (suc i) v all f (suc j) = put_fits vs i v (λ k. all (suc k)) f j

-- values of which each passes the test
pub fit_by_test : (vs : List Value) → list_all (λ v. fits (number v)) vs ≡ true → AllFit vs
fit_by_test [] e = none_fit
fit_by_test (v ∷ vs) e =
    let (here, rest) = and_parts (fits (number v)) (list_all (λ v. fits (number v)) vs) e in
    one_more_fits v vs (fit_so (number v) here) (fit_by_test vs rest)
