-- Words of values, operation by operation.
use Rattle.std.proofs.Common.{◌≡◌, ◌∙◌, refl, sym, ap, subst, ℕ, zero, suc, ◌*◌, ◌/◌, ◌<◌, ℤ, pos, negsuc, neg_ℤ, ◌+ℤ◌, ◌-ℤ◌, ◌*ℤ◌, int_div, unsigned_abs, Bool, true, false, Option, Some, Result, Ok, Err, arith}
use Rattle.std.proofs.Math.Nat.{zero-div, zero-mul, mul-pos, mul-div-mul_right}
use Rattle.std.proofs.Math.IntN.{negsuc-*ℤ-pos, +ℤ_comm, -ℤ-+ℤ_cancel, +ℤ-neg_ℤ_cancel}
use Rattle.std.proofs.lemmas.Int.{unsigned_abs-mul, int_wrap_fits, int_wrap-add_right, wrapping_sub_is, SFits-int_wrap}
use Rattle.std.proofs.lemmas.Bool.Decides.{nat_tests}
use Rattle.std.specs.Prelude.{FitsSigned, unwrap_or, ◌==◌, if◌then◌else◌}
use Rattle.std.specs.Int.{w32, w64, int_wrap, int_wrapping_sub}
use Rattle.brace_num.specs.declared.kinds.Kind.{Kind}
use Rattle.brace_num.specs.declared.kinds.Kind.TheVariants.{DivZero}
use Rattle.brace_num.specs.Exact.{fits, fitting, is_zero, exact_int_div, exact_fixed_div, exact_sub}
use Rattle.brace_model.specs.declared.program.Ty.{Ty}
use Rattle.brace_model.specs.declared.program.Ty.TheVariants as ty
use Rattle.brace_model.specs.declared.program.Value.{Value}
use Rattle.brace_model.specs.declared.program.Value.TheVariants.{Int, Fixed, Flag}
use Rattle.brace_model.specs.declared.program.UnOp.{UnOp}
use Rattle.brace_model.specs.declared.program.UnOp.TheVariants as un
use Rattle.brace_model.specs.declared.program.BinOp.{BinOp}
use Rattle.brace_model.specs.declared.program.BinOp.TheVariants as bin
use Rattle.brace_model.specs.World.{number}
use Rattle.brace_model.specs.Value.{Worth, made, typed, like, unary, strict, choose}
use Rattle.brace_model.specs.Typing.{is_number, type_of_value, only, same_type, unary_type, operation_type}
use Rattle.brace_code.specs.inner.Words.{Outcome, word_of, value_of, made_word, unary_word, binary_word, choose_word}

-- the test of a number and the fact that it fits
pub fits_so : (z : ℤ) → FitsSigned w64 z → fits z ≡ true
fits_so z f = grind (arith, f)

pub short_fits : (z : ℤ) → FitsSigned w32 z → fits z ≡ true
short_fits z f = grind (arith, f)

-- a difference that gives the first word back with the second
pub rest_fits : (a b rest : ℤ) → FitsSigned w64 a → FitsSigned w64 b
    → rest ≡ int_wrapping_sub w64 a b → FitsSigned w64 (b +ℤ rest) → exact_sub a b ≡ Ok rest
rest_fits a b rest f g is whole =
    let left : rest ≡ int_wrap w64 (a -ℤ b) = is ∙ wrapping_sub_is w64 a b f g in
    let back : b +ℤ (a -ℤ b) ≡ a = +ℤ_comm b (a -ℤ b) ∙ -ℤ-+ℤ_cancel a b in
    let all : b +ℤ rest ≡ a = sym (int_wrap_fits w64 (b +ℤ rest) whole)
    ∙ ap (λ (x : ℤ). int_wrap w64 (b +ℤ x)) left ∙ int_wrap-add_right w64 b (a -ℤ b)
    ∙ ap (int_wrap w64) back ∙ int_wrap_fits w64 a f in
    let same : a -ℤ b ≡ rest = ap (λ (x : ℤ). x -ℤ b) (sym all ∙ +ℤ_comm b rest)
    ∙ +ℤ-neg_ℤ_cancel rest b in
    let inside = subst (FitsSigned w64) (sym left) (SFits-int_wrap w64 (a -ℤ b)) in
    ap fitting same ∙ rw (fits_so rest inside) refl

-- ---- quotients by whole numbers

neg_over : (m d : ℕ) → int_div (neg_ℤ (pos m)) (pos d) ≡ neg_ℤ (pos (m / d))
neg_over zero d = rw (zero-div d) refl
neg_over (suc m) d = refl

over_neg : (m d : ℕ) → 0 < d → int_div (pos m) (neg_ℤ (pos d)) ≡ neg_ℤ (pos (m / d))
over_neg m zero h = absurd (omega (arith, h))
over_neg m (suc d) h = refl

neg_over_neg : (m d : ℕ) → 0 < d → int_div (neg_ℤ (pos m)) (neg_ℤ (pos d)) ≡ pos (m / d)
neg_over_neg m zero h = absurd (omega (arith, h))
neg_over_neg zero (suc d) h = rw (zero-div (suc d)) refl
neg_over_neg (suc m) (suc d) h = refl

-- the quotient of two multiples of a number
multiples : (a n : ℤ) (k : ℕ) → 0 < k → int_div (a *ℤ pos k) (n *ℤ pos k) ≡ int_div a n
multiples (pos a) (pos n) k h = ap pos (mul-div-mul_right a n h)
multiples (pos a) (negsuc n) k h = ap (λ (x : ℤ). int_div (pos (a * k)) x) (negsuc-*ℤ-pos n k)
    ∙ over_neg (a * k) (suc n * k) (mul-pos (omega arith) h) ∙ ap (λ (x : ℕ). neg_ℤ (pos x)) (mul-div-mul_right a (suc n) h)
multiples (negsuc a) (pos n) k h = ap (λ (x : ℤ). int_div x (pos (n * k))) (negsuc-*ℤ-pos a k)
    ∙ neg_over (suc a * k) (n * k) ∙ ap (λ (x : ℕ). neg_ℤ (pos x)) (mul-div-mul_right (suc a) n h)
multiples (negsuc a) (negsuc n) k h = ap (λ (x : ℤ). int_div x (negsuc n *ℤ pos k)) (negsuc-*ℤ-pos a k)
    ∙ ap (λ (x : ℤ). int_div (neg_ℤ (pos (suc a * k))) x) (negsuc-*ℤ-pos n k)
    ∙ neg_over_neg (suc a * k) (suc n * k) (mul-pos (omega arith) h) ∙ ap pos (mul-div-mul_right (suc a) (suc n) h)

above : (m : ℕ) → 0 < m → (m == 0) ≡ false
above m h = grind (arith, nat_tests, h)

no_more : (m k : ℕ) → 0 < k → (m * k == 0) ≡ (m == 0)
no_more zero k h = rw (zero-mul k) refl
no_more (suc m) k h = above (suc m * k) (mul-pos (omega arith) h) ∙ sym (above (suc m) (omega arith))

by_multiple : (a b n : ℤ) (k : ℕ) → 0 < k → b ≡ n *ℤ pos k → exact_int_div a n ≡ (if is_zero b then Err DivZero else fitting (int_div (a *ℤ pos k) b))
by_multiple a b n k h e = rw (e, unsigned_abs-mul n (pos k), no_more (unsigned_abs n) k h, multiples a n k h) refl

-- a quotient of fixed numbers whose divisor is a whole number is that of an int
pub whole_quotient : (a b n : ℤ) (q : Result ℤ Kind) → b ≡ n *ℤ pos 1000000
    → q ≡ exact_int_div a n → q ≡ exact_fixed_div a b
whole_quotient a b n q whole e = e ∙ by_multiple a b n 1000000 (omega arith) whole

-- ---- numbers of values

only_true : {A : Type 0} (test : Bool) (s t : A) → only test s ≡ Some t → test ≡ true
only_true true s t e = refl
only_true false s t e = absurd (cc)

like_number : (a : Value) (n : ℤ) → is_number (type_of_value a) ≡ true → number (like a n) ≡ n
like_number (Flag b) n e = absurd (cc)
like_number _ n e = refl

-- an exact result as a value has that result as its word
made_is : (f : ℤ → Value) (site : Option ℕ) (r : Result ℤ Kind) → ((n : ℤ) → number (f n) ≡ n)
    → made_word (unwrap_or site 0) r ≡ word_of (made f site r)
made_is f site (Ok n) is = ap (λ (x : ℤ). let w : Outcome = Ok x in w) (sym (is n))
made_is f site (Err kind) is = refl

number_like : (a : Value) (t : Ty) (site : Option ℕ) (r : Result ℤ Kind) → only (is_number (type_of_value a)) (type_of_value a) ≡ Some t
    → made_word (unwrap_or site 0) r ≡ word_of (made (like a) site r)
number_like a t site r e = made_is (like a) site r (λ n. like_number a n (only_true _ _ t e))

rem_like : (a : Value) (t : Ty) (site : Option ℕ) (r : Result ℤ Kind) → only (same_type (type_of_value a) ty.Int) ty.Int ≡ Some t
    → made_word (unwrap_or site 0) r ≡ word_of (made (like a) site r)
rem_like (Int m) t site r e = made_is (like (Int m)) site r (λ n. refl)
rem_like _ t site r e = absurd (cc)

pub unary_is : (op : UnOp) (site : Option ℕ) (a : Value) (t : Ty) → unary_type op (type_of_value a) ≡ Some t
    → made_word (unwrap_or site 0) (unary_word op (number a)) ≡ word_of (unary op site a)
unary_is un.Not site a t e = refl
unary_is un.Sqrt site a t e = made_is Fixed site _ (λ n. refl)
unary_is un.ToFixed site a t e = made_is Fixed site _ (λ n. refl)
unary_is un.Trunc site a t e = refl
unary_is _ site a t e = number_like a t site _ e

product_is : (a b : Value) (t : Ty) (site : Option ℕ) → operation_type bin.Mul (type_of_value a) ≡ Some t
    → made_word (unwrap_or site 0) (binary_word bin.Mul (type_of_value a) (number a) (number b)) ≡ word_of (strict bin.Mul site a b)
product_is (Int m) b t site e = number_like (Int m) t site _ e
product_is (Fixed m) b t site e = number_like (Fixed m) t site _ e
product_is (Flag c) b t site e = absurd (cc)

quotient_is : (a b : Value) (t : Ty) (site : Option ℕ) → operation_type bin.Div (type_of_value a) ≡ Some t
    → made_word (unwrap_or site 0) (binary_word bin.Div (type_of_value a) (number a) (number b)) ≡ word_of (strict bin.Div site a b)
quotient_is (Int m) b t site e = number_like (Int m) t site _ e
quotient_is (Fixed m) b t site e = number_like (Fixed m) t site _ e
quotient_is (Flag c) b t site e = absurd (cc)

ok_like : (a : Value) (n : ℤ) (t : Ty) → only (is_number (type_of_value a)) (type_of_value a) ≡ Some t
    → (let w : Outcome = Ok n in w) ≡ word_of (Ok (like a n))
ok_like a n t e = ap (λ (x : ℤ). let w : Outcome = Ok x in w) (sym (like_number a n (only_true _ _ t e)))

pub strict_is : (op : BinOp) (site : Option ℕ) (a b : Value) (t : Ty) → operation_type op (type_of_value a) ≡ Some t
    → made_word (unwrap_or site 0) (binary_word op (type_of_value a) (number a) (number b)) ≡ word_of (strict op site a b)
strict_is bin.Add site a b t e = number_like a t site _ e
strict_is bin.Sub site a b t e = number_like a t site _ e
strict_is bin.Mul site a b t e = product_is a b t site e
strict_is bin.Div site a b t e = quotient_is a b t site e
strict_is bin.Rem site a b t e = rem_like a t site _ e
strict_is bin.Min site a b t e = ok_like a _ t e
strict_is bin.Max site a b t e = ok_like a _ t e
strict_is _ site a b t e = refl

-- a condition chooses by its word
pub choose_is : (x : Value) (a b : Worth) → type_of_value x ≡ ty.Bool → choose_word (number x) (word_of a) (word_of b) ≡ word_of (choose x a b)
choose_is (Flag true) a b e = refl
choose_is (Flag false) a b e = refl
choose_is _ a b e = absurd (cc)

-- a value is the one of its type that has its word
value_is : (v : Value) → typed (type_of_value v) (number v) ≡ v
value_is (Flag true) = refl
value_is _ = refl

-- a word read as a value of the type that the value has
pub worth_is : (w : Worth) (t : Ty) → ((v : Value) → w ≡ Ok v → type_of_value v ≡ t) → value_of t (word_of w) ≡ w
worth_is (Ok v) t is = ap (λ (s : Ty). let w : Worth = Ok (typed s (number v)) in w) (sym (is v refl)) ∙ ap (λ (x : Value). let w : Worth = Ok x in w) (value_is v)
worth_is (Err stop) t is = refl
