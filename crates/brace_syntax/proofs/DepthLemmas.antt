-- How the scan's numbers go on with each token.
use Rattle.std.proofs.Common.{◌≡◌, refl, sym, ap, ◌∙◌, ℕ, ◌+◌, ◌≤◌, ◌<◌, List, Bool, true, false, length, take, nat_lt, slice_index_or, arith}
use Rattle.std.specs.Prelude.{◌||◌}
use Rattle.std.proofs.lemmas.Bool.Decides.{nat_tests}
use Rattle.std.proofs.lemmas.List.Sums.{fold_more}
use Rattle.std.proofs.lemmas.Option.{slice_get-get_or}
use Rattle.brace_tok.specs.declared.kinds.Token.{Token}
use Rattle.brace_syntax.specs.Depth.{opened_by, counted_by, opened, operators, is_deep, FirstDeepAt}

pub opened_more : (toks : List Token) (i : ℕ) (d : Token) (n m : ℕ) → i < length toks → n ≡ opened (take i toks) → m ≡ opened_by n (slice_index_or toks i d).kind → m ≡ opened (take (i + 1) toks)
opened_more toks i d n m l a b = b ∙ (ap (λ (z : ℕ). opened_by z (slice_index_or toks i d).kind) a ∙ sym (fold_more (λ (z : ℕ) (tok : Token). opened_by z tok.kind) 0 toks i d l))

pub counted_more : (toks : List Token) (i : ℕ) (d : Token) (n m : ℕ) → i < length toks → n ≡ operators (take i toks) → m ≡ counted_by n (slice_index_or toks i d).kind → m ≡ operators (take (i + 1) toks)
counted_more toks i d n m l a b = b ∙ (ap (λ (z : ℕ). counted_by z (slice_index_or toks i d).kind) a ∙ sym (fold_more (λ (z : ℕ) (tok : Token). counted_by z tok.kind) 0 toks i d l))

pub tested : (toks : List Token) (m n : ℕ) (b : Bool) → m ≡ opened toks → n ≡ operators toks → b ≡ (nat_lt 64 m || nat_lt 256 n) → is_deep toks ≡ b
tested toks m n b p q e = sym (e ∙ (ap (λ (z : ℕ). nat_lt 64 z || nat_lt 256 n) p ∙ ap (λ (z : ℕ). nat_lt 64 (opened toks) || nat_lt 256 z) q))

few_by : (a b : Bool) (m n : ℕ) → nat_lt 64 m ≡ a → nat_lt 256 n ≡ b → (a || b) ≡ false → (m ≤ 64) × (n ≤ 256)
few_by false false m n p q e = let u : m ≤ 64 = grind (arith, nat_tests) in let v : n ≤ 256 = grind (arith, nat_tests) in (u, v)
few_by false true m n p q e = absurd (cc)
few_by true b m n p q e = absurd (cc)

pub few : (m n : ℕ) (b : Bool) → b ≡ (nat_lt 64 m || nat_lt 256 n) → b ≡ false → (m ≤ 64) × (n ≤ 256)
few m n b e f = let h : (nat_lt 64 m || nat_lt 256 n) ≡ false = sym e ∙ f in few_by (nat_lt 64 m) (nat_lt 256 n) m n refl refl h

shallow_by : (b : Bool) (toks : List Token) (i n : ℕ) → nat_lt i n ≡ b → ((k : ℕ) → k ≤ i → is_deep (take k toks) ≡ false) → is_deep (take (i + 1) toks) ≡ false → n ≤ i + 1 → is_deep (take n toks) ≡ false
shallow_by false toks i n e below here l = let k : n ≤ i = grind (arith, nat_tests) in below n k
shallow_by true toks i n e below here l = let k : i < n = grind (arith, nat_tests) in let q : i + 1 ≡ n = omega arith in ap (λ (z : ℕ). is_deep (take z toks)) (sym q) ∙ here

pub shallow_more : (toks : List Token) (i : ℕ) → ((k : ℕ) → k ≤ i → is_deep (take k toks) ≡ false) → is_deep (take (i + 1) toks) ≡ false → (n : ℕ) → n ≤ i + 1 → is_deep (take n toks) ≡ false
shallow_more toks i below here n l = shallow_by (nat_lt i n) toks i n refl below here l

pub deep_at : (toks : List Token) (i : ℕ) (d : Token) → i < length toks → is_deep (take (i + 1) toks) ≡ true → ((k : ℕ) → k ≤ i → is_deep (take k toks) ≡ false) → FirstDeepAt toks (slice_index_or toks i d).from
deep_at toks i d l here below = record { number = i; token = slice_index_or toks i d; stands = slice_get-get_or toks i d l; place = refl; deep = here; first = below }
