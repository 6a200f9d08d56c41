-- What is printed is a spelling of the number.
use Rattle.std.proofs.Common.{◌≡◌, ◌∙◌, ℕ, zero, suc, ◌-◌, ◌/◌, ◌%◌, ◌^◌, ◌<◌, List, ◌∷◌, ◌++◌, length, replicate, arith, refl, sym, ap, lit<, length-append}
use Rattle.std.specs.Prelude.{ℤ, pos, negsuc, IsTrue}
use Rattle.std.specs.Str.Parse.{AllDigits, digits_value}
use Rattle.std.specs.Fmt.{decimal}
use Rattle.std.proofs.lemmas.Fmt.{decimal_is_IsNumeral}
use Rattle.std.proofs.lemmas.List.{length-replicate}
use Rattle.std.proofs.lemmas.Int.{ints}
use Rattle.brace_num.specs.Exact.{fits}
use Rattle.brace_num.specs.Spelling.{Digits, Decimals, SpellsCount, SpellsInt, SpellsFixed, plain, negated, pointed, canonical_count, canonical_int, canonical_fixed, six_digits}
use Rattle.brace_num.proofs.Printings.{short_decimal}

pub decimal_digits : (n : ℕ) → n < 2 ^ 64 → Digits (decimal n) n
decimal_digits n h = let d = decimal_is_IsNumeral n h in (d.0, sym d.1)

pub count_printed : (n : ℕ) → n < 2 ^ 64 → SpellsCount (canonical_count n) n
count_printed n h = (decimal_digits n h, h)

pub pos_small : (n : ℕ) → IsTrue (fits (pos n)) → n < 2 ^ 63
pos_small n f = grind (arith, ints)

pub negsuc_small : (n : ℕ) → IsTrue (fits (negsuc n)) → n < 2 ^ 63
negsuc_small n f = grind (arith, ints)

pub int_printed : (z : ℤ) → IsTrue (fits z) → SpellsInt (canonical_int z) z
int_printed (pos n) f = let h = pos_small n f in (plain n (decimal_digits n (omega arith)) refl, f)
int_printed (negsuc n) f = let h = negsuc_small n f in (negated (decimal (suc n)) (suc n) refl (decimal_digits (suc n) (omega arith)) refl, f)

-- zeros in front change no value
pub zeros_digits : (k : ℕ) (ds : List ℕ) → AllDigits 10 ds → AllDigits 10 (replicate k 48 ++ ds)
zeros_digits zero ds d = d
zeros_digits (suc k) ds d = (lit< tt, zeros_digits k ds d)

pub zeros_value : (k : ℕ) (ds : List ℕ) → digits_value 10 (replicate k 48 ++ ds) ≡ digits_value 10 ds
zeros_value zero ds = refl
zeros_value (suc k) ds = zeros_value k ds

pub six_long : (n : ℕ) → n < 1000000 → length (six_digits n) ≡ 6
six_long n h = let s = short_decimal n h in omega (arith, length-append (replicate (6 - length (decimal n)) 48) (decimal n), length-replicate {A = ℕ} (6 - length (decimal n)) 48)

six_spelled : (n : ℕ) → n < 1000000 → Digits (six_digits n) n
six_spelled n h =
    let d = decimal_digits n (omega arith) in
    let long = six_long n h in
    ((omega arith, zeros_digits (6 - length (decimal n)) (decimal n) d.0.1), d.1 ∙ sym (zeros_value (6 - length (decimal n)) (decimal n)))

printed_decimals : (m : ℕ) → m < 2 ^ 64 → Decimals (decimal (m / 1000000) ++ 46 ∷ six_digits (m % 1000000)) m
printed_decimals m h =
    let f : m % 1000000 < 1000000 = omega arith in
    let long = six_long (m % 1000000) f in
    let one : 10 ^ (6 - length (six_digits (m % 1000000))) ≡ 1 = ap (λ k. 10 ^ (6 - k)) long in
    pointed (decimal (m / 1000000)) (six_digits (m % 1000000)) (m / 1000000) (m % 1000000) refl
    (decimal_digits (m / 1000000) (omega arith)) (six_spelled (m % 1000000) f) (omega arith)
    (rw one (omega arith))

pub fixed_printed : (z : ℤ) → IsTrue (fits z) → SpellsFixed (canonical_fixed z) z
fixed_printed (pos n) f = let h = pos_small n f in (plain n (printed_decimals n (omega arith)) refl, f)
fixed_printed (negsuc n) f = let h = negsuc_small n f in
    (negated (decimal (suc n / 1000000) ++ 46 ∷ six_digits (suc n % 1000000)) (suc n) refl (printed_decimals (suc n) (omega arith)) refl, f)
