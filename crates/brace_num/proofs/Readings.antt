-- What the readings of texts give, over plain lists.
use Rattle.std.proofs.Common.{◌≡◌, ◌≢◌, ℕ, ◌<◌, ◌≤◌, ◌-◌, ◌*◌, ◌^◌, List, length, arith, true, get_or}
use Rattle.std.specs.Prelude.{Some, None, Result, Ok, Err}
use Rattle.std.specs.Result.{result_ok}
use Rattle.std.specs.Str.{all_ascii_digits, IsUtf8}
use Rattle.std.specs.Str.Parse.{IsNumeral, digits_value, ParsesUnsigned}
use Rattle.std.proofs.lemmas.Str.Parse.{IsNumeralModel, numerals_by_value, tells_all_ascii_digits, parse_plain, digits_value_short}
use Rattle.std.proofs.lemmas.Str.{IsUtf8-from_ascii}
use Rattle.std.proofs.lemmas.Nat.{mul-lt}
use Rattle.std.proofs.Math.Nat.{pow-le-pow_right}
use Rattle.std.proofs.lemmas.Fmt.{IsAscii-from_digits}
use Rattle.brace_num.specs.Spelling.{are_digits, count_of, part_of}

-- std's test of digits and std's value of them go together
pub own : IsNumeralModel (λ ds. all_ascii_digits ds ≡ true) (digits_value 10)
own = numerals_by_value _ tells_all_ascii_digits

-- the test of digits says that they are a numeral, and the other way round
pub digits_numeral : (bs : List ℕ) → are_digits bs ≡ true → IsNumeral 10 bs
digits_numeral bs e = let t : all_ascii_digits bs ≡ true = grind arith in let l : 0 < length bs = grind arith in (l, own.to bs t)

pub numeral_digits : (bs : List ℕ) → IsNumeral 10 bs → are_digits bs ≡ true
numeral_digits bs (l, d) = let t = own.from bs d in grind arith

-- what is no text spells no count
pub not_text : (bs : List ℕ) → (IsUtf8 bs → ⊥) → count_of bs ≡ None
not_text bs bad = let h : are_digits bs ≡ true → ⊥ = λ e. bad (IsUtf8-from_ascii bs (IsAscii-from_digits bs (digits_numeral bs e).1)) in grind arith

-- what `parse` answers
pub parsed : {E : Type 0} (bs : List ℕ) (r : Result ℕ E) → ParsesUnsigned 64 10 bs r → get_or bs 0 0 ≢ 43 → result_ok r ≡ count_of bs
parsed {E} bs (Ok x) h ne = let p : (all_ascii_digits bs ≡ true × (0 < length bs) × (digits_value 10 bs < 2 ^ 64)) × (x ≡ digits_value 10 bs) = parse_plain own {E = E} 64 bs (Ok x) h ne in grind arith
parsed {E} bs (Err e) h ne = let p : (all_ascii_digits bs ≡ true × (0 < length bs) × (digits_value 10 bs < 2 ^ 64)) → ⊥ = parse_plain own {E = E} 64 bs (Err e) h ne in grind arith

-- a short text of digits writes less than a million
pub short_value : (bs : List ℕ) → are_digits bs ≡ true → length bs ≤ 6 → digits_value 10 bs < 1000000
short_value bs e short = let t : all_ascii_digits bs ≡ true = grind arith in digits_value_short own bs 6 t short

-- the millionths of a short part fit
pub part_small : (bs : List ℕ) (n : ℕ) → count_of bs ≡ Some n → length bs ≤ 6 → n * 10 ^ (6 - length bs) < 2 ^ 64
part_small bs n e short =
    let d : are_digits bs ≡ true = grind arith in
    let small : n < 1000000 = grind (arith, short_value bs d short) in
    let short_scale : 6 - length bs ≤ 6 = omega arith in
    let scale : 10 ^ (6 - length bs) ≤ 10 ^ 6 = pow-le-pow_right (omega arith) short_scale in
    let scale_below : 10 ^ (6 - length bs) < 1000001 = omega arith in
    omega (arith, mul-lt n (10 ^ (6 - length bs)) 1000000 1000001 small scale_below)

-- a short text whose count does not fit is no digits
pub part_none : (bs : List ℕ) → count_of bs ≡ None → part_of bs ≡ None
part_none bs e =
    let h : are_digits bs ≡ true → length bs ≤ 6 → digits_value 10 bs < 1000000 = short_value bs in
    grind arith
