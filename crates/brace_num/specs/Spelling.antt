-- What texts spell numbers: a relation between bytes and numbers, the reading of a text that goes
-- with it, and the one canonical spelling of each number. A fixed number is a whole number of
-- millionths. Byte 45 is the minus sign, byte 46 the point, and 48 to 57 are the digits.
use Rattle.std.specs.Prelude.{◌≡◌, ℕ, ◌+◌, ◌-◌, ◌*◌, ◌/◌, ◌%◌, ◌^◌, ◌<◌, ◌≤◌, nat_lt, nat_le, ◌==◌, Bool, true, false, ◌&&◌, if◌then◌else◌, List, [], ◌∷◌, ◌++◌, length, take, drop, replicate, slice_index, ℤ, pos, negsuc, neg_ℤ, unsigned_abs, Option, Some, None, IsTrue, position}
use Rattle.std.specs.Fmt.{decimal, signed_decimal}
use Rattle.std.specs.Str.{all_ascii_digits}
use Rattle.std.specs.Str.Parse.{IsNumeral, digits_value}
use Rattle.brace_num.specs.Exact.{fits}

-- one digit or more, and the number that they write
abbrev pub Digits : List ℕ → ℕ → Type 0
Digits text n = IsNumeral 10 text × (n ≡ digits_value 10 text)

-- digits, and perhaps a point and one to six digits, and the number of millionths that they write
pub data Decimals (text : List ℕ) (n : ℕ) : Type 0 where
  whole : (w : ℕ) → Digits text w → n ≡ w * 1000000 → Decimals text n
  pointed : (front part : List ℕ) (w f : ℕ) → text ≡ front ++ 46 ∷ part → Digits front w →
      Digits part f → length part ≤ 6 →
      n ≡ w * 1000000 + f * 10 ^ (6 - length part) → Decimals text n

-- a spelled magnitude, or a minus sign and a spelled magnitude
pub data Signed (Spelled : List ℕ → ℕ → Type 0) (text : List ℕ) (z : ℤ) : Type 0 where
  plain : (n : ℕ) → Spelled text n → z ≡ pos n → Signed Spelled text z
  negated : (rest : List ℕ) (n : ℕ) → text ≡ 45 ∷ rest → Spelled rest n → z ≡ neg_ℤ (pos n)
      → Signed Spelled text z

-- the text spells the count n
abbrev pub SpellsCount : List ℕ → ℕ → Type 0
SpellsCount text n = Digits text n × (n < 2 ^ 64)

-- the text spells the int z
abbrev pub SpellsInt : List ℕ → ℤ → Type 0
SpellsInt text z = Signed Digits text z × IsTrue (fits z)

-- the text spells the fixed number of z millionths
abbrev pub SpellsFixed : List ℕ → ℤ → Type 0
SpellsFixed text z = Signed Decimals text z × IsTrue (fits z)

-- one digit or more, and nothing else
abbrev pub are_digits : List ℕ → Bool
are_digits text = nat_lt 0 (length text) && all_ascii_digits text

-- the count, where it is below 2 ^ 64
abbrev pub counted : ℕ → Option ℕ
counted n = if nat_lt n (2 ^ 64) then Some n else None

-- the count that the text spells, if any
abbrev pub count_of : List ℕ → Option ℕ
count_of text = if are_digits text then counted (digits_value 10 text) else None

-- the millionths that the digits after a point write
abbrev pub part_of : List ℕ → Option ℕ
part_of part =
    if are_digits part && nat_le (length part) 6
    then Some (digits_value 10 part * 10 ^ (6 - length part)) else None

-- the millionths of a whole number and a part
abbrev pub joined : Option ℕ → Option ℕ → Option ℕ
joined None part = None
joined (Some w) None = None
joined (Some w) (Some f) = counted (w * 1000000 + f)

-- the same of a text with its first point at a place, or with none
abbrev pub decimals_at : List ℕ → Option ℕ → Option ℕ
decimals_at text None = joined (count_of text) (Some 0)
decimals_at text (Some i) = joined (count_of (take i text)) (part_of (drop (i + 1) text))

abbrev pub decimals_of : List ℕ → Option ℕ
decimals_of text = decimals_at text (position (λ c. c == 46) text)

-- the number with a sign, where it fits
abbrev pub signed_fitting : Bool → ℕ → Option ℤ
signed_fitting minus n =
    let z = if minus then neg_ℤ (pos n) else pos n in if fits z then Some z else None

abbrev pub with_sign : Bool → Option ℕ → Option ℤ
with_sign minus None = None
with_sign minus (Some n) = signed_fitting minus n

-- a text with or without a minus sign, read by a reading of magnitudes
abbrev pub signed_of : (List ℕ → Option ℕ) → List ℕ → Option ℤ
signed_of magnitude text =
    if slice_index text 0 == 45 then with_sign true (magnitude (drop 1 text))
    else with_sign false (magnitude text)

-- the int that the text spells, if any
abbrev pub int_of : List ℕ → Option ℤ
int_of text = signed_of count_of text

-- the millionths of the fixed number that the text spells, if any
abbrev pub fixed_of : List ℕ → Option ℤ
fixed_of text = signed_of decimals_of text

-- a count: its digits, with no leading zero but for 0 itself
abbrev pub canonical_count : ℕ → List ℕ
canonical_count n = decimal n

-- an int: a minus sign where it is negative, and its digits
abbrev pub canonical_int : ℤ → List ℕ
canonical_int z = signed_decimal z

-- a minus sign where the number is negative
abbrev pub sign_of : ℤ → List ℕ
sign_of (pos n) = []
sign_of (negsuc n) = 45 ∷ []

-- the digits of a number below a million, with zeros in front up to six
abbrev pub six_digits : ℕ → List ℕ
six_digits n = replicate (6 - length (decimal n)) 48 ++ decimal n

-- a number of millionths: its sign, the digits of its whole part, a point, and six digits
abbrev pub canonical_fixed : ℤ → List ℕ
canonical_fixed z =
    sign_of z ++ decimal (unsigned_abs z / 1000000) ++ 46 ∷ six_digits (unsigned_abs z % 1000000)
