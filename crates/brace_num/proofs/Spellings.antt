-- The readings of texts agree with the relation of spellings.
use Rattle.std.proofs.Common.{◌≡◌, ◌∙◌, ℕ, suc, add-one, length-append, drop-cons, inl, inr, ◌+◌, ◌-◌, ◌*◌, ◌^◌, ◌<◌, ◌≤◌, List, [], ◌∷◌, ◌++◌, length, take, drop, get_or, Bool, true, false, arith, refl, sym, ap, subst}
use Rattle.std.specs.Prelude.{ℤ, pos, neg_ℤ, Option, Some, None, position, ◌==◌, IsTrue, slice_index, ◌↔◌}
use Rattle.std.specs.List.{position_or_len}
use Rattle.std.specs.Char.{digit_value}
use Rattle.std.proofs.lemmas.Bool.{cases_Bool}
use Rattle.std.proofs.lemmas.Str.Parse.{digit_from_value}
use Rattle.std.proofs.Math.Seq.{take-append_seam}
use Rattle.std.proofs.lemmas.List.{take-append-drop}
use Rattle.std.proofs.lemmas.List.Quantifiers.{position-Some}
use Rattle.std.specs.Str.Parse.{IsNumeral, AllDigits, digits_value}
use Rattle.std.proofs.lemmas.Int.{ints}
use Rattle.brace_num.specs.Exact.{fits}
use Rattle.brace_num.specs.Spelling.{Digits, Decimals, Signed, SpellsCount, SpellsInt, SpellsFixed, plain, negated, whole, pointed, are_digits, count_of, part_of, joined, decimals_at, decimals_of, signed_fitting, with_sign, signed_of, int_of, fixed_of}
use Rattle.brace_num.proofs.Readings.{digits_numeral, numeral_digits}

-- a count that is read is spelled, and one that is spelled is read
pub count_spells : (text : List ℕ) (n : ℕ) → count_of text ≡ Some n → SpellsCount text n
count_spells text n e =
    let d : are_digits text ≡ true = grind arith in
    let v : n ≡ digits_value 10 text = grind arith in
    let s : n < 2 ^ 64 = grind arith in
    ((digits_numeral text d, v), s)

pub count_found : (text : List ℕ) (n : ℕ) → SpellsCount text n → count_of text ≡ Some n
count_found text n ((d, v), s) = let t : are_digits text ≡ true = numeral_digits text d in grind arith

-- the sign
sign_fits : (minus : Bool) (n : ℕ) (z : ℤ) → signed_fitting minus n ≡ Some z → IsTrue (fits z)
sign_fits minus n z e = grind arith

sign_plain : (n : ℕ) (z : ℤ) → signed_fitting false n ≡ Some z → z ≡ pos n
sign_plain n z e = grind arith

sign_negated : (n : ℕ) (z : ℤ) → signed_fitting true n ≡ Some z → z ≡ neg_ℤ (pos n)
sign_negated n z e = grind arith

plain_found : (n : ℕ) (z : ℤ) → z ≡ pos n → IsTrue (fits z) → (n < 2 ^ 64) × (signed_fitting false n ≡ Some z)
plain_found n z e f = (grind (arith, ints), grind arith)

negated_found : (n : ℕ) (z : ℤ) → z ≡ neg_ℤ (pos n) → IsTrue (fits z) → (n < 2 ^ 64) × (signed_fitting true n ≡ Some z)
negated_found n z e f = (grind (arith, ints), grind arith)

-- a digit is no point and no minus sign
digit_is : (c : ℕ) → digit_value c < 10 → (48 ≤ c) × (c ≤ 57)
digit_is c h = let r = digit_from_value c h in (r.0, r.1)

no_minus : (text : List ℕ) → IsNumeral 10 text → (slice_index text 0 == 45) ≡ false
no_minus [] (l, d) = refl
no_minus (c ∷ cs) (l, (h, d)) = let r = digit_is c h in grind arith

abbrev is_point : ℕ → Bool
is_point c = c == 46

first_point : (front part : List ℕ) → AllDigits 10 front → position_or_len is_point (front ++ 46 ∷ part) ≡ length front
first_point [] part d = refl
first_point (c ∷ cs) part (h, d) = let r = digit_is c h in let again = first_point cs part d in grind arith

no_point : (ds : List ℕ) → AllDigits 10 ds → position_or_len is_point ds ≡ length ds
no_point [] d = refl
no_point (c ∷ cs) (h, d) = let r = digit_is c h in let again = no_point cs d in grind arith

point_found : (front part : List ℕ) → AllDigits 10 front → position is_point (front ++ 46 ∷ part) ≡ Some (length front)
point_found front part d = let e = first_point front part d in let l = length-append front (46 ∷ part) in grind arith

point_missed : (ds : List ℕ) → AllDigits 10 ds → position is_point ds ≡ None
point_missed ds d = let e = no_point ds d in grind arith

drop_after : (front part : List ℕ) → drop (suc (length front)) (front ++ 46 ∷ part) ≡ part
drop_after [] part = refl
drop_after (c ∷ cs) part = drop_after cs part

part_found : (part : List ℕ) (f : ℕ) → Digits part f → length part ≤ 6 → part_of part ≡ Some (f * 10 ^ (6 - length part))
part_found part f (d, v) short = let t : are_digits part ≡ true = numeral_digits part d in grind arith

joined_found : (w f n : ℕ) → n ≡ w * 1000000 + f → n < 2 ^ 64 → joined (Some w) (Some f) ≡ Some n
joined_found w f n e s = grind arith

-- spelled millionths are read
decimals_whole : (text : List ℕ) (w n : ℕ) → Digits text w → n ≡ w * 1000000 → n < 2 ^ 64 → decimals_of text ≡ Some n
decimals_whole text w n ((l, d), v) e s =
    let c : count_of text ≡ Some w = count_found text w (((l, d), v), omega arith) in
    ap (decimals_at text) (point_missed text d) ∙ ap (λ x. joined x (Some 0)) c ∙ joined_found w 0 n (omega arith) s

decimals_pointed : (front part : List ℕ) (w f n : ℕ) → Digits front w → Digits part f → length part ≤ 6 →
    n ≡ w * 1000000 + f * 10 ^ (6 - length part) → n < 2 ^ 64 → decimals_of (front ++ 46 ∷ part) ≡ Some n
decimals_pointed front part w f n ((l, d), v) df short e s =
    let c : count_of front ≡ Some w = count_found front w (((l, d), v), omega arith) in
    let at : position is_point (front ++ 46 ∷ part) ≡ Some (length front) = point_found front part d in
    let t : take (length front) (front ++ 46 ∷ part) ≡ front = take-append_seam front (46 ∷ part) in
    let r : drop (length front + 1) (front ++ 46 ∷ part) ≡ part = rw add-one (drop_after front part) in
    ap (decimals_at (front ++ 46 ∷ part)) at
    ∙ ap (λ x. joined (count_of x) (part_of (drop (length front + 1) (front ++ 46 ∷ part)))) t
    ∙ ap (λ x. joined (count_of front) (part_of x)) r
    ∙ ap (λ x. joined x (part_of part)) c
    ∙ ap (joined (Some w)) (part_found part f df short)
    ∙ joined_found w (f * 10 ^ (6 - length part)) n e s

pub decimals_found : (text : List ℕ) (n : ℕ) → Decimals text n → n < 2 ^ 64 → decimals_of text ≡ Some n
decimals_found text n (whole w d e) s = decimals_whole text w n d e s
decimals_found text n (pointed front part w f et dw df short e) s = ap decimals_of et ∙ decimals_pointed front part w f n dw df short e s

-- what a joined number was made of
record Joined (a b : Option ℕ) (n : ℕ) : Type 0 where
  w : ℕ
  f : ℕ
  left : a ≡ Some w
  right : b ≡ Some f
  sum : n ≡ w * 1000000 + f

joined_spells : (a b : Option ℕ) (n : ℕ) → joined a b ≡ Some n → Joined a b n
joined_spells None b n e = cc
joined_spells (Some w) None n e = cc
joined_spells (Some w) (Some f) n e = record { w = w; f = f; left = refl; right = refl; sum = grind arith }

-- what a part was made of
record Part (part : List ℕ) (m : ℕ) : Type 0 where
  f : ℕ
  digits : Digits part f
  short : length part ≤ 6
  value : m ≡ f * 10 ^ (6 - length part)

part_spells : (part : List ℕ) (m : ℕ) → part_of part ≡ Some m → Part part m
part_spells part m e =
    let d : are_digits part ≡ true = grind arith in
    record { f = digits_value 10 part; digits = (digits_numeral part d, refl); short = grind arith; value = grind arith }

text_at : (text : List ℕ) (i : ℕ) → position is_point text ≡ Some i → text ≡ take i text ++ 46 ∷ drop (i + 1) text
text_at text i e =
    let at = position-Some is_point text i 0 e in
    let point : get_or text i 0 ≡ 46 = grind (arith, at.1) in
    let here : drop i text ≡ get_or text i 0 ∷ drop (suc i) text = drop-cons text i 0 at.0 in
    let there : drop i text ≡ 46 ∷ drop (i + 1) text = rw add-one (here ∙ ap (λ c. c ∷ drop (suc i) text) point) in
    sym (take-append-drop i text) ∙ ap (λ r. take i text ++ r) there

-- millionths that are read are spelled
at_spells : (text : List ℕ) (n : ℕ) (p : Option ℕ) → position is_point text ≡ p → decimals_at text p ≡ Some n → Decimals text n
at_spells text n None at e =
    let j = joined_spells (count_of text) (Some 0) n e in
    let zero_part : j.f ≡ 0 = cc (j.right) in
    whole j.w (count_spells text j.w j.left).0 (omega (arith, j.sum))
at_spells text n (Some i) at e =
    let j = joined_spells (count_of (take i text)) (part_of (drop (i + 1) text)) n e in
    let q = part_spells (drop (i + 1) text) j.f j.right in
    pointed (take i text) (drop (i + 1) text) j.w q.f (text_at text i at) (count_spells (take i text) j.w j.left).0 q.digits q.short
    (j.sum ∙ ap (λ m. j.w * 1000000 + m) q.value)

decimals_spells : (text : List ℕ) (n : ℕ) → decimals_of text ≡ Some n → Decimals text n
decimals_spells text n e = at_spells text n (position is_point text) refl e

-- what a signed number was made of
record SignedBy (minus : Bool) (m : Option ℕ) (z : ℤ) : Type 0 where
  n : ℕ
  magnitude : m ≡ Some n
  fitting : signed_fitting minus n ≡ Some z

signed_by : (minus : Bool) (m : Option ℕ) (z : ℤ) → with_sign minus m ≡ Some z → SignedBy minus m z
signed_by minus None z e = cc
signed_by minus (Some n) z e = record { n = n; magnitude = refl; fitting = e }

module _ (Spelled : List ℕ → ℕ → Type 0) (reading : List ℕ → Option ℕ)
    (spells : (text : List ℕ) (n : ℕ) → reading text ≡ Some n → Spelled text n)
    (found : (text : List ℕ) (n : ℕ) → Spelled text n → n < 2 ^ 64 → reading text ≡ Some n)
    (bare : (text : List ℕ) (n : ℕ) → Spelled text n → (slice_index text 0 == 45) ≡ false) where
  by_plain : (text : List ℕ) (z : ℤ) → with_sign false (reading text) ≡ Some z → Signed Spelled text z × IsTrue (fits z)
  by_plain text z e = let s = signed_by false (reading text) z e in
      (plain s.n (spells text s.n s.magnitude) (sign_plain s.n z s.fitting), sign_fits false s.n z s.fitting)

  by_minus : (rest : List ℕ) (z : ℤ) → with_sign true (reading rest) ≡ Some z → Signed Spelled (45 ∷ rest) z × IsTrue (fits z)
  by_minus rest z e = let s = signed_by true (reading rest) z e in
      (negated rest s.n refl (spells rest s.n s.magnitude) (sign_negated s.n z s.fitting), sign_fits true s.n z s.fitting)

  signed_spells : (text : List ℕ) (z : ℤ) → signed_of reading text ≡ Some z → Signed Spelled text z × IsTrue (fits z)
  signed_spells [] z e = by_plain [] z e
  signed_spells (c ∷ rest) z e = elim (cases_Bool (c == 45)) [
    | inl t ↦ let first : c ≡ 45 = grind arith in
        let P : ℕ → Type 0 = λ d. Signed Spelled (d ∷ rest) z × IsTrue (fits z) in
        let read : with_sign true (reading rest) ≡ Some z = rw t at e in
        subst P (sym first) (by_minus rest z read)
    | inr t ↦ let read : with_sign false (reading (c ∷ rest)) ≡ Some z = rw t at e in by_plain (c ∷ rest) z read
  ]

  signed_found : (text : List ℕ) (z : ℤ) → Signed Spelled text z → IsTrue (fits z) → signed_of reading text ≡ Some z
  signed_found text z (plain n d e) f =
      let p = plain_found n z e f in
      let read = found text n d p.0 in
      rw (bare text n d, read) p.1
  signed_found text z (negated rest n et d e) f =
      let p = negated_found n z e f in
      let read = found rest n d p.0 in
      rw (et, read) p.1

-- a spelled magnitude does not begin with a minus sign
bare_digits : (text : List ℕ) (n : ℕ) → Digits text n → (slice_index text 0 == 45) ≡ false
bare_digits text n (d, v) = no_minus text d

bare_before : (front part : List ℕ) (w : ℕ) → Digits front w → (slice_index (front ++ 46 ∷ part) 0 == 45) ≡ false
bare_before [] part w ((l, d), v) = refl
bare_before (c ∷ cs) part w ((l, (h, d)), v) = let r = digit_is c h in grind arith

bare_decimals : (text : List ℕ) (n : ℕ) → Decimals text n → (slice_index text 0 == 45) ≡ false
bare_decimals text n (whole w d e) = bare_digits text w d
bare_decimals text n (pointed front part w f et dw df short e) = rw et (bare_before front part w dw)

digits_found : (text : List ℕ) (n : ℕ) → Digits text n → n < 2 ^ 64 → count_of text ≡ Some n
digits_found text n d s = count_found text n (d, s)

digits_spell : (text : List ℕ) (n : ℕ) → count_of text ≡ Some n → Digits text n
digits_spell text n e = (count_spells text n e).0

-- each reading gives a number exactly where the text spells it
pub count_reads : (text : List ℕ) (n : ℕ) → SpellsCount text n ↔ count_of text ≡ Some n
count_reads text n = (count_found text n, count_spells text n)

pub int_reads : (text : List ℕ) (z : ℤ) → SpellsInt text z ↔ int_of text ≡ Some z
int_reads text z = (
  (λ s. signed_found Digits count_of digits_spell digits_found bare_digits text z s.0 s.1),
  signed_spells Digits count_of digits_spell digits_found bare_digits text z,
)

pub fixed_reads : (text : List ℕ) (z : ℤ) → SpellsFixed text z ↔ fixed_of text ≡ Some z
fixed_reads text z = (
  (λ s. signed_found Decimals decimals_of decimals_spells decimals_found bare_decimals text z s.0 s.1),
  signed_spells Decimals decimals_of decimals_spells decimals_found bare_decimals text z,
)

pub count_read : (text : List ℕ) (r : Option ℕ) → r ≡ count_of text → (v : ℕ) → SpellsCount text v ↔ r ≡ Some v
count_read text r e = let P : Option ℕ → Type 0 = λ o. (v : ℕ) → SpellsCount text v ↔ o ≡ Some v in subst P (sym e) (count_reads text)

pub int_read : (text : List ℕ) (r : Option ℤ) → r ≡ int_of text → (v : ℤ) → SpellsInt text v ↔ r ≡ Some v
int_read text r e = let P : Option ℤ → Type 0 = λ o. (v : ℤ) → SpellsInt text v ↔ o ≡ Some v in subst P (sym e) (int_reads text)

pub fixed_read : (text : List ℕ) (r : Option ℤ) → r ≡ fixed_of text → (v : ℤ) → SpellsFixed text v ↔ r ≡ Some v
fixed_read text r e = let P : Option ℤ → Type 0 = λ o. (v : ℤ) → SpellsFixed text v ↔ o ≡ Some v in subst P (sym e) (fixed_reads text)
