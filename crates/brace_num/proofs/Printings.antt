-- Facts on printed text.
use Rattle.std.proofs.Common.{◌≡◌, ℕ, ◌<◌, ◌≤◌, ◌-◌, List, [], ◌∷◌, ◌++◌, length, take, drop, replicate, arith, ap, sym, ◌∙◌, append_assoc, length-append}
use Rattle.std.specs.Fmt.{decimal}
use Rattle.std.proofs.lemmas.List.{take-take, drop-replicate, take_all, length-replicate}
use Rattle.std.proofs.lemmas.Fmt.{length-decimal-le}
use Rattle.std.proofs.Math.Seq.{take-append_seam}
use Rattle.brace_num.specs.Spelling.{six_digits}

-- what begins with a list begins with the first part of it
pub starts_more : (a b r : List ℕ) → take (length (a ++ b)) r ≡ a ++ b → take (length a) r ≡ a
starts_more a b r e =
    let le : length a ≤ length (a ++ b) = omega (arith, length-append a b) in
    sym (take-take (length a) (length (a ++ b)) r le) ∙ ap (take (length a)) e ∙ take-append_seam a b

abbrev pub six_zeros : List ℕ
six_zeros = 48 ∷ 48 ∷ 48 ∷ 48 ∷ 48 ∷ 48 ∷ []

-- six zeros without as many as a number has digits
zeros_left : (k : ℕ) → take (6 - k) (drop k six_zeros) ≡ replicate (6 - k) 48
zeros_left k = ap (take (6 - k)) (drop-replicate {X = ℕ} k 6 48) ∙ take_all (6 - k) (replicate (6 - k) 48) (omega (arith, length-replicate {A = ℕ} (6 - k) 48))

-- a number below a million has at most six digits
pub short_decimal : (n : ℕ) → n < 1000000 → length (decimal n) ≤ 6
short_decimal n h = length-decimal-le 6 n (omega arith) h (omega arith)

-- zeros that fill up to six digits, and the digits
pub zeros_then : (out ds : List ℕ) (n : ℕ) → ds ≡ decimal n → (out ++ take (6 - length ds) (drop (length ds) six_zeros)) ++ ds ≡ out ++ six_digits n
zeros_then out ds n e = rw (e, zeros_left (length (decimal n))) (append_assoc out _ (decimal n))

pub short_digits : (ds : List ℕ) (n : ℕ) → ds ≡ decimal n → n < 1000000 → length ds ≤ 6
short_digits ds n e h = rw e (short_decimal n h)
