-- Digits without the zeros at their end.
use Rattle.std.proofs.Common.{◌≡◌, ◌∙◌, sym, ap, refl, ℕ, zero, suc, ◌+◌, ◌-◌, ◌/◌, ◌%◌, ◌<◌, ◌≤◌, true, false, ◌==◌, if◌then◌else◌, List, [], ◌∷◌, ◌++◌, length, reverse, take, drop, replicate, arith, append_assoc, length-append, ℤ, unsigned_abs, ◌⊎◌, inl, inr, add-one}
use Rattle.std.specs.Fmt.{decimal}
use Rattle.std.proofs.lemmas.Bool.{cases_Bool, eqb-true}
use Rattle.std.proofs.lemmas.List.{reverse-append, reverse-reverse, replicate_more}
use Rattle.std.proofs.Math.Seq.{take-append_seam, take-append-add, drop-append_seam}
use Rattle.brace_num.specs.Spelling.{sign_of, six_digits, canonical_fixed}
use Rattle.brace_num.proofs.Canonical.{six_long}
use Rattle.brace_show.specs.Literals.{past_zeros, without_zeros, shortened, short_fixed}

-- what stands at the front of a list are zeros
pub zeros_before : (xs : List ℕ) → (k : ℕ) × (xs ≡ replicate k 48 ++ past_zeros xs)
zeros_before [] = (0, refl)
zeros_before (x ∷ xs) = by_test x xs (cases_Bool (x == 48)) (zeros_before xs)
  where
    by_test : (x : ℕ) (xs : List ℕ) → ((x == 48) ≡ true) ⊎ ((x == 48) ≡ false) → (k : ℕ) × (xs ≡ replicate k 48 ++ past_zeros xs)
        → (k : ℕ) × (x ∷ xs ≡ replicate k 48 ++ past_zeros (x ∷ xs))
    by_test x xs (inl e) (k, all) = (suc k, ap (λ y. y ∷ xs) (eqb-true x 48 e) ∙ ap (λ ys. 48 ∷ ys) all ∙ ap (λ b. 48 ∷ (replicate k 48 ++ (if b then past_zeros xs else x ∷ xs))) (sym e))
    by_test x xs (inr e) rest = (0, ap (λ b. if b then past_zeros xs else x ∷ xs) (sym e))

reverse-zeros : (k : ℕ) → reverse {A = ℕ} (replicate k 48) ≡ replicate k 48
reverse-zeros zero = refl
reverse-zeros (suc k) = reverse-append {A = ℕ} (48 ∷ []) (replicate k 48) ∙ ap (λ ys. ys ++ 48 ∷ []) (reverse-zeros k) ∙ replicate_more k 48 ∙ rw add-one refl

-- what stands at the end are zeros
pub zeros_behind : (xs : List ℕ) → (k : ℕ) × (xs ≡ without_zeros xs ++ replicate k 48)
zeros_behind xs = turned xs (zeros_before (reverse xs))
  where
    turned : (xs : List ℕ) → (k : ℕ) × (reverse xs ≡ replicate k 48 ++ past_zeros (reverse xs)) → (k : ℕ) × (xs ≡ without_zeros xs ++ replicate k 48)
    turned xs (k, e) = (k, sym (reverse-reverse xs) ∙ ap reverse e ∙ reverse-append (replicate k 48) (past_zeros (reverse xs)) ∙ ap (λ z. without_zeros xs ++ z) (reverse-zeros k))

-- the digits that stay are the first ones
pub starts_with_kept : (xs : List ℕ) → take (length (without_zeros xs)) xs ≡ without_zeros xs
starts_with_kept xs = from_all xs (zeros_behind xs)
  where
    from_all : (xs : List ℕ) → (k : ℕ) × (xs ≡ without_zeros xs ++ replicate k 48) → take (length (without_zeros xs)) xs ≡ without_zeros xs
    from_all xs (k, e) = ap (take (length (without_zeros xs))) e ∙ take-append_seam (without_zeros xs) (replicate k 48)

-- digits of which all but the first were shortened where they stand
pub cut_short : (front digits : List ℕ) → length digits ≡ 6
    → take ((length (front ++ digits) - 5) + length (without_zeros (drop (length (front ++ digits) - 5) (front ++ digits)))) (front ++ digits) ≡ front ++ shortened digits
cut_short front [] e = absurd (omega (arith, e))
cut_short front (digit ∷ others) e =
    let count : length (front ++ digit ∷ others) - 5 ≡ length (front ++ digit ∷ []) = omega (arith, e, length-append front (digit ∷ others), length-append front (digit ∷ [])) in
    let parts : front ++ digit ∷ others ≡ (front ++ digit ∷ []) ++ others = sym (append_assoc front (digit ∷ []) others) in
    let back : drop (length (front ++ digit ∷ [])) (front ++ digit ∷ others) ≡ others = ap (drop (length (front ++ digit ∷ []))) parts ∙ drop-append_seam (front ++ digit ∷ []) others in
    ap (λ n. take (n + length (without_zeros (drop n (front ++ digit ∷ others)))) (front ++ digit ∷ others)) count
    ∙ ap (λ t. take (length (front ++ digit ∷ []) + length (without_zeros t)) (front ++ digit ∷ others)) back
    ∙ ap (take (length (front ++ digit ∷ []) + length (without_zeros others))) parts
    ∙ take-append-add (front ++ digit ∷ []) others (length (without_zeros others))
    ∙ ap (λ t. (front ++ digit ∷ []) ++ t) (starts_with_kept others)
    ∙ append_assoc front (digit ∷ []) (without_zeros others)

pub below : (n : ℕ) → n % 1000000 < 1000000
below n = omega arith

-- the same, where a printed text ends with them
ends_cut_short : (out printed sign whole part : List ℕ) → length part ≡ 6 → printed ≡ out ++ (sign ++ whole ++ 46 ∷ part)
    → take ((length printed - 5) + length (without_zeros (drop (length printed - 5) printed))) printed ≡ out ++ (sign ++ whole ++ 46 ∷ shortened part)
ends_cut_short out printed sign whole part six e =
    let front = out ++ (sign ++ whole ++ 46 ∷ []) in
    let moved : (t : List ℕ) → out ++ (sign ++ whole ++ 46 ∷ t) ≡ front ++ t = λ t. simp append_assoc in
    ap (λ p. take ((length p - 5) + length (without_zeros (drop (length p - 5) p))) p) (e ∙ moved part)
    ∙ cut_short front part six ∙ sym (moved (shortened part))

ends_long_enough : (out printed sign whole part : List ℕ) → length part ≡ 6 → printed ≡ out ++ (sign ++ whole ++ 46 ∷ part) → 5 ≤ length printed
ends_long_enough out printed sign whole part six e =
    rw e (omega (arith, six, length-append out (sign ++ whole ++ 46 ∷ part), length-append (sign ++ whole) (46 ∷ part)))

-- a printed fixed number, shortened where it stands
pub fixed_shortened : (out printed : List ℕ) (z : ℤ) → printed ≡ out ++ canonical_fixed z
    → take ((length printed - 5) + length (without_zeros (drop (length printed - 5) printed))) printed ≡ out ++ short_fixed z
fixed_shortened out printed z e =
    ends_cut_short out printed (sign_of z) (decimal (unsigned_abs z / 1000000)) (six_digits (unsigned_abs z % 1000000)) (six_long (unsigned_abs z % 1000000) (below (unsigned_abs z))) e

pub long_enough : (out printed : List ℕ) (z : ℤ) → printed ≡ out ++ canonical_fixed z → 5 ≤ length printed
long_enough out printed z e =
    ends_long_enough out printed (sign_of z) (decimal (unsigned_abs z / 1000000)) (six_digits (unsigned_abs z % 1000000)) (six_long (unsigned_abs z % 1000000) (below (unsigned_abs z))) e
