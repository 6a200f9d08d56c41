-- The value of digits, read one by one.
use Rattle.std.proofs.Common.{◌≡◌, ℕ, zero, suc, ◌+◌, ◌*◌, ◌-◌, ◌<◌, ◌≤◌, true, false, List, [], ◌∷◌, length, take, get_or, ap, ◌∙◌, arith, ◌^◌, ◌&&◌, nat_le, Some, None, pos, if◌then◌else◌}
use Rattle.std.specs.List.{list_all}
use Rattle.std.specs.Char.{digit_value}
use Rattle.std.specs.Str.Parse.{digits_value}
use Rattle.std.proofs.lemmas.Str.Parse.{digits_value-take-le}
use Rattle.std.proofs.lemmas.Int.Digits.{digits_value_push}
use Rattle.std.proofs.Math.Seq.{take-suc}
use Rattle.std.proofs.lemmas.Bool.{lt-leb, and_parts}
use Rattle.std.proofs.Math.Nat.{mul-suc, one-le-pow}
use Rattle.brace_tok.specs.declared.kinds.TokKind.TheVariants as kind
use Rattle.brace_num.specs.Names.{is_digit}
use Rattle.brace_num.proofs.Booleans.{and_false}
use Rattle.brace_tok.specs.Roles.{fixed_kind, millionths}

-- a byte of digits is a digit
pub digit_at : (ds : List ℕ) (i : ℕ) → list_all is_digit ds ≡ true → i < length ds → is_digit (get_or ds i 0) ≡ true
digit_at [] i e h = absurd (omega arith)
digit_at (d ∷ ds) zero e h = (and_parts _ _ e).0
digit_at (d ∷ ds) (suc i) e h = digit_at ds i ((and_parts _ _ e).1) (omega arith)

pub digit_is : (b : ℕ) → is_digit b ≡ true → digit_value b ≡ b - 48
digit_is b e = grind (arith, e)

pub digits_next : (ds : List ℕ) (i : ℕ) → list_all is_digit ds ≡ true → i < length ds →
    digits_value 10 (take (suc i) ds) ≡ digits_value 10 (take i ds) * 10 + (get_or ds i 0 - 48)
digits_next ds i e h =
    ap (digits_value 10) (take-suc ds i 0 h) ∙ digits_value_push 10 (take i ds) (get_or ds i 0)
    ∙ ap (λ n. digits_value 10 (take i ds) * 10 + n) (digit_is _ (digit_at ds i e h))

pub digits_prefix : (ds : List ℕ) (i : ℕ) → digits_value 10 (take i ds) ≤ digits_value 10 ds
digits_prefix ds i = digits_value-take-le 10 ds i (omega arith)

many_times : (p k : ℕ) → 1 ≤ k → p ≤ p * k
many_times p zero h = absurd (omega arith)
many_times p (suc k) h = rw mul-suc (omega arith)

-- decimals above the greatest value make the literal too wide
pub wide_decimals : (ds fs : List ℕ) → (digits_value 10 fs ≤ 9223372036854775807 → ⊥) → fixed_kind ds fs ≡ None
wide_decimals ds fs h =
    let wide : digits_value 10 fs ≤ digits_value 10 fs * 10 ^ (6 - length fs) = many_times _ _ (one-le-pow (6 - length fs) 10 (omega arith)) in
    let no : nat_le (millionths ds fs) 9223372036854775807 ≡ false = lt-leb _ _ (omega arith) in
    ap (λ v. if v then Some (kind.Fixed (pos (millionths ds fs))) else None) (ap (λ v. nat_le (length fs) 6 && v) no ∙ and_false _)
