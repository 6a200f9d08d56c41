-- Runs of bytes, and ends of comments, at a place of a text.
use Rattle.std.proofs.Common.{◌≡◌, ℕ, zero, suc, ◌+◌, ◌<◌, ◌≤◌, Bool, true, false, ◌&&◌, ◌||◌, List, [], ◌∷◌, length, take, drop, get_or, refl, ap, ◌∙◌, arith, ◌==◌, ◌-◌, ◌≢◌, add-one}
use Rattle.std.proofs.Math.Numerals.{sub-one}
use Rattle.std.proofs.lemmas.Bool.{ne_eqb}
use Rattle.brace_num.specs.Names.{begins}
use Rattle.brace_num.proofs.Booleans.{and_false, or_false}
use Rattle.brace_tok.specs.Bytes.{has_close}

pub or-assoc : (a b c : Bool) → (a || (b || c)) ≡ ((a || b) || c)
or-assoc true b c = refl
or-assoc false b c = refl

pub begins-end : (kind : ℕ → Bool) (text : List ℕ) → begins kind (drop (length text) text) ≡ false
begins-end kind [] = refl
begins-end kind (b ∷ text) = begins-end kind text

pub close_next : (text : List ℕ) (n : ℕ) → suc n < length text →
    has_close (take (suc (suc n)) text) ≡ (has_close (take (suc n) text) || (get_or text n 0 == 42 && get_or text (suc n) 0 == 47))
close_next [] n h = absurd (omega arith)
close_next (x ∷ []) n h = absurd (omega arith)
close_next (x ∷ y ∷ text) zero h = rw (and_false (y == 42), and_false (x == 42), or_false (x == 42 && y == 47)) refl
close_next (x ∷ y ∷ text) (suc n) h =
    ap (λ v. (x == 42 && y == 47) || v) (close_next (y ∷ text) n (omega arith)) ∙ or-assoc (x == 42 && y == 47) (has_close (take (suc n) (y ∷ text))) (get_or (y ∷ text) n 0 == 42 && get_or (y ∷ text) (suc n) 0 == 47)

pub both_false : (a b : Bool) → a ≡ false → b ≡ false → (a || b) ≡ false
both_false false b p q = q
both_false true b p q = p

-- no end of a comment at n - 1: its first byte is another, or its second
pub close_step_first : (text : List ℕ) (n : ℕ) → 1 ≤ n → n < length text → get_or text (n - 1) 0 ≢ 42 → has_close (take n text) ≡ false → has_close (take (n + 1) text) ≡ false
close_step_first text zero p h ne e = absurd (omega arith)
close_step_first text (suc n) p h ne e =
    rw add-one (close_next text n h ∙ both_false _ _ e (ap (λ v. v && (get_or text (suc n) 0 == 47)) (ne_eqb _ _ (rw sub-one at ne))))

pub close_step_second : (text : List ℕ) (n : ℕ) → 1 ≤ n → n < length text → get_or text n 0 ≢ 47 → has_close (take n text) ≡ false → has_close (take (n + 1) text) ≡ false
close_step_second text zero p h ne e = absurd (omega arith)
close_step_second text (suc n) p h ne e =
    rw add-one (close_next text n h ∙ both_false _ _ e (ap (λ v. (get_or text n 0 == 42) && v) (ne_eqb _ _ ne) ∙ and_false _))
