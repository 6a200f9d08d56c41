-- Which piece stands at the head of a text, from what a scan found there.
use Rattle.std.proofs.Common.{◌≡◌, ℕ, zero, suc, ◌+◌, ◌<◌, ◌≤◌, Bool, true, false, not, ◌||◌, List, [], ◌∷◌, ◌++◌, length, take, drop, get_or, refl, sym, ap, subst, ◌∙◌, arith, ◌==◌, Option, Some, None, is_some, length-drop, take_all}
use Rattle.std.proofs.Math.Seq.{take-add}
use Rattle.std.proofs.lemmas.List.{drop-drop}
use Rattle.std.proofs.lemmas.Bool.{eqb-true, and_parts, and_from, both_ways}
use Rattle.brace_num.specs.Names.{is_digit, is_letter, is_word_byte, begins}
use Rattle.brace_num.proofs.Booleans.{and_false}
use Rattle.brace_tok.specs.Bytes.{is_blank, are_digits, begins_close, begins_fraction, begins_comment}
use Rattle.brace_tok.specs.Tables.{symbol}
use Rattle.brace_tok.specs.Pieces.{blank, line_comment, block_comment, word, whole, fraction, hash, sign, open_comment, stray}
use Rattle.brace_tok.specs.Roles.{token, refused, token_or}
use Rattle.brace_tok.specs.declared.kinds.TokKind.{TokKind}
use Rattle.brace_tok.specs.declared.fault.TokFault.{TokFault}
use Rattle.brace_tok.specs.inner.Steps.{IsRun, IsClosed, Stands, pair_of}
use Rattle.brace_tok.proofs.Scans.{begins-end}

pub blank_stands : (text : List ℕ) → 0 < length text → is_blank (get_or text 0 0) ≡ true → Stands text (blank (get_or text 0 0)) 1
blank_stands [] h e = absurd (omega arith)
blank_stands (b ∷ text) h e = record { within = omega arith; bytes = refl; longest = and_from _ _ e refl }

not_false : (a : Bool) → a ≡ false → not a ≡ true
not_false a e = ap not e

letter_goes_on : (b : ℕ) → is_letter b ≡ true → is_word_byte b ≡ true
letter_goes_on b e = ap (λ v. v || is_digit b) e

pub word_stands : (text : List ℕ) (n : ℕ) → begins is_letter text ≡ true → IsRun is_word_byte text n → Stands text (word (take n text)) n
word_stands [] n e run = absurd (cc)
word_stands (b ∷ text) zero e run = absurd (both_ways _ run.2 (letter_goes_on b e))
word_stands (b ∷ text) (suc n) e run = record { within = run.0; bytes = refl; longest = and_from _ _ (and_from _ _ e run.1) (not_false _ run.2) }

pub digits_stand : (text : List ℕ) (n : ℕ) → begins is_digit text ≡ true → IsRun is_digit text n → are_digits (take n text) ≡ true
digits_stand [] n e run = absurd (cc)
digits_stand (b ∷ text) zero e run = absurd (both_ways _ run.2 e)
digits_stand (b ∷ text) (suc n) e run = and_from _ _ e run.1

pub whole_stands : (text : List ℕ) (n : ℕ) → begins is_digit text ≡ true → IsRun is_digit text n → begins_fraction (drop n text) ≡ false → Stands text (whole (take n text)) n
whole_stands text n e run f = record {
  within = run.0;
  bytes = refl;
  longest = and_from _ _ (digits_stand text n e run) (and_from _ _ (not_false _ run.2) (not_false _ f));
}

pub fraction_digits : (text : List ℕ) → begins_fraction text ≡ true → begins is_digit (drop 1 text) ≡ true
fraction_digits [] e = absurd (cc)
fraction_digits (b ∷ text) e = (and_parts _ _ e).1

fraction_head : (text : List ℕ) (d : ℕ) → begins_fraction text ≡ true → take (suc d) text ≡ 46 ∷ take d (drop 1 text)
fraction_head [] d e = absurd (cc)
fraction_head (b ∷ text) d e = ap (λ v. v ∷ take d text) (eqb-true b 46 ((and_parts _ _ e).0))

fraction_length : (text : List ℕ) → begins_fraction text ≡ true → 1 ≤ length text
fraction_length [] e = absurd (cc)
fraction_length (b ∷ text) e = omega arith

pub fraction_stands : (text : List ℕ) (n d : ℕ) → begins is_digit text ≡ true → IsRun is_digit text n
    → begins_fraction (drop n text) ≡ true → IsRun is_digit (drop 1 (drop n text)) d
    → Stands text (fraction (take n text) (take d (drop 1 (drop n text)))) (n + 1 + d)
fraction_stands text n d e run f tail =
    let m : n + 1 + d ≡ n + suc d = omega arith in
    let after : drop (n + 1 + d) text ≡ drop d (drop 1 (drop n text)) = sym (ap (λ t. drop d t) (drop-drop 1 n text) ∙ drop-drop d (n + 1) text) in
    let first : 1 ≤ length (drop n text) = fraction_length (drop n text) f in
    record {
      within = omega (arith, tail.0, run.0, length-drop n text, length-drop 1 (drop n text));
      bytes = ap (λ k. take k text) m ∙ take-add n (suc d) text ∙ ap (λ t. take n text ++ t) (fraction_head (drop n text) d f);
      longest = and_from _ _ (and_from _ _ (digits_stand text n e run) (digits_stand (drop 1 (drop n text)) d (fraction_digits (drop n text) f) tail)) (not_false _ (ap (begins is_digit) after ∙ tail.2));
    }

pub hash_stands : (text : List ℕ) (n : ℕ) → begins (λ b. b == 35) text ≡ true → IsRun is_word_byte (drop 1 text) n → Stands text (hash (take n (drop 1 text))) (1 + n)
hash_stands [] n e run = absurd (cc)
hash_stands (b ∷ text) n e run =
    let m : suc n ≡ 1 + n = omega arith in
    let there : Stands (b ∷ text) (hash (take n text)) (suc n) = record {
      within = omega (arith, run.0);
      bytes = ap (λ v. v ∷ take n text) (eqb-true b 35 e);
      longest = and_from _ _ run.1 (not_false _ run.2);
    } in
    subst (λ k. Stands (b ∷ text) (hash (take n text)) k) m there

pub line_stands : (text : List ℕ) (n : ℕ) → begins (λ b. b == 47) text ≡ true → begins (λ b. b == 47) (drop 1 text) ≡ true
    → IsRun (λ b. not (b == 10)) (drop 2 text) n → Stands text (line_comment (take n (drop 2 text))) (2 + n)
line_stands (a ∷ b ∷ text) n p q run =
    let m : suc (suc n) ≡ 2 + n = omega arith in
    let there : Stands (a ∷ b ∷ text) (line_comment (take n text)) (suc (suc n)) = record {
      within = omega (arith, run.0);
      bytes = ap (λ v. v ∷ b ∷ take n text) (eqb-true a 47 p) ∙ ap (λ v. 47 ∷ v ∷ take n text) (eqb-true b 47 q);
      longest = and_from _ _ run.1 (not_false _ run.2);
    } in
    subst (λ k. Stands (a ∷ b ∷ text) (line_comment (take n text)) k) m there
line_stands _ n p q run = absurd (cc)

close_bytes : (text : List ℕ) → begins_close text ≡ true → take 2 text ≡ 42 ∷ 47 ∷ []
close_bytes [] e = absurd (cc)
close_bytes (a ∷ []) e = let h : false ≡ true = (and_parts (a == 42) false e).1 in absurd (cc)
close_bytes (a ∷ b ∷ text) e = ap (λ v. v ∷ b ∷ []) (eqb-true a 42 ((and_parts _ _ e).0)) ∙ ap (λ v. 42 ∷ v ∷ []) (eqb-true b 47 ((and_parts _ _ e).1))

pub block_stands : (text : List ℕ) (n : ℕ) → begins (λ b. b == 47) text ≡ true → begins (λ b. b == 42) (drop 1 text) ≡ true
    → IsClosed (drop 2 text) (Some n) → Stands text (block_comment (take n (drop 2 text))) (2 + n + 2)
block_stands (a ∷ b ∷ text) n p q close =
    let m : suc (suc (n + 2)) ≡ 2 + n + 2 = omega arith in
    let there : Stands (a ∷ b ∷ text) (block_comment (take n text)) (suc (suc (n + 2))) = record {
      within = omega (arith, close.0);
      bytes = ap (λ v. v ∷ b ∷ take (n + 2) text) (eqb-true a 47 p) ∙ ap (λ v. 47 ∷ v ∷ take (n + 2) text) (eqb-true b 42 q)
          ∙ ap (λ t. 47 ∷ 42 ∷ t) (take-add n 2 text ∙ ap (λ t. take n text ++ t) (close_bytes (drop n text) close.2));
      longest = and_from _ _ (not_false _ close.1) refl;
    } in
    subst (λ k. Stands (a ∷ b ∷ text) (block_comment (take n text)) k) m there
block_stands _ n p q close = absurd (cc)

pub open_stands : (text : List ℕ) → begins (λ b. b == 47) text ≡ true → begins (λ b. b == 42) (drop 1 text) ≡ true
    → IsClosed (drop 2 text) None → Stands text (open_comment (drop 2 text)) (length text)
open_stands [] p q none = absurd (cc)
open_stands (a ∷ []) p q none = absurd (cc)
open_stands (a ∷ b ∷ text) p q none = record {
  within = omega arith;
  bytes = take_all (length (a ∷ b ∷ text)) (a ∷ b ∷ text) (omega arith) ∙ ap (λ v. v ∷ b ∷ text) (eqb-true a 47 p) ∙ ap (λ v. 47 ∷ v ∷ text) (eqb-true b 42 q);
  longest = and_from _ _ (not_false _ none) (not_false _ (begins-end (λ c. true) (a ∷ b ∷ text)));
}

-- no symbol has three bytes
pub three_none : (a b c : ℕ) → symbol (a ∷ b ∷ c ∷ []) ≡ None
unfolding symbol
three_none a b c = simp and_false

begins_none : (kind : ℕ → Bool) → ((b : ℕ) → kind b ≡ false) → (text : List ℕ) → begins kind text ≡ false
begins_none kind none [] = refl
begins_none kind none (b ∷ text) = none b

pub pair_stands : (text : List ℕ) (k : _) → pair_of text ≡ Some k → begins_comment text ≡ false → Stands text (sign (take 2 text)) 2
pair_stands (a ∷ b ∷ text) k e f = record {
  within = omega arith;
  bytes = refl;
  longest = and_from _ _ (ap is_some e) (and_from _ _ (not_false _ (begins_none _ (λ c. ap is_some (three_none a b c)) text)) (not_false _ f));
}
pair_stands _ k e f = absurd (cc)

no_pair : (b : ℕ) (text : List ℕ) → pair_of (b ∷ text) ≡ None → begins (λ c. is_some (symbol (b ∷ c ∷ []))) text ≡ false
no_pair b [] e = refl
no_pair b (c ∷ text) e = ap is_some e

pub single_stands : (text : List ℕ) (k : _) → 0 < length text → pair_of text ≡ None → symbol (get_or text 0 0 ∷ []) ≡ Some k → begins_comment text ≡ false
    → Stands text (sign (get_or text 0 0 ∷ [])) 1
single_stands [] k h n e f = absurd (omega arith)
single_stands (b ∷ text) k h n e f = record {
  within = omega arith;
  bytes = refl;
  longest = and_from _ _ (ap is_some e) (and_from _ _ (not_false _ (no_pair b text n)) (not_false _ f));
}

pub stray_stands : (text : List ℕ) → 0 < length text → pair_of text ≡ None → symbol (get_or text 0 0 ∷ []) ≡ None
    → begins is_blank text ≡ false → begins is_word_byte text ≡ false → begins (λ b. b == 35) text ≡ false
    → Stands text (stray (get_or text 0 0)) 1
stray_stands [] h n e p q r = absurd (omega arith)
stray_stands (b ∷ text) h n e p q r = record {
  within = omega arith;
  bytes = refl;
  longest = and_from _ _ (and_from _ _ (and_from _ _ (and_from _ _ (not_false _ p) (not_false _ q)) (not_false _ r)) (not_false _ (ap is_some e))) (not_false _ (no_pair b text n));
}

pub said : (f : TokFault) (meaning : List ℕ → Option TokKind) (a b : List ℕ) (k : TokKind) → Some k ≡ meaning a → a ≡ b → token_or f (meaning b) ≡ token k
said f meaning a b k e same = ap (token_or f) (ap meaning (sym same) ∙ sym e)

pub refused_as : (f : TokFault) (meaning : List ℕ → Option TokKind) (a b : List ℕ) → None ≡ meaning a → a ≡ b → token_or f (meaning b) ≡ refused f
refused_as f meaning a b e same = ap (token_or f) (ap meaning (sym same) ∙ sym e)

pub said_pair : (f : TokFault) (text : List ℕ) (k : TokKind) → pair_of text ≡ Some k → token_or f (symbol (take 2 text)) ≡ token k
said_pair f (a ∷ b ∷ text) k e = ap (token_or f) e
said_pair f _ k e = absurd (cc)

pub said_two : (f : TokFault) (meaning : List ℕ → List ℕ → Option TokKind) (a b c d : List ℕ) (k : TokKind)
    → Some k ≡ meaning a c → a ≡ b → c ≡ d → token_or f (meaning b d) ≡ token k
said_two f meaning a b c d k e p q = ap (token_or f) (ap (λ x. meaning x d) (sym p) ∙ ap (meaning a) (sym q) ∙ sym e)

pub refused_two : (f : TokFault) (meaning : List ℕ → List ℕ → Option TokKind) (a b c d : List ℕ)
    → None ≡ meaning a c → a ≡ b → c ≡ d → token_or f (meaning b d) ≡ refused f
refused_two f meaning a b c d e p q = ap (token_or f) (ap (λ x. meaning x d) (sym p) ∙ ap (meaning a) (sym q) ∙ sym e)
