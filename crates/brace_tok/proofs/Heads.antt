-- A text has one piece at its head.
use Rattle.std.proofs.Common.{◌≡◌, ℕ, ◌≤◌, Bool, true, false, not, ◌&&◌, ◌||◌, List, [], ◌∷◌, ◌++◌, length, drop, refl, sym, ap, ◌∙◌, arith, ◌==◌, cond, append_assoc, Option, Some, None, is_some}
use Rattle.std.specs.Bool.{nat_le}
use Rattle.std.specs.List.{list_all}
use Rattle.std.specs.Str.{bytes_eq}
use Rattle.std.specs.Cmp.Lexicographic.{same_text}
use Rattle.std.proofs.lemmas.Bool.{eqb-true, leb-true, lt-leb, ne_eqb, and_parts, and_from, cond-true, cond-false, not-true, or_parts}
use Rattle.brace_num.specs.Names.{is_digit, is_letter, is_word_byte, is_word, begins}
use Rattle.brace_tok.specs.Bytes.{is_blank, are_digits, begins_close, has_close, begins_fraction, begins_comment}
use Rattle.brace_tok.specs.Tables.{found, symbol, symbols}
use Rattle.brace_tok.specs.declared.kinds.TokKind.{TokKind}
use Rattle.brace_tok.specs.Pieces.{Piece, blank, line_comment, block_comment, word, whole, fraction, hash, sign, open_comment, stray, bytes_of, is_formed, ends_before}
use Rattle.brace_tok.specs.Spells.{is_longest}

-- the bytes of the kind at the front, and those behind them
abbrev pub front : (ℕ → Bool) → List ℕ → List ℕ
front kind [] = []
front kind (b ∷ text) = cond (kind b) (b ∷ front kind text) []

abbrev pub behind : (ℕ → Bool) → List ℕ → List ℕ
behind kind [] = []
behind kind (b ∷ text) = cond (kind b) (behind kind text) (b ∷ text)

abbrev pub with_byte : ℕ → Option (List ℕ) → Option (List ℕ)
with_byte b None = None
with_byte b (Some text) = Some (b ∷ text)

-- what stands before the first end of a block comment
abbrev pub body_of : List ℕ → Option (List ℕ)
body_of [] = None
body_of (b ∷ text) = cond (begins_close (b ∷ text)) (Some []) (with_byte b (body_of text))

abbrev pub block_or : List ℕ → Option (List ℕ) → Piece
block_or text None = open_comment text
block_or text (Some body) = block_comment body

abbrev pub number : List ℕ → Piece
number text = cond (begins_fraction (behind is_digit text)) (fraction (front is_digit text) (front is_digit (drop 1 (behind is_digit text)))) (whole (front is_digit text))

abbrev pub one : ℕ → Piece
one b = cond (is_some (symbol (b ∷ []))) (sign (b ∷ [])) (stray b)

abbrev pub mark : ℕ → List ℕ → Piece
mark b [] = one b
mark b (c ∷ text) =
    cond (begins_comment (b ∷ c ∷ text)) (cond (c == 47) (line_comment (front (λ x. not (x == 10)) text)) (block_or text (body_of text)))
    (cond (is_some (symbol (b ∷ c ∷ []))) (sign (b ∷ c ∷ [])) (one b))

abbrev pub head : List ℕ → Piece
head [] = stray 0
head (b ∷ text) = cond (is_letter b) (word (front is_word_byte (b ∷ text))) (cond (is_digit b) (number (b ∷ text))
    (cond (is_blank b) (blank b) (cond (b == 35) (hash (front is_word_byte text)) (mark b text))))

front_is : (kind : ℕ → Bool) (text after : List ℕ) → list_all kind text ≡ true → begins kind after ≡ false → front kind (text ++ after) ≡ text
front_is kind [] [] e f = refl
front_is kind [] (b ∷ after) e f = cond-false (kind b) _ _ f
front_is kind (b ∷ text) after e f =
    cond-true (kind b) _ _ ((and_parts (kind b) (list_all kind text) e).0) ∙ ap (λ t. b ∷ t) (front_is kind text after ((and_parts (kind b) (list_all kind text) e).1) f)

behind_is : (kind : ℕ → Bool) (text after : List ℕ) → list_all kind text ≡ true → begins kind after ≡ false → behind kind (text ++ after) ≡ after
behind_is kind [] [] e f = refl
behind_is kind [] (b ∷ after) e f = cond-false (kind b) _ _ f
behind_is kind (b ∷ text) after e f =
    cond-true (kind b) _ _ ((and_parts (kind b) (list_all kind text) e).0) ∙ behind_is kind text after ((and_parts (kind b) (list_all kind text) e).1) f

same_begin : (kind : ℕ → Bool) (text : List ℕ) (a : ℕ) (r s : List ℕ) → begins kind (text ++ a ∷ r) ≡ begins kind (text ++ a ∷ s)
same_begin kind [] a r s = refl
same_begin kind (b ∷ text) a r s = refl

body_closed : (body after : List ℕ) → has_close (body ++ 42 ∷ []) ≡ false → body_of (body ++ 42 ∷ 47 ∷ after) ≡ Some body
body_closed [] after e = refl
body_closed (b ∷ body) after e =
    let here : begins_close (b ∷ (body ++ 42 ∷ [])) ≡ false = (or_parts _ (has_close (body ++ 42 ∷ [])) e).0 in
    let rest : has_close (body ++ 42 ∷ []) ≡ false = (or_parts (begins_close (b ∷ (body ++ 42 ∷ []))) _ e).1 in
    cond-false (begins_close (b ∷ (body ++ 42 ∷ 47 ∷ after))) _ _ (ap (λ v. b == 42 && v) (same_begin (λ c. c == 47) body 42 (47 ∷ after) []) ∙ here)
    ∙ ap (with_byte b) (body_closed body after rest)

body_open : (body : List ℕ) → has_close body ≡ false → body_of body ≡ None
body_open [] e = refl
body_open (b ∷ body) e =
    cond-false (begins_close (b ∷ body)) _ _ ((or_parts (begins_close (b ∷ body)) (has_close body) e).0)
    ∙ ap (with_byte b) (body_open body ((or_parts (begins_close (b ∷ body)) (has_close body) e).1))

digit_no_letter : (b : ℕ) → is_digit b ≡ true → is_letter b ≡ false
digit_no_letter b e =
    let low : b ≤ 57 = leb-true _ _ ((and_parts (nat_le 48 b) (nat_le b 57) e).1) in
    ap (λ v. (v && nat_le b 122) || (nat_le 65 b && nat_le b 90) || b == 95) (lt-leb 97 b (omega arith))
    ∙ ap (λ v. (v && nat_le b 90) || b == 95) (lt-leb 65 b (omega arith))
    ∙ ne_eqb b 95 (λ p. omega arith)

blank_no : (kind : ℕ → Bool) → kind 32 ≡ false → kind 9 ≡ false → kind 13 ≡ false → kind 10 ≡ false → (b : ℕ) → is_blank b ≡ true → kind b ≡ false
blank_no kind p q r s b e =
    elim (b == 32) as (λ v. (b == 32) ≡ v → kind b ≡ false) [
      | true ↦ λ x. ap kind (eqb-true b 32 x) ∙ p
      | false ↦ λ x. elim (b == 9) as (λ v. (b == 9) ≡ v → kind b ≡ false) [
        | true ↦ λ y. ap kind (eqb-true b 9 y) ∙ q
        | false ↦ λ y. elim (b == 13) as (λ v. (b == 13) ≡ v → kind b ≡ false) [
          | true ↦ λ z. ap kind (eqb-true b 13 z) ∙ r
          | false ↦ λ z.
              let last : (b == 10) ≡ true =
              sym (ap (λ v. v || b == 9 || b == 13 || b == 10) x ∙ ap (λ v. v || b == 13 || b == 10) y ∙ ap (λ v. v || b == 10) z) ∙ e in
              ap kind (eqb-true b 10 last) ∙ s
        ] refl
      ] refl
    ] refl

found_holds : (P : List ℕ → Bool) (table : List (List ℕ × TokKind)) (text : List ℕ) → list_all (λ entry. P entry.0) table ≡ true
    → is_some (found table text) ≡ true → P text ≡ true
found_holds P [] text all e = absurd (cc)
found_holds P (entry ∷ table) text all e =
    elim (bytes_eq entry.0 text) as (λ v. bytes_eq entry.0 text ≡ v → P text ≡ true) [
      | true ↦ λ s. ap P (sym (same_text entry.0 text (sym s))) ∙ (and_parts (P entry.0) _ all).0
      | false ↦ λ s. found_holds P table text ((and_parts (P entry.0) _ all).1) (sym (ap (λ v. is_some (cond v (Some entry.1) (found table text))) s) ∙ e)
    ] refl

-- a symbol is short, and begins with no other kind of byte
is_mark : List ℕ → Bool
is_mark text = nat_le (length text) 2 && begins (λ b. not (is_letter b) && not (is_digit b) && not (is_blank b) && not (b == 35)) text

symbol_mark : (text : List ℕ) → is_some (symbol text) ≡ true → is_mark text ≡ true
unfolding symbol is_mark
symbol_mark text e = found_holds is_mark symbols text refl e

head_mark : (b : ℕ) (text : List ℕ) → (not (is_letter b) && not (is_digit b) && not (is_blank b) && not (b == 35)) ≡ true → head (b ∷ text) ≡ mark b text
head_mark b text e =
    let three : (not (is_letter b) && not (is_digit b) && not (is_blank b)) ≡ true = (and_parts _ (not (b == 35)) e).0 in
    let two : (not (is_letter b) && not (is_digit b)) ≡ true = (and_parts _ (not (is_blank b)) three).0 in
    cond-false (is_letter b) _ _ (not-true _ ((and_parts _ (not (is_digit b)) two).0))
    ∙ cond-false (is_digit b) _ _ (not-true _ ((and_parts (not (is_letter b)) _ two).1))
    ∙ cond-false (is_blank b) _ _ (not-true _ ((and_parts (not (is_letter b) && not (is_digit b)) _ three).1))
    ∙ cond-false (b == 35) _ _ (not-true _ ((and_parts (not (is_letter b) && not (is_digit b) && not (is_blank b)) _ e).1))

head_blank : (b : ℕ) (after : List ℕ) → is_blank b ≡ true → head (b ∷ after) ≡ blank b
head_blank b after e =
    cond-false (is_letter b) _ _ (blank_no is_letter refl refl refl refl b e)
    ∙ cond-false (is_digit b) _ _ (blank_no is_digit refl refl refl refl b e)
    ∙ cond-true (is_blank b) _ _ e

head_word : (letters after : List ℕ) → is_word letters ≡ true → begins is_word_byte after ≡ false → head (letters ++ after) ≡ word letters
head_word [] after e f = absurd (cc)
head_word (b ∷ letters) after e f =
    cond-true (is_letter b) _ _ ((and_parts (is_letter b) (list_all is_word_byte (b ∷ letters)) e).0)
    ∙ ap word (front_is is_word_byte (b ∷ letters) after ((and_parts (is_letter b) (list_all is_word_byte (b ∷ letters)) e).1) f)

head_number : (digits after : List ℕ) → are_digits digits ≡ true → head (digits ++ after) ≡ number (digits ++ after)
head_number [] after e = absurd (cc)
head_number (b ∷ digits) after e =
    let digit : is_digit b ≡ true = (and_parts (is_digit b) (list_all is_digit (b ∷ digits)) e).0 in
    cond-false (is_letter b) _ _ (digit_no_letter b digit) ∙ cond-true (is_digit b) _ _ digit

all_digits : (digits : List ℕ) → are_digits digits ≡ true → list_all is_digit digits ≡ true
all_digits digits e = (and_parts (begins is_digit digits) (list_all is_digit digits) e).1

head_whole : (digits after : List ℕ) → are_digits digits ≡ true → begins is_digit after ≡ false → begins_fraction after ≡ false → head (digits ++ after) ≡ whole digits
head_whole digits after e f g =
    head_number digits after e
    ∙ cond-false (begins_fraction (behind is_digit (digits ++ after))) _ _ (ap begins_fraction (behind_is is_digit digits after (all_digits digits e) f) ∙ g)
    ∙ ap whole (front_is is_digit digits after (all_digits digits e) f)

begins_front : (kind : ℕ → Bool) (text after : List ℕ) → begins kind text ≡ true → begins kind (text ++ after) ≡ true
begins_front kind [] after e = absurd (cc)
begins_front kind (b ∷ text) after e = e

head_fraction : (digits decimals after : List ℕ) → are_digits digits ≡ true → are_digits decimals ≡ true → begins is_digit after ≡ false
    → head (digits ++ 46 ∷ (decimals ++ after)) ≡ fraction digits decimals
head_fraction digits decimals after e d f =
    let tail : List ℕ = 46 ∷ (decimals ++ after) in
    let rest : behind is_digit (digits ++ tail) ≡ tail = behind_is is_digit digits tail (all_digits digits e) refl in
    head_number digits tail e
    ∙ cond-true (begins_fraction (behind is_digit (digits ++ tail))) _ _
    (ap begins_fraction rest ∙ begins_front is_digit decimals after ((and_parts (begins is_digit decimals) (list_all is_digit decimals) d).0))
    ∙ ap (λ t. fraction t (front is_digit (drop 1 (behind is_digit (digits ++ tail))))) (front_is is_digit digits tail (all_digits digits e) refl)
    ∙ ap (λ t. fraction digits (front is_digit (drop 1 t))) rest
    ∙ ap (fraction digits) (front_is is_digit decimals after (all_digits decimals d) f)

head_single : (b : ℕ) (after : List ℕ) → is_some (symbol (b ∷ [])) ≡ true
    → begins (λ c. is_some (symbol (b ∷ c ∷ []))) after ≡ false → begins_comment (b ∷ after) ≡ false → mark b after ≡ sign (b ∷ [])
head_single b [] e f g = cond-true _ _ _ e
head_single b (c ∷ after) e f g =
    cond-false (begins_comment (b ∷ c ∷ after)) _ _ g ∙ cond-false (is_some (symbol (b ∷ c ∷ []))) _ _ f ∙ cond-true (is_some (symbol (b ∷ []))) _ _ e

head_sign : (marks after : List ℕ) → is_some (symbol marks) ≡ true
    → begins (λ b. is_some (symbol (marks ++ b ∷ []))) after ≡ false → begins_comment (marks ++ after) ≡ false → head (marks ++ after) ≡ sign marks
unfolding is_mark
head_sign [] after e f g = let h : false ≡ true = (and_parts true false (symbol_mark [] e)).1 in absurd (cc)
head_sign (b ∷ []) after e f g = head_mark b after ((and_parts true _ (symbol_mark (b ∷ []) e)).1) ∙ head_single b after e f g
head_sign (b ∷ c ∷ []) after e f g =
    head_mark b (c ∷ after) ((and_parts true _ (symbol_mark (b ∷ c ∷ []) e)).1)
    ∙ cond-false (begins_comment (b ∷ c ∷ after)) _ _ g ∙ cond-true (is_some (symbol (b ∷ c ∷ []))) _ _ e
head_sign (b ∷ c ∷ d ∷ marks) after e f g =
    let short : length (b ∷ c ∷ d ∷ marks) ≤ 2 = leb-true _ _ ((and_parts (nat_le (length (b ∷ c ∷ d ∷ marks)) 2) _ (symbol_mark (b ∷ c ∷ d ∷ marks) e)).0) in
    absurd (omega arith)

slash_some : is_some (symbol (47 ∷ [])) ≡ true
unfolding symbol
slash_some = refl

no_slash : (b : ℕ) → is_some (symbol (b ∷ [])) ≡ false → (b == 47) ≡ false
no_slash b e = ne_eqb b 47 (λ p. let h : is_some (symbol (b ∷ [])) ≡ true = ap (λ x. is_some (symbol (x ∷ []))) p ∙ slash_some in cc)

mark_stray : (b : ℕ) (after : List ℕ) → is_some (symbol (b ∷ [])) ≡ false → begins (λ c. is_some (symbol (b ∷ c ∷ []))) after ≡ false → mark b after ≡ stray b
mark_stray b [] e f = cond-false _ _ _ e
mark_stray b (c ∷ after) e f =
    cond-false (begins_comment (b ∷ c ∷ after)) _ _ (ap (λ v. v && (c == 47 || c == 42)) (no_slash b e))
    ∙ cond-false (is_some (symbol (b ∷ c ∷ []))) _ _ f ∙ cond-false (is_some (symbol (b ∷ []))) _ _ e

head_stray : (b : ℕ) (after : List ℕ) → is_blank b ≡ false → is_word_byte b ≡ false → (b == 35) ≡ false → is_some (symbol (b ∷ [])) ≡ false
    → begins (λ c. is_some (symbol (b ∷ c ∷ []))) after ≡ false → head (b ∷ after) ≡ stray b
head_stray b after p q r e f =
    let fine : (not (is_letter b) && not (is_digit b) && not (is_blank b) && not (b == 35)) ≡ true =
    and_from _ _ (and_from _ _ (and_from _ _ (ap not ((or_parts (is_letter b) (is_digit b) q).0)) (ap not ((or_parts (is_letter b) (is_digit b) q).1))) (ap not p)) (ap not r) in
    head_mark b after fine ∙ mark_stray b after e f

nothing_after : (after : List ℕ) → begins (λ b. true) after ≡ false → after ≡ []
nothing_after [] e = refl
nothing_after (b ∷ after) e = absurd (cc)

pub append_none : (text : List ℕ) → text ++ [] ≡ text
append_none [] = refl
append_none (b ∷ text) = ap (λ t. b ∷ t) (append_none text)

pub head_is : (p : Piece) (after : List ℕ) → is_formed p ≡ true → ends_before p after ≡ true → head (bytes_of p ++ after) ≡ p
head_is (blank b) after e f = head_blank b after e
head_is (line_comment body) after e f = ap line_comment (front_is (λ x. not (x == 10)) body after e (not-true _ f))
head_is (block_comment body) after e f =
    ap (λ t. block_or t (body_of t)) (append_assoc body (42 ∷ 47 ∷ []) after)
    ∙ ap (block_or (body ++ 42 ∷ 47 ∷ after)) (body_closed body after (not-true _ e))
head_is (word letters) after e f = head_word letters after e (not-true _ f)
head_is (whole digits) after e f =
    head_whole digits after e (not-true _ ((and_parts _ (not (begins_fraction after)) f).0)) (not-true _ ((and_parts (not (begins is_digit after)) _ f).1))
head_is (fraction digits decimals) after e f =
    ap head (append_assoc digits (46 ∷ decimals) after)
    ∙ head_fraction digits decimals after ((and_parts _ (are_digits decimals) e).0) ((and_parts (are_digits digits) _ e).1) (not-true _ f)
head_is (hash letters) after e f = ap hash (front_is is_word_byte letters after e (not-true _ f))
head_is (sign marks) after e f =
    head_sign marks after e
    (not-true _ ((and_parts _ (not (begins_comment (marks ++ after))) f).0))
    (not-true _ ((and_parts (not (begins (λ b. is_some (symbol (marks ++ b ∷ []))) after)) _ f).1))
head_is (open_comment body) after e f =
    let none : after ≡ [] = nothing_after after (not-true _ f) in
    let all : body ++ after ≡ body = ap (λ t. body ++ t) none ∙ append_none body in
    ap (λ t. block_or t (body_of t)) all ∙ ap (block_or body) (body_open body (not-true _ e))
head_is (stray b) after e f =
    let three : (not (is_blank b) && not (is_word_byte b) && not (b == 35)) ≡ true = (and_parts _ (not (is_some (symbol (b ∷ [])))) e).0 in
    let two : (not (is_blank b) && not (is_word_byte b)) ≡ true = (and_parts _ (not (b == 35)) three).0 in
    head_stray b after
    (not-true _ ((and_parts _ (not (is_word_byte b)) two).0))
    (not-true _ ((and_parts (not (is_blank b)) _ two).1))
    (not-true _ ((and_parts (not (is_blank b) && not (is_word_byte b)) _ three).1))
    (not-true _ ((and_parts (not (is_blank b) && not (is_word_byte b) && not (b == 35)) _ e).1))
    (not-true _ f)

pub one_piece : (p q : Piece) (r s : List ℕ) → bytes_of p ++ r ≡ bytes_of q ++ s → is_longest p r ≡ true → is_longest q s ≡ true → p ≡ q
one_piece p q r s e f g =
    sym (head_is p r ((and_parts _ (ends_before p r) f).0) ((and_parts (is_formed p) _ f).1))
    ∙ ap head e
    ∙ head_is q s ((and_parts _ (ends_before q s) g).0) ((and_parts (is_formed q) _ g).1)
