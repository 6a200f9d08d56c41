-- Rows of pieces that stand before what may follow them: each piece is the longest at its place, and no fault.
use Rattle.std.proofs.Common.{◌≡◌, ◌∙◌, ap, refl, ℕ, nat_le, ◌==◌, Bool, true, false, not, ◌&&◌, if◌then◌else◌, List, [], ◌∷◌, ◌++◌, length, Option, Some, None, is_some, codes, pos, ◌/◌, arith, append_assoc}
use Rattle.std.proofs.lemmas.Bool.{and_parts, or_parts, not-true, and_from}
use Rattle.brace_num.specs.Names.{is_digit, is_letter, is_word_byte, begins, is_word, is_name}
use Rattle.brace_tok.specs.Bytes.{begins_fraction, begins_comment}
use Rattle.brace_tok.specs.Tables.{reserved, symbol}
use Rattle.brace_tok.specs.Roles.{role_at, token_or, name_or}
use Rattle.brace_tok.specs.Spells.{text_of, is_sound, is_longest, is_row}
use Rattle.brace_tok.specs.declared.kinds.TokKind.{TokKind}
use Rattle.brace_tok.specs.declared.fault.TokFault.{TokFault}
use Rattle.brace_tok.specs.declared.fault.TokFault.TheVariants as fault
use Rattle.brace_syntax.specs.declared.tree.Digits.{Digits}
use Rattle.brace_syntax.specs.declared.tree.Digits.TheVariants.{Int, Fixed}
use Rattle.brace_show.proofs.Sound.{digits_are}
use Rattle.brace_tok.proofs.Named.{name_word, name_short}
use Rattle.brace_show.proofs.RowRoles.{word_fits, decimal_digits, fraction_digits, whole_says, fraction_says}
use Rattle.brace_show.proofs.Rows.{Row, space, mark, letters, literal_row}
use Rattle.brace_show.proofs.RowText.{text_append, run, run_is}

-- a row that stands before the text of another
pub row_split : (a b : Row) (after : List ℕ) → is_row a (text_of b ++ after) ≡ true → is_row b after ≡ true → is_row (a ++ b) after ≡ true
row_split [] b after e f = f
row_split (p ∷ a) b after e f =
    let t : text_of (a ++ b) ++ after ≡ text_of a ++ (text_of b ++ after) = ap (λ u. u ++ after) (text_append a b) ∙ append_assoc (text_of a) (text_of b) after in
    let here : (is_longest p (text_of a ++ (text_of b ++ after)) && is_sound (role_at 0 p)) ≡ true = (and_parts _ (is_row a (text_of b ++ after)) e).0 in
    and_from _ _ (ap (λ u. is_longest p u && is_sound (role_at 0 p)) t ∙ here)
    (row_split a b after ((and_parts (is_longest p (text_of a ++ (text_of b ++ after)) && is_sound (role_at 0 p)) _ e).1) f)

pub run_split : (row : Row) (rows : List Row) (after : List ℕ) → is_row row (text_of (run [] rows) ++ after) ≡ true → is_row (run [] rows) after ≡ true → is_row (run row rows) after ≡ true
run_split row rows after e f = ap (λ r. is_row r after) (run_is row rows) ∙ row_split row (run [] rows) after e f

-- a row that stands before each text of a kind
abbrev pub Stands : (List ℕ → Bool) → Row → Type 0
Stands need row = (after : List ℕ) → need after ≡ true → is_row row after ≡ true

pub record Stood : Type 0 where
  pub need : List ℕ → Bool
  pub row : Row
  pub stands : Stands need row

-- the first row stands before the second
abbrev Meets : Stood → Row → (List ℕ → Bool) → Type 0
Meets a row need = (after : List ℕ) → need after ≡ true → a.need (text_of row ++ after) ≡ true

abbrev pub follow : (a b : Stood) → Meets a b.row b.need → Stood
follow a b m = record { need = b.need; row = a.row ++ b.row; stands = λ after h. row_split a.row b.row after (a.stands (text_of b.row ++ after) (m after h)) (b.stands after h) }

abbrev pub ended : (a : Stood) (rows : List Row) (need : List ℕ → Bool) → Stands need (run [] rows) → Meets a (run [] rows) need → Stood
ended a rows need s m = record { need = need; row = run a.row rows; stands = λ after h. run_split a.row rows after (a.stands (text_of (run [] rows) ++ after) (m after h)) (s after h) }

-- what may follow a piece
abbrev pub any : List ℕ → Bool
any after = true

abbrev pub no_word : List ℕ → Bool
no_word after = not (begins is_word_byte after)

-- what may follow an expression: neither a byte of a word nor a point
abbrev pub stops : List ℕ → Bool
stops after = not (begins is_word_byte after) && not (begins (λ b. b == 46) after)

sound_some : (f : TokFault) (o : Option TokKind) → is_some o ≡ true → is_sound (token_or f o) ≡ true
sound_some f None e = e
sound_some f (Some k) e = refl

-- a mark that begins no longer one
pub lone : (m : List ℕ) → is_some (symbol m) ≡ true → ((b : ℕ) → is_some (symbol (m ++ b ∷ [])) ≡ false) → ((after : List ℕ) → begins_comment (m ++ after) ≡ false) → Stands any (mark m)
lone m e f g [] h = and_from _ _ (and_from _ _ (and_from _ _ e (and_from _ _ refl (ap not (g [])))) (sound_some _ (symbol m) e)) refl
lone m e f g (b ∷ after) h = and_from _ _ (and_from _ _ (and_from _ _ e (and_from _ _ (ap not (f b)) (ap not (g (b ∷ after))))) (sound_some _ (symbol m) e)) refl

abbrev pub marked : (m : List ℕ) → Stands any (mark m) → Stood
marked m s = record { need = any; row = mark m; stands = s }

pub open_stands : Stands any (mark (codes "("))
unfolding symbol
open_stands = lone (codes "(") refl (λ b. refl) (λ after. refl)

pub close_stands : Stands any (mark (codes ")"))
unfolding symbol
close_stands = lone (codes ")") refl (λ b. refl) (λ after. refl)

pub dot_stands : Stands any (mark (codes "."))
unfolding symbol
dot_stands = lone (codes ".") refl (λ b. refl) (λ after. refl)

pub comma_stands : Stands any (mark (codes ",") ++ space)
unfolding symbol
comma_stands after h = refl

pub minus_stands : Stands any (mark (codes "-"))
unfolding symbol
minus_stands = lone (codes "-") refl (λ b. refl) (λ after. refl)

-- words
pub word_stands : (f : List ℕ) → is_word f ≡ true → nat_le (length f) 64 ≡ true → Stands no_word (letters f)
word_stands f e short after h =
    and_from _ _ (and_from _ _ (and_from _ _ e h) (ap (λ b. is_sound (token_or (fault.LongWord 0) (if b then Some (name_or (reserved f)) else None))) short)) refl

abbrev pub lettered : (f : List ℕ) → is_word f ≡ true → nat_le (length f) 64 ≡ true → Stood
lettered f e short = record { need = no_word; row = letters f; stands = word_stands f e short }

abbrev pub named : (f : List ℕ) → is_name f ≡ true → Stood
named f e = lettered f (name_word f e) (name_short f e)

-- literals
not_and : (a b : Bool) → (not a && not b) ≡ true → (a ≡ false) × (b ≡ false)
not_and a b e = let p = and_parts (not a) (not b) e in (not-true a p.0, not-true b p.1)

-- what no word and no point follows, no digit follows
no_digit : (after : List ℕ) → stops after ≡ true → not (begins is_digit after) ≡ true
no_digit [] h = refl
no_digit (b ∷ after) h = ap not (or_parts (is_letter b) (is_digit b) (not_and (is_word_byte b) (b == 46) h).0).1

no_fraction : (after : List ℕ) → stops after ≡ true → not (begins_fraction after) ≡ true
no_fraction [] h = refl
no_fraction (b ∷ after) h = ap (λ v. not (v && begins is_digit after)) (not_and (is_word_byte b) (b == 46) h).1

pub literal_stands : (d : Digits) → digits_are d ≡ true → Stands stops (literal_row d)
literal_stands (Int (pos n)) e after h =
    and_from _ _ (and_from _ _ (and_from _ _ (decimal_digits n (word_fits n e)) (and_from _ _ (no_digit after h) (no_fraction after h))) (ap is_sound (whole_says 0 n e))) refl
literal_stands (Fixed (pos n)) e after h =
    and_from _ _ (and_from _ _ (and_from _ _ (and_from _ _ (decimal_digits (n / 1000000) (omega (arith, word_fits n e))) (fraction_digits n)) (no_digit after h)) (ap is_sound (fraction_says 0 n e))) refl
literal_stands _ e after h = absurd (cc)
