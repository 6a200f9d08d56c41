-- A text is one row of pieces: it spells one list of tokens, or has one first fault.
use Rattle.std.proofs.Common.{◌≡◌, ℕ, ◌+◌, ◌<◌, ◌≤◌, true, false, ◌&&◌, List, [], ◌∷◌, ◌++◌, length, refl, sym, ap, subst, ◌∙◌, arith, append_assoc, length-append, ◌⊎◌, inl, inr}
use Rattle.std.proofs.lemmas.List.{append_cancel_left}
use Rattle.std.proofs.lemmas.Bool.{and_parts}
use Rattle.brace_tok.specs.Pieces.{Piece, bytes_of, is_formed, ends_before}
use Rattle.brace_tok.specs.Roles.{Role, nothing, token, refused, role_at}
use Rattle.brace_tok.specs.Spells.{text_of, is_sound, is_longest, is_row, token_at, tokens_from, Spells, FirstFault, Rises}
use Rattle.brace_tok.specs.Answers.{IsFault}
use Rattle.brace_tok.specs.declared.kinds.Token.{Token}
use Rattle.brace_tok.specs.declared.fault.TokFault.{TokFault}
use Rattle.brace_tok.specs.declared.fault.TokFault.TheVariants as fault
use Rattle.brace_tok.proofs.Heads.{one_piece, append_none}
use Rattle.brace_tok.proofs.Rows.{Read, sound_anywhere, formed_some}

-- the text is at its end, or a fault stands here
abbrev pub Ends : List ℕ → Type 0
Ends text = (text ≡ []) ⊎ ((bad : Piece) × (after : List ℕ) × (text ≡ bytes_of bad ++ after) × (is_longest bad after ≡ true) × (is_sound (role_at 0 bad) ≡ false))

pub row_longest : (p : Piece) (row : List Piece) (after : List ℕ) → is_row (p ∷ row) after ≡ true → is_longest p (text_of row ++ after) ≡ true
row_longest p row after e = (and_parts (is_longest p (text_of row ++ after)) (is_sound (role_at 0 p)) ((and_parts _ (is_row row after) e).0)).0

pub row_sound : (p : Piece) (row : List Piece) (after : List ℕ) → is_row (p ∷ row) after ≡ true → is_sound (role_at 0 p) ≡ true
row_sound p row after e = (and_parts (is_longest p (text_of row ++ after)) (is_sound (role_at 0 p)) ((and_parts _ (is_row row after) e).0)).1

pub row_rest : (p : Piece) (row : List Piece) (after : List ℕ) → is_row (p ∷ row) after ≡ true → is_row row after ≡ true
row_rest p row after e = (and_parts (is_longest p (text_of row ++ after) && is_sound (role_at 0 p)) (is_row row after) e).1

pub longest_some : (p : Piece) (after : List ℕ) → is_longest p after ≡ true → 0 < length (bytes_of p)
longest_some p after e = formed_some p ((and_parts (is_formed p) (ends_before p after) e).0)

no_start : (text : List ℕ) (q : Piece) (s : List ℕ) → Ends text → text ≡ bytes_of q ++ s → is_longest q s ≡ true → is_sound (role_at 0 q) ≡ true → ⊥
no_start text q s (inl none) e l sound = omega (arith, ap length (sym none ∙ e), length-append (bytes_of q) s, longest_some q s l)
no_start text q s (inr (bad, after, cut, longest, unsound)) e l sound =
    let same : bad ≡ q = one_piece bad q after s (sym cut ∙ e) longest l in
    let both_ways : true ≡ false = sym sound ∙ ap (λ p. is_sound (role_at 0 p)) (sym same) ∙ unsound in
    cc

pub same_rows : (row other : List Piece) (a b : List ℕ) → Ends a → Ends b → text_of row ++ a ≡ text_of other ++ b → is_row row a ≡ true → is_row other b ≡ true
    → (row ≡ other) × (a ≡ b)
same_rows [] [] a b s t e f g = (refl, e)
same_rows [] (q ∷ other) a b s t e f g =
    absurd (no_start a q (text_of other ++ b) s (e ∙ append_assoc (bytes_of q) (text_of other) b) (row_longest q other b g) (row_sound q other b g))
same_rows (p ∷ row) [] a b s t e f g =
    absurd (no_start b p (text_of row ++ a) t (sym e ∙ append_assoc (bytes_of p) (text_of row) a) (row_longest p row a f) (row_sound p row a f))
same_rows (p ∷ row) (q ∷ other) a b s t e f g =
    let apart : bytes_of p ++ (text_of row ++ a) ≡ bytes_of q ++ (text_of other ++ b) =
    sym (append_assoc (bytes_of p) (text_of row) a) ∙ e ∙ append_assoc (bytes_of q) (text_of other) b in
    let same : p ≡ q = one_piece p q (text_of row ++ a) (text_of other ++ b) apart (row_longest p row a f) (row_longest q other b g) in
    let rest : text_of row ++ a ≡ text_of other ++ b =
    append_cancel_left (bytes_of p) _ _ (apart ∙ ap (λ x. bytes_of x ++ (text_of other ++ b)) (sym same)) in
    let more : (row ≡ other) × (a ≡ b) = same_rows row other a b s t rest (row_rest p row a f) (row_rest q other b g) in
    (ap (λ r. p ∷ r) more.0 ∙ ap (λ x. x ∷ other) same, more.1)

fault_ends : (at_ : ℕ) (bad : Piece) (after : List ℕ) (f : TokFault) → is_longest bad after ≡ true → role_at at_ bad ≡ refused f → Ends (bytes_of bad ++ after)
fault_ends at_ bad after f l e = inr (bad, after, refl, l, sound_anywhere 0 at_ bad ∙ ap is_sound e)

-- a text spells at most one list of tokens
pub one_list : (src : List ℕ) (a b : List Token) → Spells src a → Spells src b → a ≡ b
one_list src a b (row, e, ok, toks) (other, e', ok', toks') =
    let same : (row ≡ other) × ([] ≡ []) = same_rows row other [] [] (inl refl) (inl refl) (append_none (text_of row) ∙ sym e ∙ e' ∙ sym (append_none (text_of other))) ok ok' in
    toks ∙ ap (tokens_from 0) same.0 ∙ sym toks'

-- a text with a fault spells none
pub no_list : (src : List ℕ) (toks : List Token) (f : TokFault) → Spells src toks → FirstFault src f → ⊥
no_list src toks f (row, e, ok, t) (other, bad, after, e', ok', l, says_) =
    let same : (row ≡ other) × ([] ≡ bytes_of bad ++ after) =
    same_rows row other [] (bytes_of bad ++ after) (inl refl) (fault_ends (length (text_of other)) bad after f l says_) (append_none (text_of row) ∙ sym e ∙ e') ok ok' in
    omega (arith, ap length same.1, length-append (bytes_of bad) after, longest_some bad after l)

-- a text has at most one first fault
pub one_fault : (src : List ℕ) (f g : TokFault) → FirstFault src f → FirstFault src g → f ≡ g
one_fault src f g (row, bad, after, e, ok, l, says_) (other, bad', after', e', ok', l', says') =
    let same : (row ≡ other) × (bytes_of bad ++ after ≡ bytes_of bad' ++ after') =
    same_rows row other (bytes_of bad ++ after) (bytes_of bad' ++ after')
    (fault_ends (length (text_of row)) bad after f l says_) (fault_ends (length (text_of other)) bad' after' g l' says') (sym e ∙ e') ok ok' in
    let piece : bad ≡ bad' = one_piece bad bad' after after' same.1 l l' in
    let meaning : refused f ≡ refused g =
    sym says_ ∙ ap (λ r. role_at (length (text_of r)) bad) same.0 ∙ ap (role_at (length (text_of other))) piece ∙ says' in
    cc

pub only_memory : (src : List ℕ) (f : TokFault) (toks : List Token) → IsFault src f → Spells src toks → f ≡ fault.NoMemory
only_memory src (fault.BadByte n) toks h s = absurd (no_list src toks (fault.BadByte n) s h)
only_memory src (fault.OpenComment n) toks h s = absurd (no_list src toks (fault.OpenComment n) s h)
only_memory src (fault.WideLiteral n) toks h s = absurd (no_list src toks (fault.WideLiteral n) s h)
only_memory src (fault.LongWord n) toks h s = absurd (no_list src toks (fault.LongWord n) s h)
only_memory src fault.NoMemory toks h s = refl

pub that_fault : (src : List ℕ) (f g : TokFault) → IsFault src f → FirstFault src g → (f ≡ g) ⊎ (f ≡ fault.NoMemory)
that_fault src (fault.BadByte n) g h s = inl (one_fault src (fault.BadByte n) g h s)
that_fault src (fault.OpenComment n) g h s = inl (one_fault src (fault.OpenComment n) g h s)
that_fault src (fault.WideLiteral n) g h s = inl (one_fault src (fault.WideLiteral n) g h s)
that_fault src (fault.LongWord n) g h s = inl (one_fault src (fault.LongWord n) g h s)
that_fault src fault.NoMemory g h s = inr refl

rises_from : (low next high : ℕ) (toks : List Token) → low ≤ next → Rises next high toks → Rises low high toks
rises_from low next high [] h r = omega arith
rises_from low next high (tok ∷ toks) h (a, b, c) = (omega arith, b, c)

rises_more : (at_ n high : ℕ) (s : Role) (toks : List Token) → 0 < n → Rises (at_ + n) high toks → Rises at_ high (token_at at_ (at_ + n) s ++ toks)
rises_more at_ n high nothing toks h r = rises_from at_ (at_ + n) high toks (omega arith) r
rises_more at_ n high (token k) toks h r = (omega arith, omega arith, r)
rises_more at_ n high (refused f) toks h r = rises_from at_ (at_ + n) high toks (omega arith) r

rises_row : (at_ : ℕ) (row : List Piece) (after : List ℕ) → is_row row after ≡ true → Rises at_ (at_ + length (text_of row)) (tokens_from at_ row)
rises_row at_ [] after e = omega arith
rises_row at_ (p ∷ row) after e =
    let n : ℕ = length (bytes_of p) in
    let place : at_ + length (bytes_of p) + length (text_of row) ≡ at_ + length (bytes_of p ++ text_of row) = omega (arith, length-append (bytes_of p) (text_of row)) in
    rises_more at_ (length (bytes_of p)) _ (role_at at_ p) _ (longest_some p (text_of row ++ after) (row_longest p row after e))
    (subst (λ h. Rises (at_ + length (bytes_of p)) h (tokens_from (at_ + length (bytes_of p)) row)) place
    (rises_row (at_ + length (bytes_of p)) row after (row_rest p row after e)))

-- the tokens of a text rise, within the text
pub spells_rises : (src : List ℕ) (toks : List Token) → Spells src toks → Rises 0 (length src) toks
spells_rises src toks (row, e, ok, t) =
    let rising : Rises 0 (0 + length (text_of row)) (tokens_from 0 row) = rises_row 0 row [] ok in
    let size : 0 + length (text_of row) ≡ length src = omega (arith, ap length e) in
    let there : Rises 0 (length src) (tokens_from 0 row) = subst (λ h. Rises 0 h (tokens_from 0 row)) size rising in
    subst (λ l. Rises 0 (length src) l) (sym t) there

no_bytes : (text : List ℕ) → length text ≡ 0 → text ≡ []
no_bytes [] e = refl
no_bytes (b ∷ text) e = absurd (omega arith)

pub read_all : (src rest : List ℕ) (toks : List Token) → length rest ≡ 0 → Read src rest toks → Spells src toks
read_all src rest toks h (row, e, ok, t) =
    let none : rest ≡ [] = no_bytes rest h in
    (row, e ∙ ap (λ r. text_of row ++ r) none ∙ append_none (text_of row), sym (ap (is_row row) none) ∙ ok, t)
