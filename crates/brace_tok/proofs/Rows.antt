-- A row of pieces grows at its end.
use Rattle.std.proofs.Common.{◌≡◌, ℕ, ◌+◌, ◌-◌, ◌<◌, ◌≤◌, Bool, true, ◌&&◌, List, [], ◌∷◌, ◌++◌, length, drop, refl, sym, ap, subst, ◌∙◌, arith, append_assoc, length-append, add-zero, Option, Some, None, is_some, ◌⊎◌, inl, inr, length-take}
use Rattle.std.proofs.lemmas.List.{take-append-drop}
use Rattle.std.proofs.lemmas.Bool.{and_parts, and_from}
use Rattle.brace_tok.specs.Pieces.{Piece, word, whole, fraction, hash, sign, bytes_of, is_formed}
use Rattle.brace_num.specs.Names.{begins, is_digit, is_letter}
use Rattle.brace_tok.specs.Tables.{symbol, directive}
use Rattle.brace_tok.specs.Roles.{nothing, token, refused, role_at, token_or, word_kind, whole_kind, fixed_kind}
use Rattle.brace_tok.specs.Spells.{text_of, is_sound, is_longest, is_row, token_at, tokens_from, FirstFault}
use Rattle.brace_tok.specs.inner.Steps.{Stands, StepIs, Passes}
use Rattle.brace_tok.specs.Answers.{IsFault}
use Rattle.brace_tok.specs.declared.kinds.Token.{Token}
use Rattle.brace_tok.specs.declared.kinds.TokKind.{TokKind}
use Rattle.brace_tok.specs.declared.fault.TokFault.{TokFault}
use Rattle.brace_tok.specs.declared.fault.TokFault.TheVariants as fault
use Rattle.brace_tok.specs.declared.step.Step.{Step}
use Rattle.brace_tok.specs.declared.step.Step.TheVariants as step

append_nothing : {A : Type 0} (xs : List A) → xs ++ [] ≡ xs
append_nothing [] = refl
append_nothing (x ∷ xs) = ap (λ t. x ∷ t) (append_nothing xs)

pub text_snoc : (row : List Piece) (p : Piece) → text_of (row ++ p ∷ []) ≡ text_of row ++ bytes_of p
text_snoc [] p = append_nothing (bytes_of p)
text_snoc (q ∷ row) p = ap (λ t. bytes_of q ++ t) (text_snoc row p) ∙ sym (append_assoc (bytes_of q) (text_of row) (bytes_of p))

pub text_snoc_after : (row : List Piece) (p : Piece) (after : List ℕ) → text_of (row ++ p ∷ []) ++ after ≡ text_of row ++ (bytes_of p ++ after)
text_snoc_after row p after = ap (λ t. t ++ after) (text_snoc row p) ∙ append_assoc (text_of row) (bytes_of p) after

pub row_snoc : (row : List Piece) (p : Piece) (after : List ℕ) → is_row row (bytes_of p ++ after) ≡ true
    → is_longest p after ≡ true → is_sound (role_at 0 p) ≡ true → is_row (row ++ p ∷ []) after ≡ true
row_snoc [] p after e l s = and_from _ _ (and_from _ _ l s) refl
row_snoc (q ∷ row) p after e l s =
    let front : (is_longest q (text_of row ++ (bytes_of p ++ after)) && is_sound (role_at 0 q)) ≡ true = (and_parts _ (is_row row (bytes_of p ++ after)) e).0 in
    let rest : is_row row (bytes_of p ++ after) ≡ true = (and_parts (is_longest q (text_of row ++ (bytes_of p ++ after)) && is_sound (role_at 0 q)) _ e).1 in
    and_from _ _
    (ap (λ t. is_longest q t && is_sound (role_at 0 q)) (text_snoc_after row p after) ∙ front)
    (row_snoc row p after rest l s)

pub tokens_snoc : (at_ : ℕ) (row : List Piece) (p : Piece) → tokens_from at_ (row ++ p ∷ []) ≡
    tokens_from at_ row ++ token_at (at_ + length (text_of row)) (at_ + length (text_of row) + length (bytes_of p)) (role_at (at_ + length (text_of row)) p)
tokens_snoc at_ [] p = append_nothing (token_at at_ (at_ + length (bytes_of p)) (role_at at_ p)) ∙ ap (λ n. token_at n (n + length (bytes_of p)) (role_at n p)) (sym (add-zero at_))
tokens_snoc at_ (q ∷ row) p =
    let here = token_at at_ (at_ + length (bytes_of q)) (role_at at_ q) in
    let place : at_ + length (bytes_of q) + length (text_of row) ≡ at_ + length (bytes_of q ++ text_of row) = omega (arith, length-append (bytes_of q) (text_of row)) in
    ap (λ t. here ++ t) (tokens_snoc (at_ + length (bytes_of q)) row p
    ∙ ap (λ n. tokens_from (at_ + length (bytes_of q)) row ++ token_at n (n + length (bytes_of p)) (role_at n p)) place)
    ∙ sym (append_assoc here (tokens_from (at_ + length (bytes_of q)) row) _)

sound_or : (a b : TokFault) (o : Option TokKind) → is_sound (token_or a o) ≡ is_sound (token_or b o)
sound_or a b None = refl
sound_or a b (Some k) = refl

pub sound_anywhere : (a b : ℕ) (p : Piece) → is_sound (role_at a p) ≡ is_sound (role_at b p)
sound_anywhere a b (word x) = sound_or (fault.LongWord a) (fault.LongWord b) (word_kind x)
sound_anywhere a b (whole x) = sound_or (fault.WideLiteral a) (fault.WideLiteral b) (whole_kind x)
sound_anywhere a b (fraction x y) = sound_or (fault.WideLiteral a) (fault.WideLiteral b) (fixed_kind x y)
sound_anywhere a b (hash x) = sound_or (fault.BadByte a) (fault.BadByte b) (directive x)
sound_anywhere a b (sign x) = sound_or (fault.BadByte a) (fault.BadByte b) (symbol x)
sound_anywhere a b _ = refl

-- the text before `rest` is a row without a fault, and its tokens are these
abbrev pub Read : List ℕ → List ℕ → List Token → Type 0
Read src rest toks = (row : List Piece) × (src ≡ text_of row ++ rest) × (is_row row rest ≡ true) × (toks ≡ tokens_from 0 row)

stands_cut : (text : List ℕ) (p : Piece) (n : ℕ) → Stands text p n → text ≡ bytes_of p ++ drop n text
stands_cut text p n s = sym (take-append-drop n text) ∙ ap (λ t. t ++ drop n text) s.bytes

stands_length : (text : List ℕ) (p : Piece) (n : ℕ) → Stands text p n → length (bytes_of p) ≡ n
stands_length text p n s = let w : n ≤ length text = s.within in ap length (sym s.bytes) ∙ omega (arith, length-take n text)

read_length : (src rest : List ℕ) (toks : List Token) (r : Read src rest toks) → length (text_of r.0) ≡ length src - length rest
read_length src rest toks r = omega (arith, ap length r.1, length-append (text_of r.0) rest)

read_more : (src rest : List ℕ) (toks new : List Token) (p : Piece) (n : ℕ) → Read src rest toks → Stands rest p n
    → is_sound (role_at (length src - length rest) p) ≡ true
    → new ≡ toks ++ token_at (length src - length rest) (length src - length rest + n) (role_at (length src - length rest) p)
    → Read src (drop n rest) new
read_more src rest toks new p n r s sound e =
    let cut : rest ≡ bytes_of p ++ drop n rest = stands_cut rest p n s in
    let place : 0 + length (text_of r.0) ≡ length src - length rest = omega (arith, read_length src rest toks r) in (
      r.0 ++ p ∷ [],
      r.1 ∙ ap (λ t. text_of r.0 ++ t) cut ∙ sym (text_snoc_after r.0 p (drop n rest)),
      row_snoc r.0 p (drop n rest) (sym (ap (is_row r.0) cut) ∙ r.2) s.longest (sound_anywhere 0 (length src - length rest) p ∙ sound),
      e ∙ ap (λ t. t ++ token_at (length src - length rest) (length src - length rest + n) (role_at (length src - length rest) p)) r.3
          ∙ ap (λ m. tokens_from 0 r.0 ++ token_at (length src - length rest) (length src - length rest + m) (role_at (length src - length rest) p)) (sym (stands_length rest p n s))
          ∙ ap (λ m. tokens_from 0 r.0 ++ token_at m (m + length (bytes_of p)) (role_at m p)) (sym place)
          ∙ sym (tokens_snoc 0 r.0 p),
    )

pub read_step : (src rest : List ℕ) (toks new : List Token) (at_ n : ℕ) (s : Step) → Read src rest toks → at_ ≡ length src - length rest
    → StepIs at_ rest s → Passes at_ s toks new n → Read src (drop n rest) new
read_step src rest toks new at_ n (step.Gap m) r e (p, stands, says_) (same, kept) =
    let P : ℕ → Type 0 = λ k. role_at k p ≡ nothing in
    let here : role_at (length src - length rest) p ≡ nothing = subst P e says_ in
    let more : Read src (drop m rest) new = read_more src rest toks new p m r stands (ap is_sound here)
    (kept ∙ sym (append_nothing toks) ∙ ap (λ v. toks ++ token_at (length src - length rest) (length src - length rest + m) v) (sym here)) in
    subst (λ k. Read src (drop k rest) new) (sym same) more
read_step src rest toks new at_ n (step.Token k m) r e (p, stands, says_) (same, put) =
    let P : ℕ → Type 0 = λ q. role_at q p ≡ token k in
    let here : role_at (length src - length rest) p ≡ token k = subst P e says_ in
    let more : Read src (drop m rest) new = read_more src rest toks new p m r stands (ap is_sound here)
    (put ∙ ap (λ q. toks ++ token_at q (q + m) (token k)) e ∙ ap (λ v. toks ++ token_at (length src - length rest) (length src - length rest + m) v) (sym here)) in
    subst (λ q. Read src (drop q rest) new) (sym same) more
read_step src rest toks new at_ n (step.Fault f) r e s p = absurd p

pub fault_step : (src rest : List ℕ) (toks : List Token) (at_ : ℕ) (f : TokFault) → Read src rest toks → at_ ≡ length src - length rest
    → StepIs at_ rest (step.Fault f) → FirstFault src f
fault_step src rest toks at_ f r e (p, n, stands, says_) =
    let cut : rest ≡ bytes_of p ++ drop n rest = stands_cut rest p n stands in
    let place : at_ ≡ length (text_of r.0) = e ∙ sym (read_length src rest toks r) in
    (r.0, p, drop n rest, r.1 ∙ ap (λ t. text_of r.0 ++ t) cut, sym (ap (is_row r.0) cut) ∙ r.2, stands.longest, subst (λ k. role_at k p ≡ refused f) place says_)

pub as_fault : (src : List ℕ) (f : TokFault) → FirstFault src f → IsFault src f
as_fault src fault.NoMemory first = tt
as_fault src _ first = first

begins_some : (kind : ℕ → Bool) (text : List ℕ) → begins kind text ≡ true → 0 < length text
begins_some kind [] e = absurd (cc)
begins_some kind (b ∷ text) e = omega arith

symbol_some : (marks : List ℕ) → is_some (symbol marks) ≡ true → 0 < length marks
unfolding symbol
symbol_some [] e = absurd (cc)
symbol_some (b ∷ marks) e = omega arith

pub formed_some : (p : Piece) → is_formed p ≡ true → 0 < length (bytes_of p)
formed_some (word x) e = begins_some is_letter x ((and_parts _ _ e).0)
formed_some (whole x) e = begins_some is_digit x ((and_parts _ _ e).0)
formed_some (fraction x y) e = omega (arith, length-append x (46 ∷ y))
formed_some (sign x) e = symbol_some x e
formed_some _ e = omega arith

stands_some : (text : List ℕ) (p : Piece) (n : ℕ) → Stands text p n → 0 < n
stands_some text p n s = omega (arith, stands_length text p n s, formed_some p ((and_parts _ _ s.longest).0))

pub step_bounds : (text : List ℕ) (toks new : List Token) (at_ n : ℕ) (s : Step) → StepIs at_ text s → Passes at_ s toks new n → (0 < n) × (n ≤ length text)
step_bounds text toks new at_ n (step.Gap m) (p, stands, says_) (same, kept) =
    let w : m ≤ length text = stands.within in (omega (arith, stands_some text p m stands), omega arith)
step_bounds text toks new at_ n (step.Token k m) (p, stands, says_) (same, put) =
    let w : m ≤ length text = stands.within in (omega (arith, stands_some text p m stands), omega arith)
step_bounds text toks new at_ n (step.Fault f) s p = absurd p

pub fault_of : (src rest : List ℕ) (toks : List Token) (at_ : ℕ) (s : Step) (f : TokFault) → Read src rest toks → at_ ≡ length src - length rest
    → StepIs at_ rest s → (f ≡ fault.NoMemory) ⊎ (s ≡ step.Fault f) → IsFault src f
fault_of src rest toks at_ s f r e there (inl none) = subst (λ g. IsFault src g) (sym none) tt
fault_of src rest toks at_ s f r e there (inr same) =
    as_fault src f (fault_step src rest toks at_ f r e (subst (λ t. StepIs at_ rest t) same there))
