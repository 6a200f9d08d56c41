-- A row of pieces that stands somewhere in a source, and its tokens.
use Rattle.std.proofs.Common.{◌≡◌, refl, sym, ap, ◌∙◌, subst, ℕ, zero, suc, ◌+◌, ◌-◌, List, [], ◌∷◌, ◌++◌, length, take, drop, arith, append_assoc, length-append}
use Rattle.std.proofs.lemmas.List.{append-nil}
use Rattle.brace_tok.specs.declared.kinds.Token.{Token}
use Rattle.brace_tok.specs.declared.kinds.TokKind.{TokKind}
use Rattle.brace_tok.specs.Pieces.{Piece, blank, bytes_of}
use Rattle.brace_tok.specs.Roles.{token, role_at}
use Rattle.brace_tok.specs.Spells.{text_of, token_at, tokens_from}
use Rattle.brace_tok.proofs.Named.{cut_out}
use Rattle.brace_tok.specs.Names.{text_at}
use Rattle.brace_syntax.specs.Tables.{Is}
use Rattle.brace_show.proofs.Rows.{Row, margin_row, line_row}

pub tokens-append : (from : ℕ) (a b : Row) → tokens_from from (a ++ b) ≡ tokens_from from a ++ tokens_from (from + length (text_of a)) b
tokens-append from [] b = let e : from + 0 ≡ from = omega arith in ap (λ n. tokens_from n b) (sym e)
tokens-append from (p ∷ a) b =
    let next : ℕ = from + length (bytes_of p) in
    let place : next + length (text_of a) ≡ from + length (bytes_of p ++ text_of a) = omega (arith, length-append (bytes_of p) (text_of a)) in
    ap (λ (z : List Token). token_at from next (role_at from p) ++ z) (tokens-append next a b ∙ ap (λ n. tokens_from next a ++ tokens_from n b) place)
    ∙ sym (append_assoc (token_at from next (role_at from p)) (tokens_from next a) (tokens_from (from + length (bytes_of p ++ text_of a)) b))

pub text-append : (a b : Row) → text_of (a ++ b) ≡ text_of a ++ text_of b
text-append [] b = refl
text-append (p ∷ a) b = ap (λ z. bytes_of p ++ z) (text-append a b) ∙ sym (append_assoc (bytes_of p) (text_of a) (text_of b))

-- the row stands in the source, and these are its tokens
pub record Laid (src : List ℕ) (row : Row) (toks : List Token) : Type 0 where
  pub before : List ℕ
  pub after : List ℕ
  pub whole : src ≡ before ++ (text_of row ++ after)
  pub said : toks ≡ tokens_from (length before) row

-- two rows, one behind the other
pub split : (C : List Token → Type 0) (src : List ℕ) (a b : Row) (toks : List Token) → Laid src (a ++ b) toks
    → ((ta tb : List Token) → Laid src a ta → Laid src b tb → C (ta ++ tb)) → C toks
split C src a b toks l f =
    let cut : text_of (a ++ b) ++ l.after ≡ text_of a ++ (text_of b ++ l.after) = ap (λ z. z ++ l.after) (text-append a b) ∙ append_assoc (text_of a) (text_of b) l.after in
    let first : src ≡ l.before ++ (text_of a ++ (text_of b ++ l.after)) = l.whole ∙ ap (λ z. l.before ++ z) cut in
    let second : src ≡ (l.before ++ text_of a) ++ (text_of b ++ l.after) = first ∙ sym (append_assoc l.before (text_of a) (text_of b ++ l.after)) in
    let toks_are : toks ≡ tokens_from (length l.before) a ++ tokens_from (length (l.before ++ text_of a)) b =
    l.said ∙ (tokens-append (length l.before) a b ∙ ap (λ n. tokens_from (length l.before) a ++ tokens_from n b) (sym (length-append l.before (text_of a)))) in
    let one : Laid src a (tokens_from (length l.before) a) = record { before = l.before; after = text_of b ++ l.after; whole = first; said = refl } in
    let two : Laid src b (tokens_from (length (l.before ++ text_of a)) b) = record { before = l.before ++ text_of a; after = l.after; whole = second; said = refl } in
    subst C (sym toks_are) (f (tokens_from (length l.before) a) (tokens_from (length (l.before ++ text_of a)) b) one two)

-- one piece that is a token, and what stands behind it
pub say : (C : List Token → Type 0) (kind : TokKind) (src : List ℕ) (p : Piece) (row : Row) (toks : List Token) → ((from : ℕ) → role_at from p ≡ token kind) → Laid src (p ∷ row) toks
    → ((tok : Token) (rest : List Token) → Is kind tok → text_at src tok ≡ bytes_of p → Laid src row rest → C (tok ∷ rest)) → C toks
say C kind src p row toks h l f =
    let from_ : ℕ = length l.before in
    let to_ : ℕ = length l.before + length (bytes_of p) in
    let tok : Token = record { kind = kind; from = from_; to = to_ } in
    let cut : (bytes_of p ++ text_of row) ++ l.after ≡ bytes_of p ++ (text_of row ++ l.after) = append_assoc (bytes_of p) (text_of row) l.after in
    let first : src ≡ l.before ++ (bytes_of p ++ (text_of row ++ l.after)) = l.whole ∙ ap (λ z. l.before ++ z) cut in
    let second : src ≡ (l.before ++ bytes_of p) ++ (text_of row ++ l.after) = first ∙ sym (append_assoc l.before (bytes_of p) (text_of row ++ l.after)) in
    let spelt : text_at src tok ≡ bytes_of p = ap (λ z. take (to_ - from_) (drop from_ z)) first ∙ cut_out l.before (bytes_of p) (text_of row ++ l.after) in
    let toks_are : toks ≡ tok ∷ tokens_from (length (l.before ++ bytes_of p)) row =
    l.said ∙ (ap (λ s. token_at from_ to_ s ++ tokens_from to_ row) (h from_) ∙ ap (λ n. tok ∷ tokens_from n row) (sym (length-append l.before (bytes_of p)))) in
    let rest : Laid src row (tokens_from (length (l.before ++ bytes_of p)) row) = record { before = l.before ++ bytes_of p; after = l.after; whole = second; said = refl } in
    subst C (sym toks_are) (f tok (tokens_from (length (l.before ++ bytes_of p)) row) refl spelt rest)

-- a blank gives no token
pub past : (src : List ℕ) (b : ℕ) (row : Row) (toks : List Token) → Laid src (blank b ∷ row) toks → Laid src row toks
past src b row toks l =
    let place : length l.before + 1 ≡ length (l.before ++ b ∷ []) = sym (length-append l.before (b ∷ [])) in
    record { before = l.before ++ b ∷ []; after = l.after; whole = l.whole ∙ sym (append_assoc l.before (b ∷ []) (text_of row ++ l.after)); said = l.said ∙ ap (λ n. tokens_from n row) place }

pub past_margin : (src : List ℕ) (n : ℕ) (row : Row) (toks : List Token) → Laid src (margin_row n ++ row) toks → Laid src row toks
past_margin src zero row toks l = l
past_margin src (suc n) row toks l = past_margin src n row toks (past src 32 (margin_row n ++ row) toks l)

-- the same row, cut in another way
pub laid_as : (src : List ℕ) (a b : Row) (toks : List Token) → a ≡ b → Laid src a toks → Laid src b toks
laid_as src a b toks e l = subst (λ z. Laid src z toks) e l

pub line_cut : (n : ℕ) (a b : Row) → line_row n a ++ b ≡ margin_row n ++ (a ++ (blank 10 ∷ b))
line_cut n a b = append_assoc (margin_row n ++ a) (blank 10 ∷ []) b ∙ append_assoc (margin_row n) a (blank 10 ∷ b)

-- a line, with what stands behind it
pub past_line : (src : List ℕ) (n : ℕ) (a b : Row) (toks : List Token) → Laid src (line_row n a ++ b) toks → Laid src (a ++ (blank 10 ∷ b)) toks
past_line src n a b toks l = past_margin src n (a ++ (blank 10 ∷ b)) toks (laid_as src _ _ toks (line_cut n a b) l)

-- a line alone
pub on_line : (src : List ℕ) (n : ℕ) (a : Row) (toks : List Token) → Laid src (line_row n a) toks → Laid src (a ++ (blank 10 ∷ [])) toks
on_line src n a toks l = past_line src n a [] toks (laid_as src _ _ toks (sym (append-nil (line_row n a))) l)

-- nothing stands behind
pub done : (C : List Token → Type 0) (src : List ℕ) (toks : List Token) → Laid src [] toks → C [] → C toks
done C src toks l c = subst C (sym l.said) c
