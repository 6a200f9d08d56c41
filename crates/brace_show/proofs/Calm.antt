-- Tokens that are nowhere too deep, from so many open brackets and so many operators on.
use Rattle.std.proofs.Common.{◌≡◌, refl, sym, ap, ◌∙◌, subst, ℕ, zero, suc, ◌+◌, ◌-◌, ◌≤◌, nat_lt, List, [], ◌∷◌, ◌++◌, length, take, fold, Bool, false, arith, append_assoc, codes}
use Rattle.std.specs.Prelude.{◌||◌}
use Rattle.std.proofs.lemmas.Bool.Decides.{nat_tests}
use Rattle.brace_tok.specs.declared.kinds.Token.{Token}
use Rattle.brace_tok.specs.declared.kinds.TokKind.{TokKind}
use Rattle.brace_tok.specs.declared.kinds.TokKind.TheVariants as k
use Rattle.brace_tok.specs.Tables.{symbol}
use Rattle.brace_tok.specs.Pieces.{Piece, blank, sign, bytes_of}
use Rattle.brace_tok.specs.Roles.{token, role_at}
use Rattle.brace_tok.specs.Spells.{text_of, token_at, tokens_from}
use Rattle.brace_syntax.specs.Depth.{opened_by, counted_by, NowhereDeep}
use Rattle.brace_syntax.specs.Tables.{Is}
use Rattle.brace_syntax.proofs.DepthLemmas.{few}
use Rattle.brace_show.proofs.Rows.{Row, mark, margin_row}
use Rattle.brace_show.proofs.Laid.{tokens-append}

-- with so many brackets open and so many operators before them, these tokens are nowhere too deep
unfoldable pub Calm : ℕ → ℕ → List Token → Type 0
Calm o c [] = (o ≤ 64) × (c ≤ 256)
Calm o c (tok ∷ toks) = (o ≤ 64) × (c ≤ 256) × Calm (opened_by o tok.kind) (counted_by c tok.kind) toks

pub few_open : (o c : ℕ) (toks : List Token) → Calm o c toks → o ≤ 64
unfolding Calm
few_open o c [] h = h.0
few_open o c (tok ∷ toks) h = h.0

pub few_counted : (o c : ℕ) (toks : List Token) → Calm o c toks → c ≤ 256
unfolding Calm
few_counted o c [] h = h.1
few_counted o c (tok ∷ toks) h = h.1

-- the scan's numbers, from these on
abbrev opened_from : ℕ → List Token → ℕ
opened_from = fold (λ n tok. opened_by n tok.kind)

abbrev counted_from : ℕ → List Token → ℕ
counted_from = fold (λ n tok. counted_by n tok.kind)

calm_from : (toks : List Token) (o c : ℕ) → ((n : ℕ) → (nat_lt 64 (opened_from o (take n toks)) || nat_lt 256 (counted_from c (take n toks))) ≡ false) → Calm o c toks
unfolding Calm
calm_from [] o c h = few o c (nat_lt 64 o || nat_lt 256 c) refl (h 0)
calm_from (tok ∷ toks) o c h =
    let f = few o c (nat_lt 64 o || nat_lt 256 c) refl (h 0) in
    (f.0, f.1, calm_from toks (opened_by o tok.kind) (counted_by c tok.kind) (λ n. h (suc n)))

pub shallow_calm : (toks : List Token) → NowhereDeep toks → Calm 0 0 toks
shallow_calm toks h = calm_from toks 0 0 h

not_deep : (o c : ℕ) → o ≤ 64 → c ≤ 256 → (nat_lt 64 o || nat_lt 256 c) ≡ false
not_deep o c p q =
    let a : nat_lt 64 o ≡ false = grind (arith, nat_tests) in
    let b : nat_lt 256 c ≡ false = grind (arith, nat_tests) in
    ap (λ (z : Bool). z || nat_lt 256 c) a ∙ b

shallow_from : (toks : List Token) (o c n : ℕ) → Calm o c toks → (nat_lt 64 (opened_from o (take n toks)) || nat_lt 256 (counted_from c (take n toks))) ≡ false
unfolding Calm
shallow_from [] o c zero h = not_deep o c h.0 h.1
shallow_from [] o c (suc n) h = not_deep o c h.0 h.1
shallow_from (tok ∷ toks) o c zero h = not_deep o c h.0 h.1
shallow_from (tok ∷ toks) o c (suc n) h = shallow_from toks (opened_by o tok.kind) (counted_by c tok.kind) n h.2

pub calm_shallow : (toks : List Token) → Calm 0 0 toks → NowhereDeep toks
calm_shallow toks h n = shallow_from toks 0 0 n h

-- ---- past a token of a source

-- what comes behind one token
pub after_token : (tok : Token) (rest : List Token) (o c : ℕ) → Calm o c (tok ∷ rest) → Calm (opened_by o tok.kind) (counted_by c tok.kind) rest
unfolding Calm
after_token tok rest o c h = h.2

pub past_token : (kind : TokKind) (tok : Token) (rest : List Token) (o c : ℕ) → Is kind tok → Calm o c (tok ∷ rest) → Calm (opened_by o kind) (counted_by c kind) rest
past_token kind tok rest o c is h = subst (λ (z : TokKind). Calm (opened_by o z) (counted_by c z) rest) is (after_token tok rest o c h)

pub past_close : (tok : Token) (rest : List Token) (o c : ℕ) → Is k.CloseParen tok → Calm (o + 1) c (tok ∷ rest) → Calm o c rest
past_close tok rest o c is h =
    let e : o + 1 - 1 ≡ o = omega arith in
    subst (λ z. Calm z c rest) e (past_token k.CloseParen tok rest (o + 1) c is h)

pub past_end : (tok : Token) (rest : List Token) (o c : ℕ) → Is k.CloseBrace tok → Calm (o + 1) c (tok ∷ rest) → Calm o 0 rest
past_end tok rest o c is h =
    let e : o + 1 - 1 ≡ o = omega arith in
    subst (λ z. Calm z 0 rest) e (past_token k.CloseBrace tok rest (o + 1) c is h)

-- ---- the rows of canonical texts

-- wherever the pieces stand: where the tokens behind them are calm, they are so with them
pub record Runs (o c : ℕ) (row : Row) (p d : ℕ) : Type 0 where
  pub calm : (from : ℕ) (rest : List Token) → Calm p d rest → Calm o c (tokens_from from row ++ rest)

behind : (o c p d q e : ℕ) (a b : Row) → Runs o c a p d → Runs p d b q e → Runs o c (a ++ b) q e
behind o c p d q e a b f g = record {
  calm = λ from rest h.
      let ta : List Token = tokens_from from a in
      let tb : List Token = tokens_from (from + length (text_of a)) b in
      subst (λ z. Calm o c (z ++ rest)) (sym (tokens-append from a b)) (subst (Calm o c) (sym (append_assoc ta tb rest)) (f.calm from (tb ++ rest) (g.calm (from + length (text_of a)) rest h)));
}

infixl 10 ◌⊕◌
pub ◌⊕◌ : {o c p d q e : ℕ} {a b : Row} → Runs o c a p d → Runs p d b q e → Runs o c (a ++ b) q e
f ⊕ g = behind _ _ _ _ _ _ _ _ f g

pub runs_to : (o c p d e : ℕ) (row : Row) → d ≡ e → Runs o c row p d → Runs o c row p e
runs_to o c p d e row h f = subst (λ z. Runs o c row p z) h f

-- one token
pub piece_runs : (kind : TokKind) (x : Piece) (o c p d : ℕ) → ((from : ℕ) → role_at from x ≡ token kind) → opened_by o kind ≡ p → counted_by c kind ≡ d → (p ≤ 64 → d ≤ 256 → (o ≤ 64) × (c ≤ 256)) → Runs o c (x ∷ []) p d
unfolding Calm
piece_runs kind x o c p d role eo ec bound = record {
  calm = λ from rest h.
      let b = bound (few_open p d rest h) (few_counted p d rest h) in
      let h' : Calm (opened_by o kind) (counted_by c kind) rest = subst (λ z. Calm z (counted_by c kind) rest) (sym eo) (subst (λ z. Calm p z rest) (sym ec) h) in
      subst (λ s. Calm o c ((token_at from (from + length (bytes_of x)) s ++ []) ++ rest)) (sym (role from)) (b.0, b.1, h');
}

-- a token that is no bracket and no operator
pub plain : (kind : TokKind) (x : Piece) (o c : ℕ) → ((from : ℕ) → role_at from x ≡ token kind) → opened_by o kind ≡ o → counted_by c kind ≡ c → Runs o c (x ∷ []) o c
plain kind x o c role eo ec = piece_runs kind x o c o c role eo ec (λ p q. (p, q))

-- an operator
pub counts : (kind : TokKind) (x : Piece) (o c : ℕ) → ((from : ℕ) → role_at from x ≡ token kind) → opened_by o kind ≡ o → counted_by c kind ≡ c + 1 → Runs o c (x ∷ []) o (c + 1)
counts kind x o c role eo ec = piece_runs kind x o c o (c + 1) role eo ec (λ p q. let q' : c ≤ 256 = omega arith in (p, q'))

pub blank_runs : (b o c : ℕ) → Runs o c (blank b ∷ []) o c
blank_runs b o c = record { calm = λ from rest h. h }

pub margin_runs : (n o c : ℕ) → Runs o c (margin_row n) o c
margin_runs zero o c = record { calm = λ from rest h. h }
margin_runs (suc n) o c = blank_runs 32 o c ⊕ margin_runs n o c

-- a line
pub line_runs : (margin o c p d : ℕ) (row : Row) → Runs o c row p d → Runs o c (margin_row margin ++ row ++ (blank 10 ∷ [])) p d
line_runs margin o c p d row f = margin_runs margin o c ⊕ f ⊕ blank_runs 10 p d

pub opens : (o c : ℕ) → Runs o c (mark (codes "(")) (o + 1) c
unfolding symbol
opens o c = piece_runs k.OpenParen (sign (codes "(")) o c (o + 1) c (λ from. refl) refl refl (λ p q. let p' : o ≤ 64 = omega arith in (p', q))

pub closes : (o c : ℕ) → o + 1 ≤ 64 → Runs (o + 1) c (mark (codes ")")) o c
unfolding symbol
closes o c l = piece_runs k.CloseParen (sign (codes ")")) (o + 1) c o c (λ from. refl) (omega arith) refl (λ p q. (l, q))

pub semicolon_runs : (o c : ℕ) → c ≤ 256 → Runs o c (mark (codes ";")) o 0
unfolding symbol
semicolon_runs o c l = piece_runs k.Semicolon (sign (codes ";")) o c o 0 (λ from. refl) refl refl (λ p q. (p, l))

pub begins : (o c : ℕ) → c ≤ 256 → Runs o c (mark (codes "{")) (o + 1) 0
unfolding symbol
begins o c l = piece_runs k.OpenBrace (sign (codes "{")) o c (o + 1) 0 (λ from. refl) refl refl (λ p q. let p' : o ≤ 64 = omega arith in (p', l))

pub ends : (o c : ℕ) → o + 1 ≤ 64 → c ≤ 256 → Runs (o + 1) c (mark (codes "}")) o 0
unfolding symbol
ends o c l l' = piece_runs k.CloseBrace (sign (codes "}")) (o + 1) c o 0 (λ from. refl) (omega arith) refl (λ p q. (l, l'))

-- nothing
pub none_calm : Calm 0 0 []
unfolding Calm
none_calm = (omega arith, omega arith)
