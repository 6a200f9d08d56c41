-- The text of a word is a name.
use Rattle.std.proofs.Common.{◌≡◌, ℕ, zero, suc, pos, ◌+◌, ◌-◌, Bool, true, false, List, [], ◌∷◌, ◌++◌, length, take, drop, refl, sym, ap, subst, ◌∙◌, map, not, ◌&&◌, ◌||◌, arith, append_assoc, length-append, Option, Some, None, cond, All}
use Rattle.std.specs.Bool.{nat_le}
use Rattle.std.specs.Prelude.{IsTrue}
use Rattle.std.specs.List.{list_all}
use Rattle.std.specs.Str.{bytes_eq}
use Rattle.std.specs.Str.Parse.{digits_value}
use Rattle.std.proofs.lemmas.List.Elements.{All-append}
use Rattle.std.proofs.Math.Seq.{drop-append_seam, take-append_seam}
use Rattle.std.proofs.lemmas.Bool.{and_parts, and_from, not-true}
use Rattle.brace_num.specs.Names.{is_word, is_among, is_name, reserved_words}
use Rattle.brace_tok.specs.Tables.{found, words, directives, symbols, reserved, directive, symbol}
use Rattle.brace_tok.specs.Pieces.{Piece, word, whole, fraction, hash, sign, bytes_of, is_formed, ends_before}
use Rattle.brace_tok.specs.Roles.{Role, nothing, token, refused, role_at, token_or, word_kind, name_or, whole_kind, fixed_kind, millionths}
use Rattle.brace_tok.specs.Spells.{text_of, is_row, token_at, tokens_from, Spells}
use Rattle.brace_tok.specs.Names.{IsNamed}
use Rattle.brace_tok.specs.declared.kinds.Token.{Token}
use Rattle.brace_tok.specs.declared.kinds.TokKind.{TokKind}
use Rattle.brace_tok.specs.declared.kinds.TokKind.TheVariants as kind
use Rattle.brace_tok.specs.declared.fault.TokFault.{TokFault}
use Rattle.brace_tok.specs.declared.fault.TokFault.TheVariants as fault
use Rattle.brace_tok.proofs.Heads.{append_none}
use Rattle.brace_tok.proofs.Unique.{row_longest, row_rest}

is_other : TokKind → Bool
is_other kind.Word = false
is_other _ = true

found_kind : (table : List (List ℕ × TokKind)) (text : List ℕ) (k : TokKind) → list_all (λ entry. is_other entry.1) table ≡ true
    → found table text ≡ Some k → is_other k ≡ true
found_kind [] text k all e = absurd (cc)
found_kind (entry ∷ table) text k all e =
    elim (bytes_eq entry.0 text) as (λ v. bytes_eq entry.0 text ≡ v → is_other k ≡ true) [
      | true ↦ λ s.
          let here : Some entry.1 ≡ Some k = sym (ap (λ v. cond v (Some entry.1) (found table text)) s) ∙ e in
          let same : entry.1 ≡ k = cc in
          ap is_other (sym same) ∙ (and_parts (is_other entry.1) (list_all (λ en. is_other en.1) table) all).0
      | false ↦ λ s. found_kind table text k ((and_parts (is_other entry.1) (list_all (λ en. is_other en.1) table) all).1)
          (sym (ap (λ v. cond v (Some entry.1) (found table text)) s) ∙ e)
    ] refl

no_word : (k : TokKind) → is_other k ≡ true → k ≡ kind.Word → ⊥
unfolding is_other
no_word k e p = let h : is_other k ≡ false = ap is_other p in let both_ways : true ≡ false = sym e ∙ h in cc

reserved_other : (text : List ℕ) (k : TokKind) → reserved text ≡ Some k → k ≡ kind.Word → ⊥
unfolding reserved is_other
reserved_other text k e p = no_word k (found_kind words text k refl e) p

directive_other : (text : List ℕ) (k : TokKind) → directive text ≡ Some k → k ≡ kind.Word → ⊥
unfolding directive is_other
directive_other text k e p = no_word k (found_kind directives text k refl e) p

symbol_other : (text : List ℕ) (k : TokKind) → symbol text ≡ Some k → k ≡ kind.Word → ⊥
unfolding symbol is_other
symbol_other text k e p = no_word k (found_kind symbols text k refl e) p

said_kind : (f : TokFault) (o : Option TokKind) (k : TokKind) → token_or f o ≡ token k → o ≡ Some k
said_kind f None k e = absurd (cc)
said_kind f (Some j) k e = let same : j ≡ k = cc in ap Some same

name_none : (o : Option TokKind) → ((k : TokKind) → o ≡ Some k → k ≡ kind.Word → ⊥) → name_or o ≡ kind.Word → o ≡ None
name_none None other e = refl
name_none (Some k) other e = absurd (other k refl e)

-- the table lacks a text exactly where its words do
not_found : (table : List (List ℕ × TokKind)) (text : List ℕ) → found table text ≡ None → is_among (map (λ entry. entry.0) table) text ≡ false
not_found [] text e = refl
not_found (entry ∷ table) text e =
    elim (bytes_eq entry.0 text) as (λ v. cond v (Some entry.1) (found table text) ≡ None → (v || is_among (map (λ en. en.0) table) text) ≡ false) [
      | true ↦ λ h. absurd (cc)
      | false ↦ λ h. not_found table text h
    ] e

not_among : (table : List (List ℕ × TokKind)) (text : List ℕ) → is_among (map (λ entry. entry.0) table) text ≡ false → found table text ≡ None
not_among [] text e = refl
not_among (entry ∷ table) text e =
    elim (bytes_eq entry.0 text) as (λ v. (v || is_among (map (λ en. en.0) table) text) ≡ false → cond v (Some entry.1) (found table text) ≡ None) [
      | true ↦ λ h. absurd (cc)
      | false ↦ λ h. not_among table text h
    ] e

-- a name has a word's bytes, at most 64 of them, and is not reserved
pub name_word : (text : List ℕ) → is_name text ≡ true → is_word text ≡ true
name_word text e = (and_parts _ _ ((and_parts (is_word text && nat_le (length text) 64) _ e).0)).0

pub name_short : (text : List ℕ) → is_name text ≡ true → nat_le (length text) 64 ≡ true
name_short text e = (and_parts (is_word text) _ ((and_parts (is_word text && nat_le (length text) 64) _ e).0)).1

pub name_free : (text : List ℕ) → is_name text ≡ true → reserved text ≡ None
unfolding reserved
name_free text e = not_among words text (not-true _ ((and_parts (is_word text && nat_le (length text) 64) _ e).1))

free_name : (text : List ℕ) → reserved text ≡ None → not (is_among reserved_words text) ≡ true
unfolding reserved
free_name text e = ap not (not_found words text e)

word_name : (letters : List ℕ) → is_word letters ≡ true → word_kind letters ≡ Some kind.Word → is_name letters ≡ true
word_name letters e f =
    elim (nat_le (length letters) 64) as (λ v. nat_le (length letters) 64 ≡ v → is_name letters ≡ true) [
      | true ↦ λ s.
          let here : Some (name_or (reserved letters)) ≡ Some kind.Word = sym (ap (λ v. cond v (Some (name_or (reserved letters))) None) s) ∙ f in
          let plain : name_or (reserved letters) ≡ kind.Word = cc in
          and_from _ _ (and_from _ _ e s) (free_name letters (name_none (reserved letters) (reserved_other letters) plain))
      | false ↦ λ s.
          let here : None ≡ Some kind.Word = sym (ap (λ v. cond v (Some (name_or (reserved letters))) None) s) ∙ f in
          absurd (cc)
    ] refl

some_or_none : (v : Bool) (k j : TokKind) → cond v (Some k) None ≡ Some j → k ≡ j
some_or_none true k j e = cc
some_or_none false k j e = absurd (cc)

role_name : (at_ : ℕ) (p : Piece) → is_formed p ≡ true → role_at at_ p ≡ token kind.Word → IsTrue (is_name (bytes_of p))
role_name at_ (word letters) e f = word_name letters e (said_kind (fault.LongWord at_) (word_kind letters) kind.Word f)
role_name at_ (whole x) e f =
    let other : kind.Int (pos (digits_value 10 x)) ≡ kind.Word = some_or_none _ _ _ (said_kind (fault.WideLiteral at_) (whole_kind x) kind.Word f) in absurd (cc)
role_name at_ (fraction x y) e f =
    let other : kind.Fixed (pos (millionths x y)) ≡ kind.Word = some_or_none _ _ _ (said_kind (fault.WideLiteral at_) (fixed_kind x y) kind.Word f) in absurd (cc)
role_name at_ (hash x) e f = absurd (directive_other x kind.Word (said_kind (fault.BadByte at_) (directive x) kind.Word f) refl)
role_name at_ (sign x) e f = absurd (symbol_other x kind.Word (said_kind (fault.BadByte at_) (symbol x) kind.Word f) refl)
role_name at_ _ e f = absurd (cc)

none_named : (src : List ℕ) → All (IsNamed src) []
none_named src k d h = absurd (omega arith)

one_named : (src : List ℕ) (tok : Token) → IsNamed src tok → All (IsNamed src) (tok ∷ [])
one_named src tok n zero d h = n
one_named src tok n (suc k) d h = absurd (omega arith)

token_named : (src : List ℕ) (from_ to_ : ℕ) (s : Role) → (s ≡ token kind.Word → IsTrue (is_name (take (to_ - from_) (drop from_ src)))) → All (IsNamed src) (token_at from_ to_ s)
token_named src from_ to_ nothing h = none_named src
token_named src from_ to_ (token k) h = one_named src (record { kind = k; from = from_; to = to_ }) (λ e. h (ap token e))
token_named src from_ to_ (refused f) h = none_named src

-- what is cut out of a text at the places of a piece of it
pub cut_out : (before piece after : List ℕ) → take (length before + length piece - length before) (drop (length before) (before ++ (piece ++ after))) ≡ piece
cut_out before piece after =
    let size : length before + length piece - length before ≡ length piece = omega arith in
    ap (λ t. take (length before + length piece - length before) t) (drop-append_seam before (piece ++ after))
    ∙ ap (λ n. take n (piece ++ after)) size ∙ take-append_seam piece after

row_named : (before : List ℕ) (row : List Piece) (after : List ℕ) → is_row row after ≡ true
    → All (IsNamed (before ++ (text_of row ++ after))) (tokens_from (length before) row)
row_named before [] after e = none_named _
row_named before (p ∷ row) after e =
    let src : List ℕ = before ++ ((bytes_of p ++ text_of row) ++ after) in
    let flat : before ++ ((bytes_of p ++ text_of row) ++ after) ≡ before ++ (bytes_of p ++ (text_of row ++ after)) =
    ap (λ t. before ++ t) (append_assoc (bytes_of p) (text_of row) after) in
    let moved : (before ++ bytes_of p) ++ (text_of row ++ after) ≡ before ++ ((bytes_of p ++ text_of row) ++ after) =
    append_assoc before (bytes_of p) (text_of row ++ after) ∙ sym flat in
    let place : length (before ++ bytes_of p) ≡ length before + length (bytes_of p) = length-append before (bytes_of p) in
    let more : All (IsNamed ((before ++ bytes_of p) ++ (text_of row ++ after))) (tokens_from (length (before ++ bytes_of p)) row) =
    row_named (before ++ bytes_of p) row after (row_rest p row after e) in
    let there : All (IsNamed (before ++ ((bytes_of p ++ text_of row) ++ after))) (tokens_from (length (before ++ bytes_of p)) row) =
    subst (λ t. All (IsNamed t) (tokens_from (length (before ++ bytes_of p)) row)) moved more in
    let rest : All (IsNamed (before ++ ((bytes_of p ++ text_of row) ++ after))) (tokens_from (length before + length (bytes_of p)) row) =
    subst (λ n. All (IsNamed (before ++ ((bytes_of p ++ text_of row) ++ after))) (tokens_from n row)) place there in
    let formed : is_formed p ≡ true = (and_parts (is_formed p) (ends_before p (text_of row ++ after)) (row_longest p row after e)).0 in
    let text : take (length before + length (bytes_of p) - length before) (drop (length before) (before ++ ((bytes_of p ++ text_of row) ++ after))) ≡ bytes_of p =
    ap (λ t. take (length before + length (bytes_of p) - length before) (drop (length before) t)) flat ∙ cut_out before (bytes_of p) (text_of row ++ after) in
    All-append (IsNamed (before ++ ((bytes_of p ++ text_of row) ++ after)))
    (token_at (length before) (length before + length (bytes_of p)) (role_at (length before) p))
    (tokens_from (length before + length (bytes_of p)) row)
    (token_named _ _ _ (role_at (length before) p) (λ s. subst (λ t. IsTrue (is_name t)) (sym text) (role_name (length before) p formed s)))
    rest

-- each word of a text is a name
pub spells_names : (src : List ℕ) (toks : List Token) → Spells src toks → All (IsNamed src) toks
spells_names src toks (row, e, ok, t) =
    let all : All (IsNamed (text_of row ++ [])) (tokens_from 0 row) = row_named [] row [] ok in
    let whole_text : text_of row ++ [] ≡ src = append_none (text_of row) ∙ sym e in
    let there : All (IsNamed src) (tokens_from 0 row) = subst (λ s. All (IsNamed s) (tokens_from 0 row)) whole_text all in
    subst (λ l. All (IsNamed src) l) (sym t) there
