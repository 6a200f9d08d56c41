-- What follows from a step that succeeded, and from a mark that is seen.
use Rattle.std.proofs.Common.{◌≡◌, refl, sym, ap, ℕ, List, [], ◌∷◌, true, false, rules}
use Rattle.std.specs.Prelude.{Option, Some, None, Ok, Err}
use Rattle.std.proofs.lemmas.Option.{same_Some, none-some}
use denote.Enum.Bare.{same_true}
use Rattle.brace_tok.specs.declared.kinds.Token.{Token}
use Rattle.brace_tok.specs.declared.kinds.TokKind.{TokKind}
use Rattle.brace_tok.specs.declared.kinds.TokKind.TheVariants as k
use Rattle.brace_syntax.specs.declared.mark.Mark.{Mark}
use Rattle.brace_syntax.specs.declared.mark.Mark.TheVariants as m
use Rattle.brace_syntax.specs.contracts.mark.Mark.{the_type}
use Rattle.brace_syntax.specs.declared.tree.Ident.{Ident}
use Rattle.brace_syntax.specs.declared.fault.Stop.{Stop}
use Rattle.brace_syntax.specs.inner.Cursor.{Input, Outcome, Parser, and_then, first, kind, mark_of, same_mark, marked, sees, after, name_at}

pub record Bound {A B : Type 0} (o : Outcome A) (f : A → Parser B) (r : B × Input) : Type 0 where
  pub value : A
  pub input : Input
  pub first : o ≡ Ok (value, input)
  pub then_ : f value input ≡ Ok r

pub bound : {A B : Type 0} (o : Outcome A) (f : A → Parser B) (r : B × Input) → and_then o f ≡ Ok r → Bound o f r
bound (Ok p) f r e = record { value = p.0; input = p.1; first = refl; then_ = e }
bound (Err x) f r e = absurd (cc)

abbrev value_of : {A : Type 0} → A → Outcome A → A
value_of d (Ok p) = p.0
value_of d (Err f) = d

abbrev input_of : {A : Type 0} → Input → Outcome A → Input
input_of d (Ok p) = p.1
input_of d (Err f) = d

pub same_value : {A : Type 0} (x y : A) (i j : Input) → (let r : Outcome A = Ok (x, i) in r) ≡ Ok (y, j) → x ≡ y
same_value {A = A} x y i j e = ap (λ (o : Outcome A). value_of x o) e

pub same_input : {A : Type 0} (x y : A) (i j : Input) → (let r : Outcome A = Ok (x, i) in r) ≡ Ok (y, j) → i ≡ j
same_input {A = A} x y i j e = ap (λ (o : Outcome A). input_of i o) e

pub no_fault : {A : Type 0} (f : Stop) (r : A × Input) → (let q : Outcome A = Err f in q) ≡ Ok r → ⊥
no_fault f r e = cc

abbrev pub kind_of : Mark → TokKind
kind_of m.Class = k.KwClass
kind_of m.Run = k.KwRun
kind_of m.Extent = k.KwExtent
kind_of m.Else = k.KwElse
kind_of m.When = k.KwWhen
kind_of m.OpenBrace = k.OpenBrace
kind_of m.CloseBrace = k.CloseBrace
kind_of m.OpenParen = k.OpenParen
kind_of m.CloseParen = k.CloseParen
kind_of m.OpenBracket = k.OpenBracket
kind_of m.CloseBracket = k.CloseBracket
kind_of m.Semicolon = k.Semicolon
kind_of m.Colon = k.Colon
kind_of m.Comma = k.Comma
kind_of m.Dot = k.Dot
kind_of m.Question = k.Question
kind_of m.Assign = k.Assign
kind_of m.Arrow = k.Arrow
kind_of m.Less = k.Less
kind_of m.Greater = k.Greater

pub is_kind_of : (kind : TokKind) (mark : Mark) → mark_of kind ≡ Some mark → kind ≡ kind_of mark
is_kind_of k.KwClass mark e = ap kind_of (same_Some _ _ e)
is_kind_of k.KwRun mark e = ap kind_of (same_Some _ _ e)
is_kind_of k.KwExtent mark e = ap kind_of (same_Some _ _ e)
is_kind_of k.KwElse mark e = ap kind_of (same_Some _ _ e)
is_kind_of k.KwWhen mark e = ap kind_of (same_Some _ _ e)
is_kind_of k.OpenBrace mark e = ap kind_of (same_Some _ _ e)
is_kind_of k.CloseBrace mark e = ap kind_of (same_Some _ _ e)
is_kind_of k.OpenParen mark e = ap kind_of (same_Some _ _ e)
is_kind_of k.CloseParen mark e = ap kind_of (same_Some _ _ e)
is_kind_of k.OpenBracket mark e = ap kind_of (same_Some _ _ e)
is_kind_of k.CloseBracket mark e = ap kind_of (same_Some _ _ e)
is_kind_of k.Semicolon mark e = ap kind_of (same_Some _ _ e)
is_kind_of k.Colon mark e = ap kind_of (same_Some _ _ e)
is_kind_of k.Comma mark e = ap kind_of (same_Some _ _ e)
is_kind_of k.Dot mark e = ap kind_of (same_Some _ _ e)
is_kind_of k.Question mark e = ap kind_of (same_Some _ _ e)
is_kind_of k.Assign mark e = ap kind_of (same_Some _ _ e)
is_kind_of k.Arrow mark e = ap kind_of (same_Some _ _ e)
is_kind_of k.Less mark e = ap kind_of (same_Some _ _ e)
is_kind_of k.Greater mark e = ap kind_of (same_Some _ _ e)
is_kind_of kind mark e = absurd (none-some mark e)

same_mark_is : (a b : Mark) → same_mark a b ≡ true → a ≡ b
unfolding same_mark
same_mark_is a b e = same_true the_type (search rules) a b e

marked_is : (wanted : Mark) (o : Option Mark) → marked wanted o ≡ true → o ≡ Some wanted
marked_is wanted None e = absurd (cc)
marked_is wanted (Some found) e = ap Some (same_mark_is found wanted e)

seen_at : (src : List ℕ) (rest : List Token) (wanted : Mark) → sees wanted (record { src = src; rest = rest }) ≡ true
    → kind (record { src = src; rest = rest }) ≡ Some (kind_of wanted)
unfolding sees kind first
seen_at src [] wanted e = absurd (cc)
seen_at src (tok ∷ rest) wanted e = ap Some (is_kind_of tok.kind wanted (marked_is wanted (mark_of tok.kind) e))

pub seen : (i : Input) (wanted : Mark) → sees wanted i ≡ true → kind i ≡ Some (kind_of wanted)
seen i wanted e = seen_at i.src i.rest wanted e

pub not_eaten : (wanted : Mark) (i : Input) → sees wanted i ≡ false → after wanted i ≡ i
unfolding after
not_eaten wanted i s = rw s refl

pub name_is : (known : Ident) (kind : TokKind) (x : Ident) → name_at known kind ≡ Some x → (kind ≡ k.Word) × (x ≡ known)
name_is known k.Word x e = (refl, sym (same_Some _ _ e))
name_is known kind x e = absurd (none-some x e)
