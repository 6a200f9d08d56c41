-- What each step gives where the next token fits it.
use Rattle.std.proofs.Common.{◌≡◌, refl, ap, ◌∙◌, ℕ, List, ◌∷◌, Bool, true, false}
use Rattle.std.specs.Prelude.{Option, Some, None, Ok, Err, if◌then◌else◌}
use denote.Enum.Bare.{true_same}
use Rattle.brace_tok.specs.declared.kinds.Token.{Token}
use Rattle.brace_tok.specs.declared.kinds.TokKind.{TokKind}
use Rattle.brace_tok.specs.declared.kinds.TokKind.TheVariants as k
use Rattle.brace_syntax.specs.declared.mark.Mark.{Mark}
use Rattle.brace_syntax.specs.declared.mark.Mark.TheVariants as m
use Rattle.brace_syntax.specs.contracts.mark.Mark.{the_type}
use Rattle.brace_syntax.specs.declared.tree.Number.{Number}
use Rattle.brace_syntax.specs.declared.tree.TyName.{TyName}
use Rattle.brace_syntax.specs.declared.tree.CombName.{CombName}
use Rattle.brace_syntax.specs.Tables.{Is, ident, combines}
use Rattle.brace_syntax.specs.Tables as tables
use Rattle.brace_syntax.specs.inner.Cursor.{Input, Outcome, Parser, and_then, first, kind, place, next, refusal, mark_of, same_mark, marked, sees, after, expect, said, name_at, name, number, type_name, combinator}
use Rattle.brace_syntax.specs.inner.Descent.{where_some}
use Rattle.brace_syntax.proofs.Inversions.{kind_of}

abbrev pub at : List ℕ → List Token → Input
at src toks = record { src = src; rest = toks }

pub then_ : {A B : Type 0} (o : Outcome A) (f : A → Parser B) (a : A) (i : Input) (r : Outcome B) → o ≡ Ok (a, i) → f a i ≡ r → and_then o f ≡ r
then_ {A = A} o f a i r e h = ap (λ (z : Outcome A). and_then z f) e ∙ h

pub if_true : {B : Type 0} (b : Bool) (p q : Parser B) (i j : Input) (r : Outcome B) → b ≡ true → i ≡ j → p j ≡ r → (if b then p else q) i ≡ r
if_true b p q i j r e h done = ap (λ (z : Bool). (if z then p else q) i) e ∙ (ap p h ∙ done)

pub if_false : {B : Type 0} (b : Bool) (p q : Parser B) (i j : Input) (r : Outcome B) → b ≡ false → i ≡ j → q j ≡ r → (if b then p else q) i ≡ r
if_false b p q i j r e h done = ap (λ (z : Bool). (if z then p else q) i) e ∙ (ap q h ∙ done)

pub where_found : {A B : Type 0} (o : Option A) (found : A → Parser B) (missing : Parser B) (i : Input) (x : A) (r : Outcome B) → o ≡ Some x → found x i ≡ r → where_some o found missing i ≡ r
where_found {A = A} o found missing i x r e done = ap (λ (z : Option A). where_some z found missing i) e ∙ done

pub where_none : {A B : Type 0} (o : Option A) (found : A → Parser B) (missing : Parser B) (i : Input) (r : Outcome B) → o ≡ None → missing i ≡ r → where_some o found missing i ≡ r
where_none {A = A} o found missing i r e done = ap (λ (z : Option A). where_some z found missing i) e ∙ done

mark_of_kind : (wanted : Mark) → mark_of (kind_of wanted) ≡ Some wanted
mark_of_kind m.Class = refl
mark_of_kind _ = refl

same_mark_self : (wanted : Mark) → same_mark wanted wanted ≡ true
unfolding same_mark
same_mark_self wanted = true_same the_type wanted wanted refl

pub sees_it : (wanted : Mark) (src : List ℕ) (tok : Token) (rest : List Token) → Is (kind_of wanted) tok → sees wanted (at src (tok ∷ rest)) ≡ true
unfolding sees kind first
sees_it wanted src tok rest h = ap (λ (z : TokKind). marked wanted (mark_of z)) h ∙ (ap (marked wanted) (mark_of_kind wanted) ∙ same_mark_self wanted)

-- a token that is no mark is not this one
pub sees_no_mark : (wanted : Mark) (src : List ℕ) (tok : Token) (rest : List Token) → mark_of tok.kind ≡ None → sees wanted (at src (tok ∷ rest)) ≡ false
unfolding sees kind first
sees_no_mark wanted src tok rest h = ap (marked wanted) h

pub after_it : (wanted : Mark) (src : List ℕ) (tok : Token) (rest : List Token) → Is (kind_of wanted) tok → after wanted (at src (tok ∷ rest)) ≡ at src rest
unfolding after next
after_it wanted src tok rest h = ap (λ (b : Bool). if b then at src rest else at src (tok ∷ rest)) (sees_it wanted src tok rest h)

pub expects : (wanted : Mark) (src : List ℕ) (tok : Token) (rest : List Token) → Is (kind_of wanted) tok → expect wanted (at src (tok ∷ rest)) ≡ Ok (tok.from, at src rest)
unfolding expect place next first
expects wanted src tok rest h =
    ap (λ (b : Bool). if b then (let r : Outcome ℕ = Ok (tok.from, at src rest) in r) else Err (refusal (at src (tok ∷ rest)))) (sees_it wanted src tok rest h)

pub names : (src : List ℕ) (tok : Token) (rest : List Token) → Is k.Word tok → name (at src (tok ∷ rest)) ≡ Ok (ident src tok, at src rest)
unfolding name first next
names src tok rest h = ap (λ (z : TokKind). said (name_at (ident src tok) z) (at src (tok ∷ rest))) h

pub numbers : (src : List ℕ) (tok : Token) (rest : List Token) (n : Number) → tables.number tok ≡ Some n → number (at src (tok ∷ rest)) ≡ Ok (n, at src rest)
unfolding number first next
numbers src tok rest n h = ap (λ (z : Option Number). said z (at src (tok ∷ rest))) h

pub types : (src : List ℕ) (tok : Token) (rest : List Token) (t : TyName) → tables.type_name src tok ≡ Some t → type_name (at src (tok ∷ rest)) ≡ Ok (t, at src rest)
unfolding type_name first next
types src tok rest t h = ap (λ (z : Option TyName). said z (at src (tok ∷ rest))) h

pub combinators : (src : List ℕ) (tok : Token) (rest : List Token) (c : CombName) → combines tok.kind ≡ Some c → combinator (at src (tok ∷ rest)) ≡ Ok (c, at src rest)
unfolding combinator kind first next
combinators src tok rest c h = ap (λ (z : Option CombName). said z (at src (tok ∷ rest))) h
