-- The rows of members, classes and scripts find what the grammar reads.
use Rattle.std.proofs.Common.{◌≡◌, refl, sym, ap, ◌∙◌, subst, ℕ, zero, suc, ◌<◌, ◌≤◌, List, [], ◌∷◌, ◌++◌, length, Bool, true, false, nat_eq, arith, append_assoc, length-append}
use Rattle.std.specs.Prelude.{◌≢◌, Some, None, Ok, Err}
use Rattle.std.proofs.lemmas.Bool.Decides.{nat_tests}
use Rattle.std.proofs.lemmas.List.{append-nil}
use Rattle.std.proofs.lemmas.Option.{same_Some}
use Rattle.brace_tok.specs.declared.kinds.Token.{Token}
use Rattle.brace_tok.specs.declared.kinds.TokKind.{TokKind}
use Rattle.brace_tok.specs.declared.kinds.TokKind.TheVariants as k
use Rattle.brace_syntax.specs.declared.mark.Mark.{Mark}
use Rattle.brace_syntax.specs.declared.mark.Mark.TheVariants as m
use Rattle.brace_syntax.specs.declared.tree.Number.{Number}
use Rattle.brace_syntax.specs.declared.tree.TyName.{TyName}
use Rattle.brace_syntax.specs.declared.tree.CombName.{CombName}
use Rattle.brace_syntax.specs.declared.tree.ExprTree.{ExprTree}
use Rattle.brace_syntax.specs.declared.tree.StmtTree.{StmtTree}
use Rattle.brace_syntax.specs.declared.tree.GiftTree.{GiftTree}
use Rattle.brace_syntax.specs.declared.tree.MemberTree.{MemberTree}
use Rattle.brace_syntax.specs.declared.tree.MemberTree.TheVariants as v
use Rattle.brace_syntax.specs.declared.tree.ClassTree.{ClassTree}
use Rattle.brace_syntax.specs.declared.tree.Tree.{Tree}
use Rattle.brace_syntax.specs.declared.fault.Stop.{Stop}
use Rattle.brace_syntax.specs.declared.fault.Stop.TheVariants as stop
use Rattle.brace_syntax.specs.Tables.{Is, ident, type_name, combines, number}
use Rattle.brace_syntax.specs.inner.Cursor.{Input, Outcome, kind, next, place, first, sees, mark_of}
use Rattle.brace_syntax.specs.Reads as g
use Rattle.brace_syntax.specs.Reads.{ReadsExpr, ReadsBlock, ReadsField, ReadsGift, ReadsGifts, ReadsMember, ReadsMembers, ReadsClass, ReadsClasses, Reads}
use Rattle.brace_syntax.specs.inner.Descent as d
use Rattle.brace_syntax.proofs.Inversions.{not_eaten, same_value, no_fault}
use Rattle.brace_syntax.proofs.Forward.{at, then_, if_true, if_false, sees_it, sees_no_mark, after_it, expects, names, numbers, types, combinators}
use Rattle.brace_syntax.proofs.Levels.{begins, not_seen}
use Rattle.brace_syntax.proofs.ExprFound.{shut, expression-found}
use Rattle.brace_syntax.proofs.StmtFound.{assigned-found, block-found}

range-found : (src : List ℕ) (rest : List Token) (opening range closing semicolon : Token) (n : Number) → Is k.OpenBracket opening → number range ≡ Some n → Is k.CloseBracket closing → Is k.Semicolon semicolon
    → d.range (at src (opening ∷ range ∷ closing ∷ semicolon ∷ rest)) ≡ Ok (n, at src rest)
unfolding d.range
range-found src rest opening range closing semicolon n ho hn hc hs =
    then_ _ _ _ _ _ (expects m.OpenBracket src opening (range ∷ closing ∷ semicolon ∷ rest) ho)
    (then_ _ _ _ _ _ (numbers src range (closing ∷ semicolon ∷ rest) n hn)
    (then_ _ _ _ _ _ (expects m.CloseBracket src closing (semicolon ∷ rest) hc)
    (then_ _ _ _ _ _ (expects m.Semicolon src semicolon rest hs) refl)))

visible-found : (src : List ℕ) (rest : List Token) (word opening range closing semicolon : Token) (n : Number) → Is k.OpenBracket opening → number range ≡ Some n → Is k.CloseBracket closing → Is k.Semicolon semicolon
    → d.visible (at src (word ∷ opening ∷ range ∷ closing ∷ semicolon ∷ rest)) ≡ Ok (v.Visible n word.from, at src rest)
unfolding d.visible place next first
visible-found src rest word opening range closing semicolon n ho hn hc hs = then_ _ _ _ _ _ (range-found src rest opening range closing semicolon n ho hn hc hs) refl

reach-found : (src : List ℕ) (rest : List Token) (word opening range closing semicolon : Token) (n : Number) → Is k.OpenBracket opening → number range ≡ Some n → Is k.CloseBracket closing → Is k.Semicolon semicolon
    → d.reach (at src (word ∷ opening ∷ range ∷ closing ∷ semicolon ∷ rest)) ≡ Ok (v.Reach n word.from, at src rest)
unfolding d.reach place next first
reach-found src rest word opening range closing semicolon n ho hn hc hs = then_ _ _ _ _ _ (range-found src rest opening range closing semicolon n ho hn hc hs) refl

no_colon_kind : (src : List ℕ) (semicolon : Token) (rest : List Token) → Is k.Semicolon semicolon → kind (at src (semicolon ∷ rest)) ≡ Some k.Colon → ⊥
unfolding kind first
no_colon_kind src semicolon rest h e = let q : semicolon.kind ≡ k.Colon = same_Some _ _ e in cc

state-found : (src : List ℕ) (is_public : Bool) (from : ℕ) (rest : List Token) (word type name semicolon : Token) (t : TyName) → type_name src type ≡ Some t → Is k.Word name → Is k.Semicolon semicolon
    → d.state is_public from (at src (word ∷ type ∷ name ∷ semicolon ∷ rest)) ≡ Ok (v.State is_public t (ident src name) None from, at src rest)
unfolding d.state d.ruled place next first
state-found src is_public from rest word type name semicolon t ht hn hs =
    let free = not_seen m.Colon (at src (semicolon ∷ rest)) (no_colon_kind src semicolon rest hs) in
    then_ _ _ _ _ _ (types src type (name ∷ semicolon ∷ rest) t ht)
    (then_ _ _ _ _ _ (names src name (semicolon ∷ rest) hn)
    (then_ _ _ _ _ _ (if_false _ _ _ _ _ _ free (not_eaten m.Colon (at src (semicolon ∷ rest)) free) (then_ _ _ _ _ _ (expects m.Semicolon src semicolon rest hs) refl)) refl))

ruled-found : (src : List ℕ) (is_public : Bool) (from : ℕ) (a rest : List Token) (word type name colon semicolon : Token) (t : TyName) (x : ExprTree) → type_name src type ≡ Some t → Is k.Word name → Is k.Colon colon → Is k.Semicolon semicolon
    → ReadsExpr src g.choices a x
    → d.state is_public from (at src ((word ∷ type ∷ name ∷ colon ∷ a ++ semicolon ∷ []) ++ rest)) ≡ Ok (v.State is_public t (ident src name) (Some x) from, at src rest)
unfolding d.state d.ruled place next first
ruled-found src is_public from a rest word type name colon semicolon t x ht hn hc hs r =
    let left : List Token = (a ++ semicolon ∷ []) ++ rest in
    then_ _ _ _ _ _ (types src type (name ∷ colon ∷ left) t ht)
    (then_ _ _ _ _ _ (names src name (colon ∷ left) hn)
    (then_ _ _ _ _ _ (if_true _ _ _ _ _ _ (sees_it m.Colon src colon left hc) (after_it m.Colon src colon left hc)
    (then_ _ _ _ _ _ (ap (λ (z : List Token). d.expression (at src z)) (shut a semicolon rest) ∙ expression-found src a (semicolon ∷ rest) x (begins k.Semicolon semicolon rest 7 hs (omega arith)) r)
    (then_ _ _ _ _ _ (expects m.Semicolon src semicolon rest hs) refl))) refl))

effect-found : (src : List ℕ) (is_public : Bool) (from : ℕ) (rest : List Token) (word type name colon combinator semicolon : Token) (t : TyName) (c : CombName) → type_name src type ≡ Some t → Is k.Word name → Is k.Colon colon
    → combines combinator.kind ≡ Some c → Is k.Semicolon semicolon
    → d.effect is_public from (at src (word ∷ type ∷ name ∷ colon ∷ combinator ∷ semicolon ∷ rest)) ≡ Ok (v.Effect is_public t (ident src name) c from, at src rest)
unfolding d.effect place next first
effect-found src is_public from rest word type name colon combinator semicolon t c ht hn hcolon hc hs =
    then_ _ _ _ _ _ (types src type (name ∷ colon ∷ combinator ∷ semicolon ∷ rest) t ht)
    (then_ _ _ _ _ _ (names src name (colon ∷ combinator ∷ semicolon ∷ rest) hn)
    (then_ _ _ _ _ _ (expects m.Colon src colon (combinator ∷ semicolon ∷ rest) hcolon)
    (then_ _ _ _ _ _ (combinators src combinator (semicolon ∷ rest) c hc)
    (then_ _ _ _ _ _ (expects m.Semicolon src semicolon rest hs) refl))))

field_at : (src : List ℕ) (is_public : Bool) (from : ℕ) (what : TokKind) (tok : Token) (rest : List Token) (r : Outcome MemberTree) → Is what tok → d.field_by is_public from (Some what) (at src (tok ∷ rest)) ≡ r → d.field is_public from (at src (tok ∷ rest)) ≡ r
unfolding d.field kind first
field_at src is_public from what tok rest r h e = ap (λ (z : TokKind). d.field_by is_public from (Some z) (at src (tok ∷ rest))) h ∙ e

field-found : (src : List ℕ) (is_public : Bool) (from : ℕ) (a rest : List Token) (x : MemberTree) → ReadsField src is_public from a x → d.field is_public from (at src (a ++ rest)) ≡ Ok (x, at src rest)
field-found src is_public from _ rest _ (g.state word type name semicolon t e e1 e2 e3) = field_at src is_public from k.KwState word _ _ e (state-found src is_public from rest word type name semicolon t e1 e2 e3)
field-found src is_public from _ rest _ (g.ruled a word type name colon semicolon t x e e1 e2 e3 e4 r) =
    field_at src is_public from k.KwState word _ _ e (ruled-found src is_public from a rest word type name colon semicolon t x e1 e2 e3 e4 r)
field-found src is_public from _ rest _ (g.effect word type name colon combinator semicolon t c e e1 e2 e3 e4 e5) =
    field_at src is_public from k.KwEffect word _ _ e (effect-found src is_public from rest word type name colon combinator semicolon t c e1 e2 e3 e4 e5)

-- a field is no method
no_void : (src : List ℕ) (is_public : Bool) (from : ℕ) (a rest : List Token) (x : MemberTree) → ReadsField src is_public from a x → d.public_by from (kind (at src (a ++ rest))) (at src (a ++ rest)) ≡ d.field true from (at src (a ++ rest))
unfolding kind first
no_void src is_public from _ rest _ (g.state word type name semicolon t e e1 e2 e3) = ap (λ (z : TokKind). d.public_by from (Some z) (at src (word ∷ type ∷ name ∷ semicolon ∷ rest))) e
no_void src is_public from _ rest _ (g.ruled a word type name colon semicolon t x e e1 e2 e3 e4 r) =
    ap (λ (z : TokKind). d.public_by from (Some z) (at src ((word ∷ type ∷ name ∷ colon ∷ a ++ semicolon ∷ []) ++ rest))) e
no_void src is_public from _ rest _ (g.effect word type name colon combinator semicolon t c e e1 e2 e3 e4 e5) =
    ap (λ (z : TokKind). d.public_by from (Some z) (at src (word ∷ type ∷ name ∷ colon ∷ combinator ∷ semicolon ∷ rest))) e

public-found : (src : List ℕ) (a rest : List Token) (word : Token) (x : MemberTree) → ReadsField src true word.from a x → d.public (at src (word ∷ (a ++ rest))) ≡ Ok (x, at src rest)
unfolding d.public place next first
public-found src a rest word x r = no_void src true word.from a rest x r ∙ field-found src true word.from a rest x r

private-found : (src : List ℕ) (a rest : List Token) (word : Token) (x : MemberTree) → ReadsField src false word.from a x → d.private (at src (word ∷ (a ++ rest))) ≡ Ok (x, at src rest)
unfolding d.private place next first
private-found src a rest word x r = field-found src false word.from a rest x r

run-found : (src : List ℕ) (a rest : List Token) (from : ℕ) (void run opening closing : Token) (xs : List StmtTree) → Is k.KwRun run → Is k.OpenParen opening → Is k.CloseParen closing → ReadsBlock src a xs
    → d.run from (at src (void ∷ run ∷ opening ∷ closing ∷ (a ++ rest))) ≡ Ok (v.Run xs from, at src rest)
unfolding d.run next
run-found src a rest from void run opening closing xs h h' h'' r =
    then_ _ _ _ _ _ (expects m.Run src run (opening ∷ closing ∷ (a ++ rest)) h)
    (then_ _ _ _ _ _ (expects m.OpenParen src opening (closing ∷ (a ++ rest)) h')
    (then_ _ _ _ _ _ (expects m.CloseParen src closing (a ++ rest) h'')
    (then_ _ _ _ _ _ (block-found src a rest xs r) refl)))

method-found : (src : List ℕ) (a rest : List Token) (word void run opening closing : Token) (xs : List StmtTree) → Is k.KwVoid void → Is k.KwRun run → Is k.OpenParen opening → Is k.CloseParen closing → ReadsBlock src a xs
    → d.public (at src (word ∷ void ∷ run ∷ opening ∷ closing ∷ (a ++ rest))) ≡ Ok (v.Run xs word.from, at src rest)
unfolding d.public kind place next first
method-found src a rest word void run opening closing xs e h h' h'' r =
    ap (λ (z : TokKind). d.public_by word.from (Some z) (at src (void ∷ run ∷ opening ∷ closing ∷ (a ++ rest)))) e ∙ run-found src a rest word.from void run opening closing xs h h' h'' r

die-found : (src : List ℕ) (a rest : List Token) (word when semicolon : Token) (x : ExprTree)
    → Is k.KwWhen when → Is k.Semicolon semicolon → ReadsExpr src g.choices a x
    → d.die (at src (word ∷ when ∷ ((a ++ semicolon ∷ []) ++ rest))) ≡ Ok (v.Die x word.from, at src rest)
unfolding d.die place next first
die-found src a rest word when semicolon x h h' r =
    then_ _ _ _ _ _ (expects m.When src when ((a ++ semicolon ∷ []) ++ rest) h)
    (then_ _ _ _ _ _ (ap (λ (z : List Token). d.expression (at src z)) (shut a semicolon rest)
    ∙ expression-found src a (semicolon ∷ rest) x (begins k.Semicolon semicolon rest 7 h' (omega arith)) r)
    (then_ _ _ _ _ _ (expects m.Semicolon src semicolon rest h') refl))

gift-found : (src : List ℕ) (a rest : List Token) (x : GiftTree) → ReadsGift src a x
    → d.gift (at src (a ++ rest)) ≡ Ok (x, at src rest)
unfolding d.gift
gift-found src _ rest _ (g.gift a name arrow semicolon x e e1 e2 r) =
    then_ _ _ _ _ _ (names src name (arrow ∷ ((a ++ semicolon ∷ []) ++ rest)) e)
    (then_ _ _ _ _ _ (assigned-found src a rest arrow semicolon x e1 e2 r) refl)

-- a gift begins with no mark
gift_starts : (src : List ℕ) (wanted : Mark) (a rest : List Token) (x : GiftTree) → ReadsGift src a x
    → sees wanted (at src (a ++ rest)) ≡ false
gift_starts src wanted _ rest _ (g.gift a name arrow semicolon x e e1 e2 r) = sees_no_mark wanted src name _ (ap mark_of e)

pub some_gift : (src : List ℕ) (a : List Token) (x : GiftTree) → ReadsGift src a x → 0 < length a
some_gift src _ _ (g.gift a name arrow semicolon x e e1 e2 r) = omega arith

gifts_from-found : (src : List ℕ) (n : ℕ) (found : List GiftTree) (b rest : List Token) (closing : Token) (xs : List GiftTree)
    → length b < n → Is k.CloseBrace closing → ReadsGifts src b xs
    → d.gifts_from n found (at src (b ++ closing ∷ rest)) ≡ Ok (found ++ xs, at src rest)
unfolding d.gifts_from
gifts_from-found src zero found b rest closing xs l h r = absurd (omega arith)
gifts_from-found src (suc n) found _ rest closing _ l h g.none =
    if_true _ _ _ _ _ _ (sees_it m.CloseBrace src closing rest h) (after_it m.CloseBrace src closing rest h)
    (ap (λ (z : List GiftTree). let r : Outcome (List GiftTree) = Ok (z, at src rest) in r) (sym (append-nil found)))
gifts_from-found src (suc n) found _ rest closing _ l h (g.more a b x xs r rs) =
    let cut : (a ++ b) ++ closing ∷ rest ≡ a ++ (b ++ closing ∷ rest) = append_assoc a b (closing ∷ rest) in
    let free : sees m.CloseBrace (at src ((a ++ b) ++ closing ∷ rest)) ≡ false =
    ap (λ (z : List Token). sees m.CloseBrace (at src z)) cut ∙ gift_starts src m.CloseBrace a (b ++ closing ∷ rest) x r in
    if_false _ _ _ _ _ _ free (not_eaten m.CloseBrace (at src ((a ++ b) ++ closing ∷ rest)) free ∙ ap (at src) cut)
    (then_ _ _ _ _ _ (gift-found src a (b ++ closing ∷ rest) x r)
    (gifts_from-found src n (found ++ x ∷ []) b rest closing xs (omega (arith, l, length-append a b, some_gift src a x r)) h rs
    ∙ ap (λ (z : List GiftTree). let r : Outcome (List GiftTree) = Ok (z, at src rest) in r) (append_assoc found (x ∷ []) xs)))

gifts-found : (src : List ℕ) (a rest : List Token) (closing : Token) (xs : List GiftTree) → Is k.CloseBrace closing
    → ReadsGifts src a xs → d.gifts (at src (a ++ closing ∷ rest)) ≡ Ok (xs, at src rest)
unfolding d.gifts
gifts-found src a rest closing xs h r =
    gifts_from-found src (length (a ++ closing ∷ rest)) [] a rest closing xs (omega (arith, length-append a (closing ∷ rest))) h r

spawn-found : (src : List ℕ) (a b rest : List Token) (word when opening closing : Token) (x : ExprTree) (xs : List GiftTree)
    → Is k.KwWhen when → Is k.OpenBrace opening → Is k.CloseBrace closing → ReadsExpr src g.choices a x → ReadsGifts src b xs
    → d.spawn (at src (word ∷ when ∷ ((a ++ opening ∷ b ++ closing ∷ []) ++ rest))) ≡ Ok (v.Spawn x xs word.from, at src rest)
unfolding d.spawn place next first
spawn-found src a b rest word when opening closing x xs h ho hc r rs =
    let cut : (a ++ opening ∷ b ++ closing ∷ []) ++ rest ≡ a ++ (opening ∷ (b ++ closing ∷ rest)) =
    append_assoc (a ++ opening ∷ b) (closing ∷ []) rest ∙ append_assoc a (opening ∷ b) (closing ∷ rest) in
    then_ _ _ _ _ _ (expects m.When src when ((a ++ opening ∷ b ++ closing ∷ []) ++ rest) h)
    (then_ _ _ _ _ _ (ap (λ (z : List Token). d.expression (at src z)) cut
    ∙ expression-found src a (opening ∷ (b ++ closing ∷ rest)) x (begins k.OpenBrace opening (b ++ closing ∷ rest) 7 ho (omega arith)) r)
    (then_ _ _ _ _ _ (expects m.OpenBrace src opening (b ++ closing ∷ rest) ho)
    (then_ _ _ _ _ _ (gifts-found src b rest closing xs hc rs) refl)))

member_at : (src : List ℕ) (what : TokKind) (tok : Token) (rest : List Token) (r : Outcome MemberTree) → Is what tok → d.member_by (Some what) (at src (tok ∷ rest)) ≡ r → d.member (at src (tok ∷ rest)) ≡ r
unfolding d.member kind first
member_at src what tok rest r h e = ap (λ (z : TokKind). d.member_by (Some z) (at src (tok ∷ rest))) h ∙ e

member-found : (src : List ℕ) (a rest : List Token) (x : MemberTree) → ReadsMember src a x → d.member (at src (a ++ rest)) ≡ Ok (x, at src rest)
member-found src _ rest _ (g.visible word opening range closing semicolon n e e1 e2 e3 e4) = member_at src k.Visible word _ _ e (visible-found src rest word opening range closing semicolon n e1 e2 e3 e4)
member-found src _ rest _ (g.reach word opening range closing semicolon n e e1 e2 e3 e4) = member_at src k.Reach word _ _ e (reach-found src rest word opening range closing semicolon n e1 e2 e3 e4)
member-found src _ rest _ (g.public a word x e r) = member_at src k.KwPublic word _ _ e (public-found src a rest word x r)
member-found src _ rest _ (g.private a word x e r) = member_at src k.KwPrivate word _ _ e (private-found src a rest word x r)
member-found src _ rest _ (g.run a word void run opening closing xs e e1 e2 e3 e4 r) = member_at src k.KwPublic word _ _ e (method-found src a rest word void run opening closing xs e1 e2 e3 e4 r)
member-found src _ rest _ (g.die a word when semicolon x e e1 e2 r) = member_at src k.KwDie word _ _ e (die-found src a rest word when semicolon x e1 e2 r)
member-found src _ rest _ (g.spawn a b word when opening closing x xs e e1 e2 e3 r rs) =
    member_at src k.KwSpawn word _ _ e (spawn-found src a b rest word when opening closing x xs e1 e2 e3 r rs)

-- a member begins with no mark
starts : (src : List ℕ) (wanted : Mark) (a rest : List Token) (x : MemberTree) → ReadsMember src a x → sees wanted (at src (a ++ rest)) ≡ false
starts src wanted _ rest _ (g.visible word opening range closing semicolon n e e1 e2 e3 e4) = sees_no_mark wanted src word _ (ap mark_of e)
starts src wanted _ rest _ (g.reach word opening range closing semicolon n e e1 e2 e3 e4) = sees_no_mark wanted src word _ (ap mark_of e)
starts src wanted _ rest _ (g.public a word x e r) = sees_no_mark wanted src word _ (ap mark_of e)
starts src wanted _ rest _ (g.private a word x e r) = sees_no_mark wanted src word _ (ap mark_of e)
starts src wanted _ rest _ (g.run a word void run opening closing xs e e1 e2 e3 e4 r) = sees_no_mark wanted src word _ (ap mark_of e)
starts src wanted _ rest _ (g.die a word when semicolon x e e1 e2 r) = sees_no_mark wanted src word _ (ap mark_of e)
starts src wanted _ rest _ (g.spawn a b word when opening closing x xs e e1 e2 e3 r rs) = sees_no_mark wanted src word _ (ap mark_of e)

pub some_tokens : (src : List ℕ) (a : List Token) (x : MemberTree) → ReadsMember src a x → 0 < length a
some_tokens src _ _ (g.visible word opening range closing semicolon n e e1 e2 e3 e4) = omega arith
some_tokens src _ _ _ = omega arith

members_from-found : (src : List ℕ) (n : ℕ) (found : List MemberTree) (b rest : List Token) (closing : Token) (xs : List MemberTree) → length b < n → Is k.CloseBrace closing → ReadsMembers src b xs
    → d.members_from n found (at src (b ++ closing ∷ rest)) ≡ Ok (found ++ xs, at src rest)
unfolding d.members_from
members_from-found src zero found b rest closing xs l h r = absurd (omega arith)
members_from-found src (suc n) found _ rest closing _ l h g.none =
    if_true _ _ _ _ _ _ (sees_it m.CloseBrace src closing rest h) (after_it m.CloseBrace src closing rest h)
    (ap (λ (z : List MemberTree). let r : Outcome (List MemberTree) = Ok (z, at src rest) in r) (sym (append-nil found)))
members_from-found src (suc n) found _ rest closing _ l h (g.more a b x xs r rs) =
    let cut : (a ++ b) ++ closing ∷ rest ≡ a ++ (b ++ closing ∷ rest) = append_assoc a b (closing ∷ rest) in
    let free : sees m.CloseBrace (at src ((a ++ b) ++ closing ∷ rest)) ≡ false = ap (λ (z : List Token). sees m.CloseBrace (at src z)) cut ∙ starts src m.CloseBrace a (b ++ closing ∷ rest) x r in
    if_false _ _ _ _ _ _ free (not_eaten m.CloseBrace (at src ((a ++ b) ++ closing ∷ rest)) free ∙ ap (at src) cut)
    (then_ _ _ _ _ _ (member-found src a (b ++ closing ∷ rest) x r)
    (members_from-found src n (found ++ x ∷ []) b rest closing xs (omega (arith, l, length-append a b, some_tokens src a x r)) h rs
    ∙ ap (λ (z : List MemberTree). let r : Outcome (List MemberTree) = Ok (z, at src rest) in r) (append_assoc found (x ∷ []) xs)))

members-found : (src : List ℕ) (a rest : List Token) (closing : Token) (xs : List MemberTree) → Is k.CloseBrace closing → ReadsMembers src a xs → d.members (at src ((a ++ closing ∷ []) ++ rest)) ≡ Ok (xs, at src rest)
unfolding d.members
members-found src a rest closing xs h r =
    ap (λ (z : List Token). d.members_from (length z) [] (at src z)) (shut a closing rest)
    ∙ members_from-found src (length (a ++ closing ∷ rest)) [] a rest closing xs (omega (arith, length-append a (closing ∷ rest))) h r

class-found : (src : List ℕ) (a rest : List Token) (x : ClassTree) → ReadsClass src a x → d.class (at src (a ++ rest)) ≡ Ok (x, at src rest)
unfolding d.class
class-found src _ rest _ (g.class a word name opening closing members e e1 e2 e3 r) =
    let left : List Token = (a ++ closing ∷ []) ++ rest in
    then_ _ _ _ _ _ (expects m.Class src word (name ∷ opening ∷ left) e)
    (then_ _ _ _ _ _ (names src name (opening ∷ left) e1)
    (then_ _ _ _ _ _ (expects m.OpenBrace src opening left e2)
    (then_ _ _ _ _ _ (members-found src a rest closing members e3 r) refl)))

pub some_class : (src : List ℕ) (a : List Token) (x : ClassTree) → ReadsClass src a x → 0 < length a
some_class src _ _ (g.class a word name opening closing members e e1 e2 e3 r) = omega arith

some_classes : (src : List ℕ) (a : List Token) (xs : List ClassTree) → ReadsClasses src a xs → 0 < length a
some_classes src _ _ (g.last a x r) = some_class src a x r
some_classes src _ _ (g.more a b x xs r rs) = omega (arith, length-append a b, some_class src a x r)

goes_on : (b : List Token) → 0 < length b → nat_eq (length b) 0 ≡ false
goes_on b l = grind (arith, nat_tests)

classes_from-found : (src : List ℕ) (n : ℕ) (found : List ClassTree) (a : List Token) (xs : List ClassTree) → length a ≤ n → ReadsClasses src a xs → d.classes_from n found (at src a) ≡ Ok (found ++ xs, at src [])
unfolding d.classes_from
classes_from-found src zero found a xs l r = absurd (omega (arith, l, some_classes src a xs r))
classes_from-found src (suc n) found _ _ l (g.last a x r) = then_ _ _ _ _ _ (ap (λ (z : List Token). d.class (at src z)) (sym (append-nil a)) ∙ class-found src a [] x r) refl
classes_from-found src (suc n) found _ _ l (g.more a b x xs r rs) =
    then_ _ _ _ _ _ (class-found src a b x r)
    (if_false _ _ _ _ _ _ (goes_on b (some_classes src b xs rs)) refl
    (classes_from-found src n (found ++ x ∷ []) b xs (omega (arith, l, length-append a b, some_class src a x r)) rs
    ∙ ap (λ (z : List ClassTree). let r : Outcome (List ClassTree) = Ok (z, at src []) in r) (append_assoc found (x ∷ []) xs)))

-- the script that the grammar reads is the one that the parser computes
pub script-found : (src : List ℕ) (toks : List Token) (tree : Tree) → Reads src toks tree → d.script (at src toks) ≡ Ok (tree, at src [])
unfolding d.script
script-found src toks tree r = then_ _ _ _ _ _ (classes_from-found src (length toks) [] toks tree.classes (omega arith) r) refl

-- tokens are at most one script
pub one_tree : (src : List ℕ) (toks : List Token) (a b : Tree) → Reads src toks a → Reads src toks b → a ≡ b
one_tree src toks a b r r' = same_value _ _ _ _ (sym (script-found src toks a r) ∙ script-found src toks b r')

-- tokens at which the parser stops are no script
pub no_script : (src : List ℕ) (toks : List Token) (i : Input) (e : Stop) (at_ : ℕ) → e ≡ stop.NoReading at_ → i.src ≡ src → i.rest ≡ toks → (e ≢ stop.NoMemory → d.script i ≡ Err e) → (tree : Tree) → Reads src toks tree → ⊥
no_script src toks i e at_ q s r h tree reads =
    let stopped : d.script i ≡ Err e = h (λ (n : e ≡ stop.NoMemory). cc) in
    let here : Reads i.src i.rest tree = subst (λ (z : List ℕ). Reads z i.rest tree) (sym s) (subst (λ (z : List Token). Reads src z tree) (sym r) reads) in
    no_fault _ _ (sym stopped ∙ script-found i.src i.rest tree here)
