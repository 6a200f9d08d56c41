-- The row of a script is read back as that script, apart from places.
use Rattle.std.proofs.Common.{◌≡◌, refl, sym, ap, ◌∙◌, subst, ℕ, ◌+◌, nat_le, List, [], ◌∷◌, ◌++◌, length, map, flat_map, Bool, true, false, ◌&&◌, append_assoc, Option, Some, None, codes}
use Rattle.std.specs.List.{list_all}
use Rattle.std.proofs.lemmas.List.{append-nil}
use Rattle.std.proofs.lemmas.Bool.{and_parts}
use Rattle.brace_num.specs.Names.{is_name}
use Rattle.brace_tok.specs.Tables.{reserved, directive, symbol}
use Rattle.brace_tok.specs.Pieces.{blank, word, hash, sign}
use Rattle.brace_tok.specs.Roles.{role_at, token}
use Rattle.brace_tok.specs.Spells.{text_of, tokens_from}
use Rattle.brace_tok.specs.declared.kinds.Token.{Token}
use Rattle.brace_tok.specs.declared.kinds.TokKind.{TokKind}
use Rattle.brace_tok.specs.declared.kinds.TokKind.TheVariants as k
use Rattle.brace_syntax.specs.Tables.{Is, ident, number, type_name, combines}
use Rattle.brace_syntax.specs.Reads as g
use Rattle.brace_syntax.specs.Reads.{ReadsField, ReadsGift, ReadsGifts, ReadsMember, ReadsMembers, ReadsClass, ReadsClasses, Reads}
use Rattle.brace_syntax.specs.declared.tree.Ident.{Ident}
use Rattle.brace_syntax.specs.declared.tree.Number.{Number}
use Rattle.brace_syntax.specs.declared.tree.Digits.{Digits}
use Rattle.brace_syntax.specs.declared.tree.TyName.{TyName}
use Rattle.brace_syntax.specs.declared.tree.CombName.{CombName}
use Rattle.brace_syntax.specs.declared.tree.CombName.TheVariants as comb
use Rattle.brace_syntax.specs.declared.tree.ExprTree.{ExprTree}
use Rattle.brace_syntax.specs.declared.tree.StmtTree.{StmtTree}
use Rattle.brace_syntax.specs.declared.tree.GiftTree.{GiftTree}
use Rattle.brace_syntax.specs.declared.tree.MemberTree.{MemberTree}
use Rattle.brace_syntax.specs.declared.tree.MemberTree.TheVariants as m
use Rattle.brace_syntax.specs.declared.tree.ClassTree.{ClassTree}
use Rattle.brace_syntax.specs.declared.tree.Tree.{Tree}
use Rattle.brace_show.specs.Canonical.{type_text, combinator, sharing}
use Rattle.brace_show.specs.Alike.{ident_at_0, number_at_0, type_at_0, expr_at_0, stmt_at_0, gift_at_0, member_at_0, class_at_0, Alike}
use Rattle.brace_show.proofs.Rows.{Row, space, mark, letters, literal_row, expression_row, line_row, type_row, combinator_row, block_row, closing_row, sharing_row, rule_row, range_row, statement_row, gift_row, die_row, spawn_row, member_row, class_row, script_row}
use Rattle.brace_show.proofs.Sound.{digits_are, type_is, expr_sound, gift_sound, member_sound, class_sound, script_sound}
use Rattle.brace_show.proofs.Laid.{Laid, split, say, past, laid_as, past_line, on_line, done}
use Rattle.brace_show.proofs.ExprReads.{expression_reads, say_name, say_number}
use Rattle.brace_show.proofs.StmtReads.{value_then, type_word, say_type, block_reads}

abbrev FoundGift : List ℕ → GiftTree → List Token → Type 0
FoundGift src v toks = (x : GiftTree) × ReadsGift src toks x × (v ≡ gift_at_0 x)

abbrev FoundGifts : List ℕ → List GiftTree → List Token → Type 0
FoundGifts src vs toks = (xs : List GiftTree) × ReadsGifts src toks xs × (vs ≡ map gift_at_0 xs)

abbrev FoundMember : List ℕ → MemberTree → List Token → Type 0
FoundMember src v toks = (x : MemberTree) × ReadsMember src toks x × (v ≡ member_at_0 x)

abbrev FoundMembers : List ℕ → List MemberTree → List Token → Type 0
FoundMembers src vs toks = (xs : List MemberTree) × ReadsMembers src toks xs × (vs ≡ map member_at_0 xs)

abbrev FoundClass : List ℕ → ClassTree → List Token → Type 0
FoundClass src v toks = (x : ClassTree) × ReadsClass src toks x × (v ≡ class_at_0 x)

abbrev FoundClasses : List ℕ → List ClassTree → List Token → Type 0
FoundClasses src vs toks = (xs : List ClassTree) × ReadsClasses src toks xs × (vs ≡ map class_at_0 xs)

-- the end of a line behind a semicolon
ends : (C : List Token → Type 0) (src : List ℕ) (toks : List Token) → Laid src (sign (codes ";") ∷ blank 10 ∷ []) toks → ((semicolon : Token) → Is k.Semicolon semicolon → C (semicolon ∷ [])) → C toks
unfolding symbol
ends C src toks l f = say C k.Semicolon src (sign (codes ";")) (blank 10 ∷ []) toks (λ from. refl) l (λ semicolon t1 hs _ l1. done (λ z. C (semicolon ∷ z)) src t1 (past src 10 [] t1 l1) (f semicolon hs))

-- the range behind a directive
range_then : (C : List Token → Type 0) (d : Digits) → digits_are d ≡ true → (src : List ℕ) (toks : List Token)
    → Laid src (sign (codes "[") ∷ (((literal_row d ++ mark (codes "]")) ++ mark (codes ";")) ++ (blank 10 ∷ []))) toks
    → ((opening range closing semicolon : Token) → Is k.OpenBracket opening → number range ≡ Some (record { digits = d; at = range.from }) → Is k.CloseBracket closing → Is k.Semicolon semicolon
    → C (opening ∷ range ∷ closing ∷ semicolon ∷ [])) → C toks
unfolding symbol
range_then C d h src toks l f =
    let cut : ((literal_row d ++ mark (codes "]")) ++ mark (codes ";")) ++ (blank 10 ∷ []) ≡ literal_row d ++ (sign (codes "]") ∷ sign (codes ";") ∷ blank 10 ∷ []) =
    append_assoc (literal_row d ++ mark (codes "]")) (mark (codes ";")) (blank 10 ∷ []) ∙ append_assoc (literal_row d) (mark (codes "]")) (sign (codes ";") ∷ blank 10 ∷ []) in
    say C k.OpenBracket src (sign (codes "[")) _ toks (λ from. refl) l (λ opening t1 ho _ l1.
    say_number (λ z. C (opening ∷ z)) src d (sign (codes "]") ∷ sign (codes ";") ∷ blank 10 ∷ []) t1 h (laid_as src _ _ t1 cut l1) (λ range t2 hn l2.
    say (λ z. C (opening ∷ range ∷ z)) k.CloseBracket src (sign (codes "]")) _ t2 (λ from. refl) l2 (λ closing t3 hc _ l3.
    ends (λ z. C (opening ∷ range ∷ closing ∷ z)) src t3 l3 (λ semicolon hs. f opening range closing semicolon ho hn hc hs))))

-- the words of fields
sharing_word : (b : Bool) → sharing_row b ≡ letters (sharing b)
sharing_word true = refl
sharing_word false = refl

abbrev sharing_kind : Bool → TokKind
sharing_kind true = k.KwPublic
sharing_kind false = k.KwPrivate

sharing_role : (b : Bool) (from : ℕ) → role_at from (word (sharing b)) ≡ token (sharing_kind b)
unfolding reserved
sharing_role true from = refl
sharing_role false from = refl

member_of : (src : List ℕ) (b : Bool) (tok : Token) (a : List Token) (x : MemberTree) → Is (sharing_kind b) tok → ReadsField src b tok.from a x → ReadsMember src (tok ∷ a) x
member_of src true tok a x h r = g.public a tok x h r
member_of src false tok a x h r = g.private a tok x h r

combinator_word : (c : CombName) → combinator_row c ≡ letters (combinator c)
combinator_word comb.Sum = refl
combinator_word _ = refl

abbrev combinator_kind : CombName → TokKind
combinator_kind comb.Sum = k.KwSum
combinator_kind comb.Min = k.KwMin
combinator_kind comb.Max = k.KwMax
combinator_kind comb.Count = k.KwCount
combinator_kind comb.Or = k.KwOr

combinator_says : (c : CombName) (from : ℕ) → role_at from (word (combinator c)) ≡ token (combinator_kind c)
unfolding reserved
combinator_says comb.Sum from = refl
combinator_says _ from = refl

combines_it : (c : CombName) → combines (combinator_kind c) ≡ Some c
combines_it comb.Sum = refl
combines_it _ = refl

-- `public state T n`, with what stands behind it
state_then : (C : List Token → Type 0) (shared : Bool) (t : TyName) (name : Ident) → type_is t ≡ true → is_name name.text ≡ true → (rest : Row) (src : List ℕ) (toks : List Token)
    → Laid src (word (sharing shared) ∷ blank 32 ∷ word (codes "state") ∷ blank 32 ∷ word (type_text t) ∷ blank 32 ∷ word name.text ∷ rest) toks
    → ((share state type tok : Token) (ts : List Token) (u : TyName) → Is (sharing_kind shared) share → Is k.KwState state → type_name src type ≡ Some u → type_at_0 t ≡ type_at_0 u
    → Is k.Word tok → ident_at_0 name ≡ ident_at_0 (ident src tok) → Laid src rest ts → C (share ∷ state ∷ type ∷ tok ∷ ts)) → C toks
unfolding reserved
state_then C shared t name ht hn rest src toks l f =
    say C (sharing_kind shared) src (word (sharing shared)) _ toks (sharing_role shared) l (λ share t1 h1 _ l1.
    say (λ z. C (share ∷ z)) k.KwState src (word (codes "state")) _ t1 (λ from. refl) (past src 32 _ t1 l1) (λ state t2 h2 _ l2.
    say_type (λ z. C (share ∷ state ∷ z)) src t _ t2 ht (past src 32 _ t2 l2) (λ type t3 u hu same_type l3.
    say_name (λ z. C (share ∷ state ∷ type ∷ z)) src name rest t3 hn (past src 32 _ t3 l3) (λ tok ts is same l4.
    f share state type tok ts u h1 h2 hu same_type is same l4))))

abbrev state_row : Row → Row → Ident → Option ExprTree → Row
state_row share type name x = share ++ space ++ letters (codes "state") ++ space ++ type ++ space ++ letters name.text ++ rule_row x ++ mark (codes ";")

abbrev effect_row : Row → Row → Ident → Row → Row
effect_row share type name c = share ++ space ++ letters (codes "effect") ++ space ++ type ++ space ++ letters name.text ++ space ++ mark (codes ":") ++ space ++ c ++ mark (codes ";")

abbrev run_row : Row
run_row = letters (codes "public") ++ space ++ letters (codes "void") ++ space ++ letters (codes "run") ++ mark (codes "(") ++ mark (codes ")") ++ space ++ mark (codes "{")

gift_good : (x : GiftTree) → gift_sound x ≡ true → (margin : ℕ) (src : List ℕ) (toks : List Token) → Laid src (gift_row margin x) toks → FoundGift src (gift_at_0 x) toks
unfolding symbol
gift_good x h margin src toks l =
    let C : List Token → Type 0 = FoundGift src (gift_at_0 x) in
    let given : Ident → ExprTree → GiftTree = λ name value. record { state = name; value = value } in
    say_name C src x.state _ toks ((and_parts (is_name x.state.text) (expr_sound x.value) h).0) (on_line src margin _ toks l) (λ tok t1 is same l1.
    say (λ z. C (tok ∷ z)) k.Arrow src (sign (codes "<-")) _ t1 (λ from. refl) (past src 32 _ t1 l1) (λ arrow t2 ha _ l2.
    value_then (λ z. C (tok ∷ arrow ∷ z)) x.value ((and_parts (is_name x.state.text) (expr_sound x.value) h).1) src t2 (past src 32 _ t2 l2) (λ a semicolon found hs.
    let i : Ident = ident src tok in (
      given i found.0,
      g.gift a tok arrow semicolon found.0 is ha hs found.1,
      ap (λ (z : Ident). given z (expr_at_0 x.value)) same ∙ ap (λ (z : ExprTree). given (ident_at_0 i) z) found.2,
    ))))

gifts_good : (xs : List GiftTree) → list_all gift_sound xs ≡ true → (margin : ℕ) (src : List ℕ) (toks : List Token) → Laid src (flat_map (gift_row margin) xs) toks → FoundGifts src (map gift_at_0 xs) toks
gifts_good [] h margin src toks l = done (FoundGifts src []) src toks l ([], g.none, refl)
gifts_good (x ∷ xs) h margin src toks l =
    split (FoundGifts src (map gift_at_0 (x ∷ xs))) src (gift_row margin x) (flat_map (gift_row margin) xs) toks l (λ a b la lb.
    let y = gift_good x ((and_parts (gift_sound x) (list_all gift_sound xs) h).0) margin src a la in
    let ys = gifts_good xs ((and_parts (gift_sound x) (list_all gift_sound xs) h).1) margin src b lb in
    (y.0 ∷ ys.0, g.more a b y.0 ys.0 y.1 ys.1, ap (λ z. z ∷ map gift_at_0 xs) y.2 ∙ ap (λ z. gift_at_0 y.0 ∷ z) ys.2))

die_good : (x : ExprTree) → expr_sound x ≡ true → (margin : ℕ) (src : List ℕ) (toks : List Token) → Laid src (line_row margin (die_row x)) toks → FoundMember src (m.Die (expr_at_0 x) 0) toks
unfolding symbol reserved
die_good x h margin src toks l =
    let C : List Token → Type 0 = FoundMember src (m.Die (expr_at_0 x) 0) in
    say C k.KwDie src (word (codes "die")) _ toks (λ from. refl) (on_line src margin (die_row x) toks l) (λ w t1 h1 _ l1.
    say (λ z. C (w ∷ z)) k.KwWhen src (word (codes "when")) _ t1 (λ from. refl) (past src 32 _ t1 l1) (λ when t2 h2 _ l2.
    value_then (λ z. C (w ∷ when ∷ z)) x h src t2 (past src 32 _ t2 l2) (λ a semicolon found hs.
    (m.Die found.0 w.from, g.die a w when semicolon found.0 h1 h2 hs found.1, ap (λ (z : ExprTree). m.Die z 0) found.2))))

-- the gifts up to their closing brace
gifts_then : (C : List Token → Type 0) (gifts : List GiftTree) → list_all gift_sound gifts ≡ true → (margin : ℕ) (src : List ℕ) (toks : List Token)
    → Laid src (flat_map (gift_row (margin + 2)) gifts ++ closing_row margin) toks
    → ((b : List Token) (closing : Token) → FoundGifts src (map gift_at_0 gifts) b → Is k.CloseBrace closing → C (b ++ closing ∷ [])) → C toks
unfolding symbol
gifts_then C gifts h margin src toks l f =
    split C src (flat_map (gift_row (margin + 2)) gifts) (closing_row margin) toks l (λ b t1 lb l1.
    say (λ z. C (b ++ z)) k.CloseBrace src (sign (codes "}")) (blank 10 ∷ []) t1 (λ from. refl) (on_line src margin (mark (codes "}")) t1 l1) (λ closing t2 hc _ l2.
    done (λ z. C (b ++ closing ∷ z)) src t2 (past src 10 [] t2 l2) (f b closing (gifts_good gifts h (margin + 2) src b lb) hc)))

spawn_good : (x : ExprTree) (gifts : List GiftTree) → expr_sound x ≡ true → list_all gift_sound gifts ≡ true → (margin : ℕ) (src : List ℕ) (toks : List Token)
    → Laid src (line_row margin (spawn_row x) ++ flat_map (gift_row (margin + 2)) gifts ++ closing_row margin) toks
    → FoundMember src (m.Spawn (expr_at_0 x) (map gift_at_0 gifts) 0) toks
unfolding symbol reserved
spawn_good x gifts hx hg margin src toks l =
    let C : List Token → Type 0 = FoundMember src (m.Spawn (expr_at_0 x) (map gift_at_0 gifts) 0) in
    let inner : Row = flat_map (gift_row (margin + 2)) gifts in
    let rest : Row = inner ++ closing_row margin in
    let cut : (line_row margin (spawn_row x) ++ inner) ++ closing_row margin ≡ line_row margin (spawn_row x) ++ rest = append_assoc (line_row margin (spawn_row x)) inner (closing_row margin) in
    let value_cut : ((expression_row x ++ space) ++ mark (codes "{")) ++ (blank 10 ∷ rest) ≡ expression_row x ++ (blank 32 ∷ sign (codes "{") ∷ blank 10 ∷ rest) =
    append_assoc (expression_row x ++ space) (mark (codes "{")) (blank 10 ∷ rest) ∙ append_assoc (expression_row x) space (sign (codes "{") ∷ blank 10 ∷ rest) in
    say C k.KwSpawn src (word (codes "spawn")) _ toks (λ from. refl) (past_line src margin (spawn_row x) rest toks (laid_as src _ _ toks cut l)) (λ w t1 h1 _ l1.
    say (λ z. C (w ∷ z)) k.KwWhen src (word (codes "when")) _ t1 (λ from. refl) (past src 32 _ t1 l1) (λ when t2 h2 _ l2.
    split (λ z. C (w ∷ when ∷ z)) src (expression_row x) (blank 32 ∷ sign (codes "{") ∷ blank 10 ∷ rest) t2 (laid_as src _ _ t2 value_cut (past src 32 _ t2 l2)) (λ a t3 la l3.
    say (λ z. C (w ∷ when ∷ (a ++ z))) k.OpenBrace src (sign (codes "{")) _ t3 (λ from. refl) (past src 32 _ t3 l3) (λ opening t4 h3 _ l4.
    gifts_then (λ z. C (w ∷ when ∷ (a ++ opening ∷ z))) gifts hg margin src t4 (past src 10 _ t4 l4) (λ b closing given h4.
    let found = expression_reads x hx src a la in
    subst (λ z. C (w ∷ when ∷ z)) (append_assoc a (opening ∷ b) (closing ∷ [])) (
      m.Spawn found.0 given.0 w.from,
      g.spawn a b w when opening closing found.0 given.0 h1 h2 h3 h4 found.1 given.1,
      ap (λ (z : ExprTree). m.Spawn z (map gift_at_0 gifts) 0) found.2 ∙ ap (λ (z : List GiftTree). m.Spawn (expr_at_0 found.0) z 0) given.2,
    ))))))

member_good : (x : MemberTree) → member_sound x ≡ true → (margin : ℕ) (src : List ℕ) (toks : List Token) → Laid src (member_row margin x) toks → FoundMember src (member_at_0 x) toks
unfolding symbol reserved directive
member_good (m.Visible n at) h margin src toks l =
    let C : List Token → Type 0 = FoundMember src (m.Visible (number_at_0 n) 0) in
    say C k.Visible src (hash (codes "visible")) _ toks (λ from. refl) (on_line src margin (range_row (codes "visible") n.digits) toks l) (λ w t1 hw _ l1.
    range_then (λ z. C (w ∷ z)) n.digits h src t1 l1 (λ opening range closing semicolon ho hn hc hs.
    let i : Number = record { digits = n.digits; at = range.from } in
    (m.Visible i w.from, g.visible w opening range closing semicolon i hw ho hn hc hs, refl)))
member_good (m.Reach n at) h margin src toks l =
    let C : List Token → Type 0 = FoundMember src (m.Reach (number_at_0 n) 0) in
    say C k.Reach src (hash (codes "reach")) _ toks (λ from. refl) (on_line src margin (range_row (codes "reach") n.digits) toks l) (λ w t1 hw _ l1.
    range_then (λ z. C (w ∷ z)) n.digits h src t1 l1 (λ opening range closing semicolon ho hn hc hs.
    let i : Number = record { digits = n.digits; at = range.from } in
    (m.Reach i w.from, g.reach w opening range closing semicolon i hw ho hn hc hs, refl)))
member_good (m.State shared t name None at) h margin src toks l =
    let h' : (type_is t && is_name name.text) ≡ true = (and_parts (type_is t && is_name name.text) true h).0 in
    let C : List Token → Type 0 = FoundMember src (m.State shared (type_at_0 t) (ident_at_0 name) None 0) in
    let here : Laid src (line_row margin (state_row (letters (sharing shared)) (letters (type_text t)) name None)) toks =
    laid_as src _ _ toks (ap (λ z. line_row margin (state_row z (type_row t) name None)) (sharing_word shared) ∙ ap (λ z. line_row margin (state_row (letters (sharing shared)) z name None)) (type_word t)) l in
    state_then C shared t name ((and_parts (type_is t) (is_name name.text) h').0) ((and_parts (type_is t) (is_name name.text) h').1) (sign (codes ";") ∷ blank 10 ∷ []) src toks
    (on_line src margin (state_row (letters (sharing shared)) (letters (type_text t)) name None) toks here) (λ share state type tok ts u h1 h2 hu same_type is same l1.
    ends (λ z. C (share ∷ state ∷ type ∷ tok ∷ z)) src ts l1 (λ semicolon hs.
    let i : Ident = ident src tok in (
      m.State shared u i None share.from,
      member_of src shared share _ _ h1 (g.state state type tok semicolon u h2 hu is hs),
      ap (λ (z : TyName). m.State shared z (ident_at_0 name) None 0) same_type ∙ ap (λ (z : Ident). m.State shared (type_at_0 u) z None 0) same,
    )))
member_good (m.State shared t name (Some x) at) h margin src toks l =
    let h' : (type_is t && is_name name.text) ≡ true = (and_parts (type_is t && is_name name.text) (expr_sound x) h).0 in
    let C : List Token → Type 0 = FoundMember src (m.State shared (type_at_0 t) (ident_at_0 name) (Some (expr_at_0 x)) 0) in
    let here : Laid src (line_row margin (state_row (letters (sharing shared)) (letters (type_text t)) name (Some x))) toks =
    laid_as src _ _ toks (ap (λ z. line_row margin (state_row z (type_row t) name (Some x))) (sharing_word shared) ∙ ap (λ z. line_row margin (state_row (letters (sharing shared)) z name (Some x))) (type_word t)) l in
    state_then C shared t name ((and_parts (type_is t) (is_name name.text) h').0) ((and_parts (type_is t) (is_name name.text) h').1)
    (blank 32 ∷ sign (codes ":") ∷ blank 32 ∷ ((expression_row x ++ mark (codes ";")) ++ (blank 10 ∷ []))) src toks
    (on_line src margin (state_row (letters (sharing shared)) (letters (type_text t)) name (Some x)) toks here) (λ share state type tok ts u h1 h2 hu same_type is same l1.
    say (λ z. C (share ∷ state ∷ type ∷ tok ∷ z)) k.Colon src (sign (codes ":")) _ ts (λ from. refl) (past src 32 _ ts l1) (λ colon t2 hc _ l2.
    value_then (λ z. C (share ∷ state ∷ type ∷ tok ∷ colon ∷ z)) x ((and_parts (type_is t && is_name name.text) (expr_sound x) h).1) src t2 (past src 32 _ t2 l2) (λ a semicolon found hs.
    let i : Ident = ident src tok in (
      m.State shared u i (Some found.0) share.from,
      member_of src shared share _ _ h1 (g.ruled a state type tok colon semicolon u found.0 h2 hu is hc hs found.1),
      ap (λ (z : TyName). m.State shared z (ident_at_0 name) (Some (expr_at_0 x)) 0) same_type ∙ (ap (λ (z : Ident). m.State shared (type_at_0 u) z (Some (expr_at_0 x)) 0) same
          ∙ ap (λ (z : ExprTree). m.State shared (type_at_0 u) (ident_at_0 i) (Some z) 0) found.2),
    ))))
member_good (m.Effect shared t name c at) h margin src toks l =
    let C : List Token → Type 0 = FoundMember src (m.Effect shared (type_at_0 t) (ident_at_0 name) c 0) in
    let row : Row = effect_row (letters (sharing shared)) (letters (type_text t)) name (letters (combinator c)) in
    let here : Laid src (line_row margin row) toks =
    laid_as src _ _ toks (ap (λ z. line_row margin (effect_row z (type_row t) name (combinator_row c))) (sharing_word shared)
    ∙ (ap (λ z. line_row margin (effect_row (letters (sharing shared)) z name (combinator_row c))) (type_word t) ∙ ap (λ z. line_row margin (effect_row (letters (sharing shared)) (letters (type_text t)) name z)) (combinator_word c))) l in
    say C (sharing_kind shared) src (word (sharing shared)) _ toks (sharing_role shared) (on_line src margin row toks here) (λ share t1 h1 _ l1.
    say (λ z. C (share ∷ z)) k.KwEffect src (word (codes "effect")) _ t1 (λ from. refl) (past src 32 _ t1 l1) (λ effect t2 h2 _ l2.
    say_type (λ z. C (share ∷ effect ∷ z)) src t _ t2 ((and_parts (type_is t) (is_name name.text) h).0) (past src 32 _ t2 l2) (λ type t3 u hu same_type l3.
    say_name (λ z. C (share ∷ effect ∷ type ∷ z)) src name _ t3 ((and_parts (type_is t) (is_name name.text) h).1) (past src 32 _ t3 l3) (λ tok t4 is same l4.
    say (λ z. C (share ∷ effect ∷ type ∷ tok ∷ z)) k.Colon src (sign (codes ":")) _ t4 (λ from. refl) (past src 32 _ t4 l4) (λ colon t5 h5 _ l5.
    say (λ z. C (share ∷ effect ∷ type ∷ tok ∷ colon ∷ z)) (combinator_kind c) src (word (combinator c)) _ t5 (combinator_says c) (past src 32 _ t5 l5) (λ joins t6 h6 _ l6.
    ends (λ z. C (share ∷ effect ∷ type ∷ tok ∷ colon ∷ joins ∷ z)) src t6 l6 (λ semicolon hs.
    let i : Ident = ident src tok in (
      m.Effect shared u i c share.from,
      member_of src shared share _ _ h1 (g.effect effect type tok colon joins semicolon u c h2 hu is h5 (ap combines h6 ∙ combines_it c) hs),
      ap (λ (z : TyName). m.Effect shared z (ident_at_0 name) c 0) same_type ∙ ap (λ (z : Ident). m.Effect shared (type_at_0 u) z c 0) same,
    ))))))))
member_good (m.Run xs at) h margin src toks l =
    let C : List Token → Type 0 = FoundMember src (m.Run (map stmt_at_0 xs) 0) in
    let inner : Row = block_row (map statement_row xs) margin in
    let cut : (line_row margin run_row ++ inner) ++ closing_row margin ≡ line_row margin run_row ++ (inner ++ closing_row margin) = append_assoc (line_row margin run_row) inner (closing_row margin) in
    say C k.KwPublic src (word (codes "public")) _ toks (λ from. refl) (past_line src margin run_row (inner ++ closing_row margin) toks (laid_as src _ _ toks cut l)) (λ w t1 h1 _ l1.
    say (λ z. C (w ∷ z)) k.KwVoid src (word (codes "void")) _ t1 (λ from. refl) (past src 32 _ t1 l1) (λ void t2 h2 _ l2.
    say (λ z. C (w ∷ void ∷ z)) k.KwRun src (word (codes "run")) _ t2 (λ from. refl) (past src 32 _ t2 l2) (λ run t3 h3 _ l3.
    say (λ z. C (w ∷ void ∷ run ∷ z)) k.OpenParen src (sign (codes "(")) _ t3 (λ from. refl) l3 (λ opening t4 h4 _ l4.
    say (λ z. C (w ∷ void ∷ run ∷ opening ∷ z)) k.CloseParen src (sign (codes ")")) _ t4 (λ from. refl) l4 (λ closing a h5 _ l5.
    let ys = block_reads xs h margin src a (past src 32 _ a l5) in
    (m.Run ys.0 w.from, g.run a w void run opening closing ys.0 h1 h2 h3 h4 h5 ys.1, ap (λ (z : List StmtTree). m.Run z 0) ys.2))))))
member_good (m.Die x at) h margin src toks l = die_good x h margin src toks l
member_good (m.Spawn x gifts at) h margin src toks l =
    spawn_good x gifts ((and_parts (expr_sound x) (list_all gift_sound gifts) h).0) ((and_parts (expr_sound x) (list_all gift_sound gifts) h).1) margin src toks l

members_good : (xs : List MemberTree) → list_all member_sound xs ≡ true → (margin : ℕ) (src : List ℕ) (toks : List Token) → Laid src (flat_map (member_row margin) xs) toks → FoundMembers src (map member_at_0 xs) toks
members_good [] h margin src toks l = done (FoundMembers src []) src toks l ([], g.none, refl)
members_good (x ∷ xs) h margin src toks l =
    split (FoundMembers src (map member_at_0 (x ∷ xs))) src (member_row margin x) (flat_map (member_row margin) xs) toks l (λ a b la lb.
    let y = member_good x ((and_parts (member_sound x) (list_all member_sound xs) h).0) margin src a la in
    let ys = members_good xs ((and_parts (member_sound x) (list_all member_sound xs) h).1) margin src b lb in
    (y.0 ∷ ys.0, g.more a b y.0 ys.0 y.1 ys.1, ap (λ z. z ∷ map member_at_0 xs) y.2 ∙ ap (λ z. member_at_0 y.0 ∷ z) ys.2))

class_good : (x : ClassTree) → class_sound x ≡ true → (src : List ℕ) (toks : List Token) → Laid src (class_row x) toks → FoundClass src (class_at_0 x) toks
unfolding symbol reserved
class_good x h src toks l =
    let C : List Token → Type 0 = FoundClass src (class_at_0 x) in
    let inner : Row = flat_map (member_row 2) x.members in
    say C k.KwClass src (word (codes "class")) _ toks (λ from. refl) l (λ w t1 h1 _ l1.
    say_name (λ z. C (w ∷ z)) src x.name _ t1 ((and_parts (is_name x.name.text) (list_all member_sound x.members) h).0) (past src 32 _ t1 l1) (λ tok t2 is same l2.
    say (λ z. C (w ∷ tok ∷ z)) k.OpenBrace src (sign (codes "{")) _ t2 (λ from. refl) (past src 32 _ t2 l2) (λ opening t3 h3 _ l3.
    split (λ z. C (w ∷ tok ∷ opening ∷ z)) src inner (closing_row 0) t3 (past src 10 _ t3 l3) (λ a t4 la l4.
    say (λ z. C (w ∷ tok ∷ opening ∷ (a ++ z))) k.CloseBrace src (sign (codes "}")) (blank 10 ∷ []) t4 (λ from. refl) l4 (λ closing t5 h5 _ l5.
    done (λ z. C (w ∷ tok ∷ opening ∷ (a ++ closing ∷ z))) src t5 (past src 10 [] t5 l5)
    (let ys = members_good x.members ((and_parts (is_name x.name.text) (list_all member_sound x.members) h).1) 2 src a la in
    let c : ClassTree = record { name = ident src tok; members = ys.0; at = w.from } in (
      c,
      g.class a w tok opening closing ys.0 h1 is h3 h5 ys.1,
      ap (λ (z : Ident). let c : ClassTree = record { name = z; members = map member_at_0 x.members; at = 0 } in c) same
          ∙ ap (λ (z : List MemberTree). let c : ClassTree = record { name = ident_at_0 (ident src tok); members = z; at = 0 } in c) ys.2,
    )))))))

classes_good : (x : ClassTree) (xs : List ClassTree) → class_sound x ≡ true → list_all class_sound xs ≡ true → (src : List ℕ) (toks : List Token) → Laid src (flat_map class_row (x ∷ xs)) toks → FoundClasses src (map class_at_0 (x ∷ xs)) toks
classes_good x [] h hs src toks l =
    let y = class_good x h src toks (laid_as src _ _ toks (append-nil (class_row x)) l) in
    (y.0 ∷ [], g.last toks y.0 y.1, ap (λ z. z ∷ []) y.2)
classes_good x (x' ∷ xs) h hs src toks l =
    split (FoundClasses src (map class_at_0 (x ∷ x' ∷ xs))) src (class_row x) (flat_map class_row (x' ∷ xs)) toks l (λ a b la lb.
    let y = class_good x h src a la in
    let ys = classes_good x' xs ((and_parts (class_sound x') (list_all class_sound xs) hs).0) ((and_parts (class_sound x') (list_all class_sound xs) hs).1) src b lb in
    (y.0 ∷ ys.0, g.more a b y.0 ys.0 y.1 ys.1, ap (λ z. z ∷ map class_at_0 (x' ∷ xs)) y.2 ∙ ap (λ z. class_at_0 y.0 ∷ z) ys.2))

script_good : (xs : List ClassTree) → nat_le 1 (length xs) ≡ true → list_all class_sound xs ≡ true → (src : List ℕ) (toks : List Token) → Laid src (flat_map class_row xs) toks → FoundClasses src (map class_at_0 xs) toks
script_good [] h hs src toks l = absurd (cc)
script_good (x ∷ xs) h hs src toks l = classes_good x xs ((and_parts (class_sound x) (list_all class_sound xs) hs).0) ((and_parts (class_sound x) (list_all class_sound xs) hs).1) src toks l

pub row_reads : (tree : Tree) → script_sound tree ≡ true → (again : Tree) × Reads (text_of (script_row tree)) (tokens_from 0 (script_row tree)) again × Alike tree again
row_reads tree h =
    let src : List ℕ = text_of (script_row tree) in
    let l : Laid src (script_row tree) (tokens_from 0 (script_row tree)) = record { before = []; after = []; whole = sym (append-nil src); said = refl } in
    let found = script_good tree.classes ((and_parts (nat_le 1 (length tree.classes)) (list_all class_sound tree.classes) h).0) ((and_parts (nat_le 1 (length tree.classes)) (list_all class_sound tree.classes) h).1) src _ l in
    let again : Tree = record { classes = found.0 } in
    (again, found.1, found.2)
