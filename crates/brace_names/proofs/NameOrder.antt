-- The places of what is found in a script stand in the order of its text.
use Rattle.std.proofs.Common.{◌≡◌, refl, sym, ap, subst, ◌∙◌, ℕ, ◌+◌, ◌≤◌, Bool, true, false, List, [], ◌∷◌, ◌++◌, map, flat_map, length, arith}
use Rattle.std.specs.Prelude.{Option, Some, None, if◌then◌else◌, slice_get}
use Rattle.std.specs.Str.{bytes_eq}
use Rattle.std.proofs.lemmas.List.{append-nil}
use Rattle.std.proofs.lemmas.List.Concat.{flat_map-append, flat_map-cons}
use Rattle.brace_tok.specs.declared.kinds.Token.{Token}
use Rattle.brace_tok.specs.Spells.{Spells, Rises}
use Rattle.brace_tok.proofs.Unique.{spells_rises}
use Rattle.brace_syntax.specs.Tables.{ident}
use Rattle.brace_syntax.specs.declared.tree.Ident.{Ident}
use Rattle.brace_syntax.specs.declared.tree.TyName.{TyName}
use Rattle.brace_syntax.specs.declared.tree.TyName.TheVariants as ty
use Rattle.brace_names.specs.declared.declared.Field.{Field}
use Rattle.brace_names.specs.declared.scope.Named as scopes
use Rattle.brace_names.specs.declared.scope.Named.TheVariants as named
use Rattle.brace_names.specs.declared.scope.LoopField.{LoopField}
use Rattle.brace_names.specs.declared.finding.Finding.{Finding}
use Rattle.brace_names.specs.declared.finding.Finding.TheVariants as finding
use Rattle.brace_names.specs.declared.resolved.Binding.{Binding}
use Rattle.brace_names.specs.Scopes.{Scope, is_taken, class_number, of_loop, Home, home_of, outermost, read, read_own, inside, past}
use Rattle.brace_names.specs.Findings as f
use Rattle.brace_names.specs.Tables.{look, repeated}
use Rattle.brace_names.specs.Faults.{binding_of, AreRising}
use Rattle.std.specs.Option.{option_map}
use Rattle.brace_model.specs.Typing.{unary_faults, binary_faults}
use Rattle.brace_syntax.specs.Reads as r
use Rattle.brace_syntax.specs.Reads.{Row, ReadsExpr, ReadsStmt, ReadsStmts, ReadsBlock, ReadsField, ReadsGift, ReadsGifts, ReadsMember, ReadsMembers, ReadsClass, ReadsClasses}
use Rattle.brace_syntax.specs.declared.tree.ExprTree.{ExprTree}
use Rattle.brace_syntax.specs.declared.tree.StmtTree.{StmtTree}
use Rattle.brace_syntax.specs.declared.tree.GiftTree.{GiftTree}
use Rattle.brace_syntax.specs.declared.tree.MemberTree.{MemberTree}
use Rattle.brace_syntax.specs.declared.tree.ClassTree.{ClassTree}
use Rattle.brace_syntax.specs.declared.tree.Tree.{Tree}
use Rattle.brace_names.specs.declared.fault.NameFault.{NameFault}
use Rattle.brace_names.specs.declared.fault.NameFault.TheVariants as fault
use Rattle.brace_names.specs.declared.fault.Which.{Which}
use Rattle.brace_names.specs.declared.fault.Which.TheVariants as which
use Rattle.brace_names.specs.Kinds.{unary_named, binary_named}
use Rattle.brace_names.specs.Classes.{Known, known, title, fields, has_position}
use Rattle.brace_names.specs.Walk.{behind, constants_in, block, part_step, in_classes}
use Rattle.brace_names.specs.Found.{expression, expression_step, sought, part, gift, states_given, gifts_found, member, too_many, position, declarations, class_names, found}
use Rattle.brace_names.proofs.Folds.{of-Lit, of-True, of-False, of-Name, of-OfThis, of-OfLoop, of-Unary, of-Binary, of-Choice, of-Rand, of-Const, of-when, of-either, of-Foreach, of-Assign, of-AssignThis, of-AssignLoop}

-- the places are those of some of the tokens, in the same order
pub data Sub : List ℕ → List Token → Type 0 where
  none : Sub [] []
  skip : (tok : Token) (places : List ℕ) (toks : List Token) → Sub places toks → Sub places (tok ∷ toks)
  keep : (tok : Token) (places : List ℕ) (toks : List Token) → Sub places toks → Sub (tok.from ∷ places) (tok ∷ toks)

pub nowhere : (toks : List Token) → Sub [] toks
nowhere [] = none
nowhere (tok ∷ toks) = skip tok [] toks (nowhere toks)

pub join : (xs ys : List ℕ) (a b : List Token) → Sub xs a → Sub ys b → Sub (xs ++ ys) (a ++ b)
join _ ys _ b none s = s
join _ ys _ b (skip tok xs a r) s = skip tok (xs ++ ys) (a ++ b) (join xs ys a b r s)
join _ ys _ b (keep tok xs a r) s = keep tok (xs ++ ys) (a ++ b) (join xs ys a b r s)

abbrev pub place_of : Finding → List ℕ
place_of (finding.Names x) = x.at ∷ []
place_of _ = []

-- the places of what names stand for
abbrev pub places : List Finding → List ℕ
places = flat_map place_of

unfoldable pub Named : List Token → List Finding → Type 0
Named toks all = Sub (places all) toks

-- no name stands for something
unfoldable pub Silent : List Finding → Type 0
Silent all = places all ≡ []

pub append : (a b : List Token) (xs ys : List Finding) → Named a xs → Named b ys → Named (a ++ b) (xs ++ ys)
unfolding Named
append a b xs ys r s = subst (λ (l : List ℕ). Sub l (a ++ b)) (sym (flat_map-append place_of xs ys)) (join (places xs) (places ys) a b r s)

pub over : (tok : Token) (toks : List Token) (all : List Finding) → Named toks all → Named (tok ∷ toks) all
unfolding Named
over tok toks all r = skip tok (places all) toks r

pub silent : (toks : List Token) (all : List Finding) → Silent all → Named toks all
unfolding Named Silent
silent toks all e = subst (λ (l : List ℕ). Sub l toks) (sym e) (nowhere toks)

pub before_silent : (toks : List Token) (xs ys : List Finding) → Named toks xs → Silent ys → Named toks (xs ++ ys)
unfolding Named Silent
before_silent toks xs ys r e = subst (λ (l : List ℕ). Sub l toks) (sym (flat_map-append place_of xs ys ∙ (ap (λ (l : List ℕ). places xs ++ l) e ∙ append-nil (places xs)))) r

pub before : (toks : List Token) (xs ys : List Finding) → Silent xs → Named toks ys → Named toks (xs ++ ys)
unfolding Named Silent
before toks xs ys e r = subst (λ (l : List ℕ). Sub l toks) (sym (flat_map-append place_of xs ys ∙ ap (λ (l : List ℕ). l ++ places ys) e)) r

pub padded : (a b : List Token) (all : List Finding) → Named a all → Named (a ++ b) all
unfolding Named
padded a b all r = subst (λ (l : List ℕ). Sub l (a ++ b)) (append-nil (places all)) (join (places all) [] a b r (nowhere b))

pub silent_both : (xs ys : List Finding) → Silent xs → Silent ys → Silent (xs ++ ys)
unfolding Silent
silent_both xs ys e g = flat_map-append place_of xs ys ∙ (ap (λ (l : List ℕ). l ++ places ys) e ∙ g)

-- what may be found at one name

pub quiet_fault : (x : Finding) → place_of x ≡ [] → Silent (x ∷ [])
unfolding Silent
quiet_fault (finding.Names x) e = e
quiet_fault _ e = refl

pub quiet_nothing : Silent []
unfolding Silent
quiet_nothing = refl

pub quiet_if : (b : Bool) (all : List Finding) → Silent all → Silent (if b then all else [])
unfolding Silent
quiet_if true all e = e
quiet_if false all e = refl

pub quiet_typed : (t : TyName) → Silent (f.typed t)
unfolding Silent
quiet_typed ty.Int = refl
quiet_typed _ = refl

pub quiet_declares : (scope : Scope) (name : Ident) → Silent (f.declares scope name)
unfolding Silent
quiet_declares scope name = quiet_if (is_taken scope name.text) _ refl

pub quiet_site : (b : Bool) (at_ : ℕ) → Silent (f.site_if b at_)
unfolding Silent
quiet_site true at_ = refl
quiet_site false at_ = refl

named_field : (src : List ℕ) (tok : Token) (at_ : ℕ) (o : Option Field) → Named (tok ∷ []) (f.names_field at_ (ident src tok) o)
unfolding Named
named_field src tok at_ None = nowhere (tok ∷ [])
named_field src tok at_ (Some x) = keep tok [] [] none

-- a name in an expression
pub named_read : (src : List ℕ) (scope : Scope) (tok : Token) (at_ : ℕ) (o : Option scopes.Named) → Named (tok ∷ []) (f.reads scope at_ (ident src tok) o)
unfolding Named
named_read src scope tok at_ None = nowhere (tok ∷ [])
named_read src scope tok at_ (Some (named.Constant n t)) = keep tok [] [] none
named_read src scope tok at_ (Some (named.Field x)) =
    before_silent (tok ∷ []) (f.names_as tok.from (f.target_of x)) (f.site_if (f.is_summed scope x) at_) (keep tok [] [] none) (quiet_site (f.is_summed scope x) at_)

loop_field : (src : List ℕ) (variable dot name : Token) (o : Option LoopField)
    → Named (variable ∷ dot ∷ name ∷ []) (f.names_of_loop (ident src variable) (ident src name) o)
unfolding Named
loop_field src variable dot name None = nowhere (variable ∷ dot ∷ name ∷ [])
loop_field src variable dot name (Some x) = keep variable (name.from ∷ []) (dot ∷ name ∷ []) (skip dot (name.from ∷ []) (name ∷ []) (keep name [] [] none))

where_query : (b : Bool) (toks : List Token) (all : List Finding) → Named toks all → Named toks (if b then all else [])
unfolding Named
where_query true toks all r = r
where_query false toks all r = nowhere toks

pub read_of_loop : (src : List ℕ) (scope : Scope) (variable dot name : Token)
    → Named (variable ∷ dot ∷ name ∷ []) (f.reads_of_loop scope (ident src variable) (ident src name))
read_of_loop src scope variable dot name =
    where_query scope.in_query (variable ∷ dot ∷ name ∷ []) _
    (loop_field src variable dot name (of_loop scope (ident src variable).text (ident src name).text))

quiet_assignment : (at_ : ℕ) → Silent (f.assignment at_)
unfolding Silent
quiet_assignment at_ = refl

pub assigned : (src : List ℕ) (scope : Scope) (tok : Token) (at_ : ℕ) → Named (tok ∷ []) (f.assigns scope at_ (ident src tok))
assigned src scope tok at_ =
    let o : Option Field = look scope.home.own (ident src tok).text in
    before_silent (tok ∷ []) (f.names_field at_ (ident src tok) o) (f.assignment at_) (named_field src tok at_ o) (quiet_assignment at_)

pub assigned_of_loop : (src : List ℕ) (scope : Scope) (variable dot name : Token)
    → Named (variable ∷ dot ∷ name ∷ []) (f.assigns_of_loop scope (ident src variable) (ident src name))
assigned_of_loop src scope variable dot name =
    let o : Option LoopField = of_loop scope (ident src variable).text (ident src name).text in
    before_silent (variable ∷ dot ∷ name ∷ []) (f.names_of_loop (ident src variable) (ident src name) o) (f.assignment variable.from)
    (loop_field src variable dot name o) (quiet_assignment variable.from)

named_class : (tok : Token) (o : Option ℕ) → Named (tok ∷ []) (f.names_class tok.from o)
unfolding Named
named_class tok None = nowhere (tok ∷ [])
named_class tok (Some n) = keep tok [] [] none

named_same : (tok : Token) (b : Bool) (o : Option ℕ) (x : Finding) → Silent (x ∷ []) → Named (tok ∷ []) (if b then f.names_class tok.from o else x ∷ [])
named_same tok true o x e = named_class tok o
named_same tok false o x e = silent (tok ∷ []) (x ∷ []) e

-- the two classes of a loop
pub looped : (src : List ℕ) (scope : Scope) (class variable colon extent less other : Token)
    → Named (class ∷ variable ∷ colon ∷ extent ∷ less ∷ other ∷ []) (f.loops_over scope (ident src class) (ident src other))
looped src scope class variable colon extent less other =
    append (class ∷ []) (variable ∷ colon ∷ extent ∷ less ∷ other ∷ [])
    (f.names_class class.from (class_number scope (ident src class).text)) (f.names_again (ident src class) (ident src other) (class_number scope (ident src other).text))
    (named_class class (class_number scope (ident src class).text))
    (over variable _ _ (over colon _ _ (over extent _ _ (over less _ _
    (named_same other (bytes_eq (ident src class).text (ident src other).text) (class_number scope (ident src other).text) _ (quiet_fault _ refl))))))

places_cons : (x : Finding) (xs : List Finding) → map (λ b. b.at) (flat_map binding_of (x ∷ xs)) ≡ place_of x ++ map (λ b. b.at) (flat_map binding_of xs)
places_cons (finding.Names x) xs = ap (λ (l : List Binding). map (λ b. b.at) l) (flat_map-cons binding_of (finding.Names x) xs)
places_cons x xs = ap (λ (l : List Binding). map (λ b. b.at) l) (flat_map-cons binding_of x xs)

places_of_bindings : (all : List Finding) → map (λ b. b.at) (flat_map binding_of all) ≡ places all
places_of_bindings [] = refl
places_of_bindings (x ∷ xs) = places_cons x xs ∙ (ap (λ (l : List ℕ). place_of x ++ l) (places_of_bindings xs) ∙ sym (flat_map-cons place_of x xs))

rises_from : (low higher : ℕ) (ps : List ℕ) → low ≤ higher → AreRising higher ps → AreRising low ps
rises_from low higher [] le r = tt
rises_from low higher (p ∷ ps) le r = (omega (arith, le, r.0), r.1)

pub places_rise : (low high : ℕ) (toks : List Token) (ps : List ℕ) → Sub ps toks → Rises low high toks → AreRising low ps
places_rise low high _ _ none r = tt
places_rise low high _ _ (skip tok ps toks s) r = rises_from low tok.to ps (omega (arith, r.0, r.1)) (places_rise tok.to high toks ps s r.2)
places_rise low high _ _ (keep tok ps toks s) r = (r.0, rises_from (tok.from + 1) tok.to ps (omega (arith, r.1)) (places_rise tok.to high toks ps s r.2))

-- what is named in the order of the tokens of a source is bound at rising places
pub bindings_rise : (src : List ℕ) (toks : List Token) (all : List Finding) → Spells src toks → Named toks all → AreRising 0 (map (λ b. b.at) (flat_map binding_of all))
unfolding Named
bindings_rise src toks all spelled named = subst (AreRising 0) (sym (places_of_bindings all)) (places_rise 0 (length src) toks (places all) named (spells_rises src toks spelled))

from : (toks : List Token) (all whole : List Finding) → whole ≡ all → Named toks all → Named toks whole
from toks all whole e n = subst (Named toks) (sym e) n

of_expression : (src : List ℕ) (row : Row) (toks : List Token) (x : ExprTree) → ReadsExpr src row toks x → (scope : Scope) → Named toks (expression x scope)
of_expression src _ _ _ (r.alone row inner a x _ h) scope = of_expression src inner a x h scope
of_expression src _ _ _ (r.joined row inner a b op name x y _ _ h g) scope =
    from _ _ _ (ap (λ g. g scope) (of-Binary expression_step name x y op.from)) (before_silent (a ++ op ∷ b) (expression x scope ++ expression y scope) _
    (append a (op ∷ b) (expression x scope) (expression y scope) (of_expression src row a x h scope) (over op b _ (of_expression src inner b y g scope)))
    (quiet_site (binary_faults (binary_named name)) op.from))
of_expression src _ _ _ (r.compared a b op name x y _ h g) scope =
    from _ _ _ (ap (λ g. g scope) (of-Binary expression_step name x y op.from)) (before_silent (a ++ op ∷ b) (expression x scope ++ expression y scope) _
    (append a (op ∷ b) (expression x scope) (expression y scope) (of_expression src r.sums a x h scope) (over op b _ (of_expression src r.sums b y g scope)))
    (quiet_site (binary_faults (binary_named name)) op.from))
of_expression src _ _ _ (r.chosen a b c question colon w x y _ _ h g e) scope =
    from _ _ _ (ap (λ g. g scope) (of-Choice expression_step w x y question.from))
    (append (a ++ question ∷ b) (colon ∷ c) (expression w scope ++ expression x scope) (expression y scope)
    (append a (question ∷ b) (expression w scope) (expression x scope) (of_expression src r.ors a w h scope) (over question b _ (of_expression src r.choices b x g scope)))
    (over colon c _ (of_expression src r.choices c y e scope)))
of_expression src _ _ _ (r.prefix a op name x _ h) scope =
    from _ _ _ (ap (λ g. g scope) (of-Unary expression_step name x op.from)) (over op a _ (before_silent a _ _ (of_expression src r.prefixed a x h scope) (quiet_site (unary_faults (unary_named name)) op.from)))
of_expression src _ _ _ (r.literal tok n _) scope =
    from _ _ _ (ap (λ g. g scope) (of-Lit expression_step n)) (silent (tok ∷ []) [] quiet_nothing)
of_expression src _ _ _ (r.truth tok _) scope =
    from _ _ _ (ap (λ g. g scope) (of-True expression_step tok.from)) (silent (tok ∷ []) [] quiet_nothing)
of_expression src _ _ _ (r.falsity tok _) scope =
    from _ _ _ (ap (λ g. g scope) (of-False expression_step tok.from)) (silent (tok ∷ []) [] quiet_nothing)
of_expression src _ _ _ (r.enclosed a opening closing x _ _ h) scope =
    over opening (a ++ closing ∷ []) _ (padded a (closing ∷ []) _ (of_expression src r.choices a x h scope))
of_expression src _ _ _ (r.of_this this dot name _ _ _) scope =
    from _ _ _ (ap (λ g. g scope) (of-OfThis expression_step (ident src name) this.from)) (over this (dot ∷ name ∷ []) _ (over dot (name ∷ []) _ (named_read src scope name this.from (read_own scope (ident src name).text))))
of_expression src _ _ _ (r.named name _) scope =
    from _ _ _ (ap (λ g. g scope) (of-Name expression_step (ident src name))) (named_read src scope name name.from (read scope (ident src name).text))
of_expression src _ _ _ (r.of_loop loop dot name _ _ _) scope =
    from _ _ _ (ap (λ g. g scope) (of-OfLoop expression_step (ident src loop) (ident src name))) (read_of_loop src scope loop dot name)
of_expression src _ _ _ (r.called_one a word opening closing name x _ _ _ h) scope =
    from _ _ _ (ap (λ g. g scope) (of-Unary expression_step name x word.from)) (over word _ _ (over opening (a ++ closing ∷ []) _ (padded a (closing ∷ []) _
    (before_silent a _ _ (of_expression src r.choices a x h scope) (quiet_site (unary_faults (unary_named name)) word.from)))))
of_expression src _ _ _ (r.called_two a b word opening comma closing name x y _ _ _ _ h g) scope =
    from _ _ _ (ap (λ g. g scope) (of-Binary expression_step name x y word.from)) (over word _ _ (over opening (a ++ comma ∷ b ++ closing ∷ []) _ (padded (a ++ comma ∷ b) (closing ∷ []) _
    (before_silent (a ++ comma ∷ b) (expression x scope ++ expression y scope) _
    (append a (comma ∷ b) (expression x scope) (expression y scope) (of_expression src r.choices a x h scope) (over comma b _ (of_expression src r.choices b y g scope)))
    (quiet_site (binary_faults (binary_named name)) word.from)))))
of_expression src _ _ _ (r.random word opening closing _ _ _) scope =
    from _ _ _ (ap (λ g. g scope) (of-Rand expression_step word.from)) (silent (word ∷ opening ∷ closing ∷ []) (f.site word.from) (quiet_fault (finding.Site word.from) refl))

mutual
  of_statement : (src : List ℕ) (toks : List Token) (x : StmtTree) → ReadsStmt src toks x → (scope : Scope) → Named toks ((part x).here scope)
  of_statement src _ _ (r.const a word type name equals semicolon t x _ _ _ _ _ h) scope =
      from _ _ _ (ap (λ p. p.here scope) (of-Const (part_step sought) t (ident src name) x word.from)) (over word _ _ (over type _ _ (over name _ _ (over equals (a ++ semicolon ∷ []) _ (padded a (semicolon ∷ []) _
      (before a (f.typed t ++ f.declares scope (ident src name)) _ (silent_both (f.typed t) (f.declares scope (ident src name)) (quiet_typed t) (quiet_declares scope (ident src name)))
      (of_expression src r.choices a x h scope)))))))
  of_statement src _ _ (r.when a b word opening closing x xs _ _ _ h g) scope =
      from _ _ _ (ap (λ p. p.here scope) (of-when (part_step sought) x xs word.from)) (over word _ _ (over opening (a ++ closing ∷ b) _ (before_silent (a ++ closing ∷ b) (expression x scope ++ block (map part xs) scope) []
      (append a (closing ∷ b) (expression x scope) (block (map part xs) scope) (of_expression src r.choices a x h scope) (over closing b _ (of_block src b xs g scope))) quiet_nothing)))
  of_statement src _ _ (r.either_way a b c word opening closing otherwise x xs ys _ _ _ _ h g e) scope =
      let later : Scope = past (constants_in (map part xs)) scope in
      from _ _ _ (ap (λ p. p.here scope) (of-either (part_step sought) x xs ys word.from)) (over word _ _ (over opening (a ++ closing ∷ b ++ otherwise ∷ c) _
      (append (a ++ closing ∷ b) (otherwise ∷ c) (expression x scope ++ block (map part xs) scope) (block (map part ys) later)
      (append a (closing ∷ b) (expression x scope) (block (map part xs) scope) (of_expression src r.choices a x h scope) (over closing b _ (of_block src b xs g scope)))
      (over otherwise c _ (of_block src c ys e later)))))
  of_statement src _ _ (r.foreach a word opening class variable colon extent less other greater closing xs _ _ _ _ _ _ _ _ _ _ h) scope =
      from _ _ _ (ap (λ p. p.here scope) (of-Foreach (part_step sought) (ident src class) (ident src variable) (ident src other) xs word.from)) (over word _ _ (over opening _ _ (append (class ∷ variable ∷ colon ∷ extent ∷ less ∷ other ∷ []) (greater ∷ closing ∷ a)
      (f.loops_over scope (ident src class) (ident src other) ++ f.declares scope (ident src variable)) _
      (before_silent _ _ (f.declares scope (ident src variable)) (looped src scope class variable colon extent less other) (quiet_declares scope (ident src variable)))
      (over greater _ _ (over closing a _ (of_block src a xs h (inside (ident src class) (ident src variable) scope)))))))
  of_statement src _ _ (r.assign_this a this dot name arrow semicolon x _ _ _ _ _ h) scope =
      from _ _ _ (ap (λ p. p.here scope) (of-AssignThis (part_step sought) (ident src name) x this.from)) (over this _ _ (over dot _ _ (append (name ∷ []) (arrow ∷ a ++ semicolon ∷ []) (f.assigns scope this.from (ident src name)) (expression x scope)
      (assigned src scope name this.from) (over arrow (a ++ semicolon ∷ []) _ (padded a (semicolon ∷ []) _ (of_expression src r.choices a x h scope))))))
  of_statement src _ _ (r.assign a name arrow semicolon x _ _ _ h) scope =
      from _ _ _ (ap (λ p. p.here scope) (of-Assign (part_step sought) (ident src name) x)) (append (name ∷ []) (arrow ∷ a ++ semicolon ∷ []) (f.assigns scope name.from (ident src name)) (expression x scope)
      (assigned src scope name name.from) (over arrow (a ++ semicolon ∷ []) _ (padded a (semicolon ∷ []) _ (of_expression src r.choices a x h scope))))
  of_statement src _ _ (r.assign_loop a loop dot name arrow semicolon x _ _ _ _ _ h) scope =
      from _ _ _ (ap (λ p. p.here scope) (of-AssignLoop (part_step sought) (ident src loop) (ident src name) x)) (append (loop ∷ dot ∷ name ∷ []) (arrow ∷ a ++ semicolon ∷ []) (f.assigns_of_loop scope (ident src loop) (ident src name)) (expression x scope)
      (assigned_of_loop src scope loop dot name) (over arrow (a ++ semicolon ∷ []) _ (padded a (semicolon ∷ []) _ (of_expression src r.choices a x h scope))))

  of_statements : (src : List ℕ) (toks : List Token) (xs : List StmtTree) → ReadsStmts src toks xs → (scope : Scope) → Named toks (block (map part xs) scope)
  of_statements src _ _ r.none scope = silent [] [] quiet_nothing
  of_statements src _ _ (r.more a b x xs h g) scope =
      append a b ((part x).here scope) (block (map part xs) (behind (part x) scope)) (of_statement src a x h scope) (of_statements src b xs g (behind (part x) scope))

  of_block : (src : List ℕ) (toks : List Token) (xs : List StmtTree) → ReadsBlock src toks xs → (scope : Scope) → Named toks (block (map part xs) scope)
  of_block src _ _ (r.braced a opening closing xs _ _ h) scope =
      over opening (a ++ closing ∷ []) _ (padded a (closing ∷ []) _ (of_statements src a xs h scope))

of_gift : (src : List ℕ) (toks : List Token) (g : GiftTree) → ReadsGift src toks g → (scope : Scope) → Named toks (gift scope g)
of_gift src _ _ (r.gift a name arrow semicolon x _ _ _ h) scope =
    append (name ∷ []) (arrow ∷ a ++ semicolon ∷ []) (f.assigns scope name.from (ident src name)) (expression x scope)
    (assigned src scope name name.from) (over arrow (a ++ semicolon ∷ []) _ (padded a (semicolon ∷ []) _ (of_expression src r.choices a x h scope)))

of_gifts : (src : List ℕ) (toks : List Token) (gs : List GiftTree) → ReadsGifts src toks gs → (scope : Scope) → Named toks (flat_map (gift scope) gs)
of_gifts src _ _ r.none scope = silent [] [] quiet_nothing
of_gifts src _ _ (r.more a b x xs h g) scope =
    subst (Named (a ++ b)) (sym (flat_map-cons (gift scope) x xs)) (append a b (gift scope x) (flat_map (gift scope) xs) (of_gift src a x h scope) (of_gifts src b xs g scope))

quiet_faults : (kind : ℕ → NameFault) (ps : List ℕ) → Silent (f.faults_at kind ps)
quiet_faults kind [] = quiet_nothing
quiet_faults kind (p ∷ ps) = silent_both (finding.Fault (kind p) ∷ []) (f.faults_at kind ps) (quiet_fault (finding.Fault (kind p)) refl) (quiet_faults kind ps)

-- the members of a class

module _ (home : Home) where
  of_field : (src : List ℕ) (shared : Bool) (at_ : ℕ) (toks : List Token) (x : MemberTree) → ReadsField src shared at_ toks x → Named toks (member home x)
  of_field src shared at_ _ _ (r.state word type name semicolon t _ _ _ _) =
      silent (word ∷ type ∷ name ∷ semicolon ∷ []) _ (silent_both (f.typed t) [] (quiet_typed t) quiet_nothing)
  of_field src shared at_ _ _ (r.ruled a word type name colon semicolon t x _ _ _ _ _ h) =
      over word _ _ (over type _ _ (over name _ _ (over colon (a ++ semicolon ∷ []) _ (padded a (semicolon ∷ []) _
      (before a (f.typed t) _ (quiet_typed t) (of_expression src r.choices a x h (outermost home false)))))))
  of_field src shared at_ _ _ (r.effect word type name colon combinator semicolon t c _ _ _ _ _ _) =
      silent (word ∷ type ∷ name ∷ colon ∷ combinator ∷ semicolon ∷ []) _ (quiet_typed t)

  of_member : (src : List ℕ) (toks : List Token) (x : MemberTree) → ReadsMember src toks x → Named toks (member home x)
  of_member src _ _ (r.visible word opening range closing semicolon n _ _ _ _ _) = silent (word ∷ opening ∷ range ∷ closing ∷ semicolon ∷ []) [] quiet_nothing
  of_member src _ _ (r.reach word opening range closing semicolon n _ _ _ _ _) = silent (word ∷ opening ∷ range ∷ closing ∷ semicolon ∷ []) [] quiet_nothing
  of_member src _ _ (r.public a word x _ h) = over word a _ (of_field src true word.from a x h)
  of_member src _ _ (r.private a word x _ h) = over word a _ (of_field src false word.from a x h)
  of_member src _ _ (r.run a word void run opening closing xs _ _ _ _ _ h) =
      over word _ _ (over void _ _ (over run _ _ (over opening _ _ (over closing a _ (of_block src a xs h (outermost home true))))))
  of_member src _ _ (r.die a word when semicolon x _ _ _ h) =
      over word _ _ (over when (a ++ semicolon ∷ []) _ (padded a (semicolon ∷ []) _ (of_expression src r.choices a x h (outermost home false))))
  of_member src _ _ (r.spawn a b word when opening closing x gs _ _ _ _ h g) =
      let scope : Scope = outermost home false in
      let again : List Finding = f.faults_at fault.DuplicateName (repeated (states_given scope gs)) in
      over word _ _ (over when (a ++ opening ∷ b ++ closing ∷ []) _ (padded (a ++ opening ∷ b) (closing ∷ []) _
      (append a (opening ∷ b) (expression x scope) (gifts_found scope gs word.from) (of_expression src r.choices a x h scope)
      (over opening b _ (before_silent b (flat_map (gift scope) gs ++ again) (f.site word.from)
      (before_silent b (flat_map (gift scope) gs) again (of_gifts src b gs g scope) (quiet_faults fault.DuplicateName (repeated (states_given scope gs))))
      (quiet_fault (finding.Site word.from) refl))))))

  of_members : (src : List ℕ) (toks : List Token) (xs : List MemberTree) → ReadsMembers src toks xs → Named toks (flat_map (member home) xs)
  of_members src _ _ r.none = silent [] [] quiet_nothing
  of_members src _ _ (r.more a b x xs h g) =
      subst (Named (a ++ b)) (sym (flat_map-cons (member home) x xs)) (append a b (member home x) (flat_map (member home) xs) (of_member src a x h) (of_members src b xs g))

of_class : (all : Known) (number : ℕ) (src : List ℕ) (toks : List Token) (x : ClassTree) → ReadsClass src toks x → Named toks (flat_map (member (home_of all number x)) x.members)
of_class all number src _ _ (r.class a word name opening closing xs _ _ _ _ h) =
    over word _ _ (over name _ _ (over opening (a ++ closing ∷ []) _ (padded a (closing ∷ []) _
    (of_members (home_of all number (record { name = ident src name; members = xs; at = word.from })) src a xs h))))

of_classes : (src : List ℕ) (all : Known) (number : ℕ) (toks : List Token) (xs : List ClassTree) → ReadsClasses src toks xs → Named toks (in_classes member all number xs)
of_classes src all number _ _ (r.last a x h) =
    before_silent a (flat_map (member (home_of all number x)) x.members) [] (of_class all number src a x h) quiet_nothing
of_classes src all number _ _ (r.more a b x xs h g) =
    append a b (flat_map (member (home_of all number x)) x.members) (in_classes member all (number + 1) xs) (of_class all number src a x h) (of_classes src all (number + 1) b xs g)

quiet_too_many : (w : Which) (name : Option Ident) → Silent (too_many w name)
quiet_too_many w None = quiet_nothing
quiet_too_many w (Some name) = quiet_fault (finding.Fault (fault.TooMany w name.at)) refl

quiet_position : (b : Bool) (at_ : ℕ) → Silent (if b then [] else f.fault (fault.NoPosition at_))
quiet_position true at_ = quiet_nothing
quiet_position false at_ = quiet_fault (finding.Fault (fault.NoPosition at_)) refl

quiet_class : (x : ClassTree) → Silent (declarations x)
quiet_class x =
    silent_both (f.faults_at fault.DuplicateName (repeated (map title x.members)) ++ too_many which.Fields (option_map (λ one. one.0) (slice_get (fields x) 64))) (position x)
    (silent_both (f.faults_at fault.DuplicateName (repeated (map title x.members))) (too_many which.Fields (option_map (λ one. one.0) (slice_get (fields x) 64)))
    (quiet_faults fault.DuplicateName (repeated (map title x.members))) (quiet_too_many which.Fields (option_map (λ one. one.0) (slice_get (fields x) 64))))
    (quiet_position (has_position x) x.name.at)

quiet_classes : (xs : List ClassTree) → Silent (flat_map declarations xs)
quiet_classes [] = quiet_nothing
quiet_classes (x ∷ xs) = subst Silent (sym (flat_map-cons declarations x xs)) (silent_both (declarations x) (flat_map declarations xs) (quiet_class x) (quiet_classes xs))

quiet_names : (names : List Ident) → Silent (class_names names)
quiet_names names =
    silent_both (f.faults_at fault.DuplicateClass (repeated names)) (too_many which.Classes (slice_get names 16)) (quiet_faults fault.DuplicateClass (repeated names))
    (quiet_too_many which.Classes (slice_get names 16))

pub of_script : (src : List ℕ) (toks : List Token) (tree : Tree) → ReadsClasses src toks tree.classes → Named toks (found tree)
of_script src toks tree h =
    let names : List Ident = map (λ class. class.name) tree.classes in
    before toks (class_names names ++ flat_map declarations tree.classes) (in_classes member (known tree.classes) 0 tree.classes)
    (silent_both (class_names names) (flat_map declarations tree.classes) (quiet_names names) (quiet_classes tree.classes))
    (of_classes src (known tree.classes) 0 toks tree.classes h)
