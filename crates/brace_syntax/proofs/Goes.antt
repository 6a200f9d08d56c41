-- How a row goes: it leaves the back of the tokens that it is given, or refuses the first of that back. What it took is
-- what it reads, or at a refusal the front of something that it reads. And it ends alike on every list that begins with
-- the same tokens and goes on with the same next one.
use Rattle.std.proofs.Common.{◌≡◌, refl, sym, ap, subst, ◌∙◌, ℕ, ◌-◌, ◌<◌, ◌≤◌, List, [], ◌∷◌, ◌++◌, length, drop, Bool, true, false, pos, arith, append_assoc, append-nil, length-append, length-drop, drop_at}
use Rattle.std.specs.Prelude.{Option, Some, None, Ok, Err, if◌then◌else◌, option_and_then}
use Rattle.std.proofs.lemmas.Option.{same_Some}
use Rattle.brace_tok.specs.declared.kinds.Token.{Token}
use Rattle.brace_tok.specs.declared.kinds.TokKind.{TokKind}
use Rattle.brace_tok.specs.declared.kinds.TokKind.TheVariants as k
use Rattle.brace_syntax.specs.declared.mark.Mark.{Mark}
use Rattle.brace_syntax.specs.declared.tree.Ident.{Ident}
use Rattle.brace_syntax.specs.declared.tree.Number.{Number}
use Rattle.brace_syntax.specs.declared.tree.Digits.TheVariants as digits
use Rattle.brace_syntax.specs.declared.tree.TyName.{TyName}
use Rattle.brace_syntax.specs.declared.tree.TyName.TheVariants as ty
use Rattle.brace_syntax.specs.declared.tree.CombName.{CombName}
use Rattle.brace_syntax.specs.declared.tree.CombName.TheVariants as comb
use Rattle.brace_syntax.specs.Tables.{Is, ident, combines}
use Rattle.brace_syntax.specs.Tables as tables
use Rattle.brace_syntax.specs.inner.Cursor.{Input, Outcome, Parser, and_then, first, kind, place, next, refusal, mark_of, marked, sees, after, expect, said, name_of, name, number, type_name, combinator}
use Rattle.brace_syntax.specs.inner.Descent.{where_some}
use Rattle.brace_syntax.proofs.Inversions.{kind_of, seen, name_is}
use Rattle.brace_syntax.proofs.Forward.{at}

-- both lists go on with the same token
abbrev pub SameNext : List Token → List Token → Type 0
SameNext [] right = ⊥
SameNext (a ∷ left) [] = ⊥
SameNext (a ∷ left) (b ∷ right) = a ≡ b

-- what a row comes to: a value, or the next token refused
pub data End (A : Type 0) : Type 0 where
  gives : A → End A
  refuses : End A

abbrev pub outcome : {A : Type 0} → List ℕ → End A → List Token → Outcome A
outcome src (gives x) rest = Ok (x, at src rest)
outcome src refuses rest = Err (refusal (at src rest))

-- with some tokens more these are read
pub record Begun {A : Type 0} (Q : List Token → A → Type 0) (taken : List Token) : Type 0 where
  pub more : List Token
  pub value : A
  pub reads : Q (taken ++ more) value

abbrev pub Says : {A : Type 0} → (List Token → A → Type 0) → List Token → End A → Type 0
Says Q taken (gives x) = Q taken x
Says Q taken refuses = Begun Q taken

-- the outcome on some tokens, and that on others
pub record Goes {A : Type 0} (src : List ℕ) (Q : List Token → A → Type 0) (toks toks' : List Token) (o o' : Outcome A) : Type 0 where
  pub end : End A
  pub taken : List Token
  pub left : List Token
  pub cut : toks ≡ taken ++ left
  pub here : o ≡ outcome src end left
  pub says : Says Q taken end
  pub again : (rest : List Token) → SameNext left rest → toks' ≡ taken ++ rest → o' ≡ outcome src end rest

-- a parser goes so on all lists up to a length, beside another up to another
abbrev pub Runs : {A : Type 0} → List ℕ → (List Token → A → Type 0) → ℕ → ℕ → Parser A → Parser A → Type 0
Runs src Q n n' p p' = (toks toks' : List Token) → length toks ≤ n → length toks' ≤ n' → Goes src Q toks toks' (p (at src toks)) (p' (at src toks'))

-- ---- lists that go on alike

next_on : (front left right : List Token) → SameNext left right → SameNext (front ++ left) (front ++ right)
next_on [] left right h = h
next_on (tok ∷ front) left right h = refl

some_left : (left right : List Token) → SameNext left right → 0 < length left
some_left [] right h = absurd h
some_left (a ∷ left) right h = omega arith

some_right : (left right : List Token) → SameNext left right → 0 < length right
some_right [] right h = absurd h
some_right (a ∷ left) [] h = absurd h
some_right (a ∷ left) (b ∷ right) h = omega arith

abbrev pub first_or : Token → List Token → Token
first_or known [] = known
first_or known (tok ∷ toks) = tok

-- ---- what holds of any run

complete_by : {A : Type 0} (Q : List Token → A → Type 0) (taken : List Token) (end : End A) → Says Q taken end → Begun Q []
complete_by Q taken (gives x) s = record { more = taken; value = x; reads = s }
complete_by Q taken refuses s = record { more = taken ++ s.more; value = s.value; reads = s.reads }

-- what a run tells can be read
pub complete : {A : Type 0} {src : List ℕ} {Q : List Token → A → Type 0} {toks toks' : List Token} {o o' : Outcome A} → Goes src Q toks toks' o o' → Begun Q []
complete {Q = Q} g = complete_by Q g.taken g.end g.says

says_on : {A : Type 0} (Q : List Token → A → Type 0) (taken more : List Token) (end : End A) → Says (λ b y. Q (taken ++ b) y) more end → Says Q (taken ++ more) end
says_on Q taken more (gives x) s = s
says_on Q taken more refuses s = record { more = s.more; value = s.value; reads = subst (λ (z : List Token). Q z s.value) (sym (append_assoc taken more s.more)) s.reads }

says_wider : {A : Type 0} (P Q : List Token → A → Type 0) (taken : List Token) (end : End A) → ((b : List Token) (y : A) → P b y → Q b y) → Says P taken end → Says Q taken end
says_wider P Q taken (gives x) w s = w taken x s
says_wider P Q taken refuses w s = record { more = s.more; value = s.value; reads = w (taken ++ s.more) s.value s.reads }

pub wider : {A : Type 0} {src : List ℕ} {P Q : List Token → A → Type 0} {toks toks' : List Token} {o o' : Outcome A} → Goes src P toks toks' o o' → ((b : List Token) (y : A) → P b y → Q b y) → Goes src Q toks toks' o o'
wider {P = P} {Q = Q} g w = record { end = g.end; taken = g.taken; left = g.left; cut = g.cut; here = g.here; says = says_wider P Q g.taken g.end w g.says; again = g.again }

-- the same outcomes, told otherwise
pub recast : {A : Type 0} {src : List ℕ} {Q : List Token → A → Type 0} {toks toks' : List Token} {o o' p p' : Outcome A} → p ≡ o → p' ≡ o' → Goes src Q toks toks' o o' → Goes src Q toks toks' p p'
recast e e' g = record { end = g.end; taken = g.taken; left = g.left; cut = g.cut; here = e ∙ g.here; says = g.says; again = λ rest h c. e' ∙ g.again rest h c }

-- beside no tokens nothing goes on alike
pub alone : {A : Type 0} {src : List ℕ} {Q : List Token → A → Type 0} {toks others : List Token} {o o' p : Outcome A} → Goes src Q toks others o o' → Goes src Q toks [] o p
alone g = record { end = g.end; taken = g.taken; left = g.left; cut = g.cut; here = g.here; says = g.says; again = λ rest h c. absurd (omega (arith, ap length c, length-append g.taken rest, some_right g.left rest h)) }

pub ended : {A : Type 0} {src : List ℕ} {Q : List Token → A → Type 0} {toks' others : List Token} {o o' p : Outcome A} → Goes src Q [] others o o' → Goes src Q [] toks' o p
ended g = record { end = g.end; taken = g.taken; left = g.left; cut = g.cut; here = g.here; says = g.says; again = λ rest h c. absurd (omega (arith, ap length g.cut, length-append g.taken g.left, some_left g.left rest h)) }

same_first : (a b : Token) (toks toks' taken left rest : List Token) → a ∷ toks ≡ taken ++ left → SameNext left rest → b ∷ toks' ≡ taken ++ rest → a ≡ b
same_first a b toks toks' [] [] rest c h c' = absurd h
same_first a b toks toks' [] (t ∷ left) [] c h c' = absurd h
same_first a b toks toks' [] (t ∷ left) (u ∷ rest) c h c' = ap (first_or a) c ∙ (h ∙ sym (ap (first_or b) c'))
same_first a b toks toks' (t ∷ taken) left rest c h c' = ap (first_or a) c ∙ sym (ap (first_or b) c')

-- what is told beside a list that begins with the same token is told beside any that is not empty
pub share : {A : Type 0} {src : List ℕ} {Q : List Token → A → Type 0} {toks toks' : List Token} {o : Outcome A} (tok tok' : Token) (p : Token → Outcome A) → Goes src Q (tok ∷ toks) (tok ∷ toks') o (p tok) → Goes src Q (tok ∷ toks) (tok' ∷ toks') o (p tok')
share {toks = toks} {toks' = toks'} tok tok' p g = record {
  end = g.end;
  taken = g.taken;
  left = g.left;
  cut = g.cut;
  here = g.here;
  says = g.says;
  again = λ rest h c. let e : tok ≡ tok' = same_first tok tok' toks toks' g.taken g.left rest g.cut h c in
      ap p (sym e) ∙ g.again rest h (ap (λ (z : Token). z ∷ toks') e ∙ c);
}

-- ---- steps

-- a value, for which nothing is taken
pub done : {A : Type 0} {src : List ℕ} {Q : List Token → A → Type 0} {toks toks' : List Token} {x : A} → Q [] x → Goes src Q toks toks' (Ok (x, at src toks)) (Ok (x, at src toks'))
done {src = src} {toks = toks} {x = x} q = record { end = gives x; taken = []; left = toks; cut = refl; here = refl; says = q; again = λ rest h c. ap (outcome src (gives x)) c }

-- the next token is refused, where something is read
pub stops : {A : Type 0} {src : List ℕ} {Q : List Token → A → Type 0} {toks toks' : List Token} → Begun Q [] → Goes src Q toks toks' (Err (refusal (at src toks))) (Err (refusal (at src toks')))
stops {A = A} {src = src} {toks = toks} b = record { end = refuses; taken = []; left = toks; cut = refl; here = refl; says = b; again = λ rest h c. ap (outcome {A = A} src refuses) c }

-- one token is taken before
pub passes : {A : Type 0} {src : List ℕ} {Q : List Token → A → Type 0} {toks toks' : List Token} {o o' : Outcome A} (tok : Token) → Goes src (λ b y. Q (tok ∷ b) y) toks toks' o o' → Goes src Q (tok ∷ toks) (tok ∷ toks') o o'
passes {Q = Q} tok g = record {
  end = g.end;
  taken = tok ∷ g.taken;
  left = g.left;
  cut = ap (λ (z : List Token). tok ∷ z) g.cut;
  here = g.here;
  says = says_on Q (tok ∷ []) g.taken g.end g.says;
  again = λ rest h c. g.again rest h (ap (drop 1) c);
}

-- one parser, and then another that reads what the first left to be read
pub bound : {A B : Type 0} {src : List ℕ} {R : List Token → A → Type 0} {Q : List Token → B → Type 0} {toks toks' : List Token} {o o' : Outcome A} (f f' : A → Parser B) → Goes src R toks toks' o o'
    → ((a : List Token) (x : A) → R a x → (left rest : List Token) → length left ≤ length toks - length a → length rest ≤ length toks' - length a → Goes src (λ b y. Q (a ++ b) y) left rest (f x (at src left)) (f' x (at src rest)))
    → Goes src Q toks toks' (and_then o f) (and_then o' f')
bound {A = A} {B = B} {src = src} {R = R} {Q = Q} {toks = toks} {toks' = toks'} {o = o} {o' = o'} f f' g follow = bound_by g.end g.taken g.left g.cut g.here g.says g.again
  where
    bound_by : (end : End A) (taken left : List Token) → toks ≡ taken ++ left → o ≡ outcome src end left → Says R taken end
        → ((rest : List Token) → SameNext left rest → toks' ≡ taken ++ rest → o' ≡ outcome src end rest) → Goes src Q toks toks' (and_then o f) (and_then o' f')
    bound_by (gives x) taken left cut here says again =
        let behind : List Token = drop (length taken) toks' in
        let u = follow taken x says left behind (omega (arith, ap length cut, length-append taken left)) (omega (arith, length-drop (length taken) toks')) in
        record {
          end = u.end;
          taken = taken ++ u.taken;
          left = u.left;
          cut = cut ∙ (ap (λ (z : List Token). taken ++ z) u.cut ∙ sym (append_assoc taken u.taken u.left));
          here = ap (λ (z : Outcome A). and_then z f) here ∙ u.here;
          says = says_on Q taken u.taken u.end u.says;
          again = λ rest h c.
              let whole : toks' ≡ taken ++ (u.taken ++ rest) = c ∙ append_assoc taken u.taken rest in
              let alike : SameNext left (u.taken ++ rest) = subst (λ (z : List Token). SameNext z (u.taken ++ rest)) (sym u.cut) (next_on u.taken u.left rest h) in
              let there : behind ≡ u.taken ++ rest = ap (drop (length taken)) whole ∙ drop_at taken (u.taken ++ rest) (length taken) refl in
              ap (λ (z : Outcome A). and_then z f') (again (u.taken ++ rest) alike whole) ∙ (ap (λ (z : List Token). f' x (at src z)) (sym there) ∙ u.again rest h there);
        }
    bound_by refuses taken left cut here says again =
        let c = complete (follow (taken ++ says.more) says.value says.reads [] [] (omega arith) (omega arith)) in
        record {
          end = refuses;
          taken = taken;
          left = left;
          cut = cut;
          here = ap (λ (z : Outcome A). and_then z f) here;
          says = record { more = says.more ++ c.more; value = c.value; reads = subst (λ (z : List Token). Q z c.value) (append_assoc taken says.more c.more) c.reads };
          again = λ rest h e. ap (λ (z : Outcome A). and_then z f') (again rest h e);
        }

-- one parser, and a value of what it gives
pub maps : {A B : Type 0} {src : List ℕ} {R : List Token → A → Type 0} {Q : List Token → B → Type 0} {toks toks' : List Token} {o o' : Outcome A} (v : A → B) → Goes src R toks toks' o o' → ((a : List Token) (x : A) → R a x → Q a (v x))
    → Goes src Q toks toks' (and_then o (λ x i. Ok (v x, i))) (and_then o' (λ x i. Ok (v x, i)))
maps {Q = Q} v g w = bound (λ x i. Ok (v x, i)) (λ x i. Ok (v x, i)) g (λ a x r left rest _ _. done (subst (λ (z : List Token). Q z (v x)) (sym (append-nil a)) (w a x r)))

-- ---- steps by the next token

-- the parsers are chosen by the kind of the next token, which they are given
pub kind_then : {B : Type 0} {src : List ℕ} {Q : List Token → B → Type 0} (toks toks' : List Token) (by by' : Option TokKind → Parser B)
    → ((tok : Token) (left rest : List Token) → length left ≤ length toks - 1 → length rest ≤ length toks' - 1 → Goes src Q (tok ∷ left) (tok ∷ rest) (by (Some tok.kind) (at src (tok ∷ left))) (by' (Some tok.kind) (at src (tok ∷ rest))))
    → Goes src Q [] [] (by None (at src [])) (by' None (at src []))
    → Goes src Q toks toks' (by (kind (at src toks)) (at src toks)) (by' (kind (at src toks')) (at src toks'))
unfolding kind first
kind_then [] toks' by by' some none = ended none
kind_then (tok ∷ toks) [] by by' some none = alone (some tok toks [] (omega arith) (omega arith))
kind_then {src = src} (tok ∷ toks) (tok' ∷ toks') by by' some none =
    share tok tok' (λ (z : Token). by' (Some z.kind) (at src (z ∷ toks'))) (some tok toks toks' (omega arith) (omega arith))

begun_by : {B : Type 0} {Q : List Token → B → Type 0} (known : Token) → Begun (λ b y. Q (known ∷ b) y) [] → Begun Q []
begun_by known b = record { more = known ∷ b.more; value = b.value; reads = b.reads }

said_by : {A B : Type 0} {src : List ℕ} {Q : List Token → B → Type 0} (f f' : A → Parser B) (tok : Token) (toks rest : List Token) (o : Option A) → Begun Q []
    → ((x : A) → o ≡ Some x → Goes src (λ b y. Q (tok ∷ b) y) toks rest (f x (at src toks)) (f' x (at src rest)))
    → Goes src Q (tok ∷ toks) (tok ∷ rest) (and_then (said o (at src (tok ∷ toks))) f) (and_then (said o (at src (tok ∷ rest))) f')
unfolding next
said_by f f' tok toks rest None begun hit = stops begun
said_by f f' tok toks rest (Some x) begun hit = passes tok (hit x refl)

-- where the next token says something, it is taken
pub said_then : {A B : Type 0} {src : List ℕ} {Q : List Token → B → Type 0} (says : Token → Option A) (known : Token) (value : A) → says known ≡ Some value → (toks toks' : List Token) (f f' : A → Parser B)
    → ((tok : Token) (x : A) → says tok ≡ Some x → (left rest : List Token) → length left ≤ length toks - 1 → length rest ≤ length toks' - 1 → Goes src (λ b y. Q (tok ∷ b) y) left rest (f x (at src left)) (f' x (at src rest)))
    → Goes src Q toks toks' (and_then (said (option_and_then says (first (at src toks))) (at src toks)) f) (and_then (said (option_and_then says (first (at src toks'))) (at src toks')) f')
unfolding first
said_then says known value e [] toks' f f' follow = ended {others = []} (stops (begun_by known (complete (follow known value e [] [] (omega arith) (omega arith)))))
said_then says known value e (tok ∷ toks) [] f f' follow =
    alone (said_by f f' tok toks [] (says tok) (begun_by known (complete (follow known value e [] [] (omega arith) (omega arith)))) (λ x h. follow tok x h toks [] (omega arith) (omega arith)))
said_then {src = src} says known value e (tok ∷ toks) (tok' ∷ toks') f f' follow =
    share tok tok' (λ (z : Token). and_then (said (says z) (at src (z ∷ toks'))) f')
    (said_by f f' tok toks toks' (says tok) (begun_by known (complete (follow known value e [] [] (omega arith) (omega arith)))) (λ x h. follow tok x h toks toks' (omega arith) (omega arith)))

abbrev pub a_token : TokKind → Token
a_token what = record { kind = what; from = 0; to = 0 }

-- a name is taken
pub name_then : {B : Type 0} {src : List ℕ} {Q : List Token → B → Type 0} (toks toks' : List Token) (f f' : Ident → Parser B)
    → ((tok : Token) → Is k.Word tok → (left rest : List Token) → length left ≤ length toks - 1 → length rest ≤ length toks' - 1
    → Goes src (λ b y. Q (tok ∷ b) y) left rest (f (ident src tok) (at src left)) (f' (ident src tok) (at src rest)))
    → Goes src Q toks toks' (and_then (name (at src toks)) f) (and_then (name (at src toks')) f')
unfolding name
name_then {src = src} {Q = Q} toks toks' f f' follow =
    said_then (name_of src) (a_token k.Word) (ident src (a_token k.Word)) refl toks toks' f f' (λ tok x e left rest l l'.
    let n = name_is (ident src tok) tok.kind x e in
    subst (λ (z : Ident). Goes src (λ b y. Q (tok ∷ b) y) left rest (f z (at src left)) (f' z (at src rest))) (sym n.1) (follow tok n.0 left rest l l'))

-- a number is taken
pub number_then : {B : Type 0} {src : List ℕ} {Q : List Token → B → Type 0} (toks toks' : List Token) (f f' : Number → Parser B)
    → ((tok : Token) (n : Number) → tables.number tok ≡ Some n → (left rest : List Token) → length left ≤ length toks - 1 → length rest ≤ length toks' - 1
    → Goes src (λ b y. Q (tok ∷ b) y) left rest (f n (at src left)) (f' n (at src rest)))
    → Goes src Q toks toks' (and_then (number (at src toks)) f) (and_then (number (at src toks')) f')
unfolding number
number_then toks toks' f f' follow = said_then tables.number (a_token (k.Int (pos 0))) (record { digits = digits.Int (pos 0); at = 0 }) refl toks toks' f f' follow

-- a type is taken
pub type_then : {B : Type 0} {src : List ℕ} {Q : List Token → B → Type 0} (toks toks' : List Token) (f f' : TyName → Parser B)
    → ((tok : Token) (t : TyName) → tables.type_name src tok ≡ Some t → (left rest : List Token) → length left ≤ length toks - 1 → length rest ≤ length toks' - 1
    → Goes src (λ b y. Q (tok ∷ b) y) left rest (f t (at src left)) (f' t (at src rest)))
    → Goes src Q toks toks' (and_then (type_name (at src toks)) f) (and_then (type_name (at src toks')) f')
unfolding type_name
type_then {src = src} toks toks' f f' follow = said_then (tables.type_name src) (a_token k.KwInt) ty.Int refl toks toks' f f' follow

combined : (src : List ℕ) (toks : List Token) → combinator (at src toks) ≡ said (option_and_then (λ (tok : Token). combines tok.kind) (first (at src toks))) (at src toks)
unfolding combinator kind first
combined src [] = refl
combined src (tok ∷ toks) = refl

-- how an effect is joined is taken
pub combinator_then : {B : Type 0} {src : List ℕ} {Q : List Token → B → Type 0} (toks toks' : List Token) (f f' : CombName → Parser B)
    → ((tok : Token) (c : CombName) → combines tok.kind ≡ Some c → (left rest : List Token) → length left ≤ length toks - 1 → length rest ≤ length toks' - 1
    → Goes src (λ b y. Q (tok ∷ b) y) left rest (f c (at src left)) (f' c (at src rest)))
    → Goes src Q toks toks' (and_then (combinator (at src toks)) f) (and_then (combinator (at src toks')) f')
combinator_then {src = src} toks toks' f f' follow =
    recast (ap (λ (z : Outcome CombName). and_then z f) (combined src toks)) (ap (λ (z : Outcome CombName). and_then z f') (combined src toks'))
    (said_then (λ (tok : Token). combines tok.kind) (a_token k.KwSum) comb.Sum refl toks toks' f f' follow)

-- ---- marks

is_mark : (wanted : Mark) (tok : Token) → marked wanted (mark_of tok.kind) ≡ true → Is (kind_of wanted) tok
unfolding sees kind first
is_mark wanted tok e = same_Some _ _ (seen (at [] (tok ∷ [])) wanted e)

abbrev passed_if : Bool → List ℕ → Token → List Token → Outcome ℕ
passed_if b src tok toks = if b then Ok (tok.from, at src toks) else Err (refusal (at src (tok ∷ toks)))

expect_by : {B : Type 0} {src : List ℕ} {Q : List Token → B → Type 0} (f f' : ℕ → Parser B) (tok : Token) (toks rest : List Token) (b : Bool) → Begun Q []
    → (b ≡ true → Goes src (λ b y. Q (tok ∷ b) y) toks rest (f tok.from (at src toks)) (f' tok.from (at src rest)))
    → Goes src Q (tok ∷ toks) (tok ∷ rest) (and_then (passed_if b src tok toks) f) (and_then (passed_if b src tok rest) f')
expect_by f f' tok toks rest true begun hit = passes tok (hit refl)
expect_by f f' tok toks rest false begun hit = stops begun

-- a mark is taken
pub expect_then : {B : Type 0} {src : List ℕ} {Q : List Token → B → Type 0} (wanted : Mark) (toks toks' : List Token) (f f' : ℕ → Parser B)
    → ((tok : Token) → Is (kind_of wanted) tok → (left rest : List Token) → length left ≤ length toks - 1 → length rest ≤ length toks' - 1
    → Goes src (λ b y. Q (tok ∷ b) y) left rest (f tok.from (at src left)) (f' tok.from (at src rest)))
    → Goes src Q toks toks' (and_then (expect wanted (at src toks)) f) (and_then (expect wanted (at src toks')) f')
unfolding expect sees kind place next first
expect_then wanted [] toks' f f' follow =
    ended {others = []} (stops (begun_by (a_token (kind_of wanted)) (complete (follow (a_token (kind_of wanted)) refl [] [] (omega arith) (omega arith)))))
expect_then wanted (tok ∷ toks) [] f f' follow =
    alone (expect_by f f' tok toks [] (marked wanted (mark_of tok.kind)) (begun_by (a_token (kind_of wanted)) (complete (follow (a_token (kind_of wanted)) refl [] [] (omega arith) (omega arith))))
    (λ e. follow tok (is_mark wanted tok e) toks [] (omega arith) (omega arith)))
expect_then {src = src} wanted (tok ∷ toks) (tok' ∷ toks') f f' follow =
    share tok tok' (λ (z : Token). and_then (passed_if (marked wanted (mark_of z.kind)) src z toks') f')
    (expect_by f f' tok toks toks' (marked wanted (mark_of tok.kind)) (begun_by (a_token (kind_of wanted)) (complete (follow (a_token (kind_of wanted)) refl [] [] (omega arith) (omega arith))))
    (λ e. follow tok (is_mark wanted tok e) toks toks' (omega arith) (omega arith)))

abbrev input_if : Bool → List ℕ → Token → List Token → Input
input_if b src tok toks = if b then at src toks else at src (tok ∷ toks)

eat_by : {B : Type 0} {src : List ℕ} {Q : List Token → B → Type 0} (p q p' q' : Parser B) (tok : Token) (toks rest : List Token) (b : Bool)
    → (b ≡ true → Goes src (λ b y. Q (tok ∷ b) y) toks rest (p (at src toks)) (p' (at src rest)))
    → Goes src Q (tok ∷ toks) (tok ∷ rest) (q (at src (tok ∷ toks))) (q' (at src (tok ∷ rest)))
    → Goes src Q (tok ∷ toks) (tok ∷ rest) ((if b then p else q) (input_if b src tok toks)) ((if b then p' else q') (input_if b src tok rest))
eat_by p q p' q' tok toks rest true hit miss = passes tok (hit refl)
eat_by p q p' q' tok toks rest false hit miss = miss

-- a mark is taken if it comes next
pub eat_then : {B : Type 0} {src : List ℕ} {Q : List Token → B → Type 0} (wanted : Mark) (toks toks' : List Token) (p q p' q' : Parser B)
    → ((tok : Token) → Is (kind_of wanted) tok → (left rest : List Token) → length left ≤ length toks - 1 → length rest ≤ length toks' - 1
    → Goes src (λ b y. Q (tok ∷ b) y) left rest (p (at src left)) (p' (at src rest)))
    → ((left rest : List Token) → length left ≤ length toks → length rest - 1 ≤ length toks' - 1 → Goes src Q left rest (q (at src left)) (q' (at src rest)))
    → Goes src Q toks toks' ((if sees wanted (at src toks) then p else q) (after wanted (at src toks))) ((if sees wanted (at src toks') then p' else q') (after wanted (at src toks')))
unfolding sees kind next first after
eat_then wanted [] toks' p q p' q' hit miss = ended (miss [] [] (omega arith) (omega arith))
eat_then wanted (tok ∷ toks) [] p q p' q' hit miss =
    alone (eat_by p q p' q' tok toks [] (marked wanted (mark_of tok.kind)) (λ e. hit tok (is_mark wanted tok e) toks [] (omega arith) (omega arith)) (miss (tok ∷ toks) (tok ∷ []) (omega arith) (omega arith)))
eat_then {src = src} wanted (tok ∷ toks) (tok' ∷ toks') p q p' q' hit miss =
    share tok tok' (λ (z : Token). (if marked wanted (mark_of z.kind) then p' else q') (input_if (marked wanted (mark_of z.kind)) src z toks'))
    (eat_by p q p' q' tok toks toks' (marked wanted (mark_of tok.kind)) (λ e. hit tok (is_mark wanted tok e) toks toks' (omega arith) (omega arith)) (miss (tok ∷ toks) (tok ∷ toks') (omega arith) (omega arith)))

sees_by : {B : Type 0} {src : List ℕ} {Q : List Token → B → Type 0} (p q p' q' : Parser B) (toks toks' : List Token) (b : Bool)
    → (b ≡ true → Goes src Q toks toks' (p (at src toks)) (p' (at src toks')))
    → Goes src Q toks toks' (q (at src toks)) (q' (at src toks'))
    → Goes src Q toks toks' ((if b then p else q) (at src toks)) ((if b then p' else q') (at src toks'))
sees_by p q p' q' toks toks' true hit miss = hit refl
sees_by p q p' q' toks toks' false hit miss = miss

-- the way is chosen by a mark, which is left
pub sees_then : {B : Type 0} {src : List ℕ} {Q : List Token → B → Type 0} (wanted : Mark) (toks toks' : List Token) (p q p' q' : Parser B)
    → ((tok : Token) → Is (kind_of wanted) tok → (left rest : List Token) → length left ≤ length toks - 1 → length rest ≤ length toks' - 1
    → Goes src Q (tok ∷ left) (tok ∷ rest) (p (at src (tok ∷ left))) (p' (at src (tok ∷ rest))))
    → ((left rest : List Token) → length left ≤ length toks → length rest - 1 ≤ length toks' - 1 → Goes src Q left rest (q (at src left)) (q' (at src rest)))
    → Goes src Q toks toks' ((if sees wanted (at src toks) then p else q) (at src toks)) ((if sees wanted (at src toks') then p' else q') (at src toks'))
unfolding sees kind first
sees_then wanted [] toks' p q p' q' hit miss = ended (miss [] [] (omega arith) (omega arith))
sees_then wanted (tok ∷ toks) [] p q p' q' hit miss =
    alone (sees_by p q p' q' (tok ∷ toks) (tok ∷ []) (marked wanted (mark_of tok.kind)) (λ e. hit tok (is_mark wanted tok e) toks [] (omega arith) (omega arith)) (miss (tok ∷ toks) (tok ∷ []) (omega arith) (omega arith)))
sees_then {src = src} wanted (tok ∷ toks) (tok' ∷ toks') p q p' q' hit miss =
    share tok tok' (λ (z : Token). (if marked wanted (mark_of z.kind) then p' else q') (at src (z ∷ toks')))
    (sees_by p q p' q' (tok ∷ toks) (tok ∷ toks') (marked wanted (mark_of tok.kind)) (λ e. hit tok (is_mark wanted tok e) toks toks' (omega arith) (omega arith)) (miss (tok ∷ toks) (tok ∷ toks') (omega arith) (omega arith)))

-- ---- tables

where_by : {A B : Type 0} {src : List ℕ} {Q : List Token → B → Type 0} (found found' : A → Parser B) (missing missing' : Parser B) (toks toks' : List Token) (o : Option A)
    → ((x : A) → o ≡ Some x → Goes src Q toks toks' (found x (at src toks)) (found' x (at src toks')))
    → Goes src Q toks toks' (missing (at src toks)) (missing' (at src toks'))
    → Goes src Q toks toks' (where_some o found missing (at src toks)) (where_some o found' missing' (at src toks'))
where_by found found' missing missing' toks toks' None hit miss = miss
where_by found found' missing missing' toks toks' (Some x) hit miss = hit x refl

-- the way is chosen by what a table says of the next token, which is left
pub where_then : {A B : Type 0} {src : List ℕ} {Q : List Token → B → Type 0} (table : TokKind → Option A) (toks toks' : List Token) (found found' : A → Parser B) (missing missing' : Parser B)
    → ((tok : Token) (x : A) → table tok.kind ≡ Some x → (left rest : List Token) → length left ≤ length toks - 1 → length rest ≤ length toks' - 1
    → Goes src Q (tok ∷ left) (tok ∷ rest) (found x (at src (tok ∷ left))) (found' x (at src (tok ∷ rest))))
    → ((left rest : List Token) → length left ≤ length toks → length rest - 1 ≤ length toks' - 1 → Goes src Q left rest (missing (at src left)) (missing' (at src rest)))
    → Goes src Q toks toks' (where_some (option_and_then table (kind (at src toks))) found missing (at src toks)) (where_some (option_and_then table (kind (at src toks'))) found' missing' (at src toks'))
unfolding kind first
where_then table [] toks' found found' missing missing' hit miss = ended (miss [] [] (omega arith) (omega arith))
where_then table (tok ∷ toks) [] found found' missing missing' hit miss =
    alone (where_by found found' missing missing' (tok ∷ toks) (tok ∷ []) (table tok.kind) (λ x e. hit tok x e toks [] (omega arith) (omega arith)) (miss (tok ∷ toks) (tok ∷ []) (omega arith) (omega arith)))
where_then {src = src} table (tok ∷ toks) (tok' ∷ toks') found found' missing missing' hit miss =
    share tok tok' (λ (z : Token). where_some (table z.kind) found' missing' (at src (z ∷ toks')))
    (where_by found found' missing missing' (tok ∷ toks) (tok ∷ toks') (table tok.kind) (λ x e. hit tok x e toks toks' (omega arith) (omega arith)) (miss (tok ∷ toks) (tok ∷ toks') (omega arith) (omega arith)))
