-- The brackets and operators of an expression: what it is read from has as many at least, and its canonical row has no more.
use Rattle.std.proofs.Common.{◌≡◌, refl, sym, ap, ◌∙◌, subst, ℕ, ◌+◌, ◌≤◌, ◌/◌, ◌%◌, nat_lt, max, List, [], ◌∷◌, ◌++◌, Bool, true, false, ◌&&◌, if◌then◌else◌, Some, arith, append_assoc, pos, codes}
use Rattle.std.specs.Fmt.{decimal}
use Rattle.std.proofs.lemmas.Bool.Decides.{nat_tests}
use Rattle.std.proofs.lemmas.Option.{same_Some}
use Rattle.std.proofs.lemmas.Bool.{and_parts}
use Rattle.brace_num.specs.Names.{is_name}
use Rattle.brace_num.specs.Spelling.{six_digits}
use Rattle.brace_tok.specs.Tables.{reserved, symbol}
use Rattle.brace_tok.specs.Pieces.{word, whole, fraction, sign}
use Rattle.brace_tok.specs.Roles.{role_at, token}
use Rattle.brace_tok.specs.declared.kinds.Token.{Token}
use Rattle.brace_tok.specs.declared.kinds.TokKind.{TokKind}
use Rattle.brace_tok.specs.declared.kinds.TokKind.TheVariants as k
use Rattle.brace_syntax.specs.Depth.{opened_by, counted_by}
use Rattle.brace_syntax.specs.Tables.{Is, compares, prefixes, calls_one, calls_two, number_at}
use Rattle.brace_syntax.specs.Reads as g
use Rattle.brace_syntax.specs.Reads.{ReadsExpr, operands, repeats}
use Rattle.brace_syntax.specs.declared.tree.Number.{Number}
use Rattle.brace_syntax.specs.declared.tree.Digits.{Digits}
use Rattle.brace_syntax.specs.declared.tree.Digits.TheVariants.{Int, Fixed}
use Rattle.brace_syntax.specs.declared.tree.UnName.{UnName}
use Rattle.brace_syntax.specs.declared.tree.UnName.TheVariants as un
use Rattle.brace_syntax.specs.declared.tree.BinName.{BinName}
use Rattle.brace_syntax.specs.declared.tree.BinName.TheVariants as bin
use Rattle.brace_syntax.specs.declared.tree.ExprTree.{ExprTree}
use Rattle.brace_syntax.specs.declared.tree.ExprTree.TheVariants as e
use Rattle.brace_syntax.specs.declared.tree.ExprTree.TheOpen as expr
use Rattle.brace_syntax.specs.declared.tree.ExprTree.TheViews.{roll-ExprTree}
use Rattle.brace_syntax.specs.declared.tree.ExprTree.TheFolds.{fold-ExprTree, fold-roll-ExprTree, ind-ExprTree, map-ExprTree}
use Rattle.brace_show.specs.Literals.{shortened}
use Rattle.brace_show.proofs.Rows.{Row, mark, letters, literal_row, Phrased, row_at, atom_row, call_one_row, call_two_row, prefixed_row, between_row, unary_row, binary_row, choice_row, phrased_step, phrased_of, expression_row}
use Rattle.brace_show.proofs.Sound.{digits_are, expr_sound_step, expr_sound}
use Rattle.brace_show.proofs.RowRoles.{name_says, whole_says, fraction_says}
use Rattle.brace_show.proofs.ExprReads.{need}
use Rattle.brace_show.proofs.Calm.{Calm, few_open, few_counted, after_token, past_token, past_close, Runs, ◌⊕◌, runs_to, plain, counts, blank_runs, opens, closes}

-- how tightly an expression binds, how many brackets are open in it at most, and how many operators it has
pub record Measure : Type 0 where
  pub level : ℕ
  pub brackets : ℕ
  pub count : ℕ

abbrev pub brackets_at : ℕ → Measure → ℕ
brackets_at needed x = if nat_lt x.level needed then x.brackets + 1 else x.brackets

abbrev atom_measure : ℕ → Measure
atom_measure n = record { level = 8; brackets = n; count = 0 }

abbrev call_one_measure : Measure → Measure
call_one_measure x = record { level = 8; brackets = brackets_at 1 x + 1; count = x.count }

abbrev call_two_measure : Measure → Measure → Measure
call_two_measure x y = record { level = 8; brackets = max (brackets_at 1 x) (brackets_at 1 y) + 1; count = x.count + y.count }

abbrev prefixed_measure : Measure → Measure
prefixed_measure x = record { level = 7; brackets = brackets_at 7 x; count = x.count + 1 }

abbrev between_measure : ℕ → ℕ → ℕ → Measure → Measure → Measure
between_measure level left right x y = record { level = level; brackets = max (brackets_at left x) (brackets_at right y); count = x.count + 1 + y.count }

abbrev unary_measure : UnName → Measure → Measure
unary_measure un.Neg = prefixed_measure
unary_measure un.Not = prefixed_measure
unary_measure _ = call_one_measure

abbrev binary_measure : BinName → Measure → Measure → Measure
binary_measure bin.Or = between_measure 2 2 3
binary_measure bin.And = between_measure 3 3 4
binary_measure bin.Add = between_measure 5 5 6
binary_measure bin.Sub = between_measure 5 5 6
binary_measure bin.Mul = between_measure 6 6 7
binary_measure bin.Div = between_measure 6 6 7
binary_measure bin.Rem = between_measure 6 6 7
binary_measure bin.Min = call_two_measure
binary_measure bin.Max = call_two_measure
binary_measure _ = between_measure 4 5 5

abbrev choice_measure : Measure → Measure → Measure → Measure
choice_measure c x y = record { level = 1; brackets = max (brackets_at 2 c) (max (brackets_at 1 x) (brackets_at 1 y)); count = c.count + 1 + x.count + y.count }

abbrev measure_step : expr.ExprTree-F Measure → Measure
measure_step (expr.Unary op x at) = unary_measure op x
measure_step (expr.Binary op x y at) = binary_measure op x y
measure_step (expr.Choice c x y at) = choice_measure c x y
measure_step (expr.Rand at) = atom_measure 1
measure_step _ = atom_measure 0

abbrev pub measure : ExprTree → Measure
measure = fold-ExprTree Measure measure_step

measure_is : (x : expr.ExprTree-F ExprTree) (t : ExprTree) → roll-ExprTree x ≡ t → measure t ≡ measure_step (map-ExprTree ExprTree Measure measure x)
measure_is x t h = ap measure (sym h) ∙ fold-roll-ExprTree Measure measure_step x

-- ---- what is read

-- calm tokens that begin with these have room for the expression where it stands
abbrev Weighs : ℕ → List Token → Measure → Type 0
Weighs needed a m = (o c : ℕ) (rest : List Token) → Calm o c (a ++ rest) → (o + brackets_at needed m ≤ 64) × Calm o (c + m.count) rest

looser_by : (a b : Bool) (n m l k : ℕ) → n ≤ m → nat_lt l n ≡ a → nat_lt l m ≡ b → (if a then k + 1 else k) ≤ (if b then k + 1 else k)
looser_by true true n m l k h p q = omega arith
looser_by true false n m l k h p q = absurd (grind (arith, nat_tests))
looser_by false true n m l k h p q = omega arith
looser_by false false n m l k h p q = omega arith

looser : (n m : ℕ) (x : Measure) → n ≤ m → brackets_at n x ≤ brackets_at m x
looser n m x h = looser_by (nat_lt x.level n) (nat_lt x.level m) n m x.level x.brackets h refl refl

at_most_by : (b : Bool) (k : ℕ) → (if b then k + 1 else k) ≤ k + 1
at_most_by true k = omega arith
at_most_by false k = omega arith

at_most : (n : ℕ) (x : Measure) → brackets_at n x ≤ x.brackets + 1
at_most n x = at_most_by (nat_lt x.level n) x.brackets

at_least_by : (b : Bool) (k : ℕ) → k ≤ (if b then k + 1 else k)
at_least_by true k = omega arith
at_least_by false k = omega arith

at_least : (n : ℕ) (x : Measure) → x.brackets ≤ brackets_at n x
at_least n x = at_least_by (nat_lt x.level n) x.brackets

own_by : (b : Bool) (n l k : ℕ) → n ≤ l → nat_lt l n ≡ b → (if b then k + 1 else k) ≤ k
own_by true n l k h p = absurd (grind (arith, nat_tests))
own_by false n l k h p = omega arith

own : (n : ℕ) (x : Measure) → n ≤ x.level → brackets_at n x ≤ x.brackets
own n x h = own_by (nat_lt x.level n) n x.level x.brackets h refl

tighter : (row inner : g.Row) → operands row ≡ Some inner → need row ≤ need inner
tighter g.primaries inner h = absurd (cc)
tighter _ inner h = omega (arith, ap need (same_Some _ _ h))

-- the kind is that of an operator
abbrev Operates : TokKind → Type 0
Operates kind = (o c : ℕ) → (opened_by o kind ≡ o) × (counted_by c kind ≡ c + 1)

-- the kind is neither that of a bracket nor that of an operator
abbrev Rests : TokKind → Type 0
Rests kind = (o c : ℕ) → (opened_by o kind ≡ o) × (counted_by c kind ≡ c)

-- an operator of a row that repeats, and the operation that it is
record Joins (row inner : g.Row) (kind : TokKind) (name : BinName) : Type 0 where
  operates : Operates kind
  is : (x y : Measure) → binary_measure name x y ≡ between_measure (need row) (need row) (need inner) x y

joins_as : (row : g.Row) (kind : TokKind) (n m : g.Row) (a b : BinName) → Operates kind → ((x y : Measure) → binary_measure a x y ≡ between_measure (need row) (need row) (need n) x y) → n ≡ m → a ≡ b → Joins row m kind b
joins_as row kind n m a b f is en eb = record {
  operates = f;
  is = λ x y. ap (λ (z : BinName). binary_measure z x y) (sym eb) ∙ (is x y ∙ ap (λ (z : g.Row). between_measure (need row) (need row) (need z) x y) en);
}

joins : (row inner : g.Row) (kind : TokKind) (name : BinName) → operands row ≡ Some inner → repeats row kind ≡ Some name → Joins row inner kind name
joins g.ors inner k.OrOr name h h' = joins_as g.ors k.OrOr g.ands inner bin.Or name (λ o c. (refl, refl)) (λ x y. refl) (same_Some _ _ h) (same_Some _ _ h')
joins g.ands inner k.AndAnd name h h' = joins_as g.ands k.AndAnd g.comparisons inner bin.And name (λ o c. (refl, refl)) (λ x y. refl) (same_Some _ _ h) (same_Some _ _ h')
joins g.sums inner k.Plus name h h' = joins_as g.sums k.Plus g.products inner bin.Add name (λ o c. (refl, refl)) (λ x y. refl) (same_Some _ _ h) (same_Some _ _ h')
joins g.sums inner k.Minus name h h' = joins_as g.sums k.Minus g.products inner bin.Sub name (λ o c. (refl, refl)) (λ x y. refl) (same_Some _ _ h) (same_Some _ _ h')
joins g.products inner k.Star name h h' = joins_as g.products k.Star g.prefixed inner bin.Mul name (λ o c. (refl, refl)) (λ x y. refl) (same_Some _ _ h) (same_Some _ _ h')
joins g.products inner k.Slash name h h' = joins_as g.products k.Slash g.prefixed inner bin.Div name (λ o c. (refl, refl)) (λ x y. refl) (same_Some _ _ h) (same_Some _ _ h')
joins g.products inner k.Percent name h h' = joins_as g.products k.Percent g.prefixed inner bin.Rem name (λ o c. (refl, refl)) (λ x y. refl) (same_Some _ _ h) (same_Some _ _ h')
joins row inner kind name h h' = absurd (cc)

compares_so : (kind : TokKind) (name : BinName) → compares kind ≡ Some name → Operates kind × ((x y : Measure) → binary_measure name x y ≡ between_measure 4 5 5 x y)
compares_so k.Less name h = (λ o c. (refl, refl), λ x y. ap (λ (z : BinName). binary_measure z x y) (sym (same_Some bin.Lt name h)))
compares_so k.LessEq name h = (λ o c. (refl, refl), λ x y. ap (λ (z : BinName). binary_measure z x y) (sym (same_Some bin.Le name h)))
compares_so k.Greater name h = (λ o c. (refl, refl), λ x y. ap (λ (z : BinName). binary_measure z x y) (sym (same_Some bin.Gt name h)))
compares_so k.GreaterEq name h = (λ o c. (refl, refl), λ x y. ap (λ (z : BinName). binary_measure z x y) (sym (same_Some bin.Ge name h)))
compares_so k.EqEq name h = (λ o c. (refl, refl), λ x y. ap (λ (z : BinName). binary_measure z x y) (sym (same_Some bin.Eq name h)))
compares_so k.NotEq name h = (λ o c. (refl, refl), λ x y. ap (λ (z : BinName). binary_measure z x y) (sym (same_Some bin.Ne name h)))
compares_so kind name h = absurd (cc)

prefixes_so : (kind : TokKind) (name : UnName) → prefixes kind ≡ Some name → Operates kind × ((x : Measure) → unary_measure name x ≡ prefixed_measure x)
prefixes_so k.Minus name h = (λ o c. (refl, refl), λ x. ap (λ (z : UnName). unary_measure z x) (sym (same_Some un.Neg name h)))
prefixes_so k.Not name h = (λ o c. (refl, refl), λ x. ap (λ (z : UnName). unary_measure z x) (sym (same_Some un.Not name h)))
prefixes_so kind name h = absurd (cc)

calls_one_so : (kind : TokKind) (name : UnName) → calls_one kind ≡ Some name → Rests kind × ((x : Measure) → unary_measure name x ≡ call_one_measure x)
calls_one_so k.KwAbs name h = (λ o c. (refl, refl), λ x. ap (λ (z : UnName). unary_measure z x) (sym (same_Some un.Abs name h)))
calls_one_so k.KwSqrt name h = (λ o c. (refl, refl), λ x. ap (λ (z : UnName). unary_measure z x) (sym (same_Some un.Sqrt name h)))
calls_one_so k.KwFixed name h = (λ o c. (refl, refl), λ x. ap (λ (z : UnName). unary_measure z x) (sym (same_Some un.ToFixed name h)))
calls_one_so k.KwTrunc name h = (λ o c. (refl, refl), λ x. ap (λ (z : UnName). unary_measure z x) (sym (same_Some un.Trunc name h)))
calls_one_so kind name h = absurd (cc)

calls_two_so : (kind : TokKind) (name : BinName) → calls_two kind ≡ Some name → Rests kind × ((x y : Measure) → binary_measure name x y ≡ call_two_measure x y)
calls_two_so k.KwMin name h = (λ o c. (refl, refl), λ x y. ap (λ (z : BinName). binary_measure z x y) (sym (same_Some bin.Min name h)))
calls_two_so k.KwMax name h = (λ o c. (refl, refl), λ x y. ap (λ (z : BinName). binary_measure z x y) (sym (same_Some bin.Max name h)))
calls_two_so kind name h = absurd (cc)

pub number_rests : (at : ℕ) (kind : TokKind) (n : Number) → number_at at kind ≡ Some n → Rests kind
number_rests at (k.Int z) n h o c = (refl, refl)
number_rests at (k.Fixed z) n h o c = (refl, refl)
number_rests at kind n h o c = absurd (cc)

-- past an operator, or a token that is neither that nor a bracket
past_operator : (tok : Token) (rest : List Token) (o c : ℕ) → Operates tok.kind → Calm o c (tok ∷ rest) → Calm o (c + 1) rest
past_operator tok rest o c f h = subst (λ z. Calm o z rest) (f o c).1 (subst (λ z. Calm z (counted_by c tok.kind) rest) (f o c).0 (after_token tok rest o c h))

pub past_rest : (tok : Token) (rest : List Token) (o c : ℕ) → Rests tok.kind → Calm o c (tok ∷ rest) → Calm o c rest
past_rest tok rest o c f h = subst (λ z. Calm o z rest) (f o c).1 (subst (λ z. Calm z (counted_by c tok.kind) rest) (f o c).0 (after_token tok rest o c h))

weighs_as : (n : ℕ) (a : List Token) (x y : Measure) → x ≡ y → Weighs n a y → Weighs n a x
weighs_as n a x y h f = subst (Weighs n a) (sym h) f

atom_weighs : (a : List Token) (t : ExprTree) (n : ℕ) → measure t ≡ atom_measure n → ((o c : ℕ) (rest : List Token) → Calm o c (a ++ rest) → (o + n ≤ 64) × Calm o c rest) → Weighs 8 a (measure t)
atom_weighs a t n h f = weighs_as 8 a (measure t) (atom_measure n) h (λ o c rest q.
    let r = f o c rest q in
    let e : c ≡ c + 0 = omega arith in
    (r.0, subst (λ z. Calm o z rest) e r.1))

-- one token alone
token_weighs : (kind : TokKind) (tok : Token) (t : ExprTree) → Is kind tok → Rests kind → measure t ≡ atom_measure 0 → Weighs 8 (tok ∷ []) (measure t)
token_weighs kind tok t is f h = atom_weighs (tok ∷ []) t 0 h (λ o c rest q.
    let l : o + 0 ≤ 64 = omega (arith, few_open o c (tok ∷ rest) q) in
    (l, past_rest tok rest o c (subst Rests (sym is) f) q))

between_weighs : (n l : ℕ) (p q : ℕ) (a b : List Token) (op : Token) (x y : Measure) → n ≤ l → Operates op.kind → Weighs p a x → Weighs q b y → Weighs n (a ++ op ∷ b) (between_measure l p q x y)
between_weighs n l p q a b op x y low f fx fy o c rest h =
    let m : Measure = between_measure l p q x y in
    let u = fx o c (op ∷ (b ++ rest)) (subst (Calm o c) (append_assoc a (op ∷ b) rest) h) in
    let v = fy o (c + x.count + 1) rest (past_operator op (b ++ rest) o (c + x.count) f u.1) in
    let e : c + x.count + 1 + y.count ≡ c + m.count = omega arith in
    let l1 : o + brackets_at p x ≤ 64 = u.0 in
    let l2 : o + brackets_at q y ≤ 64 = v.0 in
    let l3 : brackets_at n m ≤ max (brackets_at p x) (brackets_at q y) = own n m low in
    let l4 : o + brackets_at n m ≤ 64 = omega arith in
    (l4, subst (λ z. Calm o z rest) e v.1)

pub expr_weighs : (src : List ℕ) (row : g.Row) (a : List Token) (x : ExprTree) → ReadsExpr src row a x → Weighs (need row) a (measure x)
expr_weighs src _ _ _ (g.alone row inner a x hin r) = λ o c rest h.
    let u = expr_weighs src inner a x r o c rest h in
    let l1 : o + brackets_at (need inner) (measure x) ≤ 64 = u.0 in
    let l2 : brackets_at (need row) (measure x) ≤ brackets_at (need inner) (measure x) = looser (need row) (need inner) (measure x) (tighter row inner hin) in
    let l3 : o + brackets_at (need row) (measure x) ≤ 64 = omega arith in
    (l3, u.1)
expr_weighs src _ _ _ (g.joined row inner a b op name x y hin hop r s) =
    let j = joins row inner op.kind name hin hop in
    weighs_as (need row) (a ++ op ∷ b) (measure (e.Binary name x y op.from)) (between_measure (need row) (need row) (need inner) (measure x) (measure y))
    (measure_is (expr.Binary name x y op.from) (e.Binary name x y op.from) (e.rolls-Binary name x y op.from) ∙ j.is (measure x) (measure y))
    (between_weighs (need row) (need row) (need row) (need inner) a b op (measure x) (measure y) (omega arith) j.operates (expr_weighs src row a x r) (expr_weighs src inner b y s))
expr_weighs src _ _ _ (g.compared a b op name x y hop r s) =
    let j = compares_so op.kind name hop in
    weighs_as 4 (a ++ op ∷ b) (measure (e.Binary name x y op.from)) (between_measure 4 5 5 (measure x) (measure y))
    (measure_is (expr.Binary name x y op.from) (e.Binary name x y op.from) (e.rolls-Binary name x y op.from) ∙ j.1 (measure x) (measure y))
    (between_weighs 4 4 5 5 a b op (measure x) (measure y) (omega arith) j.0 (expr_weighs src g.sums a x r) (expr_weighs src g.sums b y s))
expr_weighs src _ _ _ (g.chosen a b d question colon w x y hq hc r s t) =
    weighs_as 1 ((a ++ question ∷ b) ++ colon ∷ d) (measure (e.Choice w x y question.from)) (choice_measure (measure w) (measure x) (measure y))
    (measure_is (expr.Choice w x y question.from) (e.Choice w x y question.from) (e.rolls-Choice w x y question.from)) (λ o c rest h.
    let m : Measure = choice_measure (measure w) (measure x) (measure y) in
    let h1 : Calm o c ((a ++ question ∷ b) ++ (colon ∷ (d ++ rest))) = subst (Calm o c) (append_assoc (a ++ question ∷ b) (colon ∷ d) rest) h in
    let u = expr_weighs src g.ors a w r o c (question ∷ (b ++ (colon ∷ (d ++ rest)))) (subst (Calm o c) (append_assoc a (question ∷ b) (colon ∷ (d ++ rest))) h1) in
    let c1 : ℕ = c + (measure w).count in
    let v = expr_weighs src g.choices b x s o (c1 + 1) (colon ∷ (d ++ rest)) (past_token k.Question question (b ++ (colon ∷ (d ++ rest))) o c1 hq u.1) in
    let c2 : ℕ = c1 + 1 + (measure x).count in
    let z = expr_weighs src g.choices d y t o c2 rest (past_token k.Colon colon (d ++ rest) o c2 hc v.1) in
    let e' : c2 + (measure y).count ≡ c + m.count = omega arith in
    let l1 : o + brackets_at 2 (measure w) ≤ 64 = u.0 in
    let l2 : o + brackets_at 1 (measure x) ≤ 64 = v.0 in
    let l3 : o + brackets_at 1 (measure y) ≤ 64 = z.0 in
    let l4 : o + brackets_at 1 m ≤ 64 = omega arith in
    (l4, subst (λ n. Calm o n rest) e' z.1))
expr_weighs src _ _ _ (g.prefix a op name x hop r) =
    let j = prefixes_so op.kind name hop in
    weighs_as 7 (op ∷ a) (measure (e.Unary name x op.from)) (prefixed_measure (measure x))
    (measure_is (expr.Unary name x op.from) (e.Unary name x op.from) (e.rolls-Unary name x op.from) ∙ j.1 (measure x)) (λ o c rest h.
    let u = expr_weighs src g.prefixed a x r o (c + 1) rest (past_operator op (a ++ rest) o c j.0 h) in
    let e' : c + 1 + (measure x).count ≡ c + ((measure x).count + 1) = omega arith in
    (u.0, subst (λ n. Calm o n rest) e' u.1))
expr_weighs src _ _ _ (g.literal tok n hn) =
    token_weighs tok.kind tok (e.Lit n) refl (number_rests tok.from tok.kind n hn) (measure_is (expr.Lit n) (e.Lit n) (e.rolls-Lit n))
expr_weighs src _ _ _ (g.truth tok is) = token_weighs k.KwTrue tok (e.True tok.from) is (λ o c. (refl, refl)) (measure_is (expr.True tok.from) (e.True tok.from) (e.rolls-True tok.from))
expr_weighs src _ _ _ (g.falsity tok is) = token_weighs k.KwFalse tok (e.False tok.from) is (λ o c. (refl, refl)) (measure_is (expr.False tok.from) (e.False tok.from) (e.rolls-False tok.from))
expr_weighs src _ _ _ (g.enclosed a opening closing x ho hc r) = λ o c rest h.
    let m : Measure = measure x in
    let h1 : Calm (o + 1) c ((a ++ closing ∷ []) ++ rest) = past_token k.OpenParen opening ((a ++ closing ∷ []) ++ rest) o c ho h in
    let u = expr_weighs src g.choices a x r (o + 1) c (closing ∷ rest) (subst (Calm (o + 1) c) (append_assoc a (closing ∷ []) rest) h1) in
    let l1 : o + 1 + brackets_at 1 m ≤ 64 = u.0 in
    let l2 : m.brackets ≤ brackets_at 1 m = at_least 1 m in
    let l3 : brackets_at 8 m ≤ m.brackets + 1 = at_most 8 m in
    let l4 : o + brackets_at 8 m ≤ 64 = omega arith in
    (l4, past_close closing rest o (c + m.count) hc u.1)
expr_weighs src _ _ _ (g.of_this this dot name ht hd hn) =
    atom_weighs (this ∷ dot ∷ name ∷ []) _ 0 (measure_is (expr.OfThis _ _) _ (e.rolls-OfThis _ _)) (λ o c rest h.
    let l : o + 0 ≤ 64 = omega (arith, few_open o c (this ∷ dot ∷ name ∷ rest) h) in
    (l, past_token k.Word name rest o c hn (past_token k.Dot dot (name ∷ rest) o c hd (past_token k.KwThis this (dot ∷ name ∷ rest) o c ht h))))
expr_weighs src _ _ _ (g.named name hn) = token_weighs k.Word name _ hn (λ o c. (refl, refl)) (measure_is (expr.Name _) _ (e.rolls-Name _))
expr_weighs src _ _ _ (g.of_loop loop dot name hl hd hn) =
    atom_weighs (loop ∷ dot ∷ name ∷ []) _ 0 (measure_is (expr.OfLoop _ _) _ (e.rolls-OfLoop _ _)) (λ o c rest h.
    let l : o + 0 ≤ 64 = omega (arith, few_open o c (loop ∷ dot ∷ name ∷ rest) h) in
    (l, past_token k.Word name rest o c hn (past_token k.Dot dot (name ∷ rest) o c hd (past_token k.Word loop (dot ∷ name ∷ rest) o c hl h))))
expr_weighs src _ _ _ (g.called_one a w opening closing name x hop ho hc r) =
    let j = calls_one_so w.kind name hop in
    weighs_as 8 (w ∷ opening ∷ a ++ closing ∷ []) (measure (e.Unary name x w.from)) (call_one_measure (measure x))
    (measure_is (expr.Unary name x w.from) (e.Unary name x w.from) (e.rolls-Unary name x w.from) ∙ j.1 (measure x)) (λ o c rest h.
    let h1 = past_token k.OpenParen opening ((a ++ closing ∷ []) ++ rest) o c ho (past_rest w (opening ∷ ((a ++ closing ∷ []) ++ rest)) o c j.0 h) in
    let u = expr_weighs src g.choices a x r (o + 1) c (closing ∷ rest) (subst (Calm (o + 1) c) (append_assoc a (closing ∷ []) rest) h1) in
    let l1 : o + 1 + brackets_at 1 (measure x) ≤ 64 = u.0 in
    let l2 : o + (brackets_at 1 (measure x) + 1) ≤ 64 = omega arith in
    (l2, past_close closing rest o (c + (measure x).count) hc u.1))
expr_weighs src _ _ _ (g.called_two a b w opening comma closing name x y hop ho hm hc r s) =
    let j = calls_two_so w.kind name hop in
    weighs_as 8 (w ∷ opening ∷ ((a ++ comma ∷ b) ++ closing ∷ [])) (measure (e.Binary name x y w.from)) (call_two_measure (measure x) (measure y))
    (measure_is (expr.Binary name x y w.from) (e.Binary name x y w.from) (e.rolls-Binary name x y w.from) ∙ j.1 (measure x) (measure y)) (λ o c rest h.
    let all : List Token = (a ++ comma ∷ b) ++ closing ∷ [] in
    let h1 = past_token k.OpenParen opening (all ++ rest) o c ho (past_rest w (opening ∷ (all ++ rest)) o c j.0 h) in
    let h2 : Calm (o + 1) c ((a ++ comma ∷ b) ++ (closing ∷ rest)) = subst (Calm (o + 1) c) (append_assoc (a ++ comma ∷ b) (closing ∷ []) rest) h1 in
    let u = expr_weighs src g.choices a x r (o + 1) c (comma ∷ (b ++ (closing ∷ rest))) (subst (Calm (o + 1) c) (append_assoc a (comma ∷ b) (closing ∷ rest)) h2) in
    let c1 : ℕ = c + (measure x).count in
    let v = expr_weighs src g.choices b y s (o + 1) c1 (closing ∷ rest) (past_token k.Comma comma (b ++ (closing ∷ rest)) (o + 1) c1 hm u.1) in
    let e' : c1 + (measure y).count ≡ c + ((measure x).count + (measure y).count) = omega arith in
    let l1 : o + 1 + brackets_at 1 (measure x) ≤ 64 = u.0 in
    let l2 : o + 1 + brackets_at 1 (measure y) ≤ 64 = v.0 in
    let l3 : o + (max (brackets_at 1 (measure x)) (brackets_at 1 (measure y)) + 1) ≤ 64 = omega arith in
    (l3, subst (λ n. Calm o n rest) e' (past_close closing rest o (c1 + (measure y).count) hc v.1)))
expr_weighs src _ _ _ (g.random w opening closing hw ho hc) =
    atom_weighs (w ∷ opening ∷ closing ∷ []) _ 1 (measure_is (expr.Rand _) _ (e.rolls-Rand _)) (λ o c rest h.
    let h1 : Calm (o + 1) c (closing ∷ rest) = past_token k.OpenParen opening (closing ∷ rest) o c ho (past_token k.KwRand w (opening ∷ closing ∷ rest) o c hw h) in
    (few_open (o + 1) c (closing ∷ rest) h1, past_close closing rest o c hc h1))

-- ---- the canonical row

-- the row runs wherever there is room for the expression
record Fine (p : Phrased) (m : Measure) : Type 0 where
  runs : (needed o c : ℕ) → o + brackets_at needed m ≤ 64 → Runs o c (row_at needed p) o (c + m.count)

fine_by : (b : Bool) (row : Row) (n count o c : ℕ) → ((o c : ℕ) → o + n ≤ 64 → Runs o c row o (c + count)) → o + (if b then n + 1 else n) ≤ 64
    → Runs o c (if b then mark (codes "(") ++ row ++ mark (codes ")") else row) o (c + count)
fine_by true row n count o c f l =
    let l1 : o + 1 + n ≤ 64 = omega arith in
    let l2 : o + 1 ≤ 64 = omega arith in
    opens o c ⊕ f (o + 1) c l1 ⊕ closes o (c + count) l2
fine_by false row n count o c f l = f o c l

fine : (level n count : ℕ) (row : Row) → ((o c : ℕ) → o + n ≤ 64 → Runs o c row o (c + count)) → Fine (record { level = level; row = row }) (record { level = level; brackets = n; count = count })
fine level n count row f = record { runs = λ needed o c l. fine_by (nat_lt level needed) row n count o c f l }

between_fine : (level left right : ℕ) (marks : List ℕ) (kind : TokKind) (p q : Phrased) (x y : Measure) → ((from : ℕ) → role_at from (sign marks) ≡ token kind) → Operates kind → Fine p x → Fine q y
    → Fine (between_row level left right marks p q) (between_measure level left right x y)
between_fine level left right marks kind p q x y role f fp fq = fine level _ _ _ (λ o c l.
    let l1 : o + brackets_at left x ≤ 64 = omega arith in
    let l2 : o + brackets_at right y ≤ 64 = omega arith in
    let e' : c + x.count + 1 + y.count ≡ c + (x.count + 1 + y.count) = omega arith in
    runs_to _ _ _ _ _ _ e' (fp.runs left o c l1 ⊕ blank_runs 32 o (c + x.count) ⊕ counts kind (sign marks) o (c + x.count) role (f o (c + x.count)).0 (f o (c + x.count)).1 ⊕ blank_runs 32 o (c + x.count + 1) ⊕ fq.runs right o (c + x.count + 1) l2))

prefixed_fine : (marks : List ℕ) (kind : TokKind) (p : Phrased) (x : Measure) → ((from : ℕ) → role_at from (sign marks) ≡ token kind) → Operates kind → Fine p x → Fine (prefixed_row marks p) (prefixed_measure x)
prefixed_fine marks kind p x role f fp = fine 7 _ _ _ (λ o c l.
    let e' : c + 1 + x.count ≡ c + (x.count + 1) = omega arith in
    runs_to _ _ _ _ _ _ e' (counts kind (sign marks) o c role (f o c).0 (f o c).1 ⊕ fp.runs 7 o (c + 1) l))

word_runs : (text : List ℕ) (kind : TokKind) (o c : ℕ) → ((from : ℕ) → role_at from (word text) ≡ token kind) → Rests kind → Runs o c (letters text) o c
word_runs text kind o c role f = plain kind (word text) o c role (f o c).0 (f o c).1

call_one_fine : (called : List ℕ) (kind : TokKind) (p : Phrased) (x : Measure) → ((from : ℕ) → role_at from (word called) ≡ token kind) → Rests kind → Fine p x → Fine (call_one_row called p) (call_one_measure x)
call_one_fine called kind p x role f fp = fine 8 _ _ _ (λ o c l.
    let l1 : o + 1 + brackets_at 1 x ≤ 64 = omega arith in
    let l2 : o + 1 ≤ 64 = omega arith in
    word_runs called kind o c role f ⊕ opens o c ⊕ fp.runs 1 (o + 1) c l1 ⊕ closes o (c + x.count) l2)

call_two_fine : (called : List ℕ) (kind : TokKind) (p q : Phrased) (x y : Measure) → ((from : ℕ) → role_at from (word called) ≡ token kind) → Rests kind → Fine p x → Fine q y
    → Fine (call_two_row called p q) (call_two_measure x y)
unfolding symbol
call_two_fine called kind p q x y role f fp fq = fine 8 _ _ _ (λ o c l.
    let l1 : o + 1 + brackets_at 1 x ≤ 64 = omega arith in
    let l2 : o + 1 + brackets_at 1 y ≤ 64 = omega arith in
    let l3 : o + 1 ≤ 64 = omega arith in
    let e' : c + x.count + y.count ≡ c + (x.count + y.count) = omega arith in
    runs_to _ _ _ _ _ _ e' (word_runs called kind o c role f ⊕ opens o c ⊕ fp.runs 1 (o + 1) c l1 ⊕ plain k.Comma (sign (codes ",")) (o + 1) (c + x.count) (λ from. refl) refl refl ⊕ blank_runs 32 (o + 1) (c + x.count) ⊕ fq.runs 1 (o + 1) (c + x.count) l2 ⊕ closes o (c + x.count + y.count) l3))

choice_fine : (p q r : Phrased) (w x y : Measure) → Fine p w → Fine q x → Fine r y → Fine (choice_row p q r) (choice_measure w x y)
unfolding symbol
choice_fine p q r w x y fp fq fr = fine 1 _ _ _ (λ o c l.
    let l1 : o + brackets_at 2 w ≤ 64 = omega arith in
    let l2 : o + brackets_at 1 x ≤ 64 = omega arith in
    let l3 : o + brackets_at 1 y ≤ 64 = omega arith in
    let c1 : ℕ = c + w.count in
    let c2 : ℕ = c1 + 1 + x.count in
    let e' : c2 + y.count ≡ c + (w.count + 1 + x.count + y.count) = omega arith in
    runs_to _ _ _ _ _ _ e' (fp.runs 2 o c l1 ⊕ blank_runs 32 o c1 ⊕ counts k.Question (sign (codes "?")) o c1 (λ from. refl) refl refl ⊕ blank_runs 32 o (c1 + 1) ⊕ fq.runs 1 o (c1 + 1) l2
    ⊕ blank_runs 32 o c2 ⊕ plain k.Colon (sign (codes ":")) o c2 (λ from. refl) refl refl ⊕ blank_runs 32 o c2 ⊕ fr.runs 1 o c2 l3))

unary_fine : (op : UnName) (p : Phrased) (x : Measure) → Fine p x → Fine (unary_row op p) (unary_measure op x)
unfolding symbol reserved
unary_fine un.Neg p x = prefixed_fine (codes "-") k.Minus p x (λ from. refl) (λ o c. (refl, refl))
unary_fine un.Not p x = prefixed_fine (codes "!") k.Not p x (λ from. refl) (λ o c. (refl, refl))
unary_fine un.Abs p x = call_one_fine (codes "abs") k.KwAbs p x (λ from. refl) (λ o c. (refl, refl))
unary_fine un.Sqrt p x = call_one_fine (codes "sqrt") k.KwSqrt p x (λ from. refl) (λ o c. (refl, refl))
unary_fine un.ToFixed p x = call_one_fine (codes "fixed") k.KwFixed p x (λ from. refl) (λ o c. (refl, refl))
unary_fine un.Trunc p x = call_one_fine (codes "trunc") k.KwTrunc p x (λ from. refl) (λ o c. (refl, refl))

binary_fine : (op : BinName) (p q : Phrased) (x y : Measure) → Fine p x → Fine q y → Fine (binary_row op p q) (binary_measure op x y)
unfolding symbol reserved
binary_fine bin.Or p q x y = between_fine 2 2 3 (codes "||") k.OrOr p q x y (λ from. refl) (λ o c. (refl, refl))
binary_fine bin.And p q x y = between_fine 3 3 4 (codes "&&") k.AndAnd p q x y (λ from. refl) (λ o c. (refl, refl))
binary_fine bin.Lt p q x y = between_fine 4 5 5 (codes "<") k.Less p q x y (λ from. refl) (λ o c. (refl, refl))
binary_fine bin.Le p q x y = between_fine 4 5 5 (codes "<=") k.LessEq p q x y (λ from. refl) (λ o c. (refl, refl))
binary_fine bin.Gt p q x y = between_fine 4 5 5 (codes ">") k.Greater p q x y (λ from. refl) (λ o c. (refl, refl))
binary_fine bin.Ge p q x y = between_fine 4 5 5 (codes ">=") k.GreaterEq p q x y (λ from. refl) (λ o c. (refl, refl))
binary_fine bin.Eq p q x y = between_fine 4 5 5 (codes "==") k.EqEq p q x y (λ from. refl) (λ o c. (refl, refl))
binary_fine bin.Ne p q x y = between_fine 4 5 5 (codes "!=") k.NotEq p q x y (λ from. refl) (λ o c. (refl, refl))
binary_fine bin.Add p q x y = between_fine 5 5 6 (codes "+") k.Plus p q x y (λ from. refl) (λ o c. (refl, refl))
binary_fine bin.Sub p q x y = between_fine 5 5 6 (codes "-") k.Minus p q x y (λ from. refl) (λ o c. (refl, refl))
binary_fine bin.Mul p q x y = between_fine 6 6 7 (codes "*") k.Star p q x y (λ from. refl) (λ o c. (refl, refl))
binary_fine bin.Div p q x y = between_fine 6 6 7 (codes "/") k.Slash p q x y (λ from. refl) (λ o c. (refl, refl))
binary_fine bin.Rem p q x y = between_fine 6 6 7 (codes "%") k.Percent p q x y (λ from. refl) (λ o c. (refl, refl))
binary_fine bin.Min p q x y = call_two_fine (codes "min") k.KwMin p q x y (λ from. refl) (λ o c. (refl, refl))
binary_fine bin.Max p q x y = call_two_fine (codes "max") k.KwMax p q x y (λ from. refl) (λ o c. (refl, refl))

-- a row with no operator
atom_fine : (n : ℕ) (row : Row) → ((o c : ℕ) → o + n ≤ 64 → Runs o c row o c) → Fine (atom_row row) (atom_measure n)
atom_fine n row f = fine 8 n 0 row (λ o c l. let e' : c ≡ c + 0 = omega arith in runs_to o c o c (c + 0) row e' (f o c l))

pub literal_runs : (d : Digits) → digits_are d ≡ true → (o c : ℕ) → Runs o c (literal_row d) o c
literal_runs (Int (pos n)) s o c = plain (k.Int (pos n)) (whole (decimal n)) o c (λ from. whole_says from n s) refl refl
literal_runs (Fixed (pos n)) s o c = plain (k.Fixed (pos n)) (fraction (decimal (n / 1000000)) (shortened (six_digits (n % 1000000)))) o c (λ from. fraction_says from n s) refl refl
literal_runs _ s o c = absurd (cc)

pub name_runs : (text : List ℕ) → is_name text ≡ true → (o c : ℕ) → Runs o c (letters text) o c
name_runs text s o c = plain k.Word (word text) o c (λ from. name_says from text s) refl refl

abbrev SoundIsFine : ExprTree → Type 0
SoundIsFine x = expr_sound x ≡ true → Fine (phrased_of x) (measure x)

rolled : (x : expr.ExprTree-F ExprTree)
    → (expr_sound_step (map-ExprTree ExprTree Bool expr_sound x) ≡ true → Fine (phrased_step (map-ExprTree ExprTree Phrased phrased_of x)) (measure_step (map-ExprTree ExprTree Measure measure x)))
    → SoundIsFine (roll-ExprTree x)
rolled x f s =
    let tree : ExprTree = roll-ExprTree x in
    subst (λ p. Fine p (measure tree)) (sym (fold-roll-ExprTree Phrased phrased_step x))
    (subst (λ m. Fine (phrased_step (map-ExprTree ExprTree Phrased phrased_of x)) m) (sym (fold-roll-ExprTree Measure measure_step x))
    (f (sym (fold-roll-ExprTree Bool expr_sound_step x) ∙ s)))

each_fine : (y : expr.ExprTree-F ((x : ExprTree) × SoundIsFine x)) → SoundIsFine (roll-ExprTree (map-ExprTree ((x : ExprTree) × SoundIsFine x) ExprTree (λ z. z.0) y))
unfolding symbol reserved
each_fine (expr.Lit n) = rolled (expr.Lit n) (λ s. atom_fine 0 _ (λ o c l. literal_runs n.digits s o c))
each_fine (expr.True at) = rolled (expr.True at) (λ s. atom_fine 0 _ (λ o c l. plain k.KwTrue (word (codes "true")) o c (λ from. refl) refl refl))
each_fine (expr.False at) = rolled (expr.False at) (λ s. atom_fine 0 _ (λ o c l. plain k.KwFalse (word (codes "false")) o c (λ from. refl) refl refl))
each_fine (expr.Name name) = rolled (expr.Name name) (λ s. atom_fine 0 _ (λ o c l. name_runs name.text s o c))
each_fine (expr.OfThis name at) = rolled (expr.OfThis name at) (λ s. atom_fine 0 _ (λ o c l.
    plain k.KwThis (word (codes "this")) o c (λ from. refl) refl refl ⊕ plain k.Dot (sign (codes ".")) o c (λ from. refl) refl refl ⊕ name_runs name.text s o c))
each_fine (expr.OfLoop loop name) = rolled (expr.OfLoop loop name) (λ s. atom_fine 0 _ (λ o c l.
    name_runs loop.text ((and_parts (is_name loop.text) (is_name name.text) s).0) o c ⊕ plain k.Dot (sign (codes ".")) o c (λ from. refl) refl refl ⊕ name_runs name.text ((and_parts (is_name loop.text) (is_name name.text) s).1) o c))
each_fine (expr.Unary op x at) = rolled (expr.Unary op x.0 at) (λ s. unary_fine op (phrased_of x.0) (measure x.0) (x.1 s))
each_fine (expr.Binary op x y at) = rolled (expr.Binary op x.0 y.0 at) (λ s.
    binary_fine op (phrased_of x.0) (phrased_of y.0) (measure x.0) (measure y.0) (x.1 ((and_parts (expr_sound x.0) (expr_sound y.0) s).0)) (y.1 ((and_parts (expr_sound x.0) (expr_sound y.0) s).1)))
each_fine (expr.Choice c x y at) = rolled (expr.Choice c.0 x.0 y.0 at) (λ s.
    let s' : (expr_sound c.0 && expr_sound x.0) ≡ true = (and_parts (expr_sound c.0 && expr_sound x.0) (expr_sound y.0) s).0 in
    choice_fine (phrased_of c.0) (phrased_of x.0) (phrased_of y.0) (measure c.0) (measure x.0) (measure y.0)
    (c.1 ((and_parts (expr_sound c.0) (expr_sound x.0) s').0)) (x.1 ((and_parts (expr_sound c.0) (expr_sound x.0) s').1)) (y.1 ((and_parts (expr_sound c.0 && expr_sound x.0) (expr_sound y.0) s).1)))
each_fine (expr.Rand at) = rolled (expr.Rand at) (λ s. atom_fine 1 _ (λ o c l. plain k.KwRand (word (codes "rand")) o c (λ from. refl) refl refl ⊕ opens o c ⊕ closes o c l))

expr_fine : (x : ExprTree) → expr_sound x ≡ true → Fine (phrased_of x) (measure x)
expr_fine = ind-ExprTree SoundIsFine (λ x y is. subst (λ z. SoundIsFine (roll-ExprTree z)) is (each_fine y))

-- ---- both

-- an expression that is read where the tokens are calm, and its row there
pub record Passed (o c : ℕ) (row : Row) (rest : List Token) : Type 0 where
  pub count : ℕ
  pub runs : Runs o c row o count
  pub calm : Calm o count rest
  pub few : count ≤ 256

pub expr_passed : (src : List ℕ) (a : List Token) (x : ExprTree) → expr_sound x ≡ true → ReadsExpr src g.choices a x → (o c : ℕ) (rest : List Token) → Calm o c (a ++ rest) → Passed o c (expression_row x) rest
expr_passed src a x s r o c rest h =
    let u = expr_weighs src g.choices a x r o c rest h in
    let f = expr_fine x s in
    record { count = c + (measure x).count; runs = f.runs 1 o c u.0; calm = u.1; few = few_counted o (c + (measure x).count) rest u.1 }
