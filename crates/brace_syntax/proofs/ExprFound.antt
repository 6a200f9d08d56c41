-- The rows of expressions find what the grammar reads.
use Rattle.std.proofs.Common.{◌≡◌, refl, sym, ap, ◌∙◌, subst, ℕ, zero, suc, ◌+◌, ◌<◌, ◌≤◌, List, [], ◌∷◌, ◌++◌, length, Bool, true, false, arith, append_assoc, length-append}
use Rattle.std.specs.Prelude.{Option, Some, None, Ok, option_and_then}
use Rattle.std.proofs.lemmas.Option.{same_Some}
use Rattle.brace_tok.specs.declared.kinds.Token.{Token}
use Rattle.brace_tok.specs.declared.kinds.TokKind.{TokKind}
use Rattle.brace_tok.specs.declared.kinds.TokKind.TheVariants as k
use Rattle.brace_syntax.specs.declared.mark.Mark.TheVariants as m
use Rattle.brace_syntax.specs.declared.tree.Number.{Number}
use Rattle.brace_syntax.specs.declared.tree.UnName.{UnName}
use Rattle.brace_syntax.specs.declared.tree.BinName.{BinName}
use Rattle.brace_syntax.specs.declared.tree.ExprTree.{ExprTree}
use Rattle.brace_syntax.specs.declared.tree.ExprTree.TheVariants as node
use Rattle.brace_syntax.specs.declared.expr.Start.{Start}
use Rattle.brace_syntax.specs.declared.expr.Start.TheVariants.{Whole, Operand}
use Rattle.brace_syntax.specs.Tables.{Is, ident, number, number_at, either, both, adds, multiplies, prefixes, calls_one, calls_two}
use Rattle.brace_syntax.specs.inner.Cursor.{Input, Parser, Outcome, kind, next, place, first, ◌>>=◌}
use Rattle.brace_syntax.specs.Reads as g
use Rattle.brace_syntax.specs.Reads.{Row, ReadsExpr, operands, repeats}
use Rattle.brace_syntax.specs.inner.Descent as d
use Rattle.brace_syntax.specs.inner.Descent.{climb}
use Rattle.brace_syntax.proofs.Inversions.{not_eaten}
use Rattle.brace_syntax.proofs.Forward.{at, then_, if_true, if_false, where_found, where_none, sees_it, after_it, expects, names, numbers}
use Rattle.brace_syntax.proofs.Levels.{level, begins, height, not_next, none_next, ends_row, joins_row, lower, no_compares, some_comparison}

-- the row that a start begins
abbrev pub row_at : Start → Row
row_at Whole = g.choices
row_at Operand = g.prefixed

abbrev pub Finds : List ℕ → ℕ → Parser ExprTree → Row → Type 0
Finds src bound p row = (a rest : List Token) (x : ExprTree) → length a ≤ bound → height row < level rest → ReadsExpr src row a x → p (at src (a ++ rest)) ≡ Ok (x, at src rest)

pub shut : (a : List Token) (closing : Token) (rest : List Token) → (a ++ (closing ∷ [])) ++ rest ≡ a ++ (closing ∷ rest)
shut a closing rest = append_assoc a (closing ∷ []) rest

shut_two : (a b : List Token) (comma closing : Token) (rest : List Token) → ((a ++ (comma ∷ b)) ++ (closing ∷ [])) ++ rest ≡ a ++ (comma ∷ (b ++ (closing ∷ rest)))
shut_two a b comma closing rest = append_assoc (a ++ (comma ∷ b)) (closing ∷ []) rest ∙ append_assoc a (comma ∷ b) (closing ∷ rest)

pub inner_length : (a : List Token) (closing : Token) → length (a ++ (closing ∷ [])) ≡ length a + 1
inner_length a closing = length-append a (closing ∷ [])

two_lengths : (a b : List Token) (comma closing : Token) → length ((a ++ (comma ∷ b)) ++ (closing ∷ [])) ≡ length a + length b + 2
two_lengths a b comma closing = omega (arith, length-append (a ++ (comma ∷ b)) (closing ∷ []), length-append a (comma ∷ b))

module _ (src : List ℕ) (depth : ℕ) (f : Start → Parser ExprTree) (hf : Finds src depth (f Whole) g.choices) (ho : Finds src depth (f Operand) g.prefixed) where
  one_argument-found : (a rest : List Token) (word opening closing : Token) (called : UnName) (x : ExprTree) → length a ≤ depth → Is k.OpenParen opening → Is k.CloseParen closing → ReadsExpr src g.choices a x
      → d.one_argument f called (at src ((word ∷ opening ∷ a ++ closing ∷ []) ++ rest)) ≡ Ok (node.Unary called x word.from, at src rest)
  unfolding d.one_argument place next first
  one_argument-found a rest word opening closing called x l ho_ hc r =
      then_ _ _ _ _ _ (expects m.OpenParen src opening ((a ++ closing ∷ []) ++ rest) ho_)
      (then_ _ _ _ _ _ (ap (λ (z : List Token). f Whole (at src z)) (shut a closing rest) ∙ hf a (closing ∷ rest) x l (begins k.CloseParen closing rest 7 hc (omega arith)) r)
      (then_ _ _ _ _ _ (expects m.CloseParen src closing rest hc) refl))

  two_arguments-found : (a b rest : List Token) (word opening comma closing : Token) (called : BinName) (x y : ExprTree) → length a ≤ depth → length b ≤ depth → Is k.OpenParen opening → Is k.Comma comma → Is k.CloseParen closing
      → ReadsExpr src g.choices a x → ReadsExpr src g.choices b y
      → d.two_arguments f called (at src ((word ∷ opening ∷ a ++ comma ∷ b ++ closing ∷ []) ++ rest)) ≡ Ok (node.Binary called x y word.from, at src rest)
  unfolding d.two_arguments place next first
  two_arguments-found a b rest word opening comma closing called x y l l' h h' h'' r r' =
      then_ _ _ _ _ _ (expects m.OpenParen src opening (((a ++ comma ∷ b) ++ closing ∷ []) ++ rest) h)
      (then_ _ _ _ _ _ (ap (λ (z : List Token). f Whole (at src z)) (shut_two a b comma closing rest) ∙ hf a (comma ∷ (b ++ closing ∷ rest)) x l (begins k.Comma comma (b ++ closing ∷ rest) 7 h' (omega arith)) r)
      (then_ _ _ _ _ _ (expects m.Comma src comma (b ++ closing ∷ rest) h')
      (then_ _ _ _ _ _ (hf b (closing ∷ rest) y l' (begins k.CloseParen closing rest 7 h'' (omega arith)) r')
      (then_ _ _ _ _ _ (expects m.CloseParen src closing rest h'') refl))))

  enclosed-found : (a rest : List Token) (opening closing : Token) (x : ExprTree) → length a ≤ depth → Is k.CloseParen closing → ReadsExpr src g.choices a x
      → d.enclosed f (at src ((opening ∷ a ++ closing ∷ []) ++ rest)) ≡ Ok (x, at src rest)
  unfolding d.enclosed place next first
  enclosed-found a rest opening closing x l h r =
      then_ _ _ _ _ _ (ap (λ (z : List Token). f Whole (at src z)) (shut a closing rest) ∙ hf a (closing ∷ rest) x l (begins k.CloseParen closing rest 7 h (omega arith)) r)
      (then_ _ _ _ _ _ (expects m.CloseParen src closing rest h) refl)

  random-found : (rest : List Token) (word opening closing : Token) → Is k.OpenParen opening → Is k.CloseParen closing
      → d.random (at src (word ∷ opening ∷ closing ∷ rest)) ≡ Ok (node.Rand word.from, at src rest)
  unfolding d.random place next first
  random-found rest word opening closing h h' =
      then_ _ _ _ _ _ (expects m.OpenParen src opening (closing ∷ rest) h) (then_ _ _ _ _ _ (expects m.CloseParen src closing rest h') refl)

  of_this-found : (rest : List Token) (this dot word : Token) → Is k.Dot dot → Is k.Word word
      → d.of_this (at src (this ∷ dot ∷ word ∷ rest)) ≡ Ok (node.OfThis (ident src word) this.from, at src rest)
  unfolding d.of_this place next first
  of_this-found rest this dot word h h' =
      then_ _ _ _ _ _ (expects m.Dot src dot (word ∷ rest) h) (then_ _ _ _ _ _ (names src word rest h') refl)

  named-found : (rest : List Token) (word : Token) → Is k.Word word → 1 < level rest → d.named (at src (word ∷ rest)) ≡ Ok (node.Name (ident src word), at src rest)
  unfolding d.named
  named-found rest word h l =
      then_ _ _ _ _ _ (names src word rest h) (if_false _ _ _ _ _ _ (not_next m.Dot src rest l) (not_eaten m.Dot (at src rest) (not_next m.Dot src rest l)) refl)

  of_loop-found : (rest : List Token) (loop dot word : Token) → Is k.Word loop → Is k.Dot dot → Is k.Word word
      → d.named (at src (loop ∷ dot ∷ word ∷ rest)) ≡ Ok (node.OfLoop (ident src loop) (ident src word), at src rest)
  unfolding d.named
  of_loop-found rest loop dot word h h' h'' =
      then_ _ _ _ _ _ (names src loop (dot ∷ word ∷ rest) h)
      (if_true _ _ _ _ _ _ (sees_it m.Dot src dot (word ∷ rest) h') (after_it m.Dot src dot (word ∷ rest) h') (then_ _ _ _ _ _ (names src word rest h'') refl))

  literal-found : (rest : List Token) (tok : Token) (n : Number) → number tok ≡ Some n → d.literal (at src (tok ∷ rest)) ≡ Ok (node.Lit n, at src rest)
  unfolding d.literal
  literal-found rest tok n h = then_ _ _ _ _ _ (numbers src tok rest n h) refl

  true-found : (rest : List Token) (tok : Token) → d.primary_by f (Some k.KwTrue) (at src (tok ∷ rest)) ≡ Ok (node.True tok.from, at src rest)
  unfolding place next first
  true-found rest tok = refl

  false-found : (rest : List Token) (tok : Token) → d.primary_by f (Some k.KwFalse) (at src (tok ∷ rest)) ≡ Ok (node.False tok.from, at src rest)
  unfolding place next first
  false-found rest tok = refl

  literal_by : (what : TokKind) (from : ℕ) (n : Number) (i : Input) → number_at from what ≡ Some n → d.primary_by f (Some what) i ≡ d.literal i
  literal_by (k.Int z) from n i h = refl
  literal_by (k.Fixed z) from n i h = refl
  literal_by what from n i h = absurd (cc)

  one_by : (what : TokKind) (called : UnName) (i : Input) → calls_one what ≡ Some called → d.primary_by f (Some what) i ≡ d.one_argument f called i
  one_by k.KwAbs called i h = ap (λ (z : UnName). d.one_argument f z i) (same_Some _ _ h)
  one_by k.KwSqrt called i h = ap (λ (z : UnName). d.one_argument f z i) (same_Some _ _ h)
  one_by k.KwFixed called i h = ap (λ (z : UnName). d.one_argument f z i) (same_Some _ _ h)
  one_by k.KwTrunc called i h = ap (λ (z : UnName). d.one_argument f z i) (same_Some _ _ h)
  one_by what called i h = absurd (cc)

  two_by : (what : TokKind) (called : BinName) (i : Input) → calls_two what ≡ Some called → d.primary_by f (Some what) i ≡ d.two_arguments f called i
  two_by k.KwMin called i h = ap (λ (z : BinName). d.two_arguments f z i) (same_Some _ _ h)
  two_by k.KwMax called i h = ap (λ (z : BinName). d.two_arguments f z i) (same_Some _ _ h)
  two_by what called i h = absurd (cc)

  primary_at : (what : TokKind) (tok : Token) (rest : List Token) (r : Outcome ExprTree) → Is what tok → d.primary_by f (Some what) (at src (tok ∷ rest)) ≡ r → d.primary f (at src (tok ∷ rest)) ≡ r
  unfolding d.primary kind first
  primary_at what tok rest r h e = ap (λ (z : TokKind). d.primary_by f (Some z) (at src (tok ∷ rest))) h ∙ e

  primary-found : Finds src (suc depth) (d.primary f) g.primaries
  primary-found _ rest _ l h (g.alone row inner a x e r) = absurd (cc)
  primary-found _ rest _ l h (g.joined row inner a b op name x y e e' r r') = absurd (cc)
  primary-found _ rest _ l h (g.literal tok n e) = primary_at tok.kind tok rest _ refl (literal_by tok.kind tok.from n _ e ∙ literal-found rest tok n e)
  primary-found _ rest _ l h (g.truth tok e) = primary_at k.KwTrue tok rest _ e (true-found rest tok)
  primary-found _ rest _ l h (g.falsity tok e) = primary_at k.KwFalse tok rest _ e (false-found rest tok)
  primary-found _ rest _ l h (g.enclosed a opening closing x e e' r) = primary_at k.OpenParen opening _ _ e (enclosed-found a rest opening closing x (omega (arith, l, inner_length a closing)) e' r)
  primary-found _ rest _ l h (g.of_this this dot word e e' e'') = primary_at k.KwThis this _ _ e (of_this-found rest this dot word e' e'')
  primary-found _ rest _ l h (g.named word e) = primary_at k.Word word _ _ e (named-found rest word e h)
  primary-found _ rest _ l h (g.of_loop loop dot word e e' e'') = primary_at k.Word loop _ _ e (of_loop-found rest loop dot word e e' e'')
  primary-found _ rest _ l h (g.called_one a word opening closing called x e e' e'' r) =
      primary_at word.kind word _ _ refl (one_by word.kind called _ e ∙ one_argument-found a rest word opening closing called x (omega (arith, l, inner_length a closing)) e' e'' r)
  primary-found _ rest _ l h (g.called_two a b word opening comma closing called x y e e' e'' e''' r r') =
      primary_at word.kind word _ _ refl (two_by word.kind called _ e ∙ two_arguments-found a b rest word opening comma closing called x y (omega (arith, l, two_lengths a b comma closing)) (omega (arith, l, two_lengths a b comma closing)) e' e'' e''' r r')
  primary-found _ rest _ l h (g.random word opening closing e e' e'') = primary_at k.KwRand word _ _ e (random-found rest word opening closing e' e'')

  -- no operation is prefixed to a primary expression
  no_prefix-literal : (what : TokKind) (from : ℕ) (n : Number) → number_at from what ≡ Some n → prefixes what ≡ None
  no_prefix-literal (k.Int z) from n h = refl
  no_prefix-literal (k.Fixed z) from n h = refl
  no_prefix-literal what from n h = absurd (cc)

  no_prefix-one : (what : TokKind) (called : UnName) → calls_one what ≡ Some called → prefixes what ≡ None
  no_prefix-one k.KwAbs called h = refl
  no_prefix-one k.KwSqrt called h = refl
  no_prefix-one k.KwFixed called h = refl
  no_prefix-one k.KwTrunc called h = refl
  no_prefix-one what called h = absurd (cc)

  no_prefix-two : (what : TokKind) (called : BinName) → calls_two what ≡ Some called → prefixes what ≡ None
  no_prefix-two k.KwMin called h = refl
  no_prefix-two k.KwMax called h = refl
  no_prefix-two what called h = absurd (cc)

  no_prefix : (a rest : List Token) (x : ExprTree) → ReadsExpr src g.primaries a x → option_and_then prefixes (kind (at src (a ++ rest))) ≡ None
  unfolding kind first
  no_prefix _ rest _ (g.alone row inner a x e r) = absurd (cc)
  no_prefix _ rest _ (g.joined row inner a b op name x y e e' r r') = absurd (cc)
  no_prefix _ rest _ (g.literal tok n e) = no_prefix-literal tok.kind tok.from n e
  no_prefix _ rest _ (g.truth tok e) = ap prefixes e
  no_prefix _ rest _ (g.falsity tok e) = ap prefixes e
  no_prefix _ rest _ (g.enclosed a opening closing x e e' r) = ap prefixes e
  no_prefix _ rest _ (g.of_this this dot word e e' e'') = ap prefixes e
  no_prefix _ rest _ (g.named word e) = ap prefixes e
  no_prefix _ rest _ (g.of_loop loop dot word e e' e'') = ap prefixes e
  no_prefix _ rest _ (g.called_one a word opening closing called x e e' e'' r) = no_prefix-one word.kind called e
  no_prefix _ rest _ (g.called_two a b word opening comma closing called x y e e' e'' e''' r r') = no_prefix-two word.kind called e
  no_prefix _ rest _ (g.random word opening closing e e' e'') = ap prefixes e

  prefixed-found : Finds src (suc depth) (d.prefixed f) g.prefixed
  unfolding d.prefixed kind first next place
  prefixed-found _ rest _ l h (g.alone row inner a x e r) =
      let r' : ReadsExpr src g.primaries a x = subst (λ (z : Row). ReadsExpr src z a x) (sym (same_Some _ _ e)) r in
      where_none _ _ _ _ _ (no_prefix a rest x r') (primary-found a rest x l h r')
  prefixed-found _ rest _ l h (g.joined row inner a b op name x y e e' r r') = absurd (cc)
  prefixed-found _ rest _ l h (g.prefix a op name x e r) = where_found _ _ _ _ name _ e (then_ _ _ _ _ _ (ho a rest x (omega (arith, l)) h r) refl)

  -- with these tokens read, this many turns are left, which are enough for the rest
  record Turned (table : TokKind → Option BinName) (operand : Parser ExprTree) (a rest : List Token) (x : ExprTree) : Type 0 where
    left : ℕ
    enough : length rest ≤ left
    same : (operand >>= (λ first i. climb f table operand (d.turns i) first i)) (at src (a ++ rest)) ≡ climb f table operand left x (at src rest)

  one_turn : (table : TokKind → Option BinName) (operand : Parser ExprTree) (a b rest : List Token) (op : Token) (name : BinName) (x y : ExprTree) (n : ℕ) → table op.kind ≡ Some name
      → operand (at src (b ++ rest)) ≡ Ok (y, at src rest) → length (op ∷ b ++ rest) ≤ n
      → (operand >>= (λ first i. climb f table operand (d.turns i) first i)) (at src (a ++ (op ∷ b ++ rest))) ≡ climb f table operand n x (at src (op ∷ b ++ rest))
      → Turned table operand (a ++ op ∷ b) rest (node.Binary name x y op.from)
  unfolding climb kind first next place
  one_turn table operand a b rest op name x y zero h e l same = absurd (omega (arith, l))
  one_turn table operand a b rest op name x y (suc n) h e l same = record {
    left = n;
    enough = omega (arith, l, length-append b rest);
    same = ap (λ (z : List Token). (operand >>= (λ first i. climb f table operand (d.turns i) first i)) (at src z)) (append_assoc a (op ∷ b) rest)
        ∙ (same ∙ where_found _ _ _ _ name _ h (then_ _ _ _ _ _ e refl));
  }

  abbrev climbed : Row → Bool
  climbed g.ors = true
  climbed g.ands = true
  climbed g.sums = true
  climbed g.products = true
  climbed _ = false

  climbs : (row inner : Row) (table : TokKind → Option BinName) (operand : Parser ExprTree) → climbed row ≡ true → operands row ≡ Some inner → ((what : TokKind) → repeats row what ≡ table what)
      → Finds src (suc depth) operand inner → (a rest : List Token) (x : ExprTree) → length a ≤ suc depth → height inner < level rest → ReadsExpr src row a x → Turned table operand a rest x
  climbs _ inner table operand hc hin hrep hop _ rest _ l h (g.alone row inner' a x e r) =
      let same_row : inner' ≡ inner = same_Some _ _ (sym e ∙ hin) in
      record { left = length rest; enough = omega arith; same = then_ _ _ _ _ _ (hop a rest x l h (subst (λ (z : Row). ReadsExpr src z a x) same_row r)) refl }
  climbs _ inner table operand hc hin hrep hop _ rest _ l h (g.joined row inner' a b op name x y e e' r r') =
      let same_row : inner' ≡ inner = same_Some _ _ (sym e ∙ hin) in
      let long : length a + length b + 1 ≤ suc depth = omega (arith, l, length-append a (op ∷ b)) in
      let w = climbs row inner table operand hc hin hrep hop a (op ∷ b ++ rest) x (omega (arith, long)) (joins_row row inner op.kind name hin e') r in
      one_turn table operand a b rest op name x y w.left (sym (hrep op.kind) ∙ e') (hop b rest y (omega (arith, long)) h (subst (λ (z : Row). ReadsExpr src z b y) same_row r')) w.enough w.same
  climbs _ inner table operand hc hin hrep hop _ rest _ l h _ = absurd (cc)

  stops : (table : TokKind → Option BinName) (operand : Parser ExprTree) (n : ℕ) (x : ExprTree) (rest : List Token) → option_and_then table (kind (at src rest)) ≡ None → climb f table operand n x (at src rest) ≡ Ok (x, at src rest)
  unfolding climb
  stops table operand zero x rest h = refl
  stops table operand (suc n) x rest h = where_none _ _ _ _ _ h refl

  row-found : (row inner : Row) (table : TokKind → Option BinName) (operand : Parser ExprTree) → climbed row ≡ true → operands row ≡ Some inner → ((what : TokKind) → repeats row what ≡ table what)
      → Finds src (suc depth) operand inner → Finds src (suc depth) (operand >>= (λ first i. climb f table operand (d.turns i) first i)) row
  row-found row inner table operand hc hin hrep hop a rest x l h r =
      let w = climbs row inner table operand hc hin hrep hop a rest x l (omega (arith, h, lower row inner hin)) r in
      w.same ∙ stops table operand w.left x rest (none_next table (height row) (λ what below. sym (hrep what) ∙ ends_row row what below) src rest h)

  product-found : Finds src (suc depth) (d.product f) g.products
  unfolding d.product
  product-found a rest x l h r = row-found g.products g.prefixed multiplies (d.prefixed f) refl refl (λ _. refl) prefixed-found a rest x l h r

  total-found : Finds src (suc depth) (d.total f) g.sums
  unfolding d.total
  total-found a rest x l h r = row-found g.sums g.products adds (d.product f) refl refl (λ _. refl) product-found a rest x l h r

  comparison-found : Finds src (suc depth) (d.comparison f) g.comparisons
  unfolding d.comparison climb kind first next place
  comparison-found _ rest _ l h (g.alone row inner a x e r) =
      let r' : ReadsExpr src g.sums a x = subst (λ (z : Row). ReadsExpr src z a x) (sym (same_Some _ _ e)) r in
      then_ _ _ _ _ _ (total-found a rest x l (omega (arith, h)) r') (where_none _ _ _ _ _ (no_compares src rest h) refl)
  comparison-found _ rest _ l h (g.joined row inner a b op name x y e e' r r') = absurd (cc)
  comparison-found _ rest _ l h (g.compared a b op name x y e r r') =
      let long : length a + length b + 1 ≤ suc depth = omega (arith, l, length-append a (op ∷ b)) in
      then_ _ _ _ _ _ (ap (λ (z : List Token). d.total f (at src z)) (append_assoc a (op ∷ b) rest) ∙ total-found a (op ∷ b ++ rest) x (omega (arith, long)) (omega (arith, some_comparison op.kind name e)) r)
      (where_found _ _ _ _ name _ e (then_ _ _ _ _ _ (total-found b rest y (omega (arith, long)) (omega (arith, h)) r') refl))

  conjunction-found : Finds src (suc depth) (d.conjunction f) g.ands
  unfolding d.conjunction
  conjunction-found a rest x l h r = row-found g.ands g.comparisons both (d.comparison f) refl refl (λ _. refl) comparison-found a rest x l h r

  disjunction-found : Finds src (suc depth) (d.disjunction f) g.ors
  unfolding d.disjunction
  disjunction-found a rest x l h r = row-found g.ors g.ands either (d.conjunction f) refl refl (λ _. refl) conjunction-found a rest x l h r

  choice-found : Finds src (suc depth) (d.choice f) g.choices
  unfolding d.choice first next place
  choice-found _ rest _ l h (g.alone row inner a x e r) =
      let r' : ReadsExpr src g.ors a x = subst (λ (z : Row). ReadsExpr src z a x) (sym (same_Some _ _ e)) r in
      then_ _ _ _ _ _ (disjunction-found a rest x l (omega (arith, h)) r') (if_false _ _ _ _ _ _ (not_next m.Question src rest h) refl refl)
  choice-found _ rest _ l h (g.joined row inner a b op name x y e e' r r') = absurd (cc)
  choice-found _ rest _ l h (g.chosen a b c question colon w x y e e' r r' r'') =
      let long : length a + length b + length c + 2 ≤ suc depth = omega (arith, l, length-append (a ++ question ∷ b) (colon ∷ c), length-append a (question ∷ b)) in
      let cut : ((a ++ question ∷ b) ++ colon ∷ c) ++ rest ≡ a ++ (question ∷ (b ++ (colon ∷ (c ++ rest)))) = append_assoc (a ++ question ∷ b) (colon ∷ c) rest ∙ append_assoc a (question ∷ b) (colon ∷ c ++ rest) in
      then_ _ _ _ _ _ (ap (λ (z : List Token). d.disjunction f (at src z)) cut ∙ disjunction-found a (question ∷ (b ++ (colon ∷ (c ++ rest)))) w (omega (arith, long)) (begins k.Question question (b ++ (colon ∷ (c ++ rest))) 6 e (omega arith)) r)
      (if_true _ _ _ _ _ _ (sees_it m.Question src question (b ++ (colon ∷ (c ++ rest))) e) refl
      (then_ _ _ _ _ _ (hf b (colon ∷ (c ++ rest)) x (omega (arith, long)) (begins k.Colon colon (c ++ rest) 7 e' (omega arith)) r')
      (then_ _ _ _ _ _ (expects m.Colon src colon (c ++ rest) e')
      (then_ _ _ _ _ _ (hf c rest y (omega (arith, long)) h r'') refl))))

  level-found : (start : Start) → Finds src (suc depth) (d.begun f start) (row_at start)
  level-found Whole a rest x l h r = choice-found a rest x l h r
  level-found Operand a rest x l h r = prefixed-found a rest x l h r

some_tokens : (src : List ℕ) (row : Row) (a : List Token) (x : ExprTree) → ReadsExpr src row a x → 0 < length a
some_tokens src _ _ _ (g.alone row inner a x e r) = some_tokens src inner a x r
some_tokens src _ _ _ (g.joined row inner a b op name x y e e' r r') = omega (arith, length-append a (op ∷ b))
some_tokens src _ _ _ (g.compared a b op name x y e r r') = omega (arith, length-append a (op ∷ b))
some_tokens src _ _ _ (g.chosen a b c question colon w x y e e' r r' r'') = omega (arith, length-append (a ++ question ∷ b) (colon ∷ c))
some_tokens src _ _ _ _ = omega arith

expr-found : (src : List ℕ) (depth : ℕ) (start : Start) → Finds src depth (d.expr depth start) (row_at start)
unfolding d.expr
expr-found src zero start a rest x l h r = absurd (omega (arith, l, some_tokens src (row_at start) a x r))
expr-found src (suc depth) start a rest x l h r = level-found src depth (d.expr depth) (expr-found src depth Whole) (expr-found src depth Operand) start a rest x l h r

-- an expression that is followed by no operation of it is found
pub expression-found : (src : List ℕ) (a rest : List Token) (x : ExprTree) → 7 < level rest → ReadsExpr src g.choices a x → d.expression (at src (a ++ rest)) ≡ Ok (x, at src rest)
unfolding d.expression
expression-found src a rest x h r = expr-found src (length (a ++ rest)) Whole a rest x (omega (arith, length-append a rest)) h r
