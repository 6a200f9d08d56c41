-- How the rows of expressions go.
use Rattle.std.proofs.Common.{◌≡◌, refl, sym, ap, subst, ◌∙◌, ℕ, zero, suc, ◌≤◌, List, [], ◌∷◌, ◌++◌, length, arith, append_assoc, append-nil}
use Rattle.std.specs.Prelude.{Option, Some, option_and_then}
use Rattle.brace_tok.specs.declared.kinds.Token.{Token}
use Rattle.brace_tok.specs.declared.kinds.TokKind.{TokKind}
use Rattle.brace_tok.specs.declared.kinds.TokKind.TheVariants as k
use Rattle.brace_syntax.specs.declared.mark.Mark.TheVariants as m
use Rattle.brace_syntax.specs.declared.tree.UnName.{UnName}
use Rattle.brace_syntax.specs.declared.tree.UnName.TheVariants as un
use Rattle.brace_syntax.specs.declared.tree.BinName.{BinName}
use Rattle.brace_syntax.specs.declared.tree.BinName.TheVariants as bin
use Rattle.brace_syntax.specs.declared.tree.ExprTree.{ExprTree}
use Rattle.brace_syntax.specs.declared.tree.ExprTree.TheVariants as node
use Rattle.brace_syntax.specs.declared.expr.Start.{Start}
use Rattle.brace_syntax.specs.declared.expr.Start.TheVariants.{Whole, Operand}
use Rattle.brace_syntax.specs.Tables.{Is, ident, either, both, compares, adds, multiplies, prefixes, calls_one, calls_two}
use Rattle.brace_syntax.specs.inner.Cursor.{Parser, kind, next, place, first, pass, pure, ◌>>=◌}
use Rattle.brace_syntax.specs.Reads as g
use Rattle.brace_syntax.specs.Reads.{Row, ReadsExpr, operands, repeats}
use Rattle.brace_syntax.specs.inner.Descent as d
use Rattle.brace_syntax.specs.inner.Descent.{climb, where_some}
use Rattle.brace_syntax.proofs.Forward.{at}
use Rattle.brace_syntax.proofs.ExprFound.{row_at}
use Rattle.brace_syntax.proofs.Goes.{Goes, Runs, Begun, wider, alone, ended, done, stops, passes, bound, maps, kind_then, name_then, number_then, expect_then, eat_then, sees_then, where_then, a_token}

module _ (src : List ℕ) where
  of_this-goes : (this : Token) → Is k.KwThis this → (toks toks' : List Token) → Goes src (ReadsExpr src g.primaries) (this ∷ toks) (this ∷ toks') (d.of_this (at src (this ∷ toks))) (d.of_this (at src (this ∷ toks')))
  unfolding d.of_this place next first
  of_this-goes this h toks toks' =
      passes this (expect_then m.Dot toks toks' _ _ (λ dot hd a a' _ _.
      name_then a a' _ _ (λ word hw _ _ _ _. done (g.of_this this dot word h hd hw))))

  named-goes : (toks toks' : List Token) → Goes src (ReadsExpr src g.primaries) toks toks' (d.named (at src toks)) (d.named (at src toks'))
  unfolding d.named
  named-goes toks toks' =
      name_then toks toks' _ _ (λ word h a a' _ _.
      eat_then m.Dot a a' _ _ _ _
      (λ dot hd b b' _ _. name_then b b' _ _ (λ second hs _ _ _ _. done (g.of_loop word dot second h hd hs)))
      (λ _ _ _ _. done (g.named word h)))

  literal-goes : (toks toks' : List Token) → Goes src (ReadsExpr src g.primaries) toks toks' (d.literal (at src toks)) (d.literal (at src toks'))
  unfolding d.literal
  literal-goes toks toks' = number_then toks toks' _ _ (λ tok n e _ _ _ _. done (g.literal tok n e))

  random-goes : (word : Token) → Is k.KwRand word → (toks toks' : List Token) → Goes src (ReadsExpr src g.primaries) (word ∷ toks) (word ∷ toks') (d.random (at src (word ∷ toks))) (d.random (at src (word ∷ toks')))
  unfolding d.random place next first
  random-goes word h toks toks' =
      passes word (expect_then m.OpenParen toks toks' _ _ (λ opening ho a a' _ _.
      expect_then m.CloseParen a a' _ _ (λ closing hc _ _ _ _. done (g.random word opening closing h ho hc))))

  -- nothing is read behind what was read
  whole : {A : Type 0} (Q : List Token → A → Type 0) (a : List Token) (x : A) → Q a x → Q (a ++ []) x
  whole Q a x q = subst (λ (z : List Token). Q z x) (sym (append-nil a)) q

  -- with an expression of the row read before, what is read goes on with it
  abbrev Rest : Row → List Token → List Token → ExprTree → Type 0
  Rest row before b y = ReadsExpr src row (before ++ b) y

  module _ (n n' : ℕ) (f f' : Start → Parser ExprTree) (hf : Runs src (ReadsExpr src g.choices) n n' (f Whole) (f' Whole)) (ho : Runs src (ReadsExpr src g.prefixed) n n' (f Operand) (f' Operand)) where
    one_argument-goes : (word : Token) (called : UnName) → calls_one word.kind ≡ Some called → (toks toks' : List Token) → length toks ≤ n → length toks' ≤ n'
        → Goes src (ReadsExpr src g.primaries) (word ∷ toks) (word ∷ toks') (d.one_argument f called (at src (word ∷ toks))) (d.one_argument f' called (at src (word ∷ toks')))
    unfolding d.one_argument place next first
    one_argument-goes word called h toks toks' l l' =
        passes word (expect_then m.OpenParen toks toks' _ _ (λ opening hp a a' la la'.
        bound _ _ (hf a a' (omega arith) (omega arith)) (λ inner x r b b' _ _.
        expect_then m.CloseParen b b' _ _ (λ closing hc _ _ _ _. done (g.called_one inner word opening closing called x h hp hc r)))))

    two_arguments-goes : (word : Token) (called : BinName) → calls_two word.kind ≡ Some called → (toks toks' : List Token) → length toks ≤ n → length toks' ≤ n'
        → Goes src (ReadsExpr src g.primaries) (word ∷ toks) (word ∷ toks') (d.two_arguments f called (at src (word ∷ toks))) (d.two_arguments f' called (at src (word ∷ toks')))
    unfolding d.two_arguments place next first
    two_arguments-goes word called h toks toks' l l' =
        passes word (expect_then m.OpenParen toks toks' _ _ (λ opening hp a a' la la'.
        bound _ _ (hf a a' (omega arith) (omega arith)) (λ one x r b b' lb lb'.
        expect_then m.Comma b b' _ _ (λ comma hk c c' lc lc'.
        bound _ _ (hf c c' (omega arith) (omega arith)) (λ two y s e e' _ _.
        expect_then m.CloseParen e e' _ _ (λ closing hc _ _ _ _.
        done (subst (λ (z : List Token). ReadsExpr src g.primaries (word ∷ opening ∷ z) (node.Binary called x y word.from)) (append_assoc one (comma ∷ two) (closing ∷ []))
        (g.called_two one two word opening comma closing called x y h hp hk hc r s))))))))

    enclosed-goes : (opening : Token) → Is k.OpenParen opening → (toks toks' : List Token) → length toks ≤ n → length toks' ≤ n'
        → Goes src (ReadsExpr src g.primaries) (opening ∷ toks) (opening ∷ toks') (d.enclosed f (at src (opening ∷ toks))) (d.enclosed f' (at src (opening ∷ toks')))
    unfolding d.enclosed place next first
    enclosed-goes opening h toks toks' l l' =
        passes opening (bound _ _ (hf toks toks' l l') (λ inner x r b b' _ _.
        expect_then m.CloseParen b b' _ _ (λ closing hc _ _ _ _. done (g.enclosed inner opening closing x h hc r))))

    primary_by-goes : (what : TokKind) (tok : Token) → Is what tok → (toks toks' : List Token) → length toks ≤ n → length toks' ≤ n'
        → Goes src (ReadsExpr src g.primaries) (tok ∷ toks) (tok ∷ toks') (d.primary_by f (Some what) (at src (tok ∷ toks))) (d.primary_by f' (Some what) (at src (tok ∷ toks')))
    unfolding place next first
    primary_by-goes k.KwTrue tok h toks toks' l l' = passes tok (done (g.truth tok h))
    primary_by-goes k.KwFalse tok h toks toks' l l' = passes tok (done (g.falsity tok h))
    primary_by-goes k.OpenParen tok h toks toks' l l' = enclosed-goes tok h toks toks' l l'
    primary_by-goes k.KwThis tok h toks toks' l l' = of_this-goes tok h toks toks'
    primary_by-goes k.Word tok h toks toks' l l' = named-goes (tok ∷ toks) (tok ∷ toks')
    primary_by-goes k.KwAbs tok h toks toks' l l' = one_argument-goes tok un.Abs (ap calls_one h) toks toks' l l'
    primary_by-goes k.KwSqrt tok h toks toks' l l' = one_argument-goes tok un.Sqrt (ap calls_one h) toks toks' l l'
    primary_by-goes k.KwFixed tok h toks toks' l l' = one_argument-goes tok un.ToFixed (ap calls_one h) toks toks' l l'
    primary_by-goes k.KwTrunc tok h toks toks' l l' = one_argument-goes tok un.Trunc (ap calls_one h) toks toks' l l'
    primary_by-goes k.KwMin tok h toks toks' l l' = two_arguments-goes tok bin.Min (ap calls_two h) toks toks' l l'
    primary_by-goes k.KwMax tok h toks toks' l l' = two_arguments-goes tok bin.Max (ap calls_two h) toks toks' l l'
    primary_by-goes k.KwRand tok h toks toks' l l' = random-goes tok h toks toks'
    primary_by-goes what tok h toks toks' l l' = literal-goes (tok ∷ toks) (tok ∷ toks')

    primary-goes : Runs src (ReadsExpr src g.primaries) (suc n) (suc n') (d.primary f) (d.primary f')
    unfolding d.primary
    primary-goes toks toks' l l' =
        kind_then toks toks' (d.primary_by f) (d.primary_by f') (λ tok a a' la la'. primary_by-goes tok.kind tok refl a a' (omega arith) (omega arith)) (literal-goes [] [])

    prefixed-goes : Runs src (ReadsExpr src g.prefixed) (suc n) (suc n') (d.prefixed f) (d.prefixed f')
    unfolding d.prefixed place next first
    prefixed-goes toks toks' l l' =
        where_then prefixes toks toks' _ _ _ _
        (λ op name e a a' la la'. passes op (maps _ (ho a a' (omega arith) (omega arith)) (λ inner x r. g.prefix inner op name x e r)))
        (λ a a' la la'. wider (primary-goes a a' (omega arith) (omega arith)) (λ inner x r. g.alone g.prefixed g.primaries inner x refl r))

    climb_by : (row inner : Row) (table : TokKind → Option BinName) (operand operand' : Parser ExprTree) → operands row ≡ Some inner → ((what : TokKind) → repeats row what ≡ table what)
        → Runs src (ReadsExpr src inner) (suc n) (suc n') operand operand' → (t t' : ℕ) (again again' : ExprTree → Parser ExprTree)
        → ((left : ExprTree) (before : List Token) → ReadsExpr src row before left → (toks toks' : List Token) → length toks ≤ suc n → length toks' ≤ suc n' → length toks ≤ t → length toks' ≤ t'
        → Goes src (Rest row before) toks toks' (again left (at src toks)) (again' left (at src toks')))
        → (left : ExprTree) (before : List Token) → ReadsExpr src row before left → (toks toks' : List Token) → length toks ≤ suc n → length toks' ≤ suc n' → length toks ≤ suc t → length toks' ≤ suc t'
        → Goes src (Rest row before) toks toks'
        (where_some (option_and_then table (kind (at src toks))) (λ op. pass >>= (λ from. operand >>= (λ right. again (node.Binary op left right from)))) (pure left) (at src toks))
        (where_some (option_and_then table (kind (at src toks'))) (λ op. pass >>= (λ from. operand' >>= (λ right. again' (node.Binary op left right from)))) (pure left) (at src toks'))
    unfolding place next first
    climb_by row inner table operand operand' hin hrep hop t t' again again' hag left before r toks toks' l l' m m' =
        where_then table toks toks' _ _ _ _
        (λ op name e a a' la la'. passes op (bound _ _ (hop a a' (omega arith) (omega arith)) (λ more y s b b' lb lb'.
        wider (hag (node.Binary name left y op.from) (before ++ op ∷ more) (g.joined row inner before more op name left y hin (hrep op.kind ∙ e) r s) b b' (omega arith) (omega arith) (omega arith) (omega arith))
        (λ c z q. subst (λ (w : List Token). ReadsExpr src row w z) (append_assoc before (op ∷ more) c) q))))
        (λ _ _ _ _. done (whole (ReadsExpr src row) before left r))

    climb-goes : (row inner : Row) (table : TokKind → Option BinName) (operand operand' : Parser ExprTree) → operands row ≡ Some inner → ((what : TokKind) → repeats row what ≡ table what)
        → Runs src (ReadsExpr src inner) (suc n) (suc n') operand operand' → (t t' : ℕ) (left : ExprTree) (before : List Token) → ReadsExpr src row before left
        → (toks toks' : List Token) → length toks ≤ suc n → length toks' ≤ suc n' → length toks ≤ t → length toks' ≤ t'
        → Goes src (Rest row before) toks toks' (climb f table operand t left (at src toks)) (climb f' table operand' t' left (at src toks'))
    unfolding climb
    climb-goes row inner table operand operand' hin hrep hop zero t' left before r [] toks' l l' m m' = ended {others = []} (done (whole (ReadsExpr src row) before left r))
    climb-goes row inner table operand operand' hin hrep hop zero t' left before r (tok ∷ toks) toks' l l' m m' = absurd (omega arith)
    climb-goes row inner table operand operand' hin hrep hop (suc t) zero left before r toks [] l l' m m' =
        alone (climb_by row inner table operand operand' hin hrep hop t zero (climb f table operand t) (climb f' table operand' zero) (climb-goes row inner table operand operand' hin hrep hop t zero) left before r toks [] l (omega arith) m (omega arith))
    climb-goes row inner table operand operand' hin hrep hop (suc t) zero left before r toks (tok ∷ toks') l l' m m' = absurd (omega arith)
    climb-goes row inner table operand operand' hin hrep hop (suc t) (suc t') left before r toks toks' l l' m m' =
        climb_by row inner table operand operand' hin hrep hop t t' (climb f table operand t) (climb f' table operand' t') (climb-goes row inner table operand operand' hin hrep hop t t') left before r toks toks' l l' m m'

    row-goes : (row inner : Row) (table : TokKind → Option BinName) (operand operand' : Parser ExprTree) → operands row ≡ Some inner → ((what : TokKind) → repeats row what ≡ table what)
        → Runs src (ReadsExpr src inner) (suc n) (suc n') operand operand'
        → Runs src (ReadsExpr src row) (suc n) (suc n') (operand >>= (λ left i. climb f table operand (d.turns i) left i)) (operand' >>= (λ left i. climb f' table operand' (d.turns i) left i))
    row-goes row inner table operand operand' hin hrep hop toks toks' l l' =
        bound _ _ (hop toks toks' l l') (λ a x r b b' lb lb'.
        climb-goes row inner table operand operand' hin hrep hop (length b) (length b') x a (g.alone row inner a x hin r) b b' (omega arith) (omega arith) (omega arith) (omega arith))

    product-goes : Runs src (ReadsExpr src g.products) (suc n) (suc n') (d.product f) (d.product f')
    unfolding d.product
    product-goes toks toks' l l' = row-goes g.products g.prefixed multiplies (d.prefixed f) (d.prefixed f') refl (λ _. refl) prefixed-goes toks toks' l l'

    total-goes : Runs src (ReadsExpr src g.sums) (suc n) (suc n') (d.total f) (d.total f')
    unfolding d.total
    total-goes toks toks' l l' = row-goes g.sums g.products adds (d.product f) (d.product f') refl (λ _. refl) product-goes toks toks' l l'

    comparison-goes : Runs src (ReadsExpr src g.comparisons) (suc n) (suc n') (d.comparison f) (d.comparison f')
    unfolding d.comparison climb place next first
    comparison-goes toks toks' l l' =
        bound _ _ (total-goes toks toks' l l') (λ a x r b b' lb lb'.
        where_then compares b b' _ _ _ _
        (λ op name e c c' lc lc'. passes op (maps _ (total-goes c c' (omega arith) (omega arith)) (λ more y s. g.compared a more op name x y e r s)))
        (λ _ _ _ _. done (whole (ReadsExpr src g.comparisons) a x (g.alone g.comparisons g.sums a x refl r))))

    conjunction-goes : Runs src (ReadsExpr src g.ands) (suc n) (suc n') (d.conjunction f) (d.conjunction f')
    unfolding d.conjunction
    conjunction-goes toks toks' l l' = row-goes g.ands g.comparisons both (d.comparison f) (d.comparison f') refl (λ _. refl) comparison-goes toks toks' l l'

    disjunction-goes : Runs src (ReadsExpr src g.ors) (suc n) (suc n') (d.disjunction f) (d.disjunction f')
    unfolding d.disjunction
    disjunction-goes toks toks' l l' = row-goes g.ors g.ands either (d.conjunction f) (d.conjunction f') refl (λ _. refl) conjunction-goes toks toks' l l'

    choice-goes : Runs src (ReadsExpr src g.choices) (suc n) (suc n') (d.choice f) (d.choice f')
    unfolding d.choice place next first
    choice-goes toks toks' l l' =
        bound _ _ (disjunction-goes toks toks' l l') (λ a w r b b' lb lb'.
        sees_then m.Question b b' _ _ _ _
        (λ question hq c c' lc lc'. passes question (bound _ _ (hf c c' (omega arith) (omega arith)) (λ one x s e e' le le'.
        expect_then m.Colon e e' _ _ (λ colon hc h h' lh lh'.
        maps _ (hf h h' (omega arith) (omega arith)) (λ two y t.
        subst (λ (z : List Token). ReadsExpr src g.choices z (node.Choice w x y question.from)) (append_assoc a (question ∷ one) (colon ∷ two)) (g.chosen a one two question colon w x y hq hc r s t))))))
        (λ _ _ _ _. done (whole (ReadsExpr src g.choices) a w (g.alone g.choices g.ors a w refl r))))

    begun-goes : (start : Start) → Runs src (ReadsExpr src (row_at start)) (suc n) (suc n') (d.begun f start) (d.begun f' start)
    begun-goes Whole toks toks' l l' = choice-goes toks toks' l l'
    begun-goes Operand toks toks' l l' = prefixed-goes toks toks' l l'

  a_word : Begun (ReadsExpr src g.prefixed) []
  a_word = record { more = a_token k.Word ∷ []; value = node.Name (ident src (a_token k.Word)); reads = g.alone g.prefixed g.primaries _ _ refl (g.named (a_token k.Word) refl) }

  an_expression : (start : Start) → Begun (ReadsExpr src (row_at start)) []
  an_expression Operand = a_word
  an_expression Whole = record {
    more = a_word.more;
    value = a_word.value;
    reads = g.alone g.choices g.ors _ _ refl (g.alone g.ors g.ands _ _ refl (g.alone g.ands g.comparisons _ _ refl (g.alone g.comparisons g.sums _ _ refl (g.alone g.sums g.products _ _ refl (g.alone g.products g.prefixed _ _ refl a_word.reads)))));
  }

  expr-goes : (n n' : ℕ) (start : Start) → Runs src (ReadsExpr src (row_at start)) n n' (d.expr n start) (d.expr n' start)
  unfolding d.expr
  expr-goes zero n' start [] toks' l l' = ended {others = []} (stops (an_expression start))
  expr-goes zero n' start (tok ∷ toks) toks' l l' = absurd (omega arith)
  expr-goes (suc n) zero start toks [] l l' = alone (begun-goes n zero (d.expr n) (d.expr zero) (expr-goes n zero Whole) (expr-goes n zero Operand) start toks [] l (omega arith))
  expr-goes (suc n) zero start toks (tok ∷ toks') l l' = absurd (omega arith)
  expr-goes (suc n) (suc n') start toks toks' l l' = begun-goes n n' (d.expr n) (d.expr n') (expr-goes n n' Whole) (expr-goes n n' Operand) start toks toks' l l'

  pub expression-goes : (toks toks' : List Token) → Goes src (ReadsExpr src g.choices) toks toks' (d.expression (at src toks)) (d.expression (at src toks'))
  unfolding d.expression
  expression-goes toks toks' = expr-goes (length toks) (length toks') Whole toks toks' (omega arith) (omega arith)
