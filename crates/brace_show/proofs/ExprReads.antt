-- The pieces of an expression are read back as that expression, apart from places.
use Rattle.std.proofs.Common.{◌≡◌, refl, sym, ap, ◌∙◌, subst, ℕ, ◌/◌, ◌%◌, nat_lt, List, [], ◌∷◌, ◌++◌, Bool, true, false, ◌&&◌, if◌then◌else◌, append_assoc, Some, pos, negsuc, codes}
use Rattle.std.specs.Fmt.{decimal}
use Rattle.std.proofs.lemmas.List.{append-nil}
use Rattle.std.proofs.lemmas.Bool.{and_parts}
use Rattle.brace_num.specs.Spelling.{six_digits}
use Rattle.brace_show.specs.Literals.{shortened}
use Rattle.brace_num.specs.Names.{is_name}
use Rattle.brace_tok.specs.Tables.{reserved, symbol}
use Rattle.brace_tok.specs.Pieces.{blank, word, whole, fraction, sign}
use Rattle.brace_tok.specs.Roles.{role_at, token}
use Rattle.brace_tok.specs.declared.kinds.Token.{Token}
use Rattle.brace_tok.specs.declared.kinds.TokKind.{TokKind}
use Rattle.brace_tok.specs.declared.kinds.TokKind.TheVariants as k
use Rattle.brace_syntax.specs.Tables.{Is, ident, number, number_at, compares, prefixes, calls_one, calls_two}
use Rattle.brace_syntax.specs.Reads as g
use Rattle.brace_syntax.specs.Reads.{ReadsExpr, operands, repeats}
use Rattle.brace_syntax.specs.declared.tree.Ident.{Ident}
use Rattle.brace_syntax.specs.declared.tree.Number.{Number}
use Rattle.brace_syntax.specs.declared.tree.Digits.{Digits}
use Rattle.brace_syntax.specs.declared.tree.Digits.TheVariants.{Int, Fixed}
use Rattle.brace_syntax.specs.declared.tree.UnName.{UnName}
use Rattle.brace_syntax.specs.declared.tree.UnName.TheVariants as un
use Rattle.brace_syntax.specs.declared.tree.BinName.{BinName}
use Rattle.brace_syntax.specs.declared.tree.BinName.TheVariants as bin
use Rattle.brace_syntax.specs.declared.tree.ExprTree.{ExprTree}
use Rattle.brace_syntax.specs.declared.tree.ExprTree.TheVariants as e
use Rattle.brace_syntax.specs.declared.tree.ExprTree.TheOpen as expr
use Rattle.brace_syntax.specs.declared.tree.ExprTree.TheViews.{roll-ExprTree}
use Rattle.brace_syntax.specs.declared.tree.ExprTree.TheFolds.{fold-roll-ExprTree, ind-ExprTree, map-ExprTree}
use Rattle.brace_show.specs.Alike.{ident_at_0, number_at_0, expr_step, expr_at_0}
use Rattle.brace_show.proofs.Rows.{Row, space, mark, letters, literal_row, Phrased, row_at, atom_row, call_one_row, call_two_row, prefixed_row, between_row, unary_row, binary_row, choice_row, phrased_step, phrased_of, expression_row}
use Rattle.brace_show.proofs.Sound.{digits_are, expr_sound_step, expr_sound}
use Rattle.brace_show.proofs.RowRoles.{name_says, whole_says, fraction_says}
use Rattle.brace_show.proofs.Laid.{Laid, split, say, past, laid_as, done}

-- the rows of the grammar by the levels of phrases

abbrev pub need : g.Row → ℕ
need g.choices = 1
need g.ors = 2
need g.ands = 3
need g.comparisons = 4
need g.sums = 5
need g.products = 6
need g.prefixed = 7
need g.primaries = 8

least : (s : g.Row) → nat_lt (need s) 1 ≡ false
least g.choices = refl
least _ = refl

greatest : (r : g.Row) → nat_lt 8 (need r) ≡ false
greatest g.choices = refl
greatest _ = refl

-- an expression of a tighter row is one of a looser row
module _ (src : List ℕ) (a : List Token) (x : ExprTree) where
  to_primaries : (s : g.Row) → nat_lt (need s) 8 ≡ false → ReadsExpr src s a x → ReadsExpr src g.primaries a x
  to_primaries g.primaries h r = r
  to_primaries s h r = absurd (cc)

  to_prefixed : (s : g.Row) → nat_lt (need s) 7 ≡ false → ReadsExpr src s a x → ReadsExpr src g.prefixed a x
  to_prefixed g.prefixed h r = r
  to_prefixed s h r = g.alone g.prefixed g.primaries a x refl (to_primaries s h r)

  to_products : (s : g.Row) → nat_lt (need s) 6 ≡ false → ReadsExpr src s a x → ReadsExpr src g.products a x
  to_products g.products h r = r
  to_products s h r = g.alone g.products g.prefixed a x refl (to_prefixed s h r)

  to_sums : (s : g.Row) → nat_lt (need s) 5 ≡ false → ReadsExpr src s a x → ReadsExpr src g.sums a x
  to_sums g.sums h r = r
  to_sums s h r = g.alone g.sums g.products a x refl (to_products s h r)

  to_comparisons : (s : g.Row) → nat_lt (need s) 4 ≡ false → ReadsExpr src s a x → ReadsExpr src g.comparisons a x
  to_comparisons g.comparisons h r = r
  to_comparisons s h r = g.alone g.comparisons g.sums a x refl (to_sums s h r)

  to_ands : (s : g.Row) → nat_lt (need s) 3 ≡ false → ReadsExpr src s a x → ReadsExpr src g.ands a x
  to_ands g.ands h r = r
  to_ands s h r = g.alone g.ands g.comparisons a x refl (to_comparisons s h r)

  to_ors : (s : g.Row) → nat_lt (need s) 2 ≡ false → ReadsExpr src s a x → ReadsExpr src g.ors a x
  to_ors g.ors h r = r
  to_ors s h r = g.alone g.ors g.ands a x refl (to_ands s h r)

  to_choices : (s : g.Row) → nat_lt (need s) 1 ≡ false → ReadsExpr src s a x → ReadsExpr src g.choices a x
  to_choices g.choices h r = r
  to_choices s h r = g.alone g.choices g.ors a x refl (to_ors s h r)

  climb : (s r : g.Row) → nat_lt (need s) (need r) ≡ false → ReadsExpr src s a x → ReadsExpr src r a x
  climb s g.choices h q = to_choices s h q
  climb s g.ors h q = to_ors s h q
  climb s g.ands h q = to_ands s h q
  climb s g.comparisons h q = to_comparisons s h q
  climb s g.sums h q = to_sums s h q
  climb s g.products h q = to_products s h q
  climb s g.prefixed h q = to_prefixed s h q
  climb s g.primaries h q = to_primaries s h q

-- these tokens are an expression of the row that is this one apart from places
abbrev pub Found : List ℕ → g.Row → ExprTree → List Token → Type 0
Found src r v toks = (x : ExprTree) × ReadsExpr src r toks x × (v ≡ expr_at_0 x)

-- wherever the pieces stand, they are read as this expression
abbrev pub Readable : g.Row → Row → ExprTree → Type 0
Readable r row v = (src : List ℕ) (toks : List Token) → Laid src row toks → Found src r v toks

-- so is the phrase where a level is needed
abbrev pub Good : Phrased → ExprTree → Type 0
Good p v = (r : g.Row) → Readable r (row_at (need r) p) v

enclosed_by : (s r : g.Row) (row : Row) (v : ExprTree) → Readable s row v → Readable r (mark (codes "(") ++ row ++ mark (codes ")")) v
unfolding symbol
enclosed_by s r row v f src toks l =
    say (Found src r v) k.OpenParen src (sign (codes "(")) (row ++ mark (codes ")")) toks (λ from. refl) l (λ opening ts h _ l1.
    split (λ z. Found src r v (opening ∷ z)) src row (mark (codes ")")) ts l1 (λ a b la lb.
    say (λ z. Found src r v (opening ∷ (a ++ z))) k.CloseParen src (sign (codes ")")) [] b (λ from. refl) lb (λ closing rest h' _ l2.
    done (λ z. Found src r v (opening ∷ (a ++ closing ∷ z))) src rest l2
    (let x = f src a la in
    (x.0, climb src (opening ∷ (a ++ closing ∷ [])) x.0 g.primaries r (greatest r) (g.enclosed a opening closing x.0 h h' (climb src a x.0 s g.choices (least s) x.1)), x.2)))))

good_by : (s r : g.Row) (row : Row) (v : ExprTree) (b : Bool) → nat_lt (need s) (need r) ≡ b → Readable s row v
    → Readable r (if b then mark (codes "(") ++ row ++ mark (codes ")") else row) v
good_by s r row v true e f src toks l = enclosed_by s r row v f src toks l
good_by s r row v false e f src toks l = let x = f src toks l in (x.0, climb src toks x.0 s r e x.1, x.2)

good_at : (s : g.Row) (row : Row) (v : ExprTree) → Readable s row v → Good (record { level = need s; row = row }) v
good_at s row v f r = good_by s r row v (nat_lt (need s) (need r)) refl f

-- what expr_at_0 makes of each node
at_0 : (x : expr.ExprTree-F ExprTree) (t : ExprTree) → roll-ExprTree x ≡ t → expr_at_0 t ≡ expr_step (map-ExprTree ExprTree ExprTree expr_at_0 x)
at_0 x t h = ap expr_at_0 (sym h) ∙ fold-roll-ExprTree ExprTree expr_step x

unary-at_0 : (op : UnName) (x : ExprTree) (at : ℕ) (v : ExprTree) → v ≡ expr_at_0 x → e.Unary op v 0 ≡ expr_at_0 (e.Unary op x at)
unary-at_0 op x at v h = ap (λ (z : ExprTree). e.Unary op z 0) h ∙ sym (at_0 (expr.Unary op x at) (e.Unary op x at) (e.rolls-Unary op x at))

binary-at_0 : (op : BinName) (x y : ExprTree) (at : ℕ) (v w : ExprTree) → v ≡ expr_at_0 x → w ≡ expr_at_0 y → e.Binary op v w 0 ≡ expr_at_0 (e.Binary op x y at)
binary-at_0 op x y at v w h h' =
    ap (λ (z : ExprTree). e.Binary op z w 0) h ∙ (ap (λ (z : ExprTree). e.Binary op (expr_at_0 x) z 0) h' ∙ sym (at_0 (expr.Binary op x y at) (e.Binary op x y at) (e.rolls-Binary op x y at)))

choice-at_0 : (c x y : ExprTree) (at : ℕ) (u v w : ExprTree) → u ≡ expr_at_0 c → v ≡ expr_at_0 x → w ≡ expr_at_0 y → e.Choice u v w 0 ≡ expr_at_0 (e.Choice c x y at)
choice-at_0 c x y at u v w h h' h'' =
    ap (λ (z : ExprTree). e.Choice z v w 0) h ∙ (ap (λ (z : ExprTree). e.Choice (expr_at_0 c) z w 0) h' ∙ (ap (λ (z : ExprTree). e.Choice (expr_at_0 c) (expr_at_0 x) z 0) h''
    ∙ sym (at_0 (expr.Choice c x y at) (e.Choice c x y at) (e.rolls-Choice c x y at))))

-- something between two rows
between : (C : List Token → Type 0) (kind : TokKind) (src : List ℕ) (a b : Row) (marks : List ℕ) (toks : List Token) → ((from : ℕ) → role_at from (sign marks) ≡ token kind)
    → Laid src ((((a ++ space) ++ mark marks) ++ space) ++ b) toks
    → ((ta tb : List Token) (tok : Token) → Laid src a ta → Laid src b tb → Is kind tok → C (ta ++ (tok ∷ tb))) → C toks
between C kind src a b marks toks h l f =
    let cut : (((a ++ space) ++ mark marks) ++ space) ++ b ≡ a ++ (blank 32 ∷ sign marks ∷ blank 32 ∷ b) =
    append_assoc ((a ++ space) ++ mark marks) space b ∙ (append_assoc (a ++ space) (mark marks) (blank 32 ∷ b) ∙ append_assoc a space (sign marks ∷ blank 32 ∷ b)) in
    split C src a (blank 32 ∷ sign marks ∷ blank 32 ∷ b) toks (laid_as src _ _ toks cut l) (λ ta ts la l1.
    say (λ z. C (ta ++ z)) kind src (sign marks) (blank 32 ∷ b) ts h (past src 32 _ ts l1) (λ tok tb is _ l2.
    f ta tb tok la (past src 32 b tb l2) is))

comma : (C : List Token → Type 0) (src : List ℕ) (a b : Row) (toks : List Token) → Laid src (((a ++ mark (codes ",")) ++ space) ++ b) toks
    → ((ta tb : List Token) (tok : Token) → Laid src a ta → Laid src b tb → Is k.Comma tok → C (ta ++ (tok ∷ tb))) → C toks
unfolding symbol
comma C src a b toks l f =
    let cut : ((a ++ mark (codes ",")) ++ space) ++ b ≡ a ++ (sign (codes ",") ∷ blank 32 ∷ b) =
    append_assoc (a ++ mark (codes ",")) space b ∙ append_assoc a (mark (codes ",")) (blank 32 ∷ b) in
    split C src a (sign (codes ",") ∷ blank 32 ∷ b) toks (laid_as src _ _ toks cut l) (λ ta ts la l1.
    say (λ z. C (ta ++ z)) k.Comma src (sign (codes ",")) (blank 32 ∷ b) ts (λ from. refl) l1 (λ tok tb is _ l2.
    f ta tb tok la (past src 32 b tb l2) is))

joined_good : (s inner : g.Row) (kind : TokKind) (name : BinName) (marks : List ℕ) (p q : Phrased) (v w : ExprTree) → operands s ≡ Some inner → repeats s kind ≡ Some name
    → ((from : ℕ) → role_at from (sign marks) ≡ token kind) → Good p v → Good q w → Good (between_row (need s) (need s) (need inner) marks p q) (e.Binary name v w 0)
joined_good s inner kind name marks p q v w hin hop h f f' = good_at s _ _ (λ src toks l.
    between (Found src s (e.Binary name v w 0)) kind src (row_at (need s) p) (row_at (need inner) q) marks toks h l (λ ta tb tok la lb is.
    let x = f s src ta la in
    let y = f' inner src tb lb in
    (e.Binary name x.0 y.0 tok.from, g.joined s inner ta tb tok name x.0 y.0 hin (ap (repeats s) is ∙ hop) x.1 y.1, binary-at_0 name x.0 y.0 tok.from v w x.2 y.2)))

compared_good : (kind : TokKind) (name : BinName) (marks : List ℕ) (p q : Phrased) (v w : ExprTree) → compares kind ≡ Some name
    → ((from : ℕ) → role_at from (sign marks) ≡ token kind) → Good p v → Good q w → Good (between_row 4 5 5 marks p q) (e.Binary name v w 0)
compared_good kind name marks p q v w hop h f f' = good_at g.comparisons _ _ (λ src toks l.
    between (Found src g.comparisons (e.Binary name v w 0)) kind src (row_at 5 p) (row_at 5 q) marks toks h l (λ ta tb tok la lb is.
    let x = f g.sums src ta la in
    let y = f' g.sums src tb lb in
    (e.Binary name x.0 y.0 tok.from, g.compared ta tb tok name x.0 y.0 (ap compares is ∙ hop) x.1 y.1, binary-at_0 name x.0 y.0 tok.from v w x.2 y.2)))

prefixed_good : (kind : TokKind) (name : UnName) (marks : List ℕ) (p : Phrased) (v : ExprTree) → prefixes kind ≡ Some name
    → ((from : ℕ) → role_at from (sign marks) ≡ token kind) → Good p v → Good (prefixed_row marks p) (e.Unary name v 0)
prefixed_good kind name marks p v hop h f = good_at g.prefixed _ _ (λ src toks l.
    say (Found src g.prefixed (e.Unary name v 0)) kind src (sign marks) (row_at 7 p) toks h l (λ tok ts is _ l1.
    let x = f g.prefixed src ts l1 in
    (e.Unary name x.0 tok.from, g.prefix ts tok name x.0 (ap prefixes is ∙ hop) x.1, unary-at_0 name x.0 tok.from v x.2)))

called_one_good : (kind : TokKind) (name : UnName) (called : List ℕ) (p : Phrased) (v : ExprTree) → calls_one kind ≡ Some name
    → ((from : ℕ) → role_at from (word called) ≡ token kind) → Good p v → Good (call_one_row called p) (e.Unary name v 0)
unfolding symbol
called_one_good kind name called p v hop h f = good_at g.primaries _ _ (λ src toks l.
    let C : List Token → Type 0 = Found src g.primaries (e.Unary name v 0) in
    say C kind src (word called) (sign (codes "(") ∷ (row_at 1 p ++ mark (codes ")"))) toks h l (λ tok t1 is _ l1.
    say (λ z. C (tok ∷ z)) k.OpenParen src (sign (codes "(")) (row_at 1 p ++ mark (codes ")")) t1 (λ from. refl) l1 (λ opening t2 ho _ l2.
    split (λ z. C (tok ∷ opening ∷ z)) src (row_at 1 p) (mark (codes ")")) t2 l2 (λ a t3 la l3.
    say (λ z. C (tok ∷ opening ∷ (a ++ z))) k.CloseParen src (sign (codes ")")) [] t3 (λ from. refl) l3 (λ closing t4 hc _ l4.
    done (λ z. C (tok ∷ opening ∷ (a ++ closing ∷ z))) src t4 l4
    (let x = f g.choices src a la in
    (e.Unary name x.0 tok.from, g.called_one a tok opening closing name x.0 (ap calls_one is ∙ hop) ho hc x.1, unary-at_0 name x.0 tok.from v x.2)))))))

called_two_good : (kind : TokKind) (name : BinName) (called : List ℕ) (p q : Phrased) (v w : ExprTree) → calls_two kind ≡ Some name
    → ((from : ℕ) → role_at from (word called) ≡ token kind) → Good p v → Good q w → Good (call_two_row called p q) (e.Binary name v w 0)
unfolding symbol
called_two_good kind name called p q v w hop h f f' = good_at g.primaries _ _ (λ src toks l.
    let C : List Token → Type 0 = Found src g.primaries (e.Binary name v w 0) in
    let inner : Row = ((row_at 1 p ++ mark (codes ",")) ++ space) ++ row_at 1 q in
    say C kind src (word called) (sign (codes "(") ∷ (inner ++ mark (codes ")"))) toks h l (λ tok t1 is _ l1.
    say (λ z. C (tok ∷ z)) k.OpenParen src (sign (codes "(")) (inner ++ mark (codes ")")) t1 (λ from. refl) l1 (λ opening t2 ho _ l2.
    split (λ z. C (tok ∷ opening ∷ z)) src inner (mark (codes ")")) t2 l2 (λ both t3 lab l3.
    say (λ z. C (tok ∷ opening ∷ (both ++ z))) k.CloseParen src (sign (codes ")")) [] t3 (λ from. refl) l3 (λ closing t4 hc _ l4.
    done (λ z. C (tok ∷ opening ∷ (both ++ closing ∷ z))) src t4 l4
    (comma (λ z. C (tok ∷ opening ∷ (z ++ closing ∷ []))) src (row_at 1 p) (row_at 1 q) both lab (λ a b middle la lb hm.
    let x = f g.choices src a la in
    let y = f' g.choices src b lb in
    (e.Binary name x.0 y.0 tok.from, g.called_two a b tok opening middle closing name x.0 y.0 (ap calls_two is ∙ hop) ho hm hc x.1 y.1, binary-at_0 name x.0 y.0 tok.from v w x.2 y.2))))))))

chosen_good : (c p q : Phrased) (u v w : ExprTree) → Good c u → Good p v → Good q w → Good (choice_row c p q) (e.Choice u v w 0)
unfolding symbol
chosen_good c p q u v w f f' f'' = good_at g.choices _ _ (λ src toks l.
    let C : List Token → Type 0 = Found src g.choices (e.Choice u v w 0) in
    between C k.Colon src ((((row_at 2 c ++ space) ++ mark (codes "?")) ++ space) ++ row_at 1 p) (row_at 1 q) (codes ":") toks (λ from. refl) l (λ tab tc colon lab lc hc.
    between (λ z. C (z ++ colon ∷ tc)) k.Question src (row_at 2 c) (row_at 1 p) (codes "?") tab (λ from. refl) lab (λ ta tb question la lb hq.
    let x = f g.ors src ta la in
    let y = f' g.choices src tb lb in
    let z = f'' g.choices src tc lc in
    (e.Choice x.0 y.0 z.0 question.from, g.chosen ta tb tc question colon x.0 y.0 z.0 hq hc x.1 y.1 z.1, choice-at_0 x.0 y.0 z.0 question.from u v w x.2 y.2 z.2))))

unary_good : (op : UnName) (p : Phrased) (v : ExprTree) → Good p v → Good (unary_row op p) (e.Unary op v 0)
unfolding symbol reserved
unary_good un.Neg p v = prefixed_good k.Minus un.Neg (codes "-") p v refl (λ from. refl)
unary_good un.Not p v = prefixed_good k.Not un.Not (codes "!") p v refl (λ from. refl)
unary_good un.Abs p v = called_one_good k.KwAbs un.Abs (codes "abs") p v refl (λ from. refl)
unary_good un.Sqrt p v = called_one_good k.KwSqrt un.Sqrt (codes "sqrt") p v refl (λ from. refl)
unary_good un.ToFixed p v = called_one_good k.KwFixed un.ToFixed (codes "fixed") p v refl (λ from. refl)
unary_good un.Trunc p v = called_one_good k.KwTrunc un.Trunc (codes "trunc") p v refl (λ from. refl)

binary_good : (op : BinName) (p q : Phrased) (v w : ExprTree) → Good p v → Good q w → Good (binary_row op p q) (e.Binary op v w 0)
unfolding symbol reserved
binary_good bin.Or p q v w = joined_good g.ors g.ands k.OrOr bin.Or (codes "||") p q v w refl refl (λ from. refl)
binary_good bin.And p q v w = joined_good g.ands g.comparisons k.AndAnd bin.And (codes "&&") p q v w refl refl (λ from. refl)
binary_good bin.Lt p q v w = compared_good k.Less bin.Lt (codes "<") p q v w refl (λ from. refl)
binary_good bin.Le p q v w = compared_good k.LessEq bin.Le (codes "<=") p q v w refl (λ from. refl)
binary_good bin.Gt p q v w = compared_good k.Greater bin.Gt (codes ">") p q v w refl (λ from. refl)
binary_good bin.Ge p q v w = compared_good k.GreaterEq bin.Ge (codes ">=") p q v w refl (λ from. refl)
binary_good bin.Eq p q v w = compared_good k.EqEq bin.Eq (codes "==") p q v w refl (λ from. refl)
binary_good bin.Ne p q v w = compared_good k.NotEq bin.Ne (codes "!=") p q v w refl (λ from. refl)
binary_good bin.Add p q v w = joined_good g.sums g.products k.Plus bin.Add (codes "+") p q v w refl refl (λ from. refl)
binary_good bin.Sub p q v w = joined_good g.sums g.products k.Minus bin.Sub (codes "-") p q v w refl refl (λ from. refl)
binary_good bin.Mul p q v w = joined_good g.products g.prefixed k.Star bin.Mul (codes "*") p q v w refl refl (λ from. refl)
binary_good bin.Div p q v w = joined_good g.products g.prefixed k.Slash bin.Div (codes "/") p q v w refl refl (λ from. refl)
binary_good bin.Rem p q v w = joined_good g.products g.prefixed k.Percent bin.Rem (codes "%") p q v w refl refl (λ from. refl)
binary_good bin.Min p q v w = called_two_good k.KwMin bin.Min (codes "min") p q v w refl (λ from. refl)
binary_good bin.Max p q v w = called_two_good k.KwMax bin.Max (codes "max") p q v w refl (λ from. refl)

-- a literal, and what stands behind it
pub say_number : (C : List Token → Type 0) (src : List ℕ) (d : Digits) (row : Row) (toks : List Token) → digits_are d ≡ true → Laid src (literal_row d ++ row) toks
    → ((tok : Token) (rest : List Token) → number tok ≡ Some (record { digits = d; at = tok.from }) → Laid src row rest → C (tok ∷ rest)) → C toks
say_number C src (Int (pos n)) row toks s l f = say C (k.Int (pos n)) src (whole (decimal n)) row toks (λ from. whole_says from n s) l (λ tok rest is _ l1. f tok rest (ap (number_at tok.from) is) l1)
say_number C src (Int (negsuc n)) row toks s l f = absurd (cc)
say_number C src (Fixed (pos n)) row toks s l f = say C (k.Fixed (pos n)) src (fraction (decimal (n / 1000000)) (shortened (six_digits (n % 1000000)))) row toks (λ from. fraction_says from n s) l (λ tok rest is _ l1. f tok rest (ap (number_at tok.from) is) l1)
say_number C src (Fixed (negsuc n)) row toks s l f = absurd (cc)

-- a name, and what stands behind it
pub say_name : (C : List Token → Type 0) (src : List ℕ) (name : Ident) (row : Row) (toks : List Token) → is_name name.text ≡ true → Laid src (word name.text ∷ row) toks
    → ((tok : Token) (rest : List Token) → Is k.Word tok → ident_at_0 name ≡ ident_at_0 (ident src tok) → Laid src row rest → C (tok ∷ rest)) → C toks
say_name C src name row toks s l f =
    say C k.Word src (word name.text) row toks (λ from. name_says from name.text s) l (λ tok rest is spelt l1.
    let same : ident_at_0 name ≡ ident_at_0 (ident src tok) = ap (λ t. let i : Ident = record { text = t; at = 0 } in i) (sym spelt) in
    f tok rest is same l1)

literal_good : (n : Number) → digits_are n.digits ≡ true → Good (atom_row (literal_row n.digits)) (e.Lit (number_at_0 n))
literal_good n s = good_at g.primaries _ _ (λ src toks l.
    let C : List Token → Type 0 = Found src g.primaries (e.Lit (number_at_0 n)) in
    say_number C src n.digits [] toks s (laid_as src _ _ toks (sym (append-nil (literal_row n.digits))) l) (λ tok rest is l1.
    done (λ z. C (tok ∷ z)) src rest l1
    (let m : Number = record { digits = n.digits; at = tok.from } in
    (e.Lit m, g.literal tok m is, sym (at_0 (expr.Lit m) (e.Lit m) (e.rolls-Lit m))))))

truth_good : Good (atom_row (letters (codes "true"))) (e.True 0)
unfolding reserved
truth_good = good_at g.primaries _ _ (λ src toks l.
    let C : List Token → Type 0 = Found src g.primaries (e.True 0) in
    say C k.KwTrue src (word (codes "true")) [] toks (λ from. refl) l (λ tok rest is _ l1.
    done (λ z. C (tok ∷ z)) src rest l1 (e.True tok.from, g.truth tok is, sym (at_0 (expr.True tok.from) (e.True tok.from) (e.rolls-True tok.from)))))

falsity_good : Good (atom_row (letters (codes "false"))) (e.False 0)
unfolding reserved
falsity_good = good_at g.primaries _ _ (λ src toks l.
    let C : List Token → Type 0 = Found src g.primaries (e.False 0) in
    say C k.KwFalse src (word (codes "false")) [] toks (λ from. refl) l (λ tok rest is _ l1.
    done (λ z. C (tok ∷ z)) src rest l1 (e.False tok.from, g.falsity tok is, sym (at_0 (expr.False tok.from) (e.False tok.from) (e.rolls-False tok.from)))))

random_good : Good (atom_row (letters (codes "rand") ++ mark (codes "(") ++ mark (codes ")"))) (e.Rand 0)
unfolding reserved symbol
random_good = good_at g.primaries _ _ (λ src toks l.
    let C : List Token → Type 0 = Found src g.primaries (e.Rand 0) in
    say C k.KwRand src (word (codes "rand")) (sign (codes "(") ∷ sign (codes ")") ∷ []) toks (λ from. refl) l (λ tok t1 is _ l1.
    say (λ z. C (tok ∷ z)) k.OpenParen src (sign (codes "(")) (sign (codes ")") ∷ []) t1 (λ from. refl) l1 (λ opening t2 ho _ l2.
    say (λ z. C (tok ∷ opening ∷ z)) k.CloseParen src (sign (codes ")")) [] t2 (λ from. refl) l2 (λ closing t3 hc _ l3.
    done (λ z. C (tok ∷ opening ∷ closing ∷ z)) src t3 l3
    (e.Rand tok.from, g.random tok opening closing is ho hc, sym (at_0 (expr.Rand tok.from) (e.Rand tok.from) (e.rolls-Rand tok.from)))))))

named_good : (name : Ident) → is_name name.text ≡ true → Good (atom_row (letters name.text)) (e.Name (ident_at_0 name))
named_good name s = good_at g.primaries _ _ (λ src toks l.
    let C : List Token → Type 0 = Found src g.primaries (e.Name (ident_at_0 name)) in
    say_name C src name [] toks s l (λ tok rest is same l1.
    done (λ z. C (tok ∷ z)) src rest l1
    (let i : Ident = ident src tok in
    (e.Name i, g.named tok is, ap (λ (z : Ident). e.Name z) same ∙ sym (at_0 (expr.Name i) (e.Name i) (e.rolls-Name i))))))

of_this_good : (name : Ident) → is_name name.text ≡ true → Good (atom_row (letters (codes "this") ++ mark (codes ".") ++ letters name.text)) (e.OfThis (ident_at_0 name) 0)
unfolding reserved symbol
of_this_good name s = good_at g.primaries _ _ (λ src toks l.
    let C : List Token → Type 0 = Found src g.primaries (e.OfThis (ident_at_0 name) 0) in
    say C k.KwThis src (word (codes "this")) (sign (codes ".") ∷ word name.text ∷ []) toks (λ from. refl) l (λ this t1 ht _ l1.
    say (λ z. C (this ∷ z)) k.Dot src (sign (codes ".")) (word name.text ∷ []) t1 (λ from. refl) l1 (λ dot t2 hd _ l2.
    say_name (λ z. C (this ∷ dot ∷ z)) src name [] t2 s l2 (λ tok rest is same l3.
    done (λ z. C (this ∷ dot ∷ tok ∷ z)) src rest l3
    (let i : Ident = ident src tok in
    (e.OfThis i this.from, g.of_this this dot tok ht hd is, ap (λ (z : Ident). e.OfThis z 0) same ∙ sym (at_0 (expr.OfThis i this.from) (e.OfThis i this.from) (e.rolls-OfThis i this.from))))))))

of_loop_good : (loop name : Ident) → is_name loop.text ≡ true → is_name name.text ≡ true → Good (atom_row (letters loop.text ++ mark (codes ".") ++ letters name.text)) (e.OfLoop (ident_at_0 loop) (ident_at_0 name))
unfolding symbol
of_loop_good loop name s s' = good_at g.primaries _ _ (λ src toks l.
    let C : List Token → Type 0 = Found src g.primaries (e.OfLoop (ident_at_0 loop) (ident_at_0 name)) in
    say_name C src loop (sign (codes ".") ∷ word name.text ∷ []) toks s l (λ first t1 hf same1 l1.
    say (λ z. C (first ∷ z)) k.Dot src (sign (codes ".")) (word name.text ∷ []) t1 (λ from. refl) l1 (λ dot t2 hd _ l2.
    say_name (λ z. C (first ∷ dot ∷ z)) src name [] t2 s' l2 (λ tok rest is same l3.
    done (λ z. C (first ∷ dot ∷ tok ∷ z)) src rest l3
    (let i : Ident = ident src first in
    let j : Ident = ident src tok in (
      e.OfLoop i j,
      g.of_loop first dot tok hf hd is,
      ap (λ (z : Ident). e.OfLoop z (ident_at_0 name)) same1 ∙ (ap (λ (z : Ident). e.OfLoop (ident_at_0 i) z) same ∙ sym (at_0 (expr.OfLoop i j) (e.OfLoop i j) (e.rolls-OfLoop i j))),
    ))))))

abbrev SoundIsGood : ExprTree → Type 0
SoundIsGood x = expr_sound x ≡ true → Good (phrased_of x) (expr_at_0 x)

rolled : (x : expr.ExprTree-F ExprTree)
    → (expr_sound_step (map-ExprTree ExprTree Bool expr_sound x) ≡ true → Good (phrased_step (map-ExprTree ExprTree Phrased phrased_of x)) (expr_step (map-ExprTree ExprTree ExprTree expr_at_0 x)))
    → SoundIsGood (roll-ExprTree x)
rolled x f s =
    let tree : ExprTree = roll-ExprTree x in
    subst (λ p. Good p (expr_at_0 tree)) (sym (fold-roll-ExprTree Phrased phrased_step x))
    (subst (λ v. Good (phrased_step (map-ExprTree ExprTree Phrased phrased_of x)) v) (sym (fold-roll-ExprTree ExprTree expr_step x))
    (f (sym (fold-roll-ExprTree Bool expr_sound_step x) ∙ s)))

each_good : (y : expr.ExprTree-F ((x : ExprTree) × SoundIsGood x)) → SoundIsGood (roll-ExprTree (map-ExprTree ((x : ExprTree) × SoundIsGood x) ExprTree (λ z. z.0) y))
each_good (expr.Lit n) = rolled (expr.Lit n) (λ s. literal_good n s)
each_good (expr.True at) = rolled (expr.True at) (λ s. truth_good)
each_good (expr.False at) = rolled (expr.False at) (λ s. falsity_good)
each_good (expr.Name name) = rolled (expr.Name name) (λ s. named_good name s)
each_good (expr.OfThis name at) = rolled (expr.OfThis name at) (λ s. of_this_good name s)
each_good (expr.OfLoop loop name) = rolled (expr.OfLoop loop name) (λ s. of_loop_good loop name ((and_parts (is_name loop.text) (is_name name.text) s).0) ((and_parts (is_name loop.text) (is_name name.text) s).1))
each_good (expr.Unary op x at) = rolled (expr.Unary op x.0 at) (λ s. unary_good op (phrased_of x.0) (expr_at_0 x.0) (x.1 s))
each_good (expr.Binary op x y at) = rolled (expr.Binary op x.0 y.0 at) (λ s.
    binary_good op (phrased_of x.0) (phrased_of y.0) (expr_at_0 x.0) (expr_at_0 y.0) (x.1 ((and_parts (expr_sound x.0) (expr_sound y.0) s).0)) (y.1 ((and_parts (expr_sound x.0) (expr_sound y.0) s).1)))
each_good (expr.Choice c x y at) = rolled (expr.Choice c.0 x.0 y.0 at) (λ s.
    let s' : (expr_sound c.0 && expr_sound x.0) ≡ true = (and_parts (expr_sound c.0 && expr_sound x.0) (expr_sound y.0) s).0 in
    chosen_good (phrased_of c.0) (phrased_of x.0) (phrased_of y.0) (expr_at_0 c.0) (expr_at_0 x.0) (expr_at_0 y.0)
    (c.1 ((and_parts (expr_sound c.0) (expr_sound x.0) s').0)) (x.1 ((and_parts (expr_sound c.0) (expr_sound x.0) s').1)) (y.1 ((and_parts (expr_sound c.0 && expr_sound x.0) (expr_sound y.0) s).1)))
each_good (expr.Rand at) = rolled (expr.Rand at) (λ s. random_good)

pub expr_good : (x : ExprTree) → expr_sound x ≡ true → Good (phrased_of x) (expr_at_0 x)
expr_good = ind-ExprTree SoundIsGood (λ x y is. subst (λ z. SoundIsGood (roll-ExprTree z)) is (each_good y))

-- an expression that stands alone
pub expression_reads : (x : ExprTree) → expr_sound x ≡ true → Readable g.choices (expression_row x) (expr_at_0 x)
expression_reads x s = expr_good x s g.choices
