-- The pieces of a sound expression stand before what is no part of it.
use Rattle.std.proofs.Common.{◌≡◌, ◌∙◌, sym, ap, subst, refl, ℕ, nat_lt, nat_le, ◌==◌, Bool, true, false, not, ◌&&◌, if◌then◌else◌, List, [], ◌∷◌, ◌++◌, length, is_some, codes, pos, ◌/◌, arith, append_assoc}
use Rattle.std.specs.Fmt.{decimal}
use Rattle.std.proofs.lemmas.Bool.{ne_eqb, and_parts, and_from}
use Rattle.brace_num.specs.Names.{is_digit, is_letter, begins, is_word, is_name}
use Rattle.brace_tok.specs.Bytes.{are_digits}
use Rattle.brace_tok.specs.Tables.{symbol}
use Rattle.brace_tok.specs.Pieces.{whole, fraction}
use Rattle.brace_tok.specs.Spells.{text_of}
use Rattle.brace_syntax.specs.declared.tree.Digits.{Digits}
use Rattle.brace_syntax.specs.declared.tree.Digits.TheVariants.{Int, Fixed}
use Rattle.brace_syntax.specs.declared.tree.UnName.{UnName}
use Rattle.brace_syntax.specs.declared.tree.UnName.TheVariants as un
use Rattle.brace_syntax.specs.declared.tree.BinName.{BinName}
use Rattle.brace_syntax.specs.declared.tree.BinName.TheVariants as bin
use Rattle.brace_syntax.specs.declared.tree.ExprTree.{ExprTree}
use Rattle.brace_syntax.specs.declared.tree.ExprTree.TheOpen.{ExprTree-F, Lit, True, False, Name, OfThis, OfLoop, Unary, Binary, Choice, Rand}
use Rattle.brace_syntax.specs.declared.tree.ExprTree.TheFolds.{map-ExprTree, fold-roll-ExprTree, ind-ExprTree}
use Rattle.brace_show.proofs.Sound.{digits_are, expr_sound_step, expr_sound}
use Rattle.brace_tok.proofs.Named.{name_word, name_short}
use Rattle.brace_show.proofs.RowRoles.{word_fits, decimal_digits}
use Rattle.brace_show.proofs.Rows.{Row, space, mark, letters, literal_row, Phrased, row_at, call_one_row, call_two_row, prefixed_row, between_row, unary_row, binary_row, choice_row, phrased_step, phrased_of}
use Rattle.brace_show.proofs.RowText.{text_append, run, run_is}
use Rattle.brace_show.proofs.PieceStands.{row_split, Stands, Stood, follow, ended, any, no_word, stops, marked, open_stands, close_stands, dot_stands, comma_stands, minus_stands, lettered, named, literal_stands}

-- a row does not begin as the end of a longer mark that begins with `!`
abbrev pub Opens : Row → Type 0
Opens row = (after : List ℕ) → begins (λ b. is_some (symbol (33 ∷ b ∷ []))) (text_of row ++ after) ≡ false

pub other : (kind : ℕ → Bool) (b c : ℕ) → kind b ≡ true → kind c ≡ false → (c == b) ≡ false
other kind b c e f = ne_eqb c b (λ same. let h : true ≡ false = sym e ∙ ap kind (sym same) ∙ f in cc)

no_equals : (b : ℕ) → (61 == b) ≡ false → is_some (symbol (33 ∷ b ∷ [])) ≡ false
unfolding symbol
no_equals b e = rw e refl

opens_front : (a b : Row) → Opens a → Opens (a ++ b)
opens_front a b o after =
    ap (begins (λ b. is_some (symbol (33 ∷ b ∷ [])))) (ap (λ u. u ++ after) (text_append a b) ∙ append_assoc (text_of a) (text_of b) after) ∙ o (text_of b ++ after)

opens_run : (row : Row) (rows : List Row) → Opens row → Opens (run row rows)
opens_run row rows o after = ap (λ r. begins (λ b. is_some (symbol (33 ∷ b ∷ []))) (text_of r ++ after)) (run_is row rows) ∙ opens_front row (run [] rows) o after

begins_word : (f : List ℕ) → is_word f ≡ true → (rest after : List ℕ) → begins (λ b. is_some (symbol (33 ∷ b ∷ []))) ((f ++ rest) ++ after) ≡ false
begins_word [] e rest after = absurd (cc)
begins_word (b ∷ f) e rest after = no_equals b (other is_letter b 61 ((and_parts (is_letter b) _ e).0) refl)

opens_whole : (ds : List ℕ) → are_digits ds ≡ true → Opens (whole ds ∷ [])
opens_whole [] e after = absurd (cc)
opens_whole (b ∷ ds) e after = no_equals b (other is_digit b 61 ((and_parts (is_digit b) _ e).0) refl)

opens_fraction : (ds decimals : List ℕ) → are_digits ds ≡ true → Opens (fraction ds decimals ∷ [])
opens_fraction [] decimals e after = absurd (cc)
opens_fraction (b ∷ ds) decimals e after = no_equals b (other is_digit b 61 ((and_parts (is_digit b) _ e).0) refl)

literal_opens : (d : Digits) → digits_are d ≡ true → Opens (literal_row d)
literal_opens (Int (pos n)) e = opens_whole (decimal n) (decimal_digits n (word_fits n e))
literal_opens (Fixed (pos n)) e = opens_fraction (decimal (n / 1000000)) _ (decimal_digits (n / 1000000) (omega (arith, word_fits n e)))
literal_opens _ e = absurd (cc)

-- expressions
pub record Fit (p : Phrased) : Type 0 where
  pub stands : Stands stops p.row
  pub opens : Opens p.row

abbrev operand : (needed : ℕ) (p : Phrased) → Fit p → Stood
operand needed p fit = record {
  need = stops;
  row = row_at needed p;
  stands = elim (nat_lt p.level needed) as (λ b. Stands stops (if b then mark (codes "(") ++ p.row ++ mark (codes ")") else p.row)) [
    | true ↦ λ after h. row_split (mark (codes "(") ++ p.row) (mark (codes ")")) after
        (row_split (mark (codes "(")) p.row (41 ∷ after) (open_stands _ refl) (fit.stands (41 ∷ after) refl)) (close_stands after refl)
    | false ↦ fit.stands
  ];
}

opens_at : (needed : ℕ) (p : Phrased) → Fit p → Opens (row_at needed p)
unfolding symbol
opens_at needed p fit =
    elim (nat_lt p.level needed) as (λ b. Opens (if b then mark (codes "(") ++ p.row ++ mark (codes ")") else p.row)) [
      | true ↦ λ after. refl
      | false ↦ fit.opens
    ]

fitting : (level : ℕ) (s : Stood) → ((after : List ℕ) → stops after ≡ true → s.need after ≡ true) → Opens s.row → Fit (record { level = level; row = s.row })
fitting level s n o = record { stands = λ after h. s.stands after (n after h); opens = o }

pub begins_no_word : (after : List ℕ) → stops after ≡ true → no_word after ≡ true
begins_no_word after h = (and_parts (no_word after) _ h).0

one_fits : (f : List ℕ) → is_word f ≡ true → nat_le (length f) 64 ≡ true → (p : Phrased) → Fit p → Fit (call_one_row f p)
one_fits f e short p fit =
    let called = ended (lettered f e short) (mark (codes "(") ∷ []) any open_stands (λ after h. refl) in
    fitting 8 (ended (follow called (operand 1 p fit) (λ after h. refl)) (mark (codes ")") ∷ []) any close_stands (λ after h. refl)) (λ after h. refl)
    (begins_word f e _)

two_fits : (f : List ℕ) → is_word f ≡ true → nat_le (length f) 64 ≡ true → (p q : Phrased) → Fit p → Fit q → Fit (call_two_row f p q)
two_fits f e short p q fit gfit =
    let called = ended (lettered f e short) (mark (codes "(") ∷ []) any open_stands (λ after h. refl) in
    let first = ended (follow called (operand 1 p fit) (λ after h. refl)) (mark (codes ",") ∷ space ∷ []) any comma_stands (λ after h. refl) in
    fitting 8 (ended (follow first (operand 1 q gfit) (λ after h. refl)) (mark (codes ")") ∷ []) any close_stands (λ after h. refl)) (λ after h. refl)
    (begins_word f e _)

minus_fits : (p : Phrased) → Fit p → Fit (prefixed_row (codes "-") p)
unfolding symbol
minus_fits p fit = fitting 7 (follow (marked (codes "-") minus_stands) (operand 7 p fit) (λ after h. refl)) (λ after h. h) (λ after. refl)

abbrev no_longer : List ℕ → Bool
no_longer after = not (begins (λ b. is_some (symbol (33 ∷ b ∷ []))) after)

bang_stands : Stands no_longer (mark (codes "!"))
unfolding symbol
bang_stands after h = and_from _ _ (and_from _ _ (and_from true _ refl (and_from _ _ h refl)) refl) refl

bang_fits : (p : Phrased) → Fit p → Fit (prefixed_row (codes "!") p)
unfolding symbol
bang_fits p fit =
    fitting 7 (follow (record { need = no_longer; row = mark (codes "!"); stands = bang_stands }) (operand 7 p fit) (λ after h. ap not (opens_at 7 p fit after))) (λ after h. h) (λ after. refl)

between_fits : (level left right : ℕ) (op : List ℕ) → Stands any (space ++ mark op ++ space) → (p q : Phrased) → Fit p → Fit q → Fit (between_row level left right op p q)
between_fits level left right op s p q fit gfit =
    fitting level (follow (ended (operand left p fit) (space ∷ mark op ∷ space ∷ []) any s (λ after h. refl)) (operand right q gfit) (λ after h. refl)) (λ after h. h)
    (opens_front (run (row_at left p) (space ∷ mark op ∷ space ∷ [])) (row_at right q) (opens_run (row_at left p) (space ∷ mark op ∷ space ∷ []) (opens_at left p fit)))

choice_fits : (c p q : Phrased) → Fit c → Fit p → Fit q → Fit (choice_row c p q)
unfolding symbol
choice_fits c p q cfit fit gfit =
    let first = ended (operand 2 c cfit) (space ∷ mark (codes "?") ∷ space ∷ []) any (λ after h. refl) (λ after h. refl) in
    let second = ended (follow first (operand 1 p fit) (λ after h. refl)) (space ∷ mark (codes ":") ∷ space ∷ []) any (λ after h. refl) (λ after h. refl) in
    fitting 1 (follow second (operand 1 q gfit) (λ after h. refl)) (λ after h. h)
    (opens_front second.row (row_at 1 q) (opens_run (first.row ++ row_at 1 p) (space ∷ mark (codes ":") ∷ space ∷ [])
    (opens_front first.row (row_at 1 p) (opens_run (row_at 2 c) (space ∷ mark (codes "?") ∷ space ∷ []) (opens_at 2 c cfit)))))

unary_fits : (op : UnName) (p : Phrased) → Fit p → Fit (unary_row op p)
unary_fits un.Neg p fit = minus_fits p fit
unary_fits un.Not p fit = bang_fits p fit
unary_fits un.Abs p fit = one_fits (codes "abs") refl refl p fit
unary_fits un.Sqrt p fit = one_fits (codes "sqrt") refl refl p fit
unary_fits un.ToFixed p fit = one_fits (codes "fixed") refl refl p fit
unary_fits un.Trunc p fit = one_fits (codes "trunc") refl refl p fit

binary_fits : (op : BinName) (p q : Phrased) → Fit p → Fit q → Fit (binary_row op p q)
unfolding symbol
binary_fits bin.Or p q f g = between_fits 2 2 3 (codes "||") (λ after h. refl) p q f g
binary_fits bin.And p q f g = between_fits 3 3 4 (codes "&&") (λ after h. refl) p q f g
binary_fits bin.Lt p q f g = between_fits 4 5 5 (codes "<") (λ after h. refl) p q f g
binary_fits bin.Le p q f g = between_fits 4 5 5 (codes "<=") (λ after h. refl) p q f g
binary_fits bin.Gt p q f g = between_fits 4 5 5 (codes ">") (λ after h. refl) p q f g
binary_fits bin.Ge p q f g = between_fits 4 5 5 (codes ">=") (λ after h. refl) p q f g
binary_fits bin.Eq p q f g = between_fits 4 5 5 (codes "==") (λ after h. refl) p q f g
binary_fits bin.Ne p q f g = between_fits 4 5 5 (codes "!=") (λ after h. refl) p q f g
binary_fits bin.Add p q f g = between_fits 5 5 6 (codes "+") (λ after h. refl) p q f g
binary_fits bin.Sub p q f g = between_fits 5 5 6 (codes "-") (λ after h. refl) p q f g
binary_fits bin.Mul p q f g = between_fits 6 6 7 (codes "*") (λ after h. refl) p q f g
binary_fits bin.Div p q f g = between_fits 6 6 7 (codes "/") (λ after h. refl) p q f g
binary_fits bin.Rem p q f g = between_fits 6 6 7 (codes "%") (λ after h. refl) p q f g
binary_fits bin.Min p q f g = two_fits (codes "min") refl refl p q f g
binary_fits bin.Max p q f g = two_fits (codes "max") refl refl p q f g

abbrev pub pointed : (f g : List ℕ) → is_word f ≡ true → nat_le (length f) 64 ≡ true → is_name g ≡ true → Stood
pointed f g e short named_ = follow (ended (lettered f e short) (mark (codes ".") ∷ []) any dot_stands (λ after h. refl)) (named g named_) (λ after h. refl)

rand_stands : Stands any (letters (codes "rand") ++ mark (codes "(") ++ mark (codes ")"))
rand_stands = (ended (ended (lettered (codes "rand") refl refl) (mark (codes "(") ∷ []) any open_stands (λ after h. refl)) (mark (codes ")") ∷ []) any close_stands (λ after h. refl)).stands

abbrev IsFit : ExprTree → Type 0
IsFit x = expr_sound x ≡ true → Fit (phrased_of x)

abbrev Fitted : Type 0
Fitted = (x : ExprTree) × IsFit x

abbrev tree_of : Fitted → ExprTree
tree_of e = e.0

step_fits : (y : ExprTree-F Fitted) → expr_sound_step (map-ExprTree ExprTree Bool expr_sound (map-ExprTree Fitted ExprTree tree_of y)) ≡ true
    → Fit (phrased_step (map-ExprTree ExprTree Phrased phrased_of (map-ExprTree Fitted ExprTree tree_of y)))
step_fits (Lit number) e = record { stands = literal_stands number.digits e; opens = literal_opens number.digits e }
step_fits (True at) e = fitting 8 (lettered (codes "true") refl refl) begins_no_word (begins_word (codes "true") refl [])
step_fits (False at) e = fitting 8 (lettered (codes "false") refl refl) begins_no_word (begins_word (codes "false") refl [])
step_fits (Name name) e = fitting 8 (named name.text e) begins_no_word (begins_word name.text (name_word name.text e) [])
step_fits (OfThis name at) e = fitting 8 (pointed (codes "this") name.text refl refl e) begins_no_word (begins_word (codes "this") refl (codes "." ++ (name.text ++ [])))
step_fits (OfLoop loop name) e =
    let l = (and_parts (is_name loop.text) (is_name name.text) e).0 in
    fitting 8 (pointed loop.text name.text (name_word loop.text l) (name_short loop.text l) ((and_parts (is_name loop.text) (is_name name.text) e).1)) begins_no_word (begins_word loop.text (name_word loop.text l) _)
step_fits (Unary op p at) e = unary_fits op (phrased_of p.0) (p.1 e)
step_fits (Binary op p q at) e = binary_fits op (phrased_of p.0) (phrased_of q.0) (p.1 ((and_parts _ (expr_sound q.0) e).0)) (q.1 ((and_parts (expr_sound p.0) _ e).1))
step_fits (Choice c p q at) e =
    let front = (and_parts (expr_sound c.0 && expr_sound p.0) (expr_sound q.0) e).0 in
    choice_fits (phrased_of c.0) (phrased_of p.0) (phrased_of q.0) (c.1 ((and_parts _ (expr_sound p.0) front).0)) (p.1 ((and_parts (expr_sound c.0) _ front).1))
    (q.1 ((and_parts (expr_sound c.0 && expr_sound p.0) _ e).1))
step_fits (Rand at) e = fitting 8 (record { need = any; row = letters (codes "rand") ++ mark (codes "(") ++ mark (codes ")"); stands = rand_stands }) (λ after h. refl) (begins_word (codes "rand") refl (codes "()"))

-- a sound expression stands before what is no part of it
pub expr_fits : (x : ExprTree) → expr_sound x ≡ true → Fit (phrased_of x)
expr_fits = ind-ExprTree IsFit (λ x y is e.
    let step : expr_sound_step (map-ExprTree ExprTree Bool expr_sound x) ≡ true → Fit (phrased_step (map-ExprTree ExprTree Phrased phrased_of x)) =
    subst (λ z. expr_sound_step (map-ExprTree ExprTree Bool expr_sound z) ≡ true → Fit (phrased_step (map-ExprTree ExprTree Phrased phrased_of z))) is (step_fits y) in
    subst Fit (sym (fold-roll-ExprTree Phrased phrased_step x)) (step (sym (fold-roll-ExprTree Bool expr_sound_step x) ∙ e)))

abbrev pub valued : (x : ExprTree) → expr_sound x ≡ true → Stood
valued x e = operand 1 (phrased_of x) (expr_fits x e)
