-- Columns of operands.
use Rattle.std.proofs.Common.{◌≡◌, ◌≢◌, ◌∙◌, refl, sym, ap, subst, arith, ℕ, ◌+◌, ◌<◌, ℤ, pos, List, length, drop, get_or, drop-cons, add-one, Option, Some, Result, Ok, slice_index_or, if◌then◌else◌}
use Rattle.std.specs.Prelude.{◌==◌, replicate}
use Rattle.std.proofs.lemmas.List.{get_or-map, get_or-replicate, length-map, length-replicate}
use Rattle.brace_num.specs.declared.kinds.Kind.{Kind}
use Rattle.brace_model.specs.declared.program.Ty.{Ty}
use Rattle.brace_model.specs.declared.program.BinOp.{BinOp}
use Rattle.brace_model.specs.Value.{Scope, total_read}
use Rattle.brace_code.specs.declared.code.Operand.{Operand}
use Rattle.brace_code.specs.declared.code.Operand.TheVariants.{Word, Total}
use Rattle.brace_code.specs.declared.lane.Lane.{Lane}
use Rattle.brace_code.specs.declared.lane.Frame.{Frame}
use Rattle.brace_code.specs.declared.lane.Draws.{Draws}
use Rattle.brace_code.specs.Lanes.{draws_at, number_in, words_of}
use Rattle.brace_code.specs.inner.Words.{Outcome, word_of, made_word, with_word, binary_word, operand_word, source_word}
use Rattle.brace_code.specs.declared.view.View.{View}
use Rattle.brace_code.specs.declared.view.View.TheVariants.{Same, Each, At}
use Rattle.brace_code.specs.declared.code.Source.{Source}
use Rattle.brace_code.specs.declared.code.Source.TheVariants.{One, Two}
use Rattle.brace_code.specs.declared.kernels.First.{First}
use Rattle.brace_code.specs.Columns.{Joins, HasFirst, Numbers, Pairs, Sees, Words, firsts, seen}

pub draws_more : (draws : List Draws) (k site : ℕ) (d : Draws) → k < length draws
    → draws_at (drop k draws) site ≡ (if (get_or draws k d).site == site then Some (get_or draws k d).words.now else draws_at (drop (k + 1) draws) site)
draws_more draws k site d h = rw (add-one, drop-cons draws k d) refl

-- an operand's word is its number, unless it is a total
pub plain_operand : (o : Operand)
    → ((effect : ℕ) (t : Ty) (site : Option ℕ) → o ≢ Total effect t site)
    → (scope : Scope) → operand_word scope o ≡ Ok (number_in scope o)
plain_operand (Total effect t site) plain scope = absurd (plain effect t site refl)
plain_operand _ plain scope = refl

module _ (frame : Frame) (o : Operand) (lanes : List Lane) (words : List ℤ) where
  pub word_words : (n : ℤ) → o ≡ Word n → words ≡ replicate (length lanes) n
      → Words frame (λ scope. operand_word scope o) lanes words
  word_words n is same = record {
    long = ap (λ (l : List ℤ). length l) same ∙ length-replicate (length lanes) n;
    each = λ scope shows k d l.
        ap (operand_word (scope (slice_index_or lanes k d))) is
        ∙ ap (λ (x : ℤ). let w : Outcome = Ok x in w)
        (sym (ap (λ (l : List ℤ). slice_index_or l k (pos 0)) same
        ∙ get_or-replicate (length lanes) k n (pos 0) l));
  }

  -- an operand whose word is its number
  pub plain_words : ((effect : ℕ) (t : Ty) (site : Option ℕ) → o ≢ Total effect t site)
      → Numbers frame o lanes words
      → Words frame (λ scope. operand_word scope o) lanes words
  plain_words plain p = record {
    long = p.long;
    each = λ scope shows k d l.
        plain_operand o plain (scope (slice_index_or lanes k d))
        ∙ ap (λ (x : ℤ). let w : Outcome = Ok x in w) (p.each scope shows k d l);
  }

  pub total_words : (effect : ℕ) (t : Ty) (site : Option ℕ) (totals : List ℤ) → o ≡ Total effect t site → Numbers frame o lanes totals → length words ≡ length totals
      → ((s : Option ℕ) (k : ℕ) → k < length totals → word_of (total_read t s (slice_index_or totals k (pos 0))) ≡ Ok (slice_index_or words k (pos 0)))
      → Words frame (λ scope. operand_word scope o) lanes words
  total_words effect t site totals is p long each = record {
    long = long ∙ p.long;
    each = λ scope shows k d l.
        let at = scope (slice_index_or lanes k d) in
        let number : number_in at (Total effect t site) ≡ slice_index_or totals k (pos 0) = subst (λ (x : Operand). number_in at x ≡ slice_index_or totals k (pos 0)) is (p.each scope shows k d l) in
        ap (operand_word at) is ∙ ap (λ (n : ℤ). word_of (total_read t site n)) number ∙ each site k (subst (λ (n : ℕ). k < n) (sym p.long) l);
  }

pub ruleset operand_rules = (word_words, plain_words, total_words)

-- ---- what lanes read

-- a view that has a word for a lane has it among the words that so many lanes read
pub seen_word : (n k : ℕ) (view : View) → k < n → Sees view k → (k < length (words_of n view))
    × (slice_index_or (words_of n view) k (pos 0) ≡ seen view k)
seen_word n k (Same word) low sees = (
  subst (λ (m : ℕ). k < m) (sym (length-replicate n word)) low,
  get_or-replicate n k word (pos 0) low,
)
seen_word n k (Each words) low sees = (sees, refl)
seen_word n k (At column rows) low sees =
    let read : ℕ → ℤ = λ row. slice_index_or column.now row (pos 0) in (
      subst (λ (m : ℕ). k < m) (sym (length-map rows.now read)) sees.0,
      get_or-map read rows.now k 0 (pos 0) sees.0,
    )

-- a column of what lanes read of an operand
pub shown_numbers : (frame : Frame) (o : Operand) (lanes : List Lane) (words : List ℤ)
    (view : View) (count : ℕ) → count ≡ length lanes
    → (((k : ℕ) → k < length lanes → Sees view k)
    → Numbers frame o lanes (words_of (length lanes) view))
    → ((k : ℕ) → k < count → Sees view k) → words ≡ words_of count view
    → Numbers frame o lanes words
shown_numbers frame o lanes words view count many numbers sees is =
    subst (Numbers frame o lanes) (ap (λ (n : ℕ). words_of n view) (sym many) ∙ sym is)
    (numbers (λ k low. sees k (omega (arith, many, low))))

-- what an operation gives of words and of what lanes read
module _ (frame : Frame) (o : Operand) (op : ℤ → ℤ → Result ℤ Kind) (lanes : List Lane)
    (a words : List ℤ) (view : View) where
  abbrev Joined : Type 0
  Joined = Joins frame (λ scope. operand_word scope o) op lanes a words

  pub join_words : length a ≡ length lanes
      → Words frame (λ scope. operand_word scope o) lanes (words_of (length lanes) view)
      → ((k : ℕ) → k < length a → Sees view k) → Pairs op a (seen view) words → Joined
  join_words long q sees p = record {
    long = p.long;
    each = λ scope shows k d l.
        let low : k < length a = omega (arith, long, l) in
        let (inside, read) = seen_word (length lanes) k view l (sees k low) in
        (seen view k, q.each scope shows k d l ∙ ap Ok read, p.each k low);
  }

  pub join_word : (n : ℤ) → o ≡ Word n → view ≡ Same n → length a ≡ length lanes
      → Pairs op a (seen view) words → Joined
  join_word n is same long p = join_words long
      (word_words frame o lanes (words_of (length lanes) view) n is
      (ap (words_of (length lanes)) same))
      (λ k low. subst (λ (v : View). Sees v k) (sym same) tt) p

-- ---- what is read of a source

-- the words of an operand that stand where a view reads them, where there are such rows
pub first_words : (frame : Frame) (o : Operand) (lanes : List Lane) (view : View) (f : First)
    → ((effect : ℕ) (t : Ty) (site : Option ℕ) → o ≢ Total effect t site)
    → firsts f ≡ words_of (length lanes) view
    → ((k : ℕ) → k < length lanes → HasFirst f k → Sees view k)
    → (((k : ℕ) → k < length lanes → Sees view k)
    → Numbers frame o lanes (words_of (length lanes) view))
    → ((k : ℕ) → k < length lanes → HasFirst f k)
    → Words frame (λ scope. operand_word scope o) lanes (firsts f)
first_words frame o lanes view f plain is sees numbers has =
    plain_words frame o lanes (firsts f) plain
    (subst (Numbers frame o lanes) (sym is) (numbers (λ k low. sees k low (has k low))))

pub one_words : (frame : Frame) (s : Source) (lanes : List Lane) (words : List ℤ) (o : Operand)
    → s ≡ One o → Words frame (λ scope. operand_word scope o) lanes words
    → Words frame (λ scope. source_word scope s) lanes words
one_words frame s lanes words o is p =
    subst (λ (x : Source). Words frame (λ scope. source_word scope x) lanes words) (sym is) p

pub two_words : (frame : Frame) (s : Source) (lanes : List Lane) (words : List ℤ) (op : BinOp)
    (t : Ty) (site : ℕ) (o p : Operand) (f : First) → s ≡ Two op t site o p
    → (((k : ℕ) → k < length lanes → HasFirst f k)
    → Words frame (λ scope. operand_word scope o) lanes (firsts f))
    → ((k : ℕ) → k < length lanes → HasFirst f k)
    → length (firsts f) ≡ length lanes
    → Joins frame (λ scope. operand_word scope p) (binary_word op t) lanes (firsts f) words
    → Words frame (λ scope. source_word scope s) lanes words
two_words frame s lanes words op t site o p f is first_read has long q =
    let first_is = first_read has in
    subst (λ (x : Source). Words frame (λ scope. source_word scope x) lanes words) (sym is)
    (record {
      long = q.long ∙ long;
      each = λ scope shows k d l.
          let at = scope (slice_index_or lanes k d) in
          let a = slice_index_or (firsts f) k (pos 0) in
          let (b, read, made) = q.each scope shows k d l in
          ap (λ (w : Outcome). with_word w (λ x. with_word (operand_word at p)
          (λ y. made_word site (binary_word op t x y)))) (first_is.each scope shows k d l)
          ∙ ap (λ (w : Outcome). with_word w (λ y. made_word site (binary_word op t a y))) read
          ∙ ap (made_word site) made;
    })
