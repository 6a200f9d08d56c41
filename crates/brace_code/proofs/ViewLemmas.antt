-- What lanes read, lane by lane.
use Rattle.std.proofs.Common.{◌≡◌, ◌∙◌, refl, sym, ap, subst, ℕ, ◌-◌, ◌<◌, ◌≤◌, ℤ, pos, List, [], ◌∷◌, map, length, take, drop, slice_index_or, Some, arith}
use Rattle.std.specs.Prelude.{replicate}
use Rattle.std.proofs.lemmas.List.{get_or-map, length-map, length-replicate, take-map, take-replicate, drop-map, drop-replicate}
use Rattle.brace_code.specs.declared.code.Code.{Code}
use Rattle.brace_code.specs.declared.code.Instr.{Instr}
use Rattle.brace_code.specs.declared.code.Instr.TheVariants.{Push}
use Rattle.brace_code.specs.declared.code.Operand.{Operand}
use Rattle.brace_code.specs.declared.code.Source.TheVariants.{One}
use Rattle.brace_code.specs.declared.lane.Lane.{Lane}
use Rattle.brace_code.specs.declared.lane.Row.{Row}
use Rattle.brace_code.specs.declared.lane.Frame.{Frame}
use Rattle.brace_code.specs.declared.view.View.{View}
use Rattle.brace_code.specs.Lanes.{Gives, column_of, row_at, row_of, words_at, words_of}
use Rattle.brace_code.specs.inner.Words.{Outcome, operand_word}
use Rattle.brace_code.specs.inner.Runs.{pushed, top, outcome}
use Rattle.brace_code.specs.Columns.{Numbers, Sees, Words}
use Rattle.brace_code.proofs.CodeLemmas.{run-one}
use Rattle.brace_code.proofs.OperandLemmas.{word_words, plain_words}
use Rattle.brace_code.proofs.RunLemmas.{code_gives}
use Rattle.brace_code.proofs.SingleLemmas.{push_does}

-- ---- a part

pub same_part : (n from next : ℕ) (word : ℤ) → next ≤ n
    → replicate (next - from) word ≡ take (next - from) (drop from (replicate n word))
same_part n from next word low =
    sym (ap (take (next - from)) (drop-replicate from n word)
    ∙ take-replicate (next - from) (n - from) word (omega (arith, low)))

pub rows_part : (column read : List ℤ) (rows part : List ℕ) (m from : ℕ) → read ≡ column
    → part ≡ take m (drop from rows) → map (λ row. slice_index_or read row (pos 0)) part
    ≡ take m (drop from (map (λ row. slice_index_or column row (pos 0)) rows))
rows_part column read rows part m from same is =
    let at : ℕ → ℤ = λ row. slice_index_or column row (pos 0) in
    ap (λ (c : List ℤ). map (λ row. slice_index_or c row (pos 0)) part) same
    ∙ ap (map at) is ∙ sym (take-map at m (drop from rows))
    ∙ ap (take m) (sym (drop-map at from rows))

pub rows_long : (column : List ℤ) (part : List ℕ) (m : ℕ) → length part ≡ m
    → length (map (λ row. slice_index_or column row (pos 0)) part) ≡ m
rows_long column part m is = length-map part (λ row. slice_index_or column row (pos 0)) ∙ is

pub ruleset part_rules = (same_part, length-replicate, rows_long)

-- ---- operands

-- what lanes read of an operand are its numbers, if there is a word for each
pub read_numbers : (frame : Frame) (o : Operand) (lanes : List Lane) (column : List ℤ) (row : Row)
    (view : View) → column_of frame o ≡ Some column
    → ((lane : Lane) → row_at row lane ≡ row_of o lane)
    → words_of (length lanes) view ≡ words_at column row lanes
    → ((k : ℕ) (d : Lane) → k < length lanes → Sees view k
    → row_at row (slice_index_or lanes k d) < length column)
    → ((k : ℕ) → k < length lanes → Sees view k)
    → Numbers frame o lanes (words_of (length lanes) view)
unfolding words_at
read_numbers frame o lanes column row view is rows words within sees =
    let read : Lane → ℤ = λ lane. slice_index_or column (row_at row lane) (pos 0) in
    subst (Numbers frame o lanes) (sym words) (record {
      long = length-map lanes read;
      each = λ scope shows k d l.
          let lane = slice_index_or lanes k d in
          let inside = subst (λ (n : ℕ). n < length column) (rows lane) (within k d l (sees k l)) in
          sym (shows.each o column lane is inside)
          ∙ ap (λ (n : ℕ). slice_index_or column n (pos 0)) (sym (rows lane))
          ∙ sym (get_or-map read lanes k d (pos 0) l);
    })

pub ruleset operand_rules = (word_words, plain_words)

-- code that is an operand gives its words
pub operand_gives : (code : Code) (frame : Frame) (lanes : List Lane) (o : Operand)
    (words : List ℤ) → code.instrs ≡ Push (One o) ∷ [] → 0 < code.depth
    → Words frame (λ scope. operand_word scope o) lanes words → Gives code frame lanes words
operand_gives code frame lanes o words is some p = code_gives code frame lanes words (record {
  long = p.long;
  each = λ scope shows k d l.
      let at = scope (slice_index_or lanes k d) in
      ap (λ (c : List Instr). outcome c code.depth at) is
      ∙ ap top (run-one (Push (One o)) code.depth at [] ∙ push_does (Push (One o)) code.depth at [] (One o) refl some)
      ∙ ap (λ (w : Outcome). top (pushed [] w)) (p.each scope shows k d l);
})
