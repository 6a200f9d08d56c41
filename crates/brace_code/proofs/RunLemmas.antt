-- What each instruction does in each lane.
use Rattle.std.proofs.Common.{◌≡◌, ◌∙◌, refl, sym, ap, ℕ, suc, ◌+◌, ◌-◌, ◌<◌, ◌≤◌, ℤ, pos, Bool, true, false, List, [], ◌∷◌, length, take, Result, Ok, slice_index_or, get_or, arith}
use Rattle.std.specs.Prelude.{not, if◌then◌else◌}
use Rattle.std.specs.Ordering.{int_eq}
use Rattle.std.proofs.lemmas.List.{take_more, take_all}
use Rattle.brace_num.specs.declared.kinds.Kind.{Kind}
use Rattle.brace_model.specs.declared.program.Ty.{Ty}
use Rattle.brace_model.specs.declared.program.UnOp.{UnOp}
use Rattle.brace_model.specs.declared.program.BinOp.{BinOp}
use Rattle.brace_model.specs.Value.{Scope}
use Rattle.brace_code.specs.declared.code.Code.{Code}
use Rattle.brace_code.specs.declared.code.Operand.{Operand}
use Rattle.brace_code.specs.declared.code.Operand.TheVariants.{Word}
use Rattle.brace_code.specs.declared.code.Source.{Source}
use Rattle.brace_code.specs.declared.code.Source.TheVariants.{One}
use Rattle.brace_code.specs.declared.code.Instr.{Instr}
use Rattle.brace_code.specs.declared.code.Instr.TheVariants.{Push, Unary, Binary, With, Choice}
use Rattle.brace_code.specs.declared.lane.Lane.{Lane}
use Rattle.brace_code.specs.declared.lane.Frame.{Frame}
use Rattle.brace_code.specs.declared.splitting.SideWords.{SideWords}
use Rattle.brace_code.specs.declared.splitting.SideWords.TheVariants as sides
use Rattle.brace_code.specs.Lanes.{Shows, Gives}
use Rattle.brace_code.specs.inner.Words.{Outcome, value_of, made_word, with_word, unary_word, binary_word, choose_word, operand_word, source_word}
use Rattle.brace_code.specs.inner.Runs.{Left, onward, pushed, top, deed, run, outcome}
use Rattle.brace_code.specs.Columns.{AreMerged, ArePicked, Joins, Words, Maps, Pairs, Leads, Serves, stack_at}
use Rattle.brace_code.proofs.CodeLemmas.{run-one, run-push}
use Rattle.brace_code.proofs.SingleLemmas.{push_does, unary_does, binary_does, with_does, choice_does}

high : (columns : List (List ℤ)) (k : ℕ) → length (stack_at columns k) ≡ length columns
high [] k = refl
high (c ∷ columns) k = ap suc (high columns k)

module _ (frame : Frame) (lanes : List Lane) (room : ℕ) (before after : List (List ℤ)) (words : List ℤ) (i : Instr) where
  -- an instruction that puts a word of each lane on the rest of its stack
  puts : (rest : List (List ℤ)) → after ≡ words ∷ rest
      → ((scope : Lane → Scope) → Shows frame scope → (k : ℕ) (d : Lane) → k < length lanes
      → deed i room (scope (slice_index_or lanes k d)) (stack_at before k) ≡ pushed (stack_at rest k) (Ok (slice_index_or words k (pos 0))))
      → Leads (deed i) room frame lanes before after
  puts rest h each = record { each = λ scope shows k d l. each scope shows k d l ∙ ap (λ (s : List (List ℤ)). let r : Left = Ok (stack_at s k) in r) (sym h) }

  pub push_leads : (s : Source) → i ≡ Push s → length before < room → Words frame (λ scope. source_word scope s) lanes words → after ≡ words ∷ before
      → Leads (deed i) room frame lanes before after
  push_leads s is below p h = puts before h (λ scope shows k d l.
      push_does i room (scope (slice_index_or lanes k d)) (stack_at before k) s is (rw high below) ∙ ap (pushed (stack_at before k)) (p.each scope shows k d l))

  pub unary_leads : (op : UnOp) (site : ℕ) (a : List ℤ) (rest : List (List ℤ)) → i ≡ Unary op site → before ≡ a ∷ rest → length a ≡ length lanes
      → Maps (unary_word op) a words → after ≡ words ∷ rest → Leads (deed i) room frame lanes before after
  unary_leads op site a rest is b long p h = puts rest h (λ scope shows k d l.
      unary_does i room (scope (slice_index_or lanes k d)) (stack_at before k) op site (slice_index_or a k (pos 0)) (stack_at rest k) is (ap (λ (s : List (List ℤ)). stack_at s k) b)
      ∙ ap (λ (w : Result ℤ Kind). pushed (stack_at rest k) (made_word site w)) (p.each k (rw long l)))

  pub binary_leads : (op : BinOp) (t : Ty) (site : ℕ) (a b : List ℤ) (middle rest : List (List ℤ)) → i ≡ Binary op t site → before ≡ b ∷ middle → middle ≡ a ∷ rest
      → length a ≡ length lanes → Pairs (binary_word op t) a (λ k. slice_index_or b k (pos 0)) words → after ≡ words ∷ rest → Leads (deed i) room frame lanes before after
  binary_leads op t site a b middle rest is s m long p h = puts rest h (λ scope shows k d l.
      binary_does i room (scope (slice_index_or lanes k d)) (stack_at before k) op t site (slice_index_or a k (pos 0)) (slice_index_or b k (pos 0)) (stack_at rest k) is
      (ap (λ (s : List (List ℤ)). stack_at s k) (s ∙ ap (λ (s : List (List ℤ)). b ∷ s) m))
      ∙ ap (λ (w : Result ℤ Kind). pushed (stack_at rest k) (made_word site w)) (p.each k (rw long l)))

  pub with_leads : (op : BinOp) (t : Ty) (site : ℕ) (o : Operand) (a : List ℤ) (rest : List (List ℤ)) → i ≡ With op t site o → before ≡ a ∷ rest → length a ≡ length lanes
      → Joins frame (λ scope. operand_word scope o) (binary_word op t) lanes a words → after ≡ words ∷ rest → Leads (deed i) room frame lanes before after
  with_leads op t site o a rest is s long p h = puts rest h (λ scope shows k d l.
      let (b, read, made) = p.each scope shows k d l in
      with_does i room (scope (slice_index_or lanes k d)) (stack_at before k) op t site o (slice_index_or a k (pos 0)) (stack_at rest k) is (ap (λ (s : List (List ℤ)). stack_at s k) s)
      ∙ ap (λ (w : Outcome). pushed (stack_at rest k) (with_word w (λ y. made_word site (binary_word op t (slice_index_or a k (pos 0)) y)))) read
      ∙ ap (λ (w : Result ℤ Kind). pushed (stack_at rest k) (made_word site w)) made)

  pub choice_leads : (a b : List Instr) (ts : List ℤ) (ys ns : SideWords)
      (rest : List (List ℤ)) (left : ℕ) → i ≡ Choice a b → before ≡ ts ∷ rest
      → length ts ≡ length lanes → left ≡ room - length rest
      → Serves frame (outcome a left) lanes ys → Serves frame (outcome b left) lanes ns
      → AreMerged ts ys ns words → after ≡ words ∷ rest
      → Leads (deed i) room frame lanes before after
  choice_leads a b ts ys ns rest left is s long r f g m h = puts rest h (λ scope shows k d l.
      let below : room - length (stack_at rest k) ≡ left =
      ap (λ (n : ℕ). room - n) (high rest k) ∙ sym r in
      let low : k < length ts = omega (arith, l, long) in
      let at = scope (slice_index_or lanes k d) in
      let t = slice_index_or ts k (pos 0) in
      let w = slice_index_or words k (pos 0) in
      choice_does i room at (stack_at before k) a b t (stack_at rest k) is
      (ap (λ (s : List (List ℤ)). stack_at s k) s)
      ∙ ap (λ (n : ℕ). pushed (stack_at rest k) (outcome (choose_word t a b) n at)) below
      ∙ ap (pushed (stack_at rest k)) (by (int_eq t (pos 0)) at w
      (λ on. f.each scope shows k d w l (m.set k low on))
      (λ on. g.each scope shows k d w l (m.unset k low on))))
    where
      by : (e : Bool) (at : Scope) (w : ℤ)
          → ((if e then not true else true) ≡ true → outcome a left at ≡ Ok w)
          → ((if e then not false else false) ≡ true → outcome b left at ≡ Ok w)
          → outcome (if e then b else a) left at ≡ Ok w
      by true at w set unset = unset refl
      by false at w set unset = set refl

-- code that is a word serves any lanes
pub same_serves : (frame : Frame) (lanes : List Lane) (code : List Instr) (room : ℕ) (w v : ℤ)
    → code ≡ Push (One (Word w)) ∷ [] → 0 < room → v ≡ w
    → Serves frame (outcome code room) lanes (sides.Same v)
same_serves frame lanes code room w v is some word = record {
  each = λ scope shows k d x low has.
      let at = scope (slice_index_or lanes k d) in
      ap (λ (c : List Instr). outcome c room at) is
      ∙ ap top (run-one (Push (One (Word w))) room at []
      ∙ push_does (Push (One (Word w))) room at [] (One (Word w)) refl some)
      ∙ ap (λ (n : ℤ). let r : Outcome = Ok n in r) (sym (has ∙ word));
}

-- the words of the lanes of some numbers serve those lanes
pub words_serve : (frame : Frame) (f : Scope → Outcome) (lanes part : List Lane)
    (numbers : List ℕ) (words : List ℤ) → ArePicked lanes numbers part
    → Words frame f part words → Serves frame f lanes (sides.Each numbers words)
words_serve frame f lanes part numbers words picked p = record {
  each = λ scope shows k d w low has.
      let (i, inside, at, is) = has in
      let (there, same) = picked.each i d inside in
      let lane : slice_index_or part i d ≡ slice_index_or lanes k d =
      same ∙ ap (λ (m : ℕ). slice_index_or lanes m d) at in
      ap (λ (x : Lane). f (scope x)) (sym lane)
      ∙ p.each scope shows i d (omega (arith, inside, picked.long))
      ∙ ap (λ (n : ℤ). let r : Outcome = Ok n in r) (sym is);
}

pub ruleset side_rules = (same_serves, words_serve)

pub ruleset step_rules = (push_leads, unary_leads, binary_leads, with_leads, choice_leads)

-- no instruction leaves the stack
pub none_leads : (room : ℕ) (frame : Frame) (lanes : List Lane) (stack : List (List ℤ)) → Leads (run []) room frame lanes stack stack
none_leads room frame lanes stack = record { each = λ scope shows k d h. refl }

-- one more instruction
pub more_leads : (room : ℕ) (frame : Frame) (lanes : List Lane) (code : List Instr) (at : ℕ) (e : Instr) (first before after : List (List ℤ)) → at < length code
    → Leads (run (take at code)) room frame lanes first before → Leads (deed (get_or code at e)) room frame lanes before after → Leads (run (take (at + 1) code)) room frame lanes first after
more_leads room frame lanes code at e first before after h p q = record {
  each = λ scope shows k d l.
      ap (λ (c : List Instr). run c room (scope (slice_index_or lanes k d)) (stack_at first k)) (take_more code at e h)
      ∙ run-push (take at code) (get_or code at e) room (scope (slice_index_or lanes k d)) (stack_at first k)
      ∙ ap (λ (r : Left). onward r (deed (get_or code at e) room (scope (slice_index_or lanes k d)))) (p.each scope shows k d l)
      ∙ q.each scope shows k d l;
}

-- the top column is the outcome in each lane
pub top_gives : (room : ℕ) (frame : Frame) (lanes : List Lane) (code : List Instr) (at : ℕ) (stack rest : List (List ℤ)) (words : List ℤ) → length code ≤ at
    → Leads (run (take at code)) room frame lanes [] stack → stack ≡ words ∷ rest → length words ≡ length lanes → Words frame (outcome code room) lanes words
top_gives room frame lanes code at stack rest words e p h long = record {
  long = long;
  each = λ scope shows k d l.
      ap (λ (c : List Instr). top (run c room (scope (slice_index_or lanes k d)) [])) (sym (take_all at code e))
      ∙ ap top (p.each scope shows k d l) ∙ ap (λ (s : List (List ℤ)). top (let r : Left = Ok (stack_at s k) in r)) h;
}

pub ruleset run_rules = (none_leads, more_leads, top_gives)

-- the words of code's outcomes are those of its values
pub code_gives : (code : Code) (frame : Frame) (lanes : List Lane) (words : List ℤ) → Words frame (outcome code.instrs code.depth) lanes words → Gives code frame lanes words
code_gives code frame lanes words p = record { long = p.long; each = λ scope shows k d l. ap (value_of code.ty) (p.each scope shows k d l) }
