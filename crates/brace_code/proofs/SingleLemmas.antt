-- What each instruction does in one environment.
use Rattle.std.proofs.Common.{◌≡◌, ◌∙◌, refl, sym, ap, subst, ℕ, ◌+◌, ◌-◌, ◌<◌, ◌≤◌, ℤ, pos, Bool, true, false, List, [], ◌∷◌, ◌++◌, length, take, drop, set, reverse, map, Ok, Err, get_or, drop-cons, add-one, arith}
use Rattle.std.specs.Prelude.{nat_lt, if◌then◌else◌}
use Rattle.std.specs.Ordering.{int_eq}
use Rattle.std.proofs.lemmas.List.{drop_all, take_more, take_more_set, reverse-append, length-reverse, length-take-le, take-append-le, take-take}
use Rattle.std.proofs.lemmas.Bool.Decides.{nat_tests}
use Rattle.brace_model.specs.declared.program.Ty.{Ty}
use Rattle.brace_model.specs.declared.program.UnOp.{UnOp}
use Rattle.brace_model.specs.declared.program.BinOp.{BinOp}
use Rattle.brace_model.specs.declared.fault.Stop.{Stop}
use Rattle.brace_draw.specs.declared.Drawer.{Drawer}
use Rattle.brace_model.specs.declared.job.Env.{Env}
use Rattle.brace_model.specs.Scopes.{scope_of}
use Rattle.brace_model.specs.Value.{Scope}
use Rattle.brace_code.specs.declared.code.Operand.{Operand}
use Rattle.brace_code.specs.declared.code.Source.{Source}
use Rattle.brace_code.specs.declared.code.Source.TheVariants.{One, Two}
use Rattle.brace_code.specs.declared.code.Instr.{Instr}
use Rattle.brace_code.specs.declared.code.Instr.TheVariants.{Push, Unary, Binary, With, Choice}
use Rattle.brace_code.specs.declared.code.Instr.TheOpen as layer
use Rattle.brace_code.specs.inner.Words.{Outcome, made_word, with_word, unary_word, binary_word, choose_word, operand_word, source_word}
use Rattle.brace_code.specs.inner.Runs.{Left, Deed, onward, pushed, put, stuck, top, deed, deed_step, run, outcome, stack_of}
use Rattle.brace_code.proofs.CodeLemmas.{deed-Push, deed-Unary, deed-Binary, deed-With, deed-Choice}

-- ---- stacks of the first words

pub written : (words : List ℤ) (place : ℕ) (word : ℤ) → place < length words → stack_of (set words place word) (place + 1) ≡ word ∷ stack_of words place
written words place word h = ap reverse (take_more_set words place word h) ∙ reverse-append (take place words) (word ∷ [])

at_popped : (words : List ℤ) (n : ℕ) (d : ℤ) → n < length words → stack_of words (n + 1) ≡ get_or words n d ∷ stack_of words n
at_popped words n d h = ap reverse (take_more words n d h) ∙ reverse-append (take n words) (get_or words n d ∷ [])

pub high : (words : List ℤ) (n : ℕ) → n ≤ length words → length (stack_of words n) ≡ n
high words n h = length-reverse (take n words) ∙ length-take-le n words h

-- the stack of so many words, its top by itself
pub popped : (words : List ℤ) (height : ℕ) (d : ℤ) → 0 < height → height ≤ length words
    → stack_of words height ≡ get_or words (height - 1) d ∷ stack_of words (height - 1)
popped words height d some h = let e : height - 1 + 1 ≡ height = omega arith in
    subst (λ (n : ℕ). stack_of words n ≡ get_or words (height - 1) d ∷ stack_of words (height - 1)) e (at_popped words (height - 1) d (omega arith))

-- ---- instructions

module _ (i : Instr) (room : ℕ) (scope : Scope) (stack : List ℤ) where
  at : (f : Deed) → deed i ≡ f → deed i room scope stack ≡ f room scope stack
  at f e = ap (λ (x : Deed). x room scope stack) e

  pub push_does : (s : Source) → i ≡ Push s → length stack < room → deed i room scope stack ≡ pushed stack (source_word scope s)
  push_does s is h = at (deed_step (layer.Push s)) (ap deed is ∙ deed-Push s) ∙ go (grind (arith, nat_tests))
    where
      go : nat_lt (length stack) room ≡ true → put room stack (source_word scope s) ≡ pushed stack (source_word scope s)
      go e = rw e refl

  pub push_lacks : (s : Source) → i ≡ Push s → room ≤ length stack → deed i room scope stack ≡ Err stuck
  push_lacks s is h = at (deed_step (layer.Push s)) (ap deed is ∙ deed-Push s) ∙ go (grind (arith, nat_tests))
    where
      go : nat_lt (length stack) room ≡ false → put room stack (source_word scope s) ≡ Err stuck
      go e = rw e refl

  pub unary_does : (op : UnOp) (site : ℕ) (a : ℤ) (rest : List ℤ) → i ≡ Unary op site → stack ≡ a ∷ rest → deed i room scope stack ≡ pushed rest (made_word site (unary_word op a))
  unary_does op site a rest is s = at (deed_step (layer.Unary op site)) (ap deed is ∙ deed-Unary op site) ∙ ap (deed_step (layer.Unary op site) room scope) s

  pub unary_lacks : (op : UnOp) (site : ℕ) → i ≡ Unary op site → stack ≡ [] → deed i room scope stack ≡ Err stuck
  unary_lacks op site is s = at (deed_step (layer.Unary op site)) (ap deed is ∙ deed-Unary op site) ∙ ap (deed_step (layer.Unary op site) room scope) s

  pub binary_does : (op : BinOp) (t : Ty) (site : ℕ) (a b : ℤ) (rest : List ℤ) → i ≡ Binary op t site → stack ≡ b ∷ (a ∷ rest)
      → deed i room scope stack ≡ pushed rest (made_word site (binary_word op t a b))
  binary_does op t site a b rest is s = at (deed_step (layer.Binary op t site)) (ap deed is ∙ deed-Binary op t site) ∙ ap (deed_step (layer.Binary op t site) room scope) s

  pub binary_lacks_two : (op : BinOp) (t : Ty) (site : ℕ) → i ≡ Binary op t site → stack ≡ [] → deed i room scope stack ≡ Err stuck
  binary_lacks_two op t site is s = at (deed_step (layer.Binary op t site)) (ap deed is ∙ deed-Binary op t site) ∙ ap (deed_step (layer.Binary op t site) room scope) s

  pub binary_lacks_one : (op : BinOp) (t : Ty) (site : ℕ) (b : ℤ) → i ≡ Binary op t site → stack ≡ b ∷ [] → deed i room scope stack ≡ Err stuck
  binary_lacks_one op t site b is s = at (deed_step (layer.Binary op t site)) (ap deed is ∙ deed-Binary op t site) ∙ ap (deed_step (layer.Binary op t site) room scope) s

  pub with_does : (op : BinOp) (t : Ty) (site : ℕ) (o : Operand) (a : ℤ) (rest : List ℤ) → i ≡ With op t site o → stack ≡ a ∷ rest
      → deed i room scope stack ≡ pushed rest (with_word (operand_word scope o) (λ b. made_word site (binary_word op t a b)))
  with_does op t site o a rest is s = at (deed_step (layer.With op t site o)) (ap deed is ∙ deed-With op t site o) ∙ ap (deed_step (layer.With op t site o) room scope) s

  pub with_lacks : (op : BinOp) (t : Ty) (site : ℕ) (o : Operand) → i ≡ With op t site o → stack ≡ [] → deed i room scope stack ≡ Err stuck
  with_lacks op t site o is s = at (deed_step (layer.With op t site o)) (ap deed is ∙ deed-With op t site o) ∙ ap (deed_step (layer.With op t site o) room scope) s

  pub choice_does : (a b : List Instr) (t : ℤ) (rest : List ℤ) → i ≡ Choice a b → stack ≡ t ∷ rest
      → deed i room scope stack ≡ pushed rest (outcome (choose_word t a b) (room - length rest) scope)
  choice_does a b t rest is s = at (deed_step (layer.Choice (map deed a) (map deed b))) (ap deed is ∙ deed-Choice a b)
      ∙ ap (deed_step (layer.Choice (map deed a) (map deed b)) room scope) s ∙ ap (pushed rest) (go (int_eq t (pos 0)))
    where
      go : (e : Bool) → (if e then outcome b (room - length rest) scope else outcome a (room - length rest) scope) ≡ outcome (if e then b else a) (room - length rest) scope
      go true = refl
      go false = refl

  pub choice_lacks : (a b : List Instr) → i ≡ Choice a b → stack ≡ [] → deed i room scope stack ≡ Err stuck
  choice_lacks a b is s = at (deed_step (layer.Choice (map deed a) (map deed b))) (ap deed is ∙ deed-Choice a b)
      ∙ ap (deed_step (layer.Choice (map deed a) (map deed b)) room scope) s

-- one more instruction
pub run_more : (code : List Instr) (at : ℕ) (e : Instr) (room : ℕ) (scope : Scope) (stack : List ℤ) → at < length code →
    run (drop at code) room scope stack ≡ onward (deed (get_or code at e) room scope stack) (run (drop (at + 1) code) room scope)
run_more code at e room scope stack h = rw (add-one, drop-cons code at e) refl

-- the scope depends on a drawer's seed alone
pub same_scope : (env : Env) (d e : Drawer) → d.seed ≡ e.seed → scope_of env d ≡ scope_of env e
same_scope env d e p = rw p refl

-- the word of what is read of one operand, or of two in turn
pub one_read : (scope : Scope) (s : Source) (o : Operand) (w : Outcome) → s ≡ One o
    → w ≡ operand_word scope o → w ≡ source_word scope s
one_read scope s o w is e = e ∙ ap (source_word scope) (sym is)

pub two_read : (env : Env) (d e : Drawer) (s : Source) (op : BinOp) (t : Ty) (site : ℕ)
    (o p : Operand) (a b w : Outcome) (x : ℤ) → s ≡ Two op t site o p
    → e.seed ≡ d.seed → a ≡ operand_word (scope_of env d) o → a ≡ Ok x
    → b ≡ operand_word (scope_of env e) p
    → w ≡ with_word b (λ y. made_word site (binary_word op t x y))
    → w ≡ source_word (scope_of env d) s
two_read env d e s op t site o p a b w x is same first word second made =
    let f : ℤ → Outcome → Outcome =
    λ v r. with_word r (λ y. made_word site (binary_word op t v y)) in
    made ∙ ap (f x) (second ∙ ap (λ (c : Scope). operand_word c p) (same_scope env e d same))
    ∙ ap (λ (r : Outcome). with_word r (λ v. f v (operand_word (scope_of env d) p)))
    (sym word ∙ first) ∙ ap (source_word (scope_of env d)) (sym is)

pub two_fails : (scope : Scope) (s : Source) (op : BinOp) (t : Ty) (site : ℕ) (o p : Operand)
    (a w : Outcome) (stop : Stop) → s ≡ Two op t site o p
    → a ≡ operand_word scope o → a ≡ Err stop → w ≡ Err stop → w ≡ source_word scope s
two_fails scope s op t site o p a w stop is first fault made =
    made ∙ ap (λ (r : Outcome). with_word r (λ x. with_word (operand_word scope p)
    (λ y. made_word site (binary_word op t x y)))) (sym fault ∙ first)
    ∙ ap (source_word scope) (sym is)

pub ruleset read_rules = (one_read, two_read, two_fails)

-- a loop's step, its end at a fault, and its end
module _ (code : List Instr) (at : ℕ) (room : ℕ) (scope : Scope) (stack : List ℤ) (all : Left) where
  pub goes_on : (e : Instr) (more : List ℤ) → at < length code → deed (get_or code at e) room scope stack ≡ Ok more
      → run (drop at code) room scope stack ≡ all → run (drop (at + 1) code) room scope more ≡ all
  goes_on e more h d p = sym (run_more code at e room scope stack h ∙ ap (λ (l : Left). onward l (run (drop (at + 1) code) room scope)) d) ∙ p

  pub stops : (e : Instr) (stop : Stop) → at < length code → deed (get_or code at e) room scope stack ≡ Err stop
      → run (drop at code) room scope stack ≡ all → all ≡ Err stop
  stops e stop h d p = sym p ∙ run_more code at e room scope stack h ∙ ap (λ (l : Left). onward l (run (drop (at + 1) code) room scope)) d

  pub ends : length code ≤ at → run (drop at code) room scope stack ≡ all → all ≡ Ok stack
  ends h p = sym p ∙ ap (λ (c : List Instr). run c room scope stack) (drop_all at code h)

-- ---- what is done to a stack of a top above the first words

pub start_push : (i : Instr) (room : ℕ) (scope : Scope) (s : Source) (w : Outcome) → i ≡ Push s → 0 < room → w ≡ source_word scope s → deed i room scope [] ≡ pushed [] w
start_push i room scope s w is h e = push_does i room scope [] s is h ∙ ap (pushed []) (sym e)

pub ruleset start_rules = (start_push, push_lacks, unary_lacks, binary_lacks_two, with_lacks, choice_lacks)

module _ (i : Instr) (scope : Scope) (words : List ℤ) (first : ℤ) (below : ℕ) where
  pub push_did : (s : Source) (word : ℤ) (w : Outcome) → i ≡ Push s → below + 1 < length words → word ≡ first → w ≡ source_word scope s
      → deed i (length words) scope (first ∷ stack_of words below) ≡ pushed (stack_of (set words below word) (below + 1)) w
  push_did s word w is h same e =
      let low : below ≤ length words = omega arith in
      push_does i (length words) scope (first ∷ stack_of words below) s is (omega (arith, high words below low))
      ∙ ap (pushed (first ∷ stack_of words below)) (sym e) ∙ ap (λ (x : List ℤ). pushed x w) (sym (written words below first (omega arith)) ∙ ap (λ (x : ℤ). stack_of (set words below x) (below + 1)) (sym same))

  pub push_full : (s : Source) → i ≡ Push s → below < length words → length words - below < 2 → deed i (length words) scope (first ∷ stack_of words below) ≡ Err stuck
  push_full s is low h =
      let under : below ≤ length words = omega arith in
      push_lacks i (length words) scope (first ∷ stack_of words below) s is (omega (arith, high words below under))

  pub unary_did : (op : UnOp) (site : ℕ) (w : Outcome) → i ≡ Unary op site → w ≡ made_word site (unary_word op first)
      → deed i (length words) scope (first ∷ stack_of words below) ≡ pushed (stack_of words below) w
  unary_did op site w is e =
      unary_does i (length words) scope (first ∷ stack_of words below) op site first (stack_of words below) is refl ∙ ap (pushed (stack_of words below)) (sym e)

  pub binary_did : (op : BinOp) (t : Ty) (site : ℕ) (a : ℤ) (w : Outcome) → i ≡ Binary op t site → stack_of words below ≡ a ∷ stack_of words (below - 1)
      → w ≡ made_word site (binary_word op t a first) → deed i (length words) scope (first ∷ stack_of words below) ≡ pushed (stack_of words (below - 1)) w
  binary_did op t site a w is s e =
      binary_does i (length words) scope (first ∷ stack_of words below) op t site a first (stack_of words (below - 1)) is (ap (λ (x : List ℤ). first ∷ x) s)
      ∙ ap (pushed (stack_of words (below - 1))) (sym e)

  pub binary_one : (op : BinOp) (t : Ty) (site : ℕ) → i ≡ Binary op t site → below ≡ 0 → deed i (length words) scope (first ∷ stack_of words below) ≡ Err stuck
  binary_one op t site is e = binary_lacks_one i (length words) scope (first ∷ stack_of words below) op t site first is (ap (λ (n : ℕ). first ∷ stack_of words n) e)

  pub with_did : (op : BinOp) (t : Ty) (site : ℕ) (o : Operand) (b w : Outcome) → i ≡ With op t site o → b ≡ operand_word scope o
      → w ≡ with_word b (λ x. made_word site (binary_word op t first x)) → deed i (length words) scope (first ∷ stack_of words below) ≡ pushed (stack_of words below) w
  with_did op t site o b w is r e =
      with_does i (length words) scope (first ∷ stack_of words below) op t site o first (stack_of words below) is refl
      ∙ ap (λ (x : Outcome). pushed (stack_of words below) (with_word x (λ y. made_word site (binary_word op t first y)))) (sym r) ∙ ap (pushed (stack_of words below)) (sym e)

  pub choice_did : (a b code : List Instr) (between : List ℤ) (w : Outcome) → i ≡ Choice a b → below ≤ length words → code ≡ choose_word first a b
      → w ≡ outcome code (length words - below) scope → stack_of between below ≡ stack_of words below
      → deed i (length words) scope (first ∷ stack_of words below) ≡ pushed (stack_of between below) w
  choice_did a b code between w is low e o kept =
      choice_does i (length words) scope (first ∷ stack_of words below) a b first (stack_of words below) is refl
      ∙ ap (λ (n : ℕ). pushed (stack_of words below) (outcome (choose_word first a b) (length words - n) scope)) (high words below low)
      ∙ ap (λ (c : List Instr). pushed (stack_of words below) (outcome c (length words - below) scope)) (sym e)
      ∙ ap (pushed (stack_of words below)) (sym o) ∙ ap (λ (x : List ℤ). pushed x w) (sym kept)

pub ruleset step_rules = (push_did, push_full, unary_did, binary_did, binary_one, with_did, choice_did)

-- the words below a part that was changed
pub below_kept : (base : ℕ) (words part : List ℤ) → base ≤ length words → stack_of (take base words ++ part) base ≡ stack_of words base
below_kept base words part h = ap reverse (take-append-le base (take base words) part (omega (arith, length-take-le base words h)) ∙ take-take base base words (omega arith))

pub ruleset above_rules = (below_kept)

-- ---- what a run answers

-- no code, and code whose first instruction stops or leaves a word
pub run_none : (code : List Instr) (room : ℕ) (scope : Scope) → code ≡ [] → outcome code room scope ≡ Err stuck
run_none code room scope e = rw e refl

module _ (code rest : List Instr) (first : Instr) (room : ℕ) (scope : Scope) (w : Outcome) where
  pub run_begins : (word : ℤ) → code ≡ first ∷ rest → deed first room scope [] ≡ pushed [] w → w ≡ Ok word
      → run (drop 0 rest) room scope (word ∷ []) ≡ run code room scope []
  run_begins word e d o = sym (ap (λ (c : List Instr). run c room scope []) e ∙ ap (λ (l : Left). onward l (run rest room scope)) (d ∙ ap (pushed []) o))

  pub run_fails : (stop : Stop) → code ≡ first ∷ rest → deed first room scope [] ≡ pushed [] w → w ≡ Err stop → outcome code room scope ≡ Err stop
  run_fails stop e d o = ap top (ap (λ (c : List Instr). run c room scope []) e ∙ ap (λ (l : Left). onward l (run rest room scope)) (d ∙ ap (pushed []) o))

module _ (code rest : List Instr) (at room : ℕ) (env : Env) (d d0 : Drawer) (stack : List ℤ) where
  module _ (e : Instr) (under : List ℤ) (w : Outcome) where
    did_so : d.seed ≡ d0.seed → deed (get_or rest at e) room (scope_of env d) stack ≡ pushed under w → deed (get_or rest at e) room (scope_of env d0) stack ≡ pushed under w
    did_so s did = ap (λ (x : Scope). deed (get_or rest at e) room x stack) (sym (same_scope env d d0 s)) ∙ did

    pub run_goes_on : (word : ℤ) → at < length rest → d.seed ≡ d0.seed → deed (get_or rest at e) room (scope_of env d) stack ≡ pushed under w → w ≡ Ok word
        → run (drop at rest) room (scope_of env d0) stack ≡ run code room (scope_of env d0) []
        → run (drop (at + 1) rest) room (scope_of env d0) (word ∷ under) ≡ run code room (scope_of env d0) []
    run_goes_on word h s did o p = goes_on rest at room (scope_of env d0) stack _ e (word ∷ under) h (did_so s did ∙ ap (pushed under) o) p

    pub run_stops : (stop : Stop) → at < length rest → d.seed ≡ d0.seed → deed (get_or rest at e) room (scope_of env d) stack ≡ pushed under w → w ≡ Err stop
        → run (drop at rest) room (scope_of env d0) stack ≡ run code room (scope_of env d0) [] → outcome code room (scope_of env d0) ≡ Err stop
    run_stops stop h s did o p = ap top (stops rest at room (scope_of env d0) stack _ e stop h (did_so s did ∙ ap (pushed under) o) p)

  pub run_ends : (word : ℤ) (under : List ℤ) → length rest ≤ at → run (drop at rest) room (scope_of env d0) stack ≡ run code room (scope_of env d0) []
      → stack ≡ word ∷ under → outcome code room (scope_of env d0) ≡ Ok word
  run_ends word under h p s = ap top (ends rest at room (scope_of env d0) stack _ h p) ∙ ap (λ (x : List ℤ). top (let l : Left = Ok x in l)) s

pub ruleset run_rules = (run_none, run_begins, run_fails, run_goes_on, run_stops, run_ends)
