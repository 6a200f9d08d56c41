-- What is summed of the queries that a part asks of agents in rows.
use Rattle.std.proofs.Common.{◌≡◌, ◌∙◌, sym, ap, subst, ℕ, List, [], ◌++◌, length, get_or, Bool, true, false, if◌then◌else◌, Some, slice_get, arith}
use Rattle.std.specs.List.{range_with_len}
use Rattle.std.specs.List.Sorted.{IsPermutation}
use Rattle.std.proofs.lemmas.List.{length-map}
use Rattle.std.proofs.lemmas.List.Sorted.{IsPermutation-keeps, IsPermutation-sym, IsPermutation-trans}
use Rattle.brace_num.proofs.Orders.{by_key_keeps}
use Rattle.brace_model.specs.declared.program.Program.{Program}
use Rattle.brace_model.specs.declared.fault.Fault.{Fault}
use Rattle.brace_model.specs.declared.world.Agent.{Agent}
use Rattle.brace_model.specs.Query.{Saying, query_of}
use Rattle.brace_eval.specs.Heard.{said_by, faults_by}
use Rattle.brace_fold.specs.declared.arranged.Arranged.{Arranged}
use Rattle.brace_fold.specs.declared.table.Table.{Table}
use Rattle.brace_fold.specs.Arranged.{AreArranged, in_places}
use Rattle.brace_fold.specs.Asked.{by_row, no_agent}
use Rattle.brace_fold.specs.Rows.{by_id}
use Rattle.brace_fold.specs.Sums.{AreSummed}
use Rattle.brace_fold.proofs.ArrangedLemmas.{in-order}
use Rattle.brace_fold.proofs.MoveLemmas.{rows-all}
use Rattle.brace_fold.proofs.Alikes.{alike-append, alike-permuted, alike-refl, summed-alike}
use Rattle.brace_invert.specs.Split.{forward_program, inverse_program}
use Rattle.brace_pieces.specs.declared.setting.Setting.{Setting}
use Rattle.brace_herd.specs.inner.Asked.{HaveEffectsOf}
use Rattle.brace_herd.specs.Said.{said_over, faults_over}
use Rattle.brace_herd.proofs.AskedLemmas.{flat_map_moved}

-- sums of one program are those of another with the same effects
pub summed_too : (m p : Program) → HaveEffectsOf m p
    → (agents : List Agent) (said : List Saying) (table : Table)
    → AreSummed p agents said table → AreSummed m agents said table
summed_too m p same agents said table is = record {
  long = is.long;
  sums = λ row effect a e got has. is.sums row effect a e got
      (subst (λ effects. slice_get effects effect ≡ Some e) (sym (same a)) has);
}

-- what is joined by a program is joined by another with the same effects
pub says_too : (m p : Program) → HaveEffectsOf m p → (rows : List Agent) (said more : List Saying)
    (before after : Table)
    → (AreSummed p rows said before → AreSummed p rows (said ++ more) after)
    → AreSummed m rows said before → AreSummed m rows (said ++ more) after
says_too m p same rows said more before after adds is =
    summed_too m p same rows (said ++ more) after
    (adds (summed_too p m (λ a. sym (same a)) rows said before is))

-- ---- in another order

-- where all rows ask, all agents of the world do
pub all_rows_ask : (m : Program) (agents : List Agent) (arranged : Arranged) (places : List ℕ)
    → AreArranged m agents arranged → places ≡ range_with_len 0 (length arranged.order.items)
    → IsPermutation (by_row (in_places agents arranged) places) (by_id agents)
all_rows_ask m agents arranged places so is =
    let rows = in_places agents arranged in
    let reads = λ (row : ℕ). get_or agents row no_agent in
    let every : by_row rows places ≡ rows =
    ap (by_row rows) (is ∙ ap (range_with_len 0)
    (sym (length-map arranged.order.items reads))) ∙ rows-all rows in
    subst (λ l. IsPermutation l (by_id agents)) (sym every)
    (IsPermutation-trans rows agents (by_id agents)
    (IsPermutation-sym _ _ (in-order m agents arranged so))
    (by_key_keeps (λ (a : Agent). a.id) agents))

pub nothing_moved : {A : Type 0} (xs ys : List A) → IsPermutation xs ys → xs ≡ [] → ys ≡ []
nothing_moved {A = A} xs ys moved none =
    IsPermutation-keeps xs (λ (l : List A). l ≡ []) none
    (λ l i j p q h. absurd (let short = ap length h in omega (arith, short, p))) ys moved

module _ (p : Program) (seed tick : ℕ) (world xs ys : List Agent)
    (moved : IsPermutation xs ys) where
  pub said_moved : (m : Program) (rows : List Agent) (said : List Saying) (table : Table)
      → AreSummed m rows (said ++ said_by p seed tick world xs) table
      → AreSummed m rows (said ++ said_by p seed tick world ys) table
  said_moved m rows said table =
      summed-alike m rows _ _ table (alike-append said said _ _ (alike-refl said)
      (alike-permuted (λ a. (query_of p seed tick world a).said) xs ys moved))

  pub quiet_moved : faults_by p seed tick world xs ≡ [] → faults_by p seed tick world ys ≡ []
  quiet_moved none =
      nothing_moved _ _
      (flat_map_moved (λ a. (query_of p seed tick world a).faults) xs ys moved) none

-- ---- by the script, or by both programs of its inversion

module _ (s : Setting) (tick : ℕ) (own held : List Agent) where
  abbrev m : Program
  m = s.job.program

  abbrev Said : Bool → Program → Program → Program → List Saying
  Said b f g h =
      if b then (said_by f s.job.seed tick held own ++ said_by g s.job.seed tick held held)
      else said_by h s.job.seed tick held own

  abbrev Found : Bool → Program → Program → Program → List Fault
  Found b f g h =
      if b then (faults_by f s.job.seed tick held own ++ faults_by g s.job.seed tick held held)
      else faults_by h s.job.seed tick held own

  pub said_script : (p : Program) → s.invert ≡ false → p ≡ m
      → said_by p s.job.seed tick held own ≡ said_over s tick own held
  said_script p plain is =
      ap (λ x. said_by x s.job.seed tick held own) is
      ∙ sym (ap (λ b. Said b (forward_program m) (inverse_program m) m) plain)

  pub quiet_script : (p : Program) → s.invert ≡ false → p ≡ m
      → faults_by p s.job.seed tick held own ≡ [] → faults_over s tick own held ≡ []
  quiet_script p plain is none =
      ap (λ b. Found b (forward_program m) (inverse_program m) m) plain
      ∙ ap (λ x. faults_by x s.job.seed tick held own) (sym is) ∙ none

  pub said_both : (p q : Program) → s.invert ≡ true → p ≡ forward_program m → q ≡ inverse_program m
      → said_by p s.job.seed tick held own ++ said_by q s.job.seed tick held held ≡ said_over s tick
      own held
  said_both p q inverts forward inverse =
      ap (λ x. Said true x q m) forward ∙ ap (λ x. Said true (forward_program m) x m) inverse
      ∙ sym (ap (λ b. Said b (forward_program m) (inverse_program m) m) inverts)

  pub quiet_both : (p q : Program) → s.invert ≡ true → p ≡ forward_program m → q ≡ inverse_program m
      → faults_by p s.job.seed tick held own ≡ [] → faults_by q s.job.seed tick held held ≡ []
      → faults_over s tick own held ≡ []
  quiet_both p q inverts forward inverse none nor =
      ap (λ b. Found b (forward_program m) (inverse_program m) m) inverts
      ∙ ap (λ x. Found true x (inverse_program m) m) (sym forward)
      ∙ ap (λ x. Found true p x m) (sym inverse)
      ∙ ap (λ l. l ++ faults_by q s.job.seed tick held held) none ∙ nor
