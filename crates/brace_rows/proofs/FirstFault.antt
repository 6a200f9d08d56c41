-- The first faulty record of a file, found by reading the records in turn.
use Rattle.std.proofs.Common.{◌≡◌, ◌≤◌, ◌<◌, ◌+◌, ◌-◌, ◌∙◌, ℕ, suc, Result, Err, List, [], ◌∷◌, ◌++◌, length, take, Option, Some, None, sym, refl, ap, ap₂, subst, arith, append-nil, append_assoc, length-append, get_or}
use Rattle.std.specs.Prelude.{slice_get, option_map}
use Rattle.std.proofs.Math.Seq.{take-append_seam, get_or-append_seam}
use Rattle.std.proofs.Common.{⊎_elim}
use Rattle.std.proofs.lemmas.Bool.{cases_lt}
use Rattle.std.proofs.lemmas.List.Elements.{filter_map-append}
use Rattle.brace_num.proofs.FirstGiven.{none_given, first_given}
use Rattle.brace_model.specs.declared.program.Program.{Program}
use Rattle.brace_model.specs.declared.world.Agent.{Agent}
use Rattle.brace_rows.specs.declared.kinds.RowKind.{RowKind}
use Rattle.brace_rows.specs.declared.kinds.RowFault.{RowFault}
use Rattle.brace_rows.specs.declared.kinds.RowFault.TheVariants.{Bad}
use Rattle.brace_rows.specs.AgentFile.{Fields, agent_of, agents_in, fault_behind, fault_at, first_fault}

-- the records before number n are read and have no fault: their agents, and the records that follow
pub record ReadTo (program : Program) (rows rest : List Fields) (agents : List Agent) (n : ℕ) : Type 0 where
  pub before : List Fields
  pub parts : rows ≡ before ++ rest
  pub place : n ≡ length before + 1
  pub gives : agents ≡ agents_in program before
  pub faultless : (k : ℕ) → 1 ≤ k → k < n → fault_at program rows k ≡ None

pub read_none : (program : Program) (rows : List Fields) → ReadTo program rows rows [] 1
read_none program rows = record { before = []; parts = refl; place = refl; gives = refl; faultless = λ k from below. absurd (omega (arith, from, below)) }

-- the fault of the record that is next
fault_here : (program : Program) (rows rest : List Fields) (fields : Fields) (agents : List Agent) (n : ℕ) → ReadTo program rows (fields ∷ rest) agents n
    → fault_at program rows n ≡ fault_behind agents (agent_of program fields)
fault_here program rows rest fields agents n r =
    let last : n - 1 ≡ length r.before = omega (arith, r.place) in
    let front : take (n - 1) rows ≡ r.before = ap₂ take last r.parts ∙ take-append_seam r.before (fields ∷ rest) in
    let here : get_or rows (n - 1) [] ≡ fields = ap₂ (λ (l : List Fields) (i : ℕ). get_or l i []) r.parts last ∙ get_or-append_seam r.before fields rest [] in
    ap₂ (λ (l : List Fields) (f : Fields). fault_behind (agents_in program l) (agent_of program f)) front here
    ∙ ap (λ l. fault_behind l (agent_of program fields)) (sym r.gives)

-- the next record has no fault
pub read_more : (program : Program) (rows rest : List Fields) (fields : Fields) (agents after : List Agent) (n : ℕ) → ReadTo program rows (fields ∷ rest) agents n
    → None ≡ fault_behind agents (agent_of program fields) → after ≡ agents ++ agents_in program (fields ∷ []) → ReadTo program rows rest after (n + 1)
read_more program rows rest fields agents after n r none more = record {
  before = r.before ++ fields ∷ [];
  parts = r.parts ∙ sym (append_assoc r.before (fields ∷ []) rest);
  place = omega (arith, r.place, length-append r.before (fields ∷ []));
  gives = more ∙ ap (λ l. l ++ agents_in program (fields ∷ [])) r.gives ∙ sym (filter_map-append _ r.before (fields ∷ []));
  faultless = λ k from below. ⊎_elim
      (λ lt. r.faultless k from lt)
      (λ ge. let same : n ≡ k = omega (arith, ge, below) in subst (λ i. fault_at program rows i ≡ None) same (fault_here program rows rest fields agents n r ∙ sym none))
      (cases_lt k n);
}

-- the next record has a fault
pub read_fault : (program : Program) (rows rest : List Fields) (fields : Fields) (agents : List Agent) (n : ℕ) (kind : RowKind) → ReadTo program rows (fields ∷ rest) agents n
    → Some kind ≡ fault_behind agents (agent_of program fields) → first_fault program rows ≡ Some (n, kind)
read_fault program rows rest fields agents n kind r some =
    let long : length rows ≡ length r.before + suc (length rest) = ap length r.parts ∙ length-append r.before (fields ∷ rest) in
    first_given (λ i. option_map (λ k. (i, k)) (fault_at program rows i)) (length rows) (length r.before) 1 n (n, kind)
    (omega (arith, r.place)) (omega (arith, long))
    (λ k from below. ap (option_map (λ q. (k, q))) (r.faultless k from below))
    (ap (option_map (λ q. (n, q))) (fault_here program rows rest fields agents n r ∙ sym some))

-- no record is left
pub read_all : (program : Program) (rows : List Fields) (agents : List Agent) (n : ℕ) → ReadTo program rows [] agents n
    → (agents ≡ agents_in program rows) × (first_fault program rows ≡ None)
read_all program rows agents n r =
    let whole : rows ≡ r.before = r.parts ∙ append-nil r.before in
    let long = ap length whole in (
      r.gives ∙ ap (agents_in program) (sym whole),
      ap (λ l. slice_get l 0) (none_given (λ i. option_map (λ k. (i, k)) (fault_at program rows i)) (length rows) 1
          (λ k from below. ap (option_map (λ q. (k, q))) (r.faultless k from (omega (arith, below, r.place, long))))),
    )

-- two answers that are one name one record and one kind
pub same_fault : {W : Type 0} (n m : ℕ) (k j : RowKind) → ◌≡◌ {A = Result W RowFault} (Err (Bad n k)) (Err (Bad m j)) → ◌≡◌ {A = Option (ℕ × RowKind)} (Some (n, k)) (Some (m, j))
same_fault n m k j e =
    let number : n ≡ m = cc in
    let kind : k ≡ j = cc in
    ap₂ (λ (a : ℕ) (b : RowKind). Some (a, b)) number kind
