-- The first faulty line of a plan, found by reading the lines in turn.
use Rattle.std.proofs.Common.{◌≡◌, ◌≤◌, ◌<◌, ◌+◌, ◌-◌, ◌∙◌, ℕ, suc, Result, Err, List, [], ◌∷◌, ◌++◌, length, take, Option, Some, None, sym, refl, ap, ap₂, subst, arith, append-nil, append_assoc, length-append, get_or, ⊎_elim}
use Rattle.std.specs.Prelude.{slice_get, option_map}
use Rattle.std.proofs.Math.Seq.{take-append_seam, get_or-append_seam}
use Rattle.std.proofs.lemmas.Bool.{cases_lt}
use Rattle.std.proofs.lemmas.List.Elements.{filter_map-append}
use Rattle.brace_num.proofs.FirstGiven.{none_given, first_given}
use Rattle.brace_cuts.specs.declared.plan.CutLine.{CutLine}
use Rattle.brace_cuts.specs.declared.kinds.PlanKind.{PlanKind}
use Rattle.brace_cuts.specs.declared.kinds.PlanFault.{PlanFault}
use Rattle.brace_cuts.specs.declared.kinds.PlanFault.TheVariants.{Bad}
use Rattle.brace_cuts.specs.CutPlans.{line_of, lines_in, fault_behind, fault_at, first_fault}

-- the lines before number n are read and have no fault: what they are, and the lines that follow
pub record ReadTo (epoch : ℕ) (texts rest : List (List ℕ)) (lines : List CutLine) (n : ℕ) : Type 0 where
  pub before : List (List ℕ)
  pub parts : texts ≡ before ++ rest
  pub place : n ≡ length before + 1
  pub gives : lines ≡ lines_in before
  pub faultless : (k : ℕ) → 1 ≤ k → k < n → fault_at epoch texts k ≡ None

pub read_none : (epoch : ℕ) (texts : List (List ℕ)) → ReadTo epoch texts texts [] 1
read_none epoch texts = record { before = []; parts = refl; place = refl; gives = refl; faultless = λ k from below. absurd (omega (arith, from, below)) }

-- the fault of the line that is next
fault_here : (epoch : ℕ) (texts rest : List (List ℕ)) (text : List ℕ) (lines : List CutLine) (n : ℕ) → ReadTo epoch texts (text ∷ rest) lines n
    → fault_at epoch texts n ≡ fault_behind epoch lines (line_of text)
fault_here epoch texts rest text lines n r =
    let last : n - 1 ≡ length r.before = omega (arith, r.place) in
    let front : take (n - 1) texts ≡ r.before = ap₂ take last r.parts ∙ take-append_seam r.before (text ∷ rest) in
    let here : get_or texts (n - 1) [] ≡ text = ap₂ (λ (l : List (List ℕ)) (i : ℕ). get_or l i []) r.parts last ∙ get_or-append_seam r.before text rest [] in
    ap₂ (λ (l : List (List ℕ)) (f : List ℕ). fault_behind epoch (lines_in l) (line_of f)) front here
    ∙ ap (λ l. fault_behind epoch l (line_of text)) (sym r.gives)

-- the next line has no fault
pub read_more : (epoch : ℕ) (texts rest : List (List ℕ)) (text : List ℕ) (lines after : List CutLine) (n : ℕ) → ReadTo epoch texts (text ∷ rest) lines n
    → None ≡ fault_behind epoch lines (line_of text) → after ≡ lines ++ lines_in (text ∷ []) → ReadTo epoch texts rest after (n + 1)
read_more epoch texts rest text lines after n r none more = record {
  before = r.before ++ text ∷ [];
  parts = r.parts ∙ sym (append_assoc r.before (text ∷ []) rest);
  place = omega (arith, r.place, length-append r.before (text ∷ []));
  gives = more ∙ ap (λ l. l ++ lines_in (text ∷ [])) r.gives ∙ sym (filter_map-append _ r.before (text ∷ []));
  faultless = λ k from below. ⊎_elim
      (λ lt. r.faultless k from lt)
      (λ ge. let same : n ≡ k = omega (arith, ge, below) in subst (λ i. fault_at epoch texts i ≡ None) same (fault_here epoch texts rest text lines n r ∙ sym none))
      (cases_lt k n);
}

-- the next line has a fault
pub read_fault : (epoch : ℕ) (texts rest : List (List ℕ)) (text : List ℕ) (lines : List CutLine) (n : ℕ) (kind : PlanKind) → ReadTo epoch texts (text ∷ rest) lines n
    → Some kind ≡ fault_behind epoch lines (line_of text) → first_fault epoch texts ≡ Some (n, kind)
read_fault epoch texts rest text lines n kind r some =
    let long : length texts ≡ length r.before + suc (length rest) = ap length r.parts ∙ length-append r.before (text ∷ rest) in
    first_given (λ i. option_map (λ k. (i, k)) (fault_at epoch texts i)) (length texts) (length r.before) 1 n (n, kind)
    (omega (arith, r.place)) (omega (arith, long))
    (λ k from below. ap (option_map (λ q. (k, q))) (r.faultless k from below))
    (ap (option_map (λ q. (n, q))) (fault_here epoch texts rest text lines n r ∙ sym some))

-- no line is left
pub read_all : (epoch : ℕ) (texts : List (List ℕ)) (lines : List CutLine) (n : ℕ) → ReadTo epoch texts [] lines n
    → (lines ≡ lines_in texts) × (first_fault epoch texts ≡ None)
read_all epoch texts lines n r =
    let whole : texts ≡ r.before = r.parts ∙ append-nil r.before in
    let long = ap length whole in (
      r.gives ∙ ap (lines_in) (sym whole),
      ap (λ l. slice_get l 0) (none_given (λ i. option_map (λ k. (i, k)) (fault_at epoch texts i)) (length texts) 1
          (λ k from below. ap (option_map (λ q. (k, q))) (r.faultless k from (omega (arith, below, r.place, long))))),
    )

-- two answers that are one name one line and one kind
pub same_fault : {W : Type 0} (n m : ℕ) (k j : PlanKind) → ◌≡◌ {A = Result W PlanFault} (Err (Bad n k)) (Err (Bad m j)) → ◌≡◌ {A = Option (ℕ × PlanKind)} (Some (n, k)) (Some (m, j))
same_fault n m k j e =
    let number : n ≡ m = cc in
    let kind : k ≡ j = cc in
    ap₂ (λ (a : ℕ) (b : PlanKind). Some (a, b)) number kind
