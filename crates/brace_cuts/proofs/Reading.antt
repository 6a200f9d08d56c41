-- One step of reading a plan: the next of some texts, seen through what a function gives of them.
use Rattle.std.proofs.Common.{◌≡◌, ◌∙◌, ℕ, suc, ◌+◌, ◌<◌, ◌≤◌, List, [], ◌∷◌, ◌++◌, length, get_or, drop, sym, ap, subst, arith, Option, Some, None}
use Rattle.std.specs.Prelude.{map, ◌==◌}
use Rattle.std.specs.List.{cons_option}
use Rattle.std.proofs.Math.Seq.{drop-cons}
use Rattle.std.proofs.lemmas.List.{drop-map, drop_all, length-map}
use Rattle.std.proofs.lemmas.List.Splits.{length-slice_split}
use Rattle.brace_cuts.specs.declared.plan.CutLine.{CutLine}
use Rattle.brace_cuts.specs.declared.kinds.PlanKind.{PlanKind}
use Rattle.brace_cuts.specs.CutPlans.{line_of, lines_of, without_last_end, lines_in, fault_behind, first_fault}
use Rattle.brace_cuts.proofs.FirstFault.{ReadTo, read_more, read_fault, read_all}
use Rattle.brace_cuts.proofs.PlanLemmas.{PlanSoFar, more_so_far}

next_text : {X : Type 0} (f : X → List ℕ) (texts : List X) (i : ℕ) (d : X) → i < length texts → drop i (map f texts) ≡ f (get_or texts i d) ∷ drop (i + 1) (map f texts)
next_text f texts i d below =
    let e : suc i ≡ i + 1 = omega arith in
    drop-map f i texts ∙ ap (map f) (drop-cons texts i d below)
    ∙ ap (λ l. f (get_or texts i d) ∷ l) (sym (drop-map f (suc i) texts) ∙ ap (λ n. drop n (map f texts)) e)

-- the next text is a line without a fault
pub good_line : {X : Type 0} (f : X → List ℕ) (epoch : ℕ) (texts : List X) (i : ℕ) (d : X) (lines : List CutLine) (o : Option CutLine) (line : CutLine) → i < length texts
    → ReadTo epoch (map f texts) (drop i (map f texts)) lines (i + 1) → PlanSoFar epoch lines → o ≡ line_of (f (get_or texts i d)) → o ≡ Some line → fault_behind epoch lines o ≡ None
    → ReadTo epoch (map f texts) (drop (i + 1) (map f texts)) (lines ++ line ∷ []) (i + 1 + 1) × PlanSoFar epoch (lines ++ line ∷ [])
good_line f epoch texts i d lines o line below read lawful form some none =
    let text = f (get_or texts i d) in
    let r = subst (λ l. ReadTo epoch (map f texts) l lines (i + 1)) (next_text f texts i d below) read in
    let good : line_of text ≡ Some line = sym form ∙ some in (
      read_more epoch (map f texts) (drop (i + 1) (map f texts)) text lines (lines ++ line ∷ []) (i + 1) r (sym none ∙ ap (fault_behind epoch lines) form) (ap (λ p. lines ++ cons_option p []) (sym good)),
      more_so_far epoch lines line text good (ap (fault_behind epoch lines) (sym some) ∙ none) lawful,
    )

-- the next text has a fault
pub bad_line : {X : Type 0} (f : X → List ℕ) (epoch : ℕ) (texts : List X) (i : ℕ) (d : X) (lines : List CutLine) (o : Option CutLine) (kind : PlanKind) → i < length texts
    → ReadTo epoch (map f texts) (drop i (map f texts)) lines (i + 1) → o ≡ line_of (f (get_or texts i d)) → fault_behind epoch lines o ≡ Some kind
    → first_fault epoch (map f texts) ≡ Some (i + 1, kind)
bad_line f epoch texts i d lines o kind below read form some =
    let text = f (get_or texts i d) in
    let r = subst (λ l. ReadTo epoch (map f texts) l lines (i + 1)) (next_text f texts i d below) read in
    read_fault epoch (map f texts) (drop (i + 1) (map f texts)) text lines (i + 1) kind r (sym some ∙ ap (fault_behind epoch lines) form)

-- no text is left
pub no_line : {X : Type 0} (f : X → List ℕ) (epoch : ℕ) (texts : List X) (i : ℕ) (lines : List CutLine) → length texts ≤ i
    → ReadTo epoch (map f texts) (drop i (map f texts)) lines (i + 1) → (lines ≡ lines_in (map f texts)) × (first_fault epoch (map f texts) ≡ None)
no_line f epoch texts i lines over read =
    let long = length-map texts f in
    read_all epoch (map f texts) lines (i + 1) (subst (λ l. ReadTo epoch (map f texts) l lines (i + 1)) (drop_all i (map f texts) (omega (arith, over, long))) read)

-- a file has a line
pub some_line : {X : Type 0} (f : X → List ℕ) (texts : List X) (bytes : List ℕ) → map f texts ≡ lines_of bytes → 0 < length texts
some_line f texts bytes e =
    let long = length-map texts f in
    let split = length-slice_split (λ b. b == 10) (without_last_end bytes) in
    let same = ap length e in
    omega (arith, long, split, same)
