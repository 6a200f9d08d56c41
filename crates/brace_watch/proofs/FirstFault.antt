-- The first faulty line of a watch file, found by reading the lines in turn.
use Rattle.std.proofs.Common.{◌≡◌, ◌≤◌, ◌<◌, ◌+◌, ◌-◌, ◌∙◌, ℕ, suc, Result, Ok, Err, List, [], ◌∷◌, ◌++◌, length, Option, Some, None, sym, ap, ap₂, subst, arith, append-nil, append_assoc, length-append, get_or, drop, map, ⊎_elim}
use Rattle.std.specs.Prelude.{slice_get, option_map}
use Rattle.std.specs.List.{cons_option}
use Rattle.std.specs.Result.{result_ok}
use Rattle.std.proofs.Math.Seq.{get_or-append_seam, drop-cons}
use Rattle.std.proofs.lemmas.Bool.{cases_lt}
use Rattle.std.proofs.lemmas.List.{drop-map, drop_all, length-map}
use Rattle.std.proofs.lemmas.List.Elements.{filter_map-append}
use Rattle.brace_num.proofs.FirstGiven.{none_given, first_given}
use Rattle.brace_model.specs.declared.program.Program.{Program}
use Rattle.brace_watch.specs.declared.kinds.Watch.{Watch}
use Rattle.brace_watch.specs.declared.kinds.WatchKind.{WatchKind}
use Rattle.brace_watch.specs.declared.kinds.WatchFault.{WatchFault}
use Rattle.brace_watch.specs.declared.kinds.WatchFault.TheVariants.{Bad}
use Rattle.brace_watch.specs.Watches.{watch_of, watches_in, fault_of, fault_at, first_fault}

-- the lines before number n are read and have no fault: their watches, and the lines that follow
pub record ReadTo (program : Program) (texts rest : List (List ℕ)) (watches : List Watch) (n : ℕ) : Type 0 where
  pub before : List (List ℕ)
  pub parts : texts ≡ before ++ rest
  pub place : n ≡ length before + 1
  pub gives : watches ≡ watches_in program before
  pub faultless : (k : ℕ) → 1 ≤ k → k < n → fault_at program texts k ≡ None

-- the fault of the line that is next
fault_here : (program : Program) (texts rest : List (List ℕ)) (text : List ℕ) (watches : List Watch) (n : ℕ) → ReadTo program texts (text ∷ rest) watches n
    → fault_at program texts n ≡ fault_of n (watch_of program text)
fault_here program texts rest text watches n r =
    let last : n - 1 ≡ length r.before = omega (arith, r.place) in
    let here : get_or texts (n - 1) [] ≡ text = ap₂ (λ (l : List (List ℕ)) (i : ℕ). get_or l i []) r.parts last ∙ get_or-append_seam r.before text rest [] in
    ap (λ (f : List ℕ). fault_of n (watch_of program f)) here

-- the next line has no fault
read_more : (program : Program) (texts rest : List (List ℕ)) (text : List ℕ) (watches after : List Watch) (n : ℕ) → ReadTo program texts (text ∷ rest) watches n
    → None ≡ fault_of n (watch_of program text) → after ≡ watches ++ watches_in program (text ∷ []) → ReadTo program texts rest after (n + 1)
read_more program texts rest text watches after n r none more = record {
  before = r.before ++ text ∷ [];
  parts = r.parts ∙ sym (append_assoc r.before (text ∷ []) rest);
  place = omega (arith, r.place, length-append r.before (text ∷ []));
  gives = more ∙ ap (λ l. l ++ watches_in program (text ∷ [])) r.gives ∙ sym (filter_map-append _ r.before (text ∷ []));
  faultless = λ k from below. ⊎_elim
      (λ lt. r.faultless k from lt)
      (λ ge. let same : n ≡ k = omega (arith, ge, below) in subst (λ i. fault_at program texts i ≡ None) same (fault_here program texts rest text watches n r ∙ sym none))
      (cases_lt k n);
}

-- the next line has a fault
read_fault : (program : Program) (texts rest : List (List ℕ)) (text : List ℕ) (watches : List Watch) (n : ℕ) (kind : WatchKind) → ReadTo program texts (text ∷ rest) watches n
    → Some kind ≡ fault_of n (watch_of program text) → first_fault program texts ≡ Some (n, kind)
read_fault program texts rest text watches n kind r some =
    let long : length texts ≡ length r.before + suc (length rest) = ap length r.parts ∙ length-append r.before (text ∷ rest) in
    first_given (λ i. option_map (λ k. (i, k)) (fault_at program texts i)) (length texts) (length r.before) 1 n (n, kind)
    (omega (arith, r.place)) (omega (arith, long))
    (λ k from below. ap (option_map (λ q. (k, q))) (r.faultless k from below))
    (ap (option_map (λ q. (n, q))) (fault_here program texts rest text watches n r ∙ sym some))

-- no line is left
read_all : (program : Program) (texts : List (List ℕ)) (watches : List Watch) (n : ℕ) → ReadTo program texts [] watches n
    → (watches ≡ watches_in program texts) × (first_fault program texts ≡ None)
read_all program texts watches n r =
    let whole : texts ≡ r.before = r.parts ∙ append-nil r.before in
    let long = ap length whole in (
      r.gives ∙ ap (watches_in program) (sym whole),
      ap (λ l. slice_get l 0) (none_given (λ i. option_map (λ k. (i, k)) (fault_at program texts i)) (length texts) 1
          (λ k from below. ap (option_map (λ q. (k, q))) (r.faultless k from (omega (arith, below, r.place, long))))),
    )

-- two answers that are one name one line and one kind
pub same_fault : {W : Type 0} (n m : ℕ) (k j : WatchKind) → ◌≡◌ {A = Result W WatchFault} (Err (Bad n k)) (Err (Bad m j)) → ◌≡◌ {A = Option (ℕ × WatchKind)} (Some (n, k)) (Some (m, j))
same_fault n m k j e =
    let number : n ≡ m = cc in
    let kind : k ≡ j = cc in
    ap₂ (λ (a : ℕ) (b : WatchKind). Some (a, b)) number kind

-- ---- the lines through what a function gives of borrowed ones

module _ {X : Type 0} (f : X → List ℕ) (program : Program) (texts : List X) where
  next_text : (i : ℕ) (d : X) → i < length texts → drop i (map f texts) ≡ f (get_or texts i d) ∷ drop (i + 1) (map f texts)
  next_text i d below =
      let e : suc i ≡ i + 1 = omega arith in
      drop-map f i texts ∙ ap (map f) (drop-cons texts i d below)
      ∙ ap (λ l. f (get_or texts i d) ∷ l) (sym (drop-map f (suc i) texts) ∙ ap (λ n. drop n (map f texts)) e)

  -- the next line asks for a watch
  pub good_line : (i : ℕ) (d : X) (watches : List Watch) (r : Result Watch WatchKind) (watch : Watch) → i < length texts
      → ReadTo program (map f texts) (drop i (map f texts)) watches (i + 1) → r ≡ watch_of program (f (get_or texts i d)) → r ≡ Ok watch → fault_of (i + 1) r ≡ None
      → ReadTo program (map f texts) (drop (i + 1) (map f texts)) (watches ++ watch ∷ []) (i + 1 + 1)
  good_line i d watches r watch below read is ok none =
      let text = f (get_or texts i d) in
      let here = subst (λ l. ReadTo program (map f texts) l watches (i + 1)) (next_text i d below) read in
      let good : watch_of program text ≡ Ok watch = sym is ∙ ok in
      read_more program (map f texts) (drop (i + 1) (map f texts)) text watches (watches ++ watch ∷ []) (i + 1) here (sym none ∙ ap (fault_of (i + 1)) is)
      (ap (λ (o : Result Watch WatchKind). watches ++ cons_option (result_ok o) []) (sym good))

  -- the next line has a fault
  pub bad_line : (i : ℕ) (d : X) (watches : List Watch) (r : Result Watch WatchKind) (kind : WatchKind) → i < length texts
      → ReadTo program (map f texts) (drop i (map f texts)) watches (i + 1) → r ≡ watch_of program (f (get_or texts i d)) → fault_of (i + 1) r ≡ Some kind
      → first_fault program (map f texts) ≡ Some (i + 1, kind)
  bad_line i d watches r kind below read is some =
      let text = f (get_or texts i d) in
      let here = subst (λ l. ReadTo program (map f texts) l watches (i + 1)) (next_text i d below) read in
      read_fault program (map f texts) (drop (i + 1) (map f texts)) text watches (i + 1) kind here (sym some ∙ ap (fault_of (i + 1)) is)

  -- no line is left
  pub no_line : (i : ℕ) (watches : List Watch) → length texts ≤ i
      → ReadTo program (map f texts) (drop i (map f texts)) watches (i + 1) → (watches ≡ watches_in program (map f texts)) × (first_fault program (map f texts) ≡ None)
  no_line i watches over read =
      let long = length-map texts f in
      read_all program (map f texts) watches (i + 1) (subst (λ l. ReadTo program (map f texts) l watches (i + 1)) (drop_all i (map f texts) (omega (arith, over, long))) read)
