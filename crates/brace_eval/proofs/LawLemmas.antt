-- A step from a numbered world leads to a numbered world.
use Rattle.std.proofs.Common.{◌≡◌, ◌∙◌, sym, refl, ap, subst, ℕ, zero, suc, ◌+◌, ◌<◌, ◌≤◌, ◌^◌, List, [], ◌∷◌, ◌++◌, length, get_or, filter_map, Option, Some, None, Result, Ok, Err, Bool, true, false, arith, leb-false}
use Rattle.std.specs.Prelude.{leb, ◌||◌, take, slice_get, option_map}
use Rattle.std.specs.Option.{option_and_then}
use Rattle.std.specs.Result.{result_ok, result_err}
use Rattle.std.specs.List.{range_with_len, find}
use Rattle.std.proofs.lemmas.Option.{slice_get-get_or, same_Some}
use Rattle.brace_model.specs.declared.program.Program.{Program}
use Rattle.brace_model.specs.declared.fault.Fault.{Fault}
use Rattle.brace_model.specs.declared.world.Agent.{Agent}
use Rattle.brace_model.specs.World.{World, IsNumbered}
use Rattle.brace_model.specs.FaultOrder.{least}
use Rattle.brace_model.specs.Query.{query_faults}
use Rattle.brace_model.specs.Step.{step, all_next, living, children, goes_too_far, first_too_far, birth_fault, grown, unless_faulty, most_agents, most_values, greatest_id, count_values}
use Rattle.brace_eval.proofs.NumberLemmas.{numbered_grown}

abbrev pub stepped : World → Result World Fault
stepped w = Ok w

abbrev failed : Fault → Result World Fault
failed f = Err f

not-both : (f : Fault) (w : World) → failed f ≡ stepped w → ⊥
not-both f w e = cc

same-world : (v w : World) → stepped v ≡ stepped w → v ≡ w
same-world v w e = cc

-- a step that has no fault has no birth that goes too far
pub stepped-ok : (q u b : Option Fault) (w next : World) → unless_faulty q u b w ≡ stepped next → (b ≡ None) × (w ≡ next)
stepped-ok (Some f) u b w next is = absurd (not-both f next is)
stepped-ok None (Some f) b w next is = absurd (not-both f next is)
stepped-ok None None (Some f) w next is = absurd (not-both f next is)
stepped-ok None None None w next is = (refl, same-world w next is)

some-none : {A : Type 0} (a : A) → Some a ≡ None → ⊥
some-none a e = cc

pub unmapped : (f : Agent → Fault) (o : Option Agent) → option_map f o ≡ None → o ≡ None
unmapped f None e = refl
unmapped f (Some a) e = absurd (some-none (f a) e)

-- a number that is found is one of those looked through
found-within : (p : ℕ → Bool) (a n i : ℕ) → find p (range_with_len a n) ≡ Some i → i < a + n
found-within p a zero i is = absurd (some-none i (sym is))
found-within p a (suc n) i is = by_first (p a) refl (found-within p (a + 1) n i)
  where
    by_first : (b : Bool) → p a ≡ b → (find p (range_with_len (a + 1) n) ≡ Some i → i < a + 1 + n) → i < a + suc n
    by_first true here rest = let same = same_Some a i (rw here at is) in omega (arith, same)
    by_first false here rest = let less = rest (rw here at is) in omega (arith, less)

none-passes : (p : ℕ → Bool) (a n : ℕ) → find p (range_with_len a n) ≡ None → (i : ℕ) → i < n → p (a + i) ≡ false
none-passes p a zero none i le = absurd (omega (arith, le))
none-passes p a (suc n) none i le = by_first (p a) refl i le (λ q. none-passes p (a + 1) n q)
  where
    by_first : (b : Bool) → p a ≡ b → (i : ℕ) → i < suc n
        → (find p (range_with_len (a + 1) n) ≡ None → (j : ℕ) → j < n → p (a + 1 + j) ≡ false) → p (a + i) ≡ false
    by_first true here i le rest = absurd (some-none a (rw here at none))
    by_first false here zero le rest = let same : a + 0 ≡ a = omega arith in ap p same ∙ here
    by_first false here (suc i) le rest =
        let same : a + suc i ≡ a + 1 + i = omega arith in
        ap p same ∙ rest (rw here at none) i (omega (arith, le))

none-true : (a b c : Bool) → (a || (b || c)) ≡ false → (a ≡ false) × (b ≡ false) × (c ≡ false)
none-true true b c e = absurd (cc)
none-true false true c e = absurd (cc)
none-true false false c e = (refl, refl, e)

module _ (ls : List Agent) (next : ℕ) where
  none-found : (bs : List Agent) (o : Option ℕ) → find (goes_too_far ls next bs) (range_with_len 0 (length bs)) ≡ o
      → option_and_then (slice_get bs) o ≡ None → o ≡ None
  none-found bs None is far = refl
  none-found bs (Some i) is far =
      let d : Agent = record { class = 0; id = 0; states = [] } in
      let within = found-within (goes_too_far ls next bs) 0 (length bs) i is in
      absurd (some-none (get_or bs i d) (sym (slice_get-get_or bs i d (omega (arith, within))) ∙ far))

  -- a birth that does not go too far keeps to each limit
  pub keeps-limits : (bs : List Agent) (r : ℕ) → goes_too_far ls next bs r ≡ false
      → (length (ls ++ take (suc r) bs) < suc most_agents) × (count_values (ls ++ take (suc r) bs) < suc most_values) × (next + r < suc greatest_id)
  keeps-limits bs r e =
      let agents : ℕ = length (ls ++ take (suc r) bs) in
      let values : ℕ = count_values (ls ++ take (suc r) bs) in
      let (few, small, low) = none-true (leb (suc most_agents) agents) (leb (suc most_values) values) (leb (suc greatest_id) (next + r)) e in
      (leb-false (suc most_agents) agents few, leb-false (suc most_values) values small, leb-false (suc greatest_id) (next + r) low)

  -- where no birth goes too far, the last one does not
  pub last-fits : (b : Agent) (bs : List Agent) → first_too_far ls next (b ∷ bs) ≡ None → goes_too_far ls next (b ∷ bs) (length bs) ≡ false
  last-fits b bs far =
      let all : List Agent = b ∷ bs in
      let same : length bs ≡ 0 + length bs = omega arith in
      ap (goes_too_far ls next all) same ∙ none-passes (goes_too_far ls next all) 0 (length all) (none-found all _ refl far) (length bs) (omega arith)

  -- where no birth goes too far, the ids suffice
  ids-fit : (bs : List Agent) → next ≤ 2 ^ 63 → first_too_far ls next bs ≡ None → next + length bs ≤ 2 ^ 63
  ids-fit [] low far = omega (arith, low)
  ids-fit (b ∷ bs) low far =
      let (few, small, low) = keeps-limits (b ∷ bs) (length bs) (last-fits b bs far) in
      omega (arith, low)

pub steps-numbered : (program : Program) (seed tick : ℕ) (world next : World) → IsNumbered world
    → step program seed tick world ≡ stepped next → IsNumbered next
steps-numbered program seed tick world next w is =
    let left = filter_map result_ok (all_next program seed tick world.agents) in
    let far = first_too_far (living left) world.next (children left) in
    let (none, same) = stepped-ok (least (query_faults program seed tick world.agents)) (least (filter_map result_err (all_next program seed tick world.agents)))
    (option_map (birth_fault program tick) far) (grown world.next (living left) (children left)) next is in
    let fits = ids-fit (living left) world.next (children left) w.in_range (unmapped (birth_fault program tick) far none) in
    subst IsNumbered same (numbered_grown program seed tick world (living left) (children left) w refl fits)
