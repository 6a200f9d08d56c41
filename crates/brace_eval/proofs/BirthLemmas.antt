-- The first child that goes too far, and the ids of children.
use Rattle.std.proofs.Common.{◌≡◌, ◌∙◌, sym, ap, refl, ℕ, zero, suc, ◌+◌, ◌<◌, ◌≤◌, List, [], ◌∷◌, ◌++◌, length, take, get_or, true, false, Bool, Some, None, arith, min, append_assoc}
use Rattle.std.specs.Prelude.{leb, slice_get, ◌||◌}
use Rattle.std.proofs.Math.Seq.{take-suc}
use Rattle.std.proofs.lemmas.List.{length-append, length-take-le}
use Rattle.std.proofs.lemmas.List.Sums.{sum_by-append}
use Rattle.std.specs.Option.{option_and_then}
use Rattle.std.specs.List.{range_with_len, find}
use Rattle.std.proofs.lemmas.Bool.Decides.{leb_tells}
use Rattle.std.proofs.lemmas.Option.{slice_get-get_or}
use mathlib.Core.Logic.{⊎_elim}
use Rattle.brace_model.specs.declared.world.Agent.{Agent}
use Rattle.brace_model.specs.Step.{goes_too_far, first_too_far, count_values, most_agents, most_values, greatest_id}

-- the first of some numbers at which a test is true
pub found_at : (p : ℕ → Bool) (a n i : ℕ) → i < n → ((r : ℕ) → a ≤ r → r < a + i → p r ≡ false) → p (a + i) ≡ true
    → find p (range_with_len a n) ≡ Some (a + i)
found_at p a zero i le before here = absurd (omega (arith, le))
found_at p a (suc n) zero le before here =
    let same : a + 0 ≡ a = omega arith in
    let yes_here : p a ≡ true = ap p (sym same) ∙ here in
    rw yes_here (ap Some (sym same))
found_at p a (suc n) (suc i) le before here =
    let not_here : p a ≡ false = before a (omega arith) (omega arith) in
    let same : a + 1 + i ≡ a + suc i = omega arith in
    let rest = found_at p (a + 1) n i (omega (arith, le)) (λ r low high. before r (omega (arith, low)) (omega (arith, high))) (ap p same ∙ here) in
    rw not_here (rest ∙ ap Some same)

pub found_none : (p : ℕ → Bool) (a n : ℕ) → ((r : ℕ) → a ≤ r → r < a + n → p r ≡ false) → find p (range_with_len a n) ≡ None
found_none p a zero before = refl
found_none p a (suc n) before =
    let not_here : p a ≡ false = before a (omega arith) (omega arith) in
    rw not_here (found_none p (a + 1) n (λ r low high. before r (omega (arith, low)) (omega (arith, high))))

module _ (living : List Agent) (next : ℕ) (born : List Agent) where
  pub too_far_at : (i : ℕ) (child : Agent) → i < length born → child ≡ get_or born i child
      → ((r : ℕ) → r < i → goes_too_far living next born r ≡ false) → goes_too_far living next born i ≡ true
      → Some child ≡ first_too_far living next born
  too_far_at i child le is before here =
      let zero_i : 0 + i ≡ i = omega arith in
      let found = found_at (goes_too_far living next born) 0 (length born) i le (λ r low high. before r (omega (arith, high)))
      (ap (goes_too_far living next born) zero_i ∙ here) in
      ap Some is ∙ sym (slice_get-get_or born i child le) ∙ ap (slice_get born) (sym zero_i)
      ∙ ap (option_and_then (slice_get born)) (sym found)

  pub too_far_none : ((r : ℕ) → r < length born → goes_too_far living next born r ≡ false) → first_too_far living next born ≡ None
  too_far_none before =
      ap (option_and_then (slice_get born)) (found_none (goes_too_far living next born) 0 (length born) (λ r low high. before r (omega (arith, high))))

-- a bound that is below the greatest number of 64 bits is passed by a number just where it is
-- passed by the number cut down
pub lt-cut : (k x m : ℕ) → k < m → leb (suc k) (min x m) ≡ leb (suc k) x
lt-cut k x m below =
    ⊎_elim
    (λ (a : (leb (suc k) (min x m) ≡ true) × (suc k ≤ min x m)).
    ⊎_elim
    (λ (b : (leb (suc k) x ≡ true) × (suc k ≤ x)). a.0 ∙ sym b.0)
    (λ (b : (leb (suc k) x ≡ false) × (x < suc k)). absurd (omega (arith, a.1, b.1)))
    (leb_tells (suc k) x))
    (λ (a : (leb (suc k) (min x m) ≡ false) × (min x m < suc k)).
    ⊎_elim
    (λ (b : (leb (suc k) x ≡ true) × (suc k ≤ x)). absurd (omega (arith, a.1, b.1, below)))
    (λ (b : (leb (suc k) x ≡ false) × (x < suc k)). a.0 ∙ sym b.0)
    (leb_tells (suc k) x))
    (leb_tells (suc k) (min x m))

-- with one child more there are so many agents and values
module _ (living born : List Agent) (i : ℕ) (child : Agent) (le : i < length born) (is : child ≡ get_or born i child) where
  front : take (suc i) born ≡ take i born ++ child ∷ []
  front = take-suc born i child le ∙ ap (λ (c : Agent). take i born ++ c ∷ []) (sym is)

  agents-more : length (living ++ take (suc i) born) ≡ length living + i + 1
  agents-more =
      let a = length-append living (take (suc i) born) in
      let b = ap length front ∙ length-append (take i born) (child ∷ []) in
      let c = length-take-le i born (omega (arith, le)) in
      omega (arith, a, b, c)

  values-more : count_values (living ++ take (suc i) born) ≡ count_values (living ++ take i born) + length child.states
  values-more =
      ap (λ (l : List Agent). count_values (living ++ l)) front
      ∙ ap count_values (sym (append_assoc living (take i born) (child ∷ [])))
      ∙ sum_by-append (λ (a : Agent). length a.states) (living ++ take i born) (child ∷ [])
      ∙ one
    where
      one : count_values (living ++ take i born) + count_values (child ∷ []) ≡ count_values (living ++ take i born) + length child.states
      one = ap (λ (n : ℕ). count_values (living ++ take i born) + n) (omega arith)

  pub too_far_is : (next agents values id : ℕ) → agents ≡ min (min (length living + i) 18446744073709551615 + 1) 18446744073709551615
      → values ≡ min (min (count_values (living ++ take i born)) 18446744073709551615 + length child.states) 18446744073709551615
      → id ≡ min (next + i) 18446744073709551615
      → (leb (suc most_agents) agents || (leb (suc most_values) values || leb (suc greatest_id) id)) ≡ goes_too_far living next born i
  too_far_is next agents values id a b c =
      let first : leb (suc most_agents) agents ≡ leb (suc most_agents) (length (living ++ take (suc i) born)) =
      ap (leb (suc most_agents)) (omega (arith, a, agents-more)) ∙ lt-cut most_agents (length (living ++ take (suc i) born)) 18446744073709551615 (omega arith) in
      let second : leb (suc most_values) values ≡ leb (suc most_values) (count_values (living ++ take (suc i) born)) =
      ap (leb (suc most_values)) (omega (arith, b, values-more)) ∙ lt-cut most_values (count_values (living ++ take (suc i) born)) 18446744073709551615 (omega arith) in
      let third : leb (suc greatest_id) id ≡ leb (suc greatest_id) (next + i) =
      ap (leb (suc greatest_id)) c ∙ lt-cut greatest_id (next + i) 18446744073709551615 (omega arith) in
      ap (λ (b : Bool). b || (leb (suc most_values) values || leb (suc greatest_id) id)) first
      ∙ ap (λ (b : Bool). leb (suc most_agents) (length (living ++ take (suc i) born)) || (b || leb (suc greatest_id) id)) second
      ∙ ap (λ (b : Bool). leb (suc most_agents) (length (living ++ take (suc i) born)) || (leb (suc most_values) (count_values (living ++ take (suc i) born)) || b)) third
