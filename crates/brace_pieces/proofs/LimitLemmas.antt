-- The children that are born keep to the limits of a world: so the next free id of a continued world
-- stays one.
use Rattle.std.proofs.Common.{◌≡◌, ◌∙◌, sym, ap, ℕ, zero, suc, ◌+◌, ◌-◌, ◌^◌, ◌<◌, ◌≤◌, List, ◌++◌, length, take, Bool, true, false, cond, ◌||◌, Some, arith, refl, ⊎_elim, true≢false}
use Rattle.std.specs.Prelude.{nat_lt, unwrap_or}
use Rattle.std.specs.List.{find, range_with_len}
use Rattle.std.proofs.lemmas.Bool.{ltb-false, cases_eq}
use Rattle.std.proofs.lemmas.List.{length-append, length-take}
use Rattle.std.proofs.lemmas.List.Sums.{sum_by-append}
use Rattle.brace_model.specs.declared.world.Agent.{Agent}
use Rattle.brace_model.specs.World.{World, IsNumbered}
use Rattle.brace_model.specs.Step.{living, children, count_values, most_agents, most_values, greatest_id, goes_too_far}
use Rattle.brace_pieces.specs.declared.setting.Setting.{Setting}
use Rattle.brace_pieces.specs.Settings.{LawfulSetting}
use Rattle.brace_pieces.specs.Continued.{all_left, fitting, continued_after, on}
use Rattle.brace_pieces.proofs.OnLemmas.{ordered_after}
use Rattle.brace_num.proofs.Orders.{keys_by_rises}

-- before the first number that passes none does
none_before : (test : ℕ → Bool) (a n r top : ℕ) → top ≡ a + n → a ≤ r → r < unwrap_or (find test (range_with_len a n)) top → test r ≡ false
none_before test a zero r top is low below = absurd (omega (arith, is, low, below))
none_before test a (suc n) r top is low below =
    by_test (test a) refl below (λ other later. none_before test (a + 1) n r top (omega (arith, is)) (omega (arith, low, other)) later)
  where
    by_test : (v : Bool) → test a ≡ v → r < unwrap_or (cond v (Some a) (find test (range_with_len (a + 1) n))) top
        → ((a ≡ r → ⊥) → r < unwrap_or (find test (range_with_len (a + 1) n)) top → test r ≡ false) → test r ≡ false
    by_test true here below rest = absurd (omega (arith, low, below))
    by_test false here below rest = ⊎_elim
        (λ (same : a ≡ r). ap test (sym same) ∙ here)
        (λ (other : a ≡ r → ⊥). rest other below)
        (cases_eq a r)

-- where neither of two tests passes
both_fail : (a b : Bool) → (a || b) ≡ false → (a ≡ false) × (b ≡ false)
both_fail true b e = absurd (true≢false e)
both_fail false b e = (refl, e)

-- some agents and children keep to the limits of a world
pub record AreFew (lives : List Agent) (free : ℕ) (born : List Agent) : Type 0 where
  pub few_agents : length lives + length born ≤ most_agents
  pub few_values : count_values lives + count_values born ≤ most_values
  pub low_ids : free + length born ≤ 2 ^ 63

module _ (lives : List Agent) (free : ℕ) (kids : List Agent) where
  not_too_far : (n : ℕ) → goes_too_far lives free kids n ≡ false
      → (length lives + length (take (suc n) kids) ≤ most_agents) × ((count_values lives + count_values (take (suc n) kids) ≤ most_values) × (free + n ≤ greatest_id))
  not_too_far n none =
      let all : List Agent = lives ++ take (suc n) kids in
      let (agents, rest) = both_fail (nat_lt most_agents (length all)) (nat_lt most_values (count_values all) || nat_lt greatest_id (free + n)) none in
      let (values, id) = both_fail (nat_lt most_values (count_values all)) (nat_lt greatest_id (free + n)) rest in
      let many = ltb-false most_agents (length all) agents in
      let sums = ltb-false most_values (count_values all) values in
      let low = ltb-false greatest_id (free + n) id in
      let long = length-append lives (take (suc n) kids) in
      let sum = sum_by-append (λ (a : Agent). length a.states) lives (take (suc n) kids) in
      (omega (arith, many, long), (omega (arith, sums, sum), omega (arith, low)))

  low_of : (k : ℕ) → ((r : ℕ) → r < k → goes_too_far lives free kids r ≡ false) → free ≤ 2 ^ 63 → free + length (take k kids) ≤ 2 ^ 63
  low_of zero none low = omega (arith, low)
  low_of (suc k) none low =
      let (agents, (values, id)) = not_too_far k (none k (omega arith)) in
      let long = length-take (suc k) kids in
      omega (arith, id, long)

  few_of : (k : ℕ) → ((r : ℕ) → r < k → goes_too_far lives free kids r ≡ false) → free ≤ 2 ^ 63 → length lives ≤ most_agents → count_values lives ≤ most_values → AreFew lives free (take k kids)
  few_of zero none low few sums = record { few_agents = omega (arith, few); few_values = omega (arith, sums); low_ids = low_of zero none low }
  few_of (suc k) none low few sums =
      let (agents, (values, id)) = not_too_far k (none k (omega arith)) in
      record { few_agents = agents; few_values = values; low_ids = low_of (suc k) none low }

  born_few : (r : ℕ) → r < unwrap_or (find (goes_too_far lives free kids) (range_with_len 0 (length kids))) (length kids) → goes_too_far lives free kids r ≡ false
  born_few r below = none_before (goes_too_far lives free kids) 0 (length kids) r (length kids) (omega arith) (omega arith) below

  -- the children that are born keep to the limits, where the living do
  pub fitting_few : free ≤ 2 ^ 63 → length lives ≤ most_agents → count_values lives ≤ most_values → AreFew lives free (fitting lives free kids)
  fitting_few low few sums = few_of (unwrap_or (find (goes_too_far lives free kids) (range_with_len 0 (length kids))) (length kids)) born_few low few sums

  fitting_low : free ≤ 2 ^ 63 → free + length (fitting lives free kids) ≤ 2 ^ 63
  fitting_low low = low_of (unwrap_or (find (goes_too_far lives free kids) (range_with_len 0 (length kids))) (length kids)) born_few low

module _ (s : Setting) (lawful : LawfulSetting s) where
  low_after : (n : ℕ) → (continued_after s n).next ≤ 2 ^ 63
  unfolding continued_after
  low_after zero = lawful.start_is_numbered.in_range
  low_after (suc n) =
      let world : World = continued_after s n in
      let t : ℕ = s.job.first + n in
      fitting_low (living (all_left s t world.agents)) world.next (children (all_left s t world.agents)) (low_after n)

  -- each continued world is numbered
  pub on_numbered : (t : ℕ) → IsNumbered (on s t)
  on_numbered t =
      let ordered = ordered_after s lawful (t - s.job.first) in
      record {
        rises = keys_by_rises (λ (a : Agent). a.id) (on s t).agents ordered.rises;
        below = ordered.below;
        in_range = low_after (t - s.job.first);
      }
