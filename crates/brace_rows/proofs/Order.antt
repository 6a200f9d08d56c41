-- Agents by rising id make a world.
use Rattle.std.proofs.Common.{◌≡◌, ◌≤◌, ◌<◌, ◌+◌, ◌-◌, ◌^◌, ℕ, zero, suc, true, List, [], ◌∷◌, length, get_or, Option, refl, ap, subst, arith, ⊎_elim}
use Rattle.std.specs.Prelude.{◌⊎◌, nat_le, unwrap_or, option_map}
use Rattle.std.specs.List.{All, list_all}
use Rattle.std.proofs.lemmas.Bool.{cases_lt, leb-true}
use Rattle.std.proofs.lemmas.List.Sums.{AllPass-from_list_all}
use Rattle.std.proofs.lemmas.Option.{slice_get-get_or}
use Rattle.brace_model.specs.declared.world.Agent.{Agent}
use Rattle.brace_model.specs.World.{RisesById, IsNumbered, ids, least_next, world_of}
use Rattle.brace_model.specs.Step.{greatest_id}
use Rattle.brace_model.proofs.WorldLemmas.{RisesById-pair}

-- the last of rising ids is the greatest
last_above : (xs : List Agent) → RisesById xs → (n k : ℕ) (d : Agent) → k + n + 1 ≡ length xs → (get_or xs k d).id ≤ (get_or xs (k + n) d).id
last_above xs up zero k d le = let same : k + 0 ≡ k = omega arith in rw same (omega arith)
last_above xs up (suc n) k d le =
    let one = RisesById-pair xs k (k + 1) d d refl (omega (arith, le)) up in
    let more = last_above xs up n (k + 1) d (omega (arith, le)) in
    let same : k + suc n ≡ k + 1 + n = omega arith in
    rw same (omega (arith, one, more))

next_of_last : (xs : List Agent) (d : Agent) → 0 < length xs → least_next xs ≡ (get_or xs (length xs - 1) d).id + 1
next_of_last xs d some = ap (λ (o : Option Agent). unwrap_or (option_map (λ a. a.id + 1) o) 0) (slice_get-get_or xs (length xs - 1) d (omega (arith, some)))

next_of_none : (xs : List Agent) → length xs ≤ 0 → least_next xs ≡ 0
next_of_none [] h = refl
next_of_none (a ∷ xs) h = absurd (omega (arith, h))

-- agents whose ids rise and are at most the greatest id make a world
pub rising_are_numbered : (xs : List Agent) → RisesById xs → list_all (λ (a : Agent). nat_le a.id greatest_id) xs ≡ true → IsNumbered (world_of xs)
rising_are_numbered xs up low = record { rises = up; below = below_next; in_range = next_in_range }
  where
    below_next : All (λ a. a.id < least_next xs) xs
    below_next k d lt =
        let at_end : k + (length xs - 1 - k) ≡ length xs - 1 = omega (arith, lt) in
        let top : (get_or xs k d).id ≤ (get_or xs (length xs - 1) d).id =
        subst (λ i. (get_or xs k d).id ≤ (get_or xs i d).id) at_end (last_above xs up (length xs - 1 - k) k d (omega (arith, lt))) in
        rw (next_of_last xs d (omega (arith, lt))) (omega (arith, top))

    next_in_range : least_next xs ≤ 2 ^ 63
    next_in_range = ⊎_elim
        (λ some.
        let d : Agent = record { class = 0; id = 0; states = [] } in
        let last = leb-true _ greatest_id (AllPass-from_list_all (λ (a : Agent). nat_le a.id greatest_id) xs low (length xs - 1) d (omega (arith, some))) in
        rw (next_of_last xs d some) (omega (arith, last)))
        (λ none. rw (next_of_none xs none) (omega arith))
        (cases_lt 0 (length xs))
