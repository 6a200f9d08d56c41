-- One agent more behind others: ids rise, and limits hold.
use Rattle.std.proofs.Common.{◌≡◌, ◌∙◌, ℕ, ◌+◌, ◌-◌, ◌<◌, ◌≤◌, List, [], ◌∷◌, ◌++◌, length, get_or, ltb, Bool, true, false, Option, refl, sym, ap, ap₂, subst, arith, inl, inr}
use Rattle.std.specs.Prelude.{◌&&◌, nat_le, option_map, unwrap_or, slice_get}
use Rattle.std.specs.List.{All, list_all}
use Rattle.std.proofs.lemmas.Bool.{cases_Bool, and_parts}
use Rattle.std.proofs.lemmas.Bool.Decides.{nat_tests}
use Rattle.std.proofs.lemmas.List.{get_or_append_left, get_or_at, get_or_push, length-append, length_push}
use Rattle.std.proofs.lemmas.List.Folds.{list_all-append}
use Rattle.std.proofs.lemmas.List.Sums.{sum_by-append, sum_by-cons}
use Rattle.std.proofs.lemmas.Option.{slice_get-get_or}
use Rattle.brace_model.specs.declared.program.Program.{Program}
use Rattle.brace_model.specs.declared.world.Agent.{Agent}
use Rattle.brace_model.specs.Lawful.{has_states, is_lawful_agent}
use Rattle.brace_model.specs.Step.{count_values, greatest_id}
use Rattle.brace_model.specs.World.{class_of, RisesById, IsNumbered, least_next, world_with}
use Rattle.brace_model.proofs.WorldLemmas.{RisesById-from_pairs, RisesById-pair}
use Rattle.brace_rows.proofs.Order.{rising_are_numbered}
use Rattle.brace_save.specs.Texts.{Moment, IsMoment, value_fits}
use Rattle.brace_save.specs.inner.Spelled.{IsAgentLine}
use Rattle.brace_save.specs.inner.Steps.{MayFollow, next_of, moment_of}

least_is : (xs : List Agent) (d : Agent) (k : ℕ) → k + 1 ≡ length xs → least_next xs ≡ (get_or xs k d).id + 1
least_is xs d k last =
    let at : length xs - 1 ≡ k = omega (arith, last) in
    ap (λ i. unwrap_or (option_map (λ (a : Agent). a.id + 1) (slice_get xs i)) 0) at ∙ ap (λ (o : Option Agent). unwrap_or (option_map (λ a. a.id + 1) o) 0) (slice_get-get_or xs k d (omega (arith, last)))

pub rises_more : (xs : List Agent) (a : Agent) → RisesById xs → least_next xs ≤ a.id → RisesById (xs ++ a ∷ [])
rises_more xs a up low = RisesById-from_pairs (xs ++ a ∷ []) pair
  where
    pair : (k : ℕ) (d : Agent) → k + 1 < length (xs ++ a ∷ []) → (get_or (xs ++ a ∷ []) k d).id < (get_or (xs ++ a ∷ []) (k + 1) d).id
    pair k d le = elim (cases_Bool (ltb (k + 1) (length xs))) [
      | inl inside ↦
          let low₂ : k + 1 < length xs = grind (arith, nat_tests) in
          let one = get_or_append_left xs (a ∷ []) d k (omega (arith, low₂)) in
          let two = get_or_append_left xs (a ∷ []) d (k + 1) low₂ in
          let lt = RisesById-pair xs k (k + 1) d d refl low₂ up in
          omega (arith, lt, ap (λ (b : Agent). b.id) one, ap (λ (b : Agent). b.id) two)
      | inr beyond ↦
          let long = length_push xs a in
          let last : k + 1 ≡ length xs = let over : length xs ≤ k + 1 = grind (arith, nat_tests) in omega (arith, over, le, long) in
          let one = get_or_append_left xs (a ∷ []) d k (omega (arith, last)) in
          let two = get_or_push xs a d (k + 1) (sym last) in
          let least : least_next xs ≡ (get_or xs k d).id + 1 = least_is xs d k last in
          omega (arith, low, least, ap (λ (b : Agent). b.id) one, ap (λ (b : Agent). b.id) two)
    ]

pub below_more : (xs : List Agent) (a : Agent) (next : ℕ) → All (λ b. b.id < next) xs → a.id < next → All (λ b. b.id < next) (xs ++ a ∷ [])
below_more xs a next under low k d le = elim (cases_Bool (ltb k (length xs))) [
  | inl inside ↦
      let low₂ : k < length xs = grind (arith, nat_tests) in
      let one = get_or_append_left xs (a ∷ []) d k low₂ in
      omega (arith, under k d low₂, ap (λ (b : Agent). b.id) one)
  | inr beyond ↦
      let last : length xs ≡ k = let over : length xs ≤ k = grind (arith, nat_tests) in omega (arith, over, le, length_push xs a) in
      let two = get_or_push xs a d k last in
      omega (arith, low, ap (λ (b : Agent). b.id) two)
]

pub after_is : (xs more : List Agent) (a : Agent) → RisesById (xs ++ a ∷ more) → least_next xs ≤ a.id
after_is [] more a up = omega arith
after_is (x ∷ xs) more a up =
    let ys = x ∷ xs in
    let j = length xs in
    let first : get_or (ys ++ a ∷ more) j a ≡ get_or ys j a = get_or_append_left ys (a ∷ more) a j (omega arith) in
    let second : get_or (ys ++ a ∷ more) (j + 1) a ≡ a = get_or_at ys a more a (j + 1) (omega arith) in
    let lt = RisesById-pair (ys ++ a ∷ more) j (j + 1) a a refl (omega (arith, length-append ys (a ∷ more))) up in
    let least : least_next ys ≡ (get_or ys j a).id + 1 = least_is ys a j (omega arith) in
    omega (arith, lt, least, ap (λ (b : Agent). b.id) first, ap (λ (b : Agent). b.id) second)

-- the agent that a moment has next may follow
pub next_may : (program : Program) (b : Bool) (m : Moment) (xs more : List Agent) (a : Agent) (next : ℕ) → IsMoment program b m → m.world.agents ≡ xs ++ a ∷ more
    → m.world.next ≤ next → MayFollow xs next a
next_may program b m xs more a next is e low =
    let up : RisesById (xs ++ a ∷ more) = subst RisesById e is.numbered.rises in
    let long : length m.world.agents ≡ length xs + (length more + 1) = ap length e ∙ length-append xs (a ∷ more) ∙ omega arith in
    let under = is.numbered.below (length xs) a (omega (arith, long)) in
    let at : get_or m.world.agents (length xs) a ≡ a = ap (λ l. get_or l (length xs) a) e ∙ get_or_at xs a more a (length xs) refl in
    let values : count_values m.world.agents ≡ count_values xs + (length a.states + count_values more) = ap count_values e ∙ sum_by-append (λ (c : Agent). length c.states) xs (a ∷ more) ∙ ap (λ n. count_values xs + n) (sum_by-cons (λ (c : Agent). length c.states) a more) in
    record {
      after = after_is xs more a up;
      below = omega (arith, under, ap (λ (k : Agent). k.id) at, low);
      few_agents = omega (arith, long, is.lawful.few_agents);
      few_values = omega (arith, values, is.lawful.few_values);
    }

-- a moment with one agent more
pub moment_more : (program : Program) (b : Bool) (tick seed next : ℕ) (xs : List Agent) (a : Agent) (line : List ℕ) → IsMoment program b (moment_of b tick seed next xs) → IsAgentLine program a line
    → MayFollow xs next a → IsMoment program b (moment_of b tick seed next (xs ++ a ∷ []))
moment_more program b tick seed next xs a line is told may = record {
  tick_in_range = is.tick_in_range;
  seed_in_range = is.seed_in_range;
  numbered = numbered_by b is;
  lawful = record {
    each_is_lawful = lawful;
    few_agents = omega (arith, length_push xs a, may.few_agents);
    few_values = omega (arith, values, may.few_values);
  };
  values_fit = list_all-append (λ (c : Agent). list_all value_fits c.states) xs (a ∷ []) ∙ ap₂ (λ p q. p && (q && true)) is.values_fit told.values_fit;
  least = λ e. least_by b e;
}
  where
    lawful : list_all (is_lawful_agent program) (xs ++ a ∷ []) ≡ true
    lawful = list_all-append (is_lawful_agent program) xs (a ∷ []) ∙ ap₂ (λ p q. p && (q && true)) is.lawful.each_is_lawful told.lawful

    low_ids : (ys : List Agent) → list_all (is_lawful_agent program) ys ≡ true → list_all (λ (c : Agent). nat_le c.id greatest_id) ys ≡ true
    low_ids [] h = refl
    low_ids (y ∷ ys) h =
        let (one, others) = and_parts (is_lawful_agent program y) (list_all (is_lawful_agent program) ys) h in
        let low = (and_parts (nat_le y.id greatest_id) (has_states (class_of program y) y) one).0 in
        ap₂ (λ p q. p && q) low (low_ids ys others)

    values : count_values (xs ++ a ∷ []) ≡ count_values xs + length a.states
    values = sum_by-append (λ (c : Agent). length c.states) xs (a ∷ []) ∙ ap (λ n. count_values xs + n) (sum_by-cons (λ (c : Agent). length c.states) a []) ∙ omega arith

    numbered_by : (b : Bool) → IsMoment program b (moment_of b tick seed next xs) → IsNumbered (world_with (xs ++ a ∷ []) (next_of b next (xs ++ a ∷ [])))
    numbered_by true was = record { rises = rises_more xs a was.numbered.rises may.after; below = below_more xs a next was.numbered.below may.below; in_range = was.numbered.in_range }
    numbered_by false was = rising_are_numbered (xs ++ a ∷ []) (rises_more xs a was.numbered.rises may.after) (low_ids (xs ++ a ∷ []) lawful)

    least_by : (b : Bool) → b ≡ false → world_with (xs ++ a ∷ []) (next_of b next (xs ++ a ∷ [])) ≡ world_with (xs ++ a ∷ []) (least_next (xs ++ a ∷ []))
    least_by true e = absurd cc
    least_by false e = refl
