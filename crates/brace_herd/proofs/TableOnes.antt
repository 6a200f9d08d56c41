-- Of agents whose ids rise one has an id.
use Rattle.std.proofs.Common.{◌≡◌, ◌∙◌, sym, ap, ℕ, ◌<◌, ◌≤◌, List, length, get_or, arith, Some, Ok, Err, ◌⊎◌, inl, inr, ⊎_elim}
use Rattle.std.specs.List.Sorted.{IsBinarySearchResult}
use Rattle.std.specs.Ordering.{nat_cmp, ordering_index}
use Rattle.std.specs.Cmp.{nat_cmp_is}
use Rattle.std.specs.declared.cmp.Ordering.TheVariants.{Less, Equal, Greater}
use Rattle.std.proofs.lemmas.Map.Lookups.{exact_unsigned}
use Rattle.std.proofs.Math.Nat.{eq-or-lt_of_le}
use borrow.Author.Tests.{tests}
use Rattle.std.specs.Prelude.{slice_get}
use Rattle.std.specs.List.{Contains}
use Rattle.std.proofs.lemmas.Bool.{cases_lt}
use Rattle.std.proofs.lemmas.List.{length-map}
use Rattle.std.proofs.lemmas.Option.{slice_get-get_or}
use Rattle.brace_model.specs.declared.world.Agent.{Agent}
use Rattle.brace_model.specs.World.{RisesById, ids}
use Rattle.brace_model.proofs.WorldLemmas.{id_at}
use Rattle.brace_num.proofs.Orders.{rises_by_keys, rising_differ}
use Rattle.brace_herd.proofs.HoldLemmas.{stands_where}

module _ (agents : List Agent) (rises : RisesById agents) where
  -- where an id stands, the agent that has it stands
  pub stands_there : (place target : ℕ) (a : Agent) → place < length agents → get_or (ids agents) place 0 ≡ target
      → Contains agents a → a.id ≡ target → slice_get agents place ≡ Some a
  stands_there place target a low at has named =
      let long : length (ids agents) ≡ length agents = length-map agents (λ (b : Agent). b.id) in
      let id : Agent → ℕ = λ b. b.id in
      stands_where agents place a (rising_differ id agents (rises_by_keys id agents rises))
      (slice_get-get_or (ids agents) place 0 (omega (arith, long, low))
      ∙ ap Some (at ∙ sym named)) has

  no_falls : (i j : ℕ) (d : Agent) → (i ≡ j) ⊎ (i < j) → j < length agents → (get_or agents i d).id ≤ (get_or agents j d).id
  no_falls i j d (inl same) within = let one = ap (λ (k : ℕ). (get_or agents k d).id) same in omega (arith, one)
  no_falls i j d (inr lt) within = let up = rises_by_keys (λ (a : Agent). a.id) agents rises i j d lt within in omega (arith, up)

  -- what a search by an id finds
  pub found_there : (place target : ℕ) (a : Agent) → place < length agents
      → IsBinarySearchResult (λ (b : Agent). nat_cmp b.id target) agents (Ok place) → Contains agents a → a.id ≡ target
      → slice_get agents place ≡ Some a
  found_there place target a low found has named =
      let equal : nat_cmp (get_or agents place a).id target ≡ Equal = found a in
      let is : (get_or agents place a).id ≡ target = exact_unsigned _ _ equal in
      stands_there place target a low (id_at agents place a low ∙ is) has named

  -- where it finds none no agent has the id
  pub found_nowhere : (place target : ℕ) (a : Agent)
      → IsBinarySearchResult (λ (b : Agent). nat_cmp b.id target) agents (Err place) → Contains agents a → a.id ≡ target → ⊥
  found_nowhere place target a found (k, high, is) named =
      let parted = found (λ i j d le lt.
      rises_still (get_or agents i d).id (get_or agents j d).id target
      (no_falls i j d (eq-or-lt_of_le le) lt)) in
      let here : nat_cmp (get_or agents k a).id target ≡ Equal = sym (nat_cmp_is (get_or agents k a).id target Equal (ap (λ (b : Agent). b.id) is ∙ named)) in
      ⊎_elim
      (λ (less : k < place). let below : nat_cmp (get_or agents k a).id target ≡ Less = parted.0 k a (omega arith) less in absurd (let no : Less ≡ Equal = sym below ∙ here in cc))
      (λ (more : place ≤ k). let above : nat_cmp (get_or agents k a).id target ≡ Greater = parted.1 k a more high in absurd (let no : Greater ≡ Equal = sym above ∙ here in cc))
      (cases_lt k place)
    where
      rises_still : (a b x : ℕ) → a ≤ b → ordering_index (nat_cmp a x) ≤ ordering_index (nat_cmp b x)
      rises_still a b x le = grind (arith, le, tests)
