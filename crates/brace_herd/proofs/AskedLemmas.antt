-- What is heard of agents is the same in whatever order they are asked; and agents by their places.
use Rattle.std.proofs.Common.{◌≡◌, ◌∙◌, refl, sym, ap, ap₂, subst, ℕ, zero, suc, ◌<◌, List, [], ◌∷◌, ◌++◌, map, filter, flat_map, length, get_or, set, Bool, true, false, cond, ◌&&◌, ◌==◌, Option, Some, All, arith}
use Rattle.std.specs.Prelude.{slice_get, unwrap_or}
use Rattle.std.specs.List.{swap}
use Rattle.std.specs.List.Sorted.{IsPermutation}
use Rattle.std.proofs.lemmas.List.Elements.{All-nil, All-cons, All-head, All-tail}
use Rattle.std.proofs.lemmas.List.Sorted.{IsPermutation-refl, IsPermutation-sym, IsPermutation-trans, IsPermutation-map, IsPermutation-append_right, IsPermutation-keeps, All-permutation}
use Rattle.brace_num.proofs.Lists.{flat_map_alike, same_parts}
use Rattle.brace_model.specs.declared.program.Program.{Program}
use Rattle.brace_model.specs.declared.fault.Fault.{Fault}
use Rattle.brace_model.specs.declared.world.Agent.{Agent}
use Rattle.brace_model.specs.Query.{Saying, Deed, query_of}
use Rattle.brace_model.specs.Total.{said_to}
use Rattle.brace_model.proofs.FaultLemmas.{least_any_order}
use Rattle.brace_eval.specs.declared.heard.Heard.{Heard}
use Rattle.brace_eval.specs.Heard.{IsHeard, row_of, table_of, effects_in, counting}
use Rattle.brace_model.specs.World.{class_of}
use Rattle.brace_invert.proofs.Runs.{turned}
use Rattle.brace_pieces.proofs.WorldLemmas.{totals_same}
use Rattle.brace_herd.specs.declared.asking.Asked.{Asked}
use Rattle.brace_herd.specs.declared.asking.Scene.{Scene}
use Rattle.brace_herd.specs.Placed.{ArePlaces}
use Rattle.brace_herd.specs.inner.Asked.{AreAsked, HearsAllOf}

-- ---- in any order

module _ {A B : Type 0} (f : A → List B) where
  -- the first element and a later one change places
  to_head : (l : List A) (j : ℕ) (x d : A) → j < length l
      → IsPermutation (f x ++ flat_map f l) (f (get_or l j d) ++ flat_map f (set l j x))
  to_head [] j x d h = absurd (omega (arith, h))
  to_head (y ∷ l) zero x d h = turned (f x) (f y) (flat_map f l)
  to_head (y ∷ l) (suc j) x d h =
      IsPermutation-trans _ _ _ (turned (f x) (f y) (flat_map f l))
      (IsPermutation-trans _ _ _ (IsPermutation-append_right (f y) _ _ (to_head l j x d (omega (arith, h))))
      (turned (f y) (f (get_or l j d)) (flat_map f (set l j x))))

  exchanged : (l : List A) (i j : ℕ) (d : A) → i < length l → j < length l
      → IsPermutation (flat_map f l) (flat_map f (set (set l i (get_or l j d)) j (get_or l i d)))
  exchanged [] i j d p q = absurd (omega (arith, p))
  exchanged (x ∷ l) zero zero d p q = IsPermutation-refl (f x ++ flat_map f l)
  exchanged (x ∷ l) zero (suc j) d p q = to_head l j x d (omega (arith, q))
  exchanged (x ∷ l) (suc i) zero d p q = to_head l i x d (omega (arith, p))
  exchanged (x ∷ l) (suc i) (suc j) d p q = IsPermutation-append_right (f x) _ _ (exchanged l i j d (omega (arith, p)) (omega (arith, q)))

  swapped : (l : List A) (i j : ℕ) → i < length l → j < length l → IsPermutation (flat_map f l) (flat_map f (swap l i j))
  swapped [] i j p q = absurd (omega (arith, p))
  swapped (x ∷ l) i j p q = exchanged (x ∷ l) i j x p q

  -- lists of elements that change places are joined to lists whose elements do
  pub flat_map_moved : (xs ys : List A) → IsPermutation xs ys → IsPermutation (flat_map f xs) (flat_map f ys)
  flat_map_moved xs ys moved = IsPermutation-keeps xs (λ l. IsPermutation (flat_map f xs) (flat_map f l)) (IsPermutation-refl (flat_map f xs))
      (λ l i j p q h. IsPermutation-trans (flat_map f xs) (flat_map f l) (flat_map f (swap l i j)) h (swapped l i j p q)) ys moved

module _ {A : Type 0} (p : A → Bool) where
  abbrev one_of : A → List A
  one_of x = cond (p x) (x ∷ []) []

  filter_is : (xs : List A) → flat_map one_of xs ≡ filter p xs
  filter_is [] = refl
  filter_is (x ∷ xs) = at (p x) (filter_is xs)
    where
      at : (b : Bool) → flat_map one_of xs ≡ filter p xs → (cond b (x ∷ []) [] ++ flat_map one_of xs) ≡ cond b (x ∷ filter p xs) (filter p xs)
      at true is = ap (λ l. x ∷ l) is
      at false is = is

  pub filter_moved : (xs ys : List A) → IsPermutation xs ys
      → IsPermutation (filter p xs) (filter p ys)
  filter_moved xs ys moved = subst (IsPermutation (filter p xs)) (filter_is ys) (subst (λ l. IsPermutation l (flat_map one_of ys)) (filter_is xs) (flat_map_moved one_of xs ys moved))

module _ (said others : List Saying) (moved : IsPermutation said others) where
  said_moved : (id effect : ℕ) → IsPermutation (said_to id effect said) (said_to id effect others)
  said_moved id effect = IsPermutation-map (λ (s : Saying). s.value) _ _ (filter_moved (λ s. (s.target == id) && (s.field == effect)) said others moved)

  table_moved : (program : Program) (agents : List Agent) → table_of program said agents ≡ table_of program others agents
  table_moved program agents = flat_map_alike (row_of program said) (row_of program others) agents
      (λ a has. totals_same 0 a.id (effects_in (class_of program a)) said others (said_moved a.id))

  heard_moved : (program : Program) (agents : List Agent) (faults met : List Fault) (heard : Heard) → IsPermutation faults met
      → IsHeard program agents said faults heard → IsHeard program agents others met heard
  heard_moved program agents faults met heard found is = record {
    totals = is.totals ∙ table_moved program agents;
    counts = is.counts ∙ table_moved (counting program) agents;
    least = is.least ∙ least_any_order faults met found;
    each_starts = is.each_starts;
    starts = is.starts;
  }

-- agents that were asked in one order were asked in any other
pub hears_moved : (scene : Scene) (program : Program) (seed : ℕ) (some asking : List Agent) (first last : Heard) → IsPermutation some asking
    → HearsAllOf scene program seed some first last → HearsAllOf scene program seed asking first last
hears_moved scene program seed some asking first last moved heard said faults is =
    let asked : Agent → Deed = λ a. query_of program seed scene.tick scene.held.now a in
    heard_moved (said ++ flat_map (λ a. (asked a).said) some) (said ++ flat_map (λ a. (asked a).said) asking)
    (IsPermutation-append_right said _ _ (flat_map_moved (λ a. (asked a).said) some asking moved))
    scene.program.now scene.held.now (faults ++ flat_map (λ a. (asked a).faults) some) (faults ++ flat_map (λ a. (asked a).faults) asking) last
    (IsPermutation-append_right faults _ _ (flat_map_moved (λ a. (asked a).faults) some asking moved))
    (heard said faults is)

-- ---- by their places

module _ (held : List Agent) where
  abbrev at : Asked → Option Agent
  at one = slice_get held one.place

  places_in : (asked : List Asked) → map (λ place. slice_get held place) (map (λ (one : Asked). one.place) asked) ≡ map at asked
  places_in [] = refl
  places_in (one ∷ asked) = ap (λ l. at one ∷ l) (places_in asked)

  -- those at some places are the agents there
  pub asked_at : (asking : List Agent) (places : List ℕ) (asked : List Asked) → map (λ (one : Asked). one.place) asked ≡ places
      → ArePlaces held asking places → AreAsked held asking asked
  asked_at asking places asked same are = sym (places_in asked) ∙ ap (map (λ place. slice_get held place)) same ∙ are

  abbrev IsWithin : Asked → Type 0
  IsWithin one = one.place < length held

  each_within : (asked : List Asked) → All (λ (place : ℕ). place < length held) (map (λ (one : Asked). one.place) asked) → All IsWithin asked
  each_within [] all = All-nil IsWithin
  each_within (one ∷ asked) all =
      let IsLow : ℕ → Type 0 = λ place. place < length held in
      All-cons IsWithin one asked (All-head IsLow one.place (map (λ (one : Asked). one.place) asked) all)
      (each_within asked (All-tail IsLow one.place (map (λ (one : Asked). one.place) asked) all))

  -- places of the list stay so where they change places
  pub within_moved : (places : List ℕ) (asked others : List Asked) → map (λ (one : Asked). one.place) asked ≡ places
      → All (λ (place : ℕ). place < length held) places → IsPermutation asked others → All IsWithin others
  within_moved places asked others same all moved =
      All-permutation IsWithin asked others moved (each_within asked (subst (All (λ (place : ℕ). place < length held)) (sym same) all))

  -- the agent of a place among them
  pub asked_here : (asking : List Agent) (asked : List Asked) (i : ℕ) → AreAsked held asking asked → i < length asked
      → (a : Agent) × (slice_get asking i ≡ Some a) × ((d : Asked) → slice_get held (get_or asked i d).place ≡ Some a)
  asked_here asking [] i are low = absurd (omega (arith, low))
  asked_here [] (x ∷ asked) i are low = absurd (let long = ap length are in omega (arith, long))
  asked_here (a ∷ asking) (x ∷ asked) zero are low =
      (a, refl, λ d. (same_parts (at x) (Some a) (map at asked) (map Some asking) are).0)
  asked_here (a ∷ asking) (x ∷ asked) (suc i) are low =
      asked_here asking asked i (same_parts (at x) (Some a) (map at asked) (map Some asking) are).1 (omega (arith, low))

  abbrev no_agent : Agent
  no_agent = record { class = 0; id = 0; states = [] }

  abbrev known : Option Agent → Agent
  known o = unwrap_or o no_agent

  all_known : (agents : List Agent) → map known (map Some agents) ≡ agents
  all_known [] = refl
  all_known (a ∷ agents) = ap (λ l. a ∷ l) (all_known agents)

  abbrev IsKnown : Option Agent → Type 0
  IsKnown o = (a : Agent) × (o ≡ Some a)

  some_known : (agents : List Agent) → All IsKnown (map Some agents)
  some_known [] = All-nil IsKnown
  some_known (a ∷ agents) = All-cons IsKnown (Some a) (map Some agents) (a, refl) (some_known agents)

  each_known : (os : List (Option Agent)) → All IsKnown os → os ≡ map Some (map known os)
  each_known [] all = refl
  each_known (o ∷ os) all =
      let (a, is) = All-head IsKnown o os all in
      ap₂ (λ x xs. x ∷ xs) (is ∙ ap Some (sym (ap known is))) (each_known os (All-tail IsKnown o os all))

  -- places that change places are those of agents that do
  pub asked_moved : (asking : List Agent) (asked others : List Asked) → AreAsked held asking asked → IsPermutation asked others
      → (some : List Agent) × IsPermutation some asking × AreAsked held some others
  asked_moved asking asked others are moved =
      let there : IsPermutation (map Some asking) (map at others) = subst (λ l. IsPermutation l (map at others)) are (IsPermutation-map at asked others moved) in
      let some = map known (map at others) in
      let same : IsPermutation asking some = subst (λ l. IsPermutation l some) (all_known asking) (IsPermutation-map known (map Some asking) (map at others) there) in
      (some, IsPermutation-sym asking some same, each_known (map at others) (All-permutation IsKnown (map Some asking) (map at others) there (some_known asking)))
