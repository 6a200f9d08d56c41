-- What is heard of queries asked in lanes, by the places of agents: what a program with other queries
-- hears of the same agents is the same.
use Rattle.std.proofs.Common.{◌≡◌, ◌∙◌, refl, sym, ap, ap₂, subst, ℕ, ◌<◌, List, [], ◌∷◌, ◌++◌, map, take, length, All, Option, Some, None, arith}
use Rattle.std.specs.Prelude.{slice_get, option_map}
use Rattle.std.proofs.lemmas.List.{map-append}
use Rattle.std.proofs.lemmas.List.Elements.{All-nil, All-cons}
use Rattle.std.proofs.lemmas.Option.{slice_get_within, get_or_from_slice_get}
use Rattle.brace_num.proofs.Lists.{flat_map_alike, same_parts}
use Rattle.brace_model.specs.declared.program.Class.{Class}
use Rattle.brace_model.specs.declared.program.Program.{Program}
use Rattle.brace_model.specs.declared.program.Stmt.{Stmt}
use Rattle.brace_model.specs.declared.fault.Fault.{Fault}
use Rattle.brace_model.specs.declared.world.Agent.{Agent}
use Rattle.brace_model.specs.World.{class_of}
use Rattle.brace_model.specs.Query.{Saying}
use Rattle.brace_model.specs.Total.{totals_from}
use Rattle.brace_eval.specs.declared.heard.Heard.{Heard}
use Rattle.brace_eval.specs.Heard.{IsHeard, table_of, row_of, effects_in, counted, counting, said_by, faults_by}
use Rattle.brace_fold.specs.Asked.{agents_at}
use Rattle.brace_invert.specs.Split.{with_query, with_queries}
use Rattle.brace_invert.proofs.Inverting.{class_same}
use Rattle.brace_herd.specs.Placed.{ArePlaces}
use Rattle.brace_herd.specs.inner.Asked.{HaveEffectsOf}
use Rattle.brace_eval.proofs.CountLemmas.{counted-effects}

-- ---- agents by their places

module _ (held : List Agent) where
  -- one more place
  pub place_more : (asking : List Agent) (places : List ℕ) (place : ℕ) (a : Agent) → slice_get held place ≡ Some a
      → ArePlaces held asking places → ArePlaces held (asking ++ a ∷ []) (places ++ place ∷ [])
  place_more asking places place a there are =
      map-append (λ place. slice_get held place) places (place ∷ []) ∙ ap₂ (λ xs x. xs ++ x ∷ []) are there ∙ sym (map-append Some asking (a ∷ []))

  -- each place is one of the list
  pub places_within : (asking : List Agent) (places : List ℕ) → ArePlaces held asking places → All (λ (place : ℕ). place < length held) places
  places_within asking [] are = All-nil (λ (place : ℕ). place < length held)
  places_within [] (place ∷ places) are = absurd (let long = ap length are in omega (arith, long))
  places_within (a ∷ asking) (place ∷ places) are =
      let (here, rest) = same_parts (slice_get held place) (Some a) (map (λ place. slice_get held place) places) (map Some asking) are in
      All-cons (λ (place : ℕ). place < length held) place places (slice_get_within held place a here) (places_within asking places rest)

  -- the agents at their places are those agents
  pub agents_there : (d : Agent) (asking : List Agent) (places : List ℕ) → ArePlaces held asking places → agents_at held d places ≡ asking
  agents_there d [] [] are = refl
  agents_there d (a ∷ asking) [] are = absurd (let long = ap length are in omega (arith, long))
  agents_there d [] (place ∷ places) are = absurd (let long = ap length are in omega (arith, long))
  agents_there d (a ∷ asking) (place ∷ places) are =
      let (here, rest) = same_parts (slice_get held place) (Some a) (map (λ place. slice_get held place) places) (map Some asking) are in
      ap₂ (λ x xs. x ∷ xs) (get_or_from_slice_get held place a d here) (agents_there d asking places rest)

-- ---- classes with the same effects

module _ (m p : Program) (same : HaveEffectsOf m p) where
  counts_same : HaveEffectsOf (counting m) (counting p)
  counts_same a = counted-effects p a ∙ ap (map counted) (same a) ∙ sym (counted-effects m a)

  same_too : HaveEffectsOf p m
  same_too a = sym (same a)

table_same : (m p : Program) → HaveEffectsOf m p → (said : List Saying) (agents : List Agent) → table_of p said agents ≡ table_of m said agents
table_same m p same said agents = flat_map_alike (row_of p said) (row_of m said) agents (λ a has. ap (λ effects. totals_from 0 a.id effects said) (same a))

-- what one program hears the other does
pub heard_too : (m p : Program) → HaveEffectsOf m p → (agents : List Agent) (said : List Saying) (faults : List Fault) (heard : Heard)
    → IsHeard p agents said faults heard → IsHeard m agents said faults heard
heard_too m p same agents said faults heard is = record {
  totals = is.totals ∙ table_same m p same said agents;
  counts = is.counts ∙ table_same (counting m) (counting p) (counts_same m p same) said agents;
  least = is.least;
  each_starts = is.each_starts;
  starts = λ i d low. is.starts i d low ∙ ap length (table_same m p same [] (take i agents));
}

query_effects : (part : List Stmt → List Stmt) (o : Option Class) → effects_in (option_map (with_query part) o) ≡ effects_in o
query_effects part None = refl
query_effects part (Some c) = refl

pub own_effects : (m p : Program) → p ≡ m → HaveEffectsOf m p
own_effects m p is a = ap (λ (x : Program). effects_in (class_of x a)) is

-- another query leaves the effects as they are
pub effects_same : (part : List Stmt → List Stmt) (m p : Program) → p ≡ with_queries part m → HaveEffectsOf m p
effects_same part m p is a =
    ap (λ (x : Program). effects_in (class_of x a)) is ∙ ap effects_in (class_same part m a) ∙ query_effects part (class_of m a)

-- ---- what is heard

module _ (m p : Program) (seed tick : ℕ) (held : List Agent) where
  -- what agents say at these places, over a program
  abbrev pub Adds : Program → List Agent → Heard → Heard → Type 0
  Adds x asking before after = (said : List Saying) (faults : List Fault) → IsHeard x held said faults before
      → IsHeard x held (said ++ said_by p seed tick held asking) (faults ++ faults_by p seed tick held asking) after

  pub adds_too : (asking : List Agent) (places : List ℕ) (before after : Heard) → HaveEffectsOf m p → ArePlaces held asking places
      → ((d : Agent) → Adds p (agents_at held d places) before after) → Adds m asking before after
  adds_too asking places before after same are adds said faults heard =
      let d : Agent = record { class = 0; id = 0; states = [] } in
      heard_too m p same held _ _ after
      (subst (λ (xs : List Agent). Adds p xs before after) (agents_there held d asking places are) (adds d) said faults
      (heard_too p m (same_too m p same) held said faults before heard))
