-- What the queries of a program are asked over serves those of one with other queries too, whose rules
-- are the same; and what is heard of agents, one after another.
use Rattle.std.proofs.Common.{◌≡◌, ◌∙◌, refl, sym, ap, subst, ℕ, zero, suc, ◌+◌, ◌<◌, ◌≤◌, ℤ, pos, List, [], ◌∷◌, ◌++◌, map, flat_map, fold, take, length, append_assoc, Option, Some, None, arith}
use Rattle.std.specs.Prelude.{◌≤ℤ◌, ◌&&◌, is_some, nat_le, slice_get, option_map, unwrap_or}
use Rattle.std.specs.Int.{int_max}
use Rattle.std.specs.List.{list_all}
use Rattle.std.proofs.lemmas.List.{take_all}
use Rattle.std.proofs.lemmas.Option.{slice_get_within, get_or_from_slice_get}
use Rattle.brace_num.proofs.Lists.{map_alike, flat_map_next}
use Rattle.brace_model.specs.declared.program.Class.{Class}
use Rattle.brace_model.specs.declared.program.Program.{Program}
use Rattle.brace_model.specs.declared.program.Stmt.{Stmt}
use Rattle.brace_model.specs.declared.fault.Fault.{Fault}
use Rattle.brace_model.specs.declared.world.Agent.{Agent}
use Rattle.brace_model.specs.World.{class_of, x_of, y_of}
use Rattle.brace_model.specs.Query.{Saying, Deed, query_of}
use Rattle.brace_model.specs.Next.{next_in}
use Rattle.brace_model.specs.Step.{greatest_id}
use Rattle.brace_model.specs.Lawful.{has_states, is_lawful_agent}
use Rattle.brace_grid.specs.Grids.{Point, origin, place_of, grid_of}
use Rattle.brace_plan.specs.Answers.{greatest_visible, id_at}
use Rattle.brace_eval.specs.declared.heard.Heard.{Heard}
use Rattle.brace_eval.specs.Heard.{IsHeard, said_by, faults_by}
use Rattle.brace_fold.proofs.ArrangedLemmas.{SeesAs}
use Rattle.brace_invert.specs.Split.{with_query, with_queries}
use Rattle.brace_invert.proofs.Inverting.{class_same}
use Rattle.brace_herd.specs.declared.asking.Scene.{Scene}
use Rattle.brace_herd.proofs.LaneLemmas.{effects_same}
use Rattle.brace_herd.specs.inner.Asked.{CanAsk, HearsOf, HearsAllOf, HasRulesOf}

pub own_rules : (m : Program) → HasRulesOf m m
own_rules m = record { lawful = λ a. refl; effects = λ a. refl; next = λ seed tick totals a. refl }

module _ (part : List Stmt → List Stmt) (m : Program) where
  abbrev p : Program
  p = with_queries part m

  abbrev point : Agent → Class → Point
  point a c = record { x = x_of c a; y = y_of c a }

  point_same : (o : Option Class) (a : Agent) → unwrap_or (option_map (point a) (option_map (with_query part) o)) origin ≡ unwrap_or (option_map (point a) o) origin
  point_same None a = refl
  point_same (Some c) a = refl

  place_same : (a : Agent) → place_of p a ≡ place_of m a
  place_same a = ap (λ o. unwrap_or (option_map (point a) o) origin) (class_same part m a) ∙ point_same (class_of m a) a

  grid_same : (agents : List Agent) (side : ℤ) → grid_of p agents side ≡ grid_of m agents side
  grid_same agents side = ap (λ (places : List Point). record { places = places; side = side }) (map_alike (place_of p) (place_of m) agents (λ a has. place_same a))

  farthest_same : (v : ℤ) (classes : List Class) → fold (λ v c. int_max v c.visible) v (map (with_query part) classes) ≡ fold (λ v c. int_max v c.visible) v classes
  farthest_same v [] = refl
  farthest_same v (c ∷ classes) = farthest_same (int_max v c.visible) classes

  visible_same : greatest_visible p ≡ greatest_visible m
  visible_same = farthest_same (pos 0) m.classes

  states_same : (o : Option Class) (a : Agent) → has_states (option_map (with_query part) o) a ≡ has_states o a
  states_same None a = refl
  states_same (Some c) a = refl

  lawful_same : (a : Agent) → is_lawful_agent p a ≡ is_lawful_agent m a
  lawful_same a = ap (λ v. nat_le a.id greatest_id && v) (ap (λ o. has_states o a) (class_same part m a) ∙ states_same (class_of m a) a)

  next_same : (o : Option Class) (seed tick : ℕ) (totals : List ℤ) (a : Agent) → next_in seed tick (option_map (with_query part) o) totals a ≡ next_in seed tick o totals a
  next_same None seed tick totals a = refl
  next_same (Some c) seed tick totals a = refl

  -- another query leaves the rules as they are
  pub rules_same : (q : Program) → q ≡ p → HasRulesOf m q
  rules_same q is = subst (HasRulesOf m) (sym is) (record {
    lawful = lawful_same;
    effects = effects_same part m p refl;
    next = λ seed tick totals a. ap (λ o. next_in seed tick o totals a) (class_same part m a) ∙ next_same (class_of m a) seed tick totals a;
  })

  known_same : (o : Option Class) → is_some (option_map (with_query part) o) ≡ is_some o
  known_same None = refl
  known_same (Some c) = refl

  -- and agents where they are seen
  pub sees_same : (q : Program) → q ≡ p → SeesAs m q
  sees_same q is = subst (SeesAs m) (sym is) (record {
    places = place_same;
    known = λ a. ap is_some (class_same part m a) ∙ known_same (class_of m a);
    lawful = lawful_same;
    range = visible_same;
  })

  pub can_ask_too : (q : Program) → q ≡ p → (scene : Scene) → CanAsk m scene → CanAsk q scene
  can_ask_too q is scene can = subst (λ (x : Program). CanAsk x scene) (sym is) (record {
    lawful = ap (λ test. list_all test scene.held.now) (λ i a. lawful_same a i) ∙ can.lawful;
    few = can.few;
    rises = can.rises;
    ticks = can.ticks;
    grid = can.grid ∙ sym (grid_same scene.held.now scene.grid.side);
    wide = subst (λ (v : ℤ). v ≤ℤ scene.grid.side) (sym visible_same) can.wide;
  })

-- ---- agents by their places

-- a place within a list has an agent
pub held_at : (agents : List Agent) (place : ℕ) → place < length agents → (a : Agent) × (slice_get agents place ≡ Some a) × (a.id ≡ id_at agents place)
held_at [] place low = absurd (omega (arith, low))
held_at (a ∷ agents) zero low = (a, refl, refl)
held_at (a ∷ agents) (suc place) low = held_at agents place (omega (arith, low))

-- ---- what is heard of agents in turn

module _ (scene : Scene) where
  module _ (program : Program) (seed : ℕ) (asking : List Agent) where
    -- one more
    pub hears_next : (i : ℕ) (a : Agent) (first between last : Heard) → slice_get asking i ≡ Some a
        → HearsAllOf scene program seed (take i asking) first between → HearsOf scene program seed a between last
        → HearsAllOf scene program seed (take (i + 1) asking) first last
    hears_next i a first between last is before more said faults heard =
        let asked : Agent → Deed = λ b. query_of program seed scene.tick scene.held.now b in
        let low = slice_get_within asking i a is in
        let at = sym (get_or_from_slice_get asking i a a is) in
        let joined = append_assoc said (flat_map (λ b. (asked b).said) (take i asking)) (asked a).said
        ∙ ap (λ xs. said ++ xs) (sym (flat_map_next (λ b. (asked b).said) asking i a low at)) in
        let found = append_assoc faults (flat_map (λ b. (asked b).faults) (take i asking)) (asked a).faults
        ∙ ap (λ fs. faults ++ fs) (sym (flat_map_next (λ b. (asked b).faults) asking i a low at)) in
        subst (λ xs. IsHeard scene.program.now scene.held.now xs (faults ++ flat_map (λ b. (asked b).faults) (take (i + 1) asking)) last) joined
        (subst (λ fs. IsHeard scene.program.now scene.held.now ((said ++ flat_map (λ b. (asked b).said) (take i asking)) ++ (asked a).said) fs last) found
        (more _ _ (before said faults heard)))

    -- all
    pub hears_all : (i : ℕ) (first last : Heard) → length asking ≤ i → HearsAllOf scene program seed (take i asking) first last
        → HearsAllOf scene program seed asking first last
    hears_all i first last over heard = subst (λ xs. HearsAllOf scene program seed xs first last) (take_all i asking over) heard

-- what was heard grew by what the queries of some agents say, and by their faults
abbrev Grew : Program → List Agent → Program → ℕ → ℕ → List Agent → Heard → Heard → Type 0
Grew m held program seed tick asking before after =
    (said : List Saying) (faults : List Fault) → IsHeard m held said faults before
    → IsHeard m held (said ++ said_by program seed tick held asking) (faults ++ faults_by program seed tick held asking) after

-- so it did over a scene
pub grew_over : (scene : Scene) (m : Program) (held : List Agent) (program : Program) (seed room tick : ℕ) (asking : List Agent) (before after : Heard)
    → scene.program.now ≡ m → scene.held.now ≡ held → scene.tick ≡ tick → room ≡ seed
    → HearsAllOf scene program room asking before after → Grew m held program seed tick asking before after
grew_over scene m held program seed room tick asking before after of_program of_held of_tick of_seed heard =
    subst (λ n. Grew m held program n tick asking before after) of_seed
    (subst (λ t. Grew m held program room t asking before after) of_tick
    (subst (λ xs. Grew m xs program room scene.tick asking before after) of_held
    (subst (λ x. Grew x scene.held.now program room scene.tick asking before after) of_program heard)))
