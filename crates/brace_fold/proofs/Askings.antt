-- What agents that ask say, all together.
use Rattle.std.proofs.Common.{◌≡◌, ◌∙◌, sym, ap, ap₂, subst, ℕ, ◌<◌, List, [], ◌∷◌, ◌++◌, refl, map, flat_map, length, get_or, true, Some, slice_get}
use Rattle.std.specs.List.{All, list_all}
use Rattle.std.specs.List.Sorted.{IsPermutation}
use Rattle.std.proofs.lemmas.List.{get_or_default}
use Rattle.std.proofs.lemmas.List.Sums.{AllPass-from_list_all}
use Rattle.std.proofs.lemmas.List.Elements.{All-nil, All-append, All-map}
use Rattle.std.proofs.lemmas.List.Sorted.{All-permutation}
use Rattle.std.proofs.lemmas.Grind.{flat_map-append}
use Rattle.std.proofs.lemmas.Option.{get_or_from_slice_get, slice_get_within}
use Rattle.brace_model.specs.declared.program.Program.{Program}
use Rattle.brace_model.specs.declared.world.Agent.{Agent}
use Rattle.brace_model.specs.Lawful.{is_lawful_agent}
use Rattle.brace_model.specs.Value.{Scope}
use Rattle.brace_model.specs.Query.{Deed, Saying, query_of}
use Rattle.brace_plan.specs.declared.action.Action.{Action}
use Rattle.brace_plan.specs.Planning.{IsPlanned, opening_of}
use Rattle.brace_eval.specs.Heard.{said_by, faults_by}
use Rattle.brace_fold.specs.declared.scene.Scene.{Scene}
use Rattle.brace_fold.specs.declared.table.Table.{Table}
use Rattle.brace_fold.specs.Asked.{agents_at, no_agent}
use Rattle.brace_fold.specs.Rows.{by_id}
use Rattle.brace_fold.specs.Sums.{AreSummed}
use Rattle.brace_fold.specs.inner.Asks.{Asks, AsksIn, asked, asked_in, openings}
use Rattle.brace_fold.specs.inner.Crowds.{IsOfClass, rows, world}
use Rattle.brace_fold.specs.inner.Deeds.{Does, IsQuiet, done_by}
use Rattle.brace_fold.specs.Hears.{Hears}
use Rattle.brace_fold.proofs.Alikes.{alike-permuted, hears-alike, hears-more, hears-none}
use Rattle.brace_fold.proofs.Crowdings.{got-mapped}
use Rattle.brace_fold.proofs.Doings.{All-back, All-both, mapped-said, no-faults, same-said}

-- nobody asks
pub asks-none : (scene : Scene) (d : Agent) (heard : Table) → Asks scene d [] heard heard
asks-none scene d heard = record {
  quiet = All-nil (λ row. (asked scene d row).faults ≡ []);
  hears = hears-none scene.program.now (rows scene) heard;
}

-- some ask, and then others
pub asks-more : (scene : Scene) (d : Agent) (xs ys : List ℕ) (a b c : Table) → Asks scene d xs a b → Asks scene d ys b c → Asks scene d (xs ++ ys) a c
asks-more scene d xs ys a b c h k = record {
  quiet = All-append (λ row. (asked scene d row).faults ≡ []) xs ys h.quiet k.quiet;
  hears = subst (λ l. Hears scene.program.now (rows scene) l a c) (sym (flat_map-append (λ row. (asked scene d row).said) xs ys))
      (hears-more scene.program.now (rows scene) _ _ a b c h.hears k.hears);
}

module _ (scene : Scene) (class constants : ℕ) (actions : List Action) (d : Agent) (plan : IsPlanned scene.program.now class actions constants)
    (lawful : list_all (is_lawful_agent scene.program.now) (world scene) ≡ true)
    (moved : IsPermutation (world scene) (rows scene)) where
  abbrev opens : ℕ → Scope
  opens row = opening_of constants scene.seed scene.tick (get_or (rows scene) row d)

  abbrev does : Scope → Deed
  does = done_by scene actions

  -- the plan does what the query does
  plan-asks : (row : ℕ) → IsOfClass (rows scene) class row → does (opens row) ≡ asked scene d row
  plan-asks row (a, got, of) =
      let here : get_or (rows scene) row d ≡ a = get_or_from_slice_get (rows scene) row a d got in
      let low : row < length (rows scene) = slice_get_within (rows scene) row a got in
      let each : All (λ b. is_lawful_agent scene.program.now b ≡ true) (world scene) =
      AllPass-from_list_all (is_lawful_agent scene.program.now) (world scene) lawful in
      plan.same scene.seed scene.tick (world scene) (get_or (rows scene) row d) lawful
      (All-permutation (λ b. is_lawful_agent scene.program.now b ≡ true) (world scene)
      (rows scene) moved each row d low)
      (ap (λ (x : Agent). x.class) here ∙ of)

  pub asks-of : (places : List ℕ) (a b : Table) → All (IsOfClass (rows scene) class) places
      → Does scene (done_by scene actions) (openings scene constants d places) a b → Asks scene d places a b
  asks-of places a b all h =
      let same : All (λ place. does (opens place) ≡ asked scene d place) places = λ k e low. plan-asks (get_or places k e) (all k e low) in
      record {
        quiet = All-both (λ place. does (opens place) ≡ asked scene d place) (λ place. IsQuiet (does (opens place))) (λ row. (asked scene d row).faults ≡ [])
            (λ place e q. sym (ap (λ (x : Deed). x.faults) e) ∙ q.faults) places same (All-back opens (λ s. IsQuiet (does s)) places h.quiet);
        hears = subst (λ l. Hears scene.program.now (rows scene) l a b)
            (mapped-said opens (λ s. (does s).said) places
            ∙ same-said (λ place. (does (opens place)).said) (λ row. (asked scene d row).said) places (λ k e low. ap (λ (x : Deed). x.said) (same k e low)))
            h.hears;
      }

-- those who ask in another order
pub asks-moved : (program : Program) (seed tick : ℕ) (rows : List Agent) (d : Agent)
    (xs ys : List ℕ) (a b : Table) → IsPermutation xs ys
    → AsksIn program seed tick rows d xs a b → AsksIn program seed tick rows d ys a b
asks-moved program seed tick rows d xs ys a b perm h =
    let does : ℕ → Deed = asked_in program seed tick rows d in
    record {
      quiet = All-permutation (λ row. (does row).faults ≡ []) xs ys perm h.quiet;
      hears = hears-alike program rows _ _ a b
          (alike-permuted (λ row. (does row).said) xs ys perm) h.hears;
    }

-- ---- what agents of rows say

module _ (program : Program) (seed tick : ℕ) (rows : List Agent) (d : Agent)
    (asking : List ℕ) (a b : Table)
    (h : AsksIn program seed tick rows d asking a b) where
  abbrev query : Agent → Deed
  query x = query_of program seed tick (by_id rows) x

  abbrev one : ℕ → Agent
  one row = get_or rows row d

  pub asks-said : (before : List Saying) → AreSummed program rows before a
      → AreSummed program rows
      (before ++ said_by program seed tick (by_id rows) (agents_at rows d asking)) b
  asks-said before summed =
      subst (λ l. AreSummed program rows (before ++ l) b)
      (sym (mapped-said one (λ x. (query x).said) asking)) (h.hears.each before summed)

  pub asks-quiet : faults_by program seed tick (by_id rows) (agents_at rows d asking) ≡ []
  asks-quiet = no-faults (λ x. (query x).faults) (agents_at rows d asking)
      (All-map (λ x. (query x).faults ≡ []) one asking h.quiet)

-- what the agents of an order of rows say is brought to their rows
pub asks-carried : (program : Program) (seed tick : ℕ) (agents rows : List Agent) (d : Agent)
    (asking at : List ℕ) (before after none told : Table)
    → by_id rows ≡ by_id agents → agents_at agents d asking ≡ agents_at rows d at
    → AsksIn program seed tick rows d at none told
    → AreSummed program rows [] none
    → ((more : List Saying) → AreSummed program rows more told
    → Hears program agents more before after)
    → AsksIn program seed tick agents d asking before after
asks-carried program seed tick agents rows d asking at before after none told
    world there h empty carried =
    let does : List Agent → Agent → Deed = λ w x. query_of program seed tick w x in
    let mine : ℕ → Agent = λ row. get_or agents row d in
    let theirs : ℕ → Agent = λ row. get_or rows row d in
    let quiet : All (λ x. (does (by_id agents) x).faults ≡ []) (agents_at agents d asking) =
    subst (All (λ x. (does (by_id agents) x).faults ≡ [])) (sym there)
    (subst (λ w. All (λ x. (does w x).faults ≡ []) (agents_at rows d at)) world
    (All-map (λ x. (does (by_id rows) x).faults ≡ []) theirs at h.quiet)) in
    let said : List Saying = flat_map (λ row. (does (by_id rows) (theirs row)).said) at in
    let same : said ≡ flat_map (λ row. (does (by_id agents) (mine row)).said) asking =
    sym (mapped-said theirs (λ x. (does (by_id rows) x).said) at)
    ∙ ap (λ w. flat_map (λ x. (does w x).said) (agents_at rows d at)) world
    ∙ ap (flat_map (λ x. (does (by_id agents) x).said)) (sym there)
    ∙ mapped-said mine (λ x. (does (by_id agents) x).said) asking in
    record {
      quiet = All-back mine (λ x. (does (by_id agents) x).faults ≡ []) asking quiet;
      hears = subst (λ l. Hears program agents l before after) same
          (carried said (h.hears.each [] empty));
    }

-- the agents of rows that have the places of those who ask
pub asking-at : (agents : List Agent) (d : Agent) (order asking rows : List ℕ) → All (λ place. place < length agents) order
    → map (slice_get order) rows ≡ map Some asking → agents_at agents d asking ≡ agents_at (agents_at agents no_agent order) d rows
asking-at agents d order [] [] within e = refl
asking-at agents d order [] (r ∷ rows) within e = absurd (let none : slice_get order r ∷ map (slice_get order) rows ≡ [] = e in cc)
asking-at agents d order (p ∷ asking) [] within e = absurd (let none : [] ≡ Some p ∷ map Some asking = e in cc)
asking-at agents d order (p ∷ asking) (r ∷ rows) within e =
    let both : slice_get order r ∷ map (slice_get order) rows ≡ Some p ∷ map Some asking = e in
    let here : slice_get order r ≡ Some p = cc in
    let rest : map (slice_get order) rows ≡ map Some asking = cc in
    let low : r < length order = slice_get_within order r p here in
    let at : get_or order r p ≡ p = get_or_from_slice_get order r p p here in
    let inside : p < length agents = subst (λ n. n < length agents) at (within r p low) in
    let same : get_or agents p d ≡ get_or (agents_at agents no_agent order) r d =
    get_or_default agents p d no_agent inside
    ∙ ap (λ n. get_or agents n no_agent) (sym at)
    ∙ sym (got-mapped (λ n. get_or agents n no_agent) order r p d low) in
    ap₂ (λ a l. a ∷ l) same (asking-at agents d order asking rows within rest)
