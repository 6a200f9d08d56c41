-- What an eye finds are the agents that a loop takes.
use Rattle.std.proofs.Common.{◌≡◌, ◌∙◌, ℕ, suc, ◌<◌, ℤ, pos, ◌≤ℤ◌, Bool, true, false, cond, not, ◌&&◌, List, [], ◌∷◌, length, map, filter, get_or, slice_get, Option, Some, None, refl, sym, ap, ap₂, arith, subst, ⊎_elim}
use Rattle.std.specs.Prelude.{◌==◌, nat_eq, is_some, option_map, unwrap_or}
use Rattle.std.specs.List.{AllPairs, list_all}
use Rattle.std.specs.List.Sorted.{IsPermutation}
use Rattle.std.proofs.lemmas.Bool.{cases_order, eq-eqb, ne_eqb}
use Rattle.std.proofs.lemmas.Int.{ints}
use Rattle.std.proofs.lemmas.List.Sorted.{IsPermutation-refl}
use Rattle.std.proofs.lemmas.Option.{get_or_from_slice_get, slice_get-get_or, slice_get_within}
use Rattle.brace_num.proofs.Lists.{filter_twice}
use Rattle.brace_num.proofs.Numbers.{eq_swap}
use Rattle.brace_num.proofs.Orders.{distinct_moved, pairs_differ, rises_by_keys, rising_differ}
use Rattle.brace_model.specs.declared.program.Class.{Class}
use Rattle.brace_model.specs.declared.program.Program.{Program}
use Rattle.brace_model.specs.declared.world.Agent.{Agent}
use Rattle.brace_model.specs.World.{RisesById, class_of, is_within, reaches_to, sees, x_of, y_of}
use Rattle.brace_model.specs.Value.{Scope}
use Rattle.brace_grid.specs.Grids.{Point, origin, place_of}
use Rattle.brace_plan.specs.declared.action.Axis.{Axis}
use Rattle.brace_plan.specs.declared.action.Axis.TheVariants.{X, Y}
use Rattle.brace_plan.specs.declared.action.Bound.{Bound}
use Rattle.brace_plan.specs.Acts.{coordinate, limit_in, meets, near_by, stands}
use Rattle.brace_plan.proofs.NearLemmas.{visible-most}
use Rattle.brace_code.specs.declared.lane.Lane.{Lane}
use Rattle.brace_fold.specs.declared.cells.Cells.{Cells}
use Rattle.brace_fold.specs.declared.cells.Runs.{Runs}
use Rattle.brace_fold.specs.declared.cells.Spot.{Spot}
use Rattle.brace_fold.specs.declared.crowd.Crowd.{Crowd}
use Rattle.brace_fold.specs.declared.scene.Scene.{Scene}
use Rattle.brace_fold.specs.declared.seeing.Eye.{Eye}
use Rattle.brace_fold.specs.inner.Crowds.{IsIn, IsScene, rows, world}
use Rattle.brace_fold.specs.inner.Sights.{AreCells, IsAround, IsEye, cell_number, cut_in, found_around, is_found, meets_cut, spot_of}
use Rattle.brace_fold.proofs.Counting.{all_found}
use Rattle.brace_fold.proofs.Risings.{around_rises}

-- tests in another order
regroup : (a x y n m : Bool) → (((a && x) && y) && (n && m)) ≡ ((a && (n && (x && y))) && m)
regroup false x y n m = refl
regroup true false y true m = refl
regroup true false y false m = refl
regroup true true false true m = refl
regroup true true false false m = refl
regroup true true true true m = refl
regroup true true true false m = refl

pub by_some : {A P : Type 0} (o : Option A) → is_some o ≡ true → ((x : A) → o ≡ Some x → P) → P
by_some None h f = absurd (cc)
by_some (Some x) h f = f x refl

-- where an agent of a class stands
pub place_is : (program : Program) (b : Agent) (d : Class) → class_of program b ≡ Some d
    → place_of program b ≡ record { x = x_of d b; y = y_of d b }
place_is program b d has =
    ap (λ o. unwrap_or (option_map (λ c. record { x = x_of c b; y = y_of c b }) o) origin) has

-- a spot meets the cuts of bounds where its point meets the bounds
cuts_meet : (scope : Scope) (p : Point) (s : Spot) (bounds : List Bound) → s.x ≡ p.x → s.y ≡ p.y
    → list_all (meets_cut s) (map (cut_in scope) bounds) ≡ list_all (meets scope p) bounds
cuts_meet scope p s [] x y = refl
cuts_meet scope p s (bound ∷ bounds) x y =
    ap₂ (λ b c. b && c) (ap (stands bound.side (limit_in scope bound.limit)) (along bound.axis))
    (cuts_meet scope p s bounds x y)
  where
    along : (axis : Axis) → coordinate axis (record { x = s.x; y = s.y }) ≡ coordinate axis p
    along X = x
    along Y = y

-- the agents at the places of spots that pass a test, where these are those that pass another one
picks : (all agents : List Agent) (spots : List Spot) (t : Spot → Bool) (u : Agent → Bool)
    → length spots ≡ length agents
    → ((i : ℕ) (s : Spot) (b : Agent) → i < length agents → slice_get all (get_or spots i s).place
    ≡ Some (get_or agents i b))
    → ((i : ℕ) (s : Spot) (b : Agent) → i < length agents → t (get_or spots i s)
    ≡ u (get_or agents i b))
    → map (slice_get all) (map (λ s. s.place) (filter t spots))
    ≡ map (λ b. Some b) (filter u agents)
picks all [] [] t u long there same = refl
picks all [] (s ∷ spots) t u long there same = absurd (omega (arith, long))
picks all (b ∷ agents) [] t u long there same = absurd (omega (arith, long))
picks all (b ∷ agents) (s ∷ spots) t u long there same =
    step (t s) (u b) (same 0 s b (omega arith)) (there 0 s b (omega arith))
    (picks all agents spots t u (omega (arith, long))
    (λ i r c low. there (suc i) r c (omega (arith, low)))
    (λ i r c low. same (suc i) r c (omega (arith, low))))
  where
    step : (p q : Bool) → p ≡ q → slice_get all s.place ≡ Some b
        → map (slice_get all) (map (λ s. s.place) (filter t spots))
        ≡ map (λ b. Some b) (filter u agents)
        → map (slice_get all) (map (λ s. s.place) (cond p (s ∷ filter t spots) (filter t spots)))
        ≡ map (λ b. Some b) (cond q (b ∷ filter u agents) (filter u agents))
    step true true e here rest = ap₂ (λ o l. o ∷ l) here rest
    step false false e here rest = rest
    step true false e here rest = absurd (cc)
    step false true e here rest = absurd (cc)

-- the ids of agents differ
abbrev pub AreApart : List Agent → Type 0
AreApart agents = AllPairs (λ (a b : Agent). nat_eq a.id b.id ≡ false) agents

-- agents whose ids rise have different ids in any order
pub apart_moved : (agents rows : List Agent) → RisesById agents → IsPermutation agents rows
    → AreApart rows
apart_moved agents rows rises moved =
    let id : Agent → ℕ = λ a. a.id in
    pairs_differ id rows (distinct_moved id agents rows moved
    (rising_differ id agents (rises_by_keys id agents rises)))

-- agents have one id where they have one place
same_place : (agents : List Agent) (i j : ℕ) (d : Agent) → AreApart agents → i < length agents
    → j < length agents → (i == j) ≡ ((get_or agents j d).id == (get_or agents i d).id)
same_place agents i j d apart low high =
    ⊎_elim
    (λ (e : i ≡ j). eq-eqb i j e
    ∙ sym (eq-eqb _ _ (ap (λ k. (get_or agents k d).id) (sym e))))
    (λ other. ⊎_elim
    (λ (less : i < j). ne_eqb i j (λ e. omega (arith, e, less))
    ∙ sym (eq_swap (get_or agents j d).id (get_or agents i d).id ∙ apart i j d less high))
    (λ (more : j < i). ne_eqb i j (λ e. omega (arith, e, more)) ∙ sym (apart j i d more low))
    other)
    (cases_order i j)

module _ (program : Program) (scope : Scope) (class place : ℕ) (bounds : List Bound) (eye : Eye)
    (looks : IsEye program place scope.this class eye) where
  -- an agent is one of a class that `this` sees, and it meets all bounds
  abbrev is_taken : Agent → Bool
  is_taken b = ((b.class == class) && sees program scope.this b)
      && list_all (meets scope (place_of program b)) bounds

  -- the eye finds the spot of an agent that the loop takes
  finds : (side : ℤ) (i : ℕ) (b : Agent) (d : Class) → class_of program b ≡ Some d
      → (i == place) ≡ (scope.this.id == b.id)
      → is_found eye (map (cut_in scope) bounds) (spot_of program side i b) ≡ is_taken b
  finds side i b d has same =
      let a = scope.this in
      let p = place_of program b in
      let at = place_is program b d has in
      let x : is_within (pos eye.range) eye.x p.x ≡ is_within looks.own.visible (x_of looks.own a)
      (x_of d b) =
      ap₂ (λ r v. is_within r v p.x) looks.range looks.x
      ∙ ap (λ (z : Point). is_within looks.own.visible (x_of looks.own a) z.x) at in
      let y : is_within (pos eye.range) eye.y p.y ≡ is_within looks.own.visible (y_of looks.own a)
      (y_of d b) =
      ap₂ (λ r v. is_within r v p.y) looks.range looks.y
      ∙ ap (λ (z : Point). is_within looks.own.visible (y_of looks.own a) z.y) at in
      let reaches : (is_within (pos eye.range) eye.x p.x && is_within (pos eye.range) eye.y p.y)
      ≡ reaches_to (class_of program a) (class_of program b) a b =
      ap₂ (λ v w. v && w) x y ∙ sym (ap₂ (λ o r. reaches_to o r a b) looks.has has) in
      let other : not (i == eye.place) ≡ not (a.id == b.id) =
      ap (λ k. not (i == k)) looks.at ∙ ap not same in
      let cuts : list_all (meets_cut (spot_of program side i b)) (map (cut_in scope) bounds)
      ≡ list_all (meets scope p) bounds =
      cuts_meet scope p (spot_of program side i b) bounds refl refl in
      regroup (b.class == eye.class) (is_within (pos eye.range) eye.x p.x)
      (is_within (pos eye.range) eye.y p.y) (not (i == eye.place))
      (list_all (meets_cut (spot_of program side i b)) (map (cut_in scope) bounds))
      ∙ ap₂ (λ v w. v && w)
      (ap₂ (λ v w. v && w) (ap (λ k. b.class == k) looks.sought)
      (ap₂ (λ v w. v && w) other reaches)) cuts

  module _ (agents : List Agent) (cells : Cells) (are : AreCells program agents cells)
      (apart : AreApart agents) (this : slice_get agents place ≡ Some scope.this) where
    here : place < length agents
    here = slice_get_within agents place scope.this this

    spot_there : (i : ℕ) (s : Spot) (b : Agent) → i < length agents
        → get_or cells.spots.items i s ≡ spot_of program are.side i (get_or agents i b)
    spot_there = are.theirs.each

    finds_there : (i : ℕ) (s : Spot) (b : Agent) → i < length agents
        → is_found eye (map (cut_in scope) bounds) (get_or cells.spots.items i s)
        ≡ is_taken (get_or agents i b)
    finds_there i s b low =
        let a : get_or agents place b ≡ scope.this =
        get_or_from_slice_get agents place scope.this b this in
        ap (is_found eye (map (cut_in scope) bounds)) (spot_there i s b low)
        ∙ by_some (class_of program (get_or agents i b)) (are.theirs.known i b low)
        (λ d has. finds are.side i (get_or agents i b) d has
        (same_place agents i place b apart low here
        ∙ ap (λ (c : Agent). c.id == (get_or agents i b).id) a))

    agent_there : (i : ℕ) (s : Spot) (b : Agent) → i < length agents
        → slice_get agents (get_or cells.spots.items i s).place ≡ Some (get_or agents i b)
    agent_there i s b low =
        ap (λ (r : Spot). slice_get agents r.place) (spot_there i s b low)
        ∙ slice_get-get_or agents i b low

    -- the eye's spot
    abbrev pub eye_spot : Spot
    eye_spot = spot_of program are.side place scope.this

    pub eye_stands : slice_get cells.spots.items place ≡ Some eye_spot
    eye_stands =
        let a : get_or agents place scope.this ≡ scope.this =
        get_or_from_slice_get agents place scope.this scope.this this in
        slice_get-get_or cells.spots.items place eye_spot (omega (arith, here, are.theirs.long))
        ∙ ap (λ (s : Spot). Some s)
        (spot_there place eye_spot scope.this here ∙ ap (spot_of program are.side place) a)

    -- the number of the eye's cell
    pub eye_cell : eye_spot.cell ≡ cell_number are.side eye.x eye.y
    eye_cell =
        ap (λ (z : Point). cell_number are.side z.x z.y) (place_is program scope.this looks.own looks.has)
        ∙ sym (ap₂ (cell_number are.side) looks.x looks.y)

    -- what is found around the eye is all that the loop takes
    pub near_is : (runs : Runs) → IsAround cells (cell_number are.side eye.x eye.y) runs
        → map (slice_get agents)
        (found_around eye (map (cut_in scope) bounds) cells.spots.items runs)
        ≡ map (λ b. Some b) (near_by program agents scope class bounds)
    near_is runs around =
        let cuts = map (cut_in scope) bounds in
        let near = found_around eye cuts cells.spots.items runs in
        let wide : pos eye.range ≤ℤ are.side =
        omega (
          arith,
          ints,
          looks.range,
          visible-most program scope.this.class looks.own
              looks.has,
          are.wide,
        ) in
        ap (map (slice_get agents))
        (all_found program agents cells are eye cuts wide runs around near
        (IsPermutation-refl near)
        (around_rises program agents cells are eye cuts (cell_number are.side eye.x eye.y) runs around))
        ∙ picks agents agents cells.spots.items (is_found eye (map (cut_in scope) bounds)) is_taken
        are.theirs.long agent_there finds_there
        ∙ ap (map (λ b. Some b))
        (sym (filter_twice (λ b. list_all (meets scope (place_of program b)) bounds)
        (λ b. (b.class == class) && sees program scope.this b) agents))

-- what is found around an agent are those that the loop takes in its lane
pub takes_near : (scene : Scene) (crowd : Crowd) (lane : Lane) (scope : Scope) (class : ℕ)
    (bounds : List Bound) (eye : Eye) (runs : Runs) → IsScene scene → IsIn scene crowd lane scope
    → IsEye scene.program.now lane.this scope.this class eye
    → ((spot : Spot) → slice_get scene.cells.now.spots.items lane.this ≡ Some spot
    → IsAround scene.cells.now spot.cell runs)
    → map (slice_get (rows scene))
    (found_around eye (map (cut_in scope) bounds) scene.cells.now.spots.items runs)
    ≡ map (λ b. Some b) (near_by scene.program.now (rows scene) scope class bounds)
takes_near scene crowd lane scope class bounds eye runs is stands looks around =
    let program = scene.program.now in
    let agents = rows scene in
    let cells = scene.cells.now in
    let this = stands.stands.this in
    let apart = apart_moved (world scene) agents is.rises is.moved in
    let stand =
    eye_stands program scope class lane.this bounds eye looks agents cells is.cells apart this in
    let cell =
    eye_cell program scope class lane.this bounds eye looks agents cells is.cells apart this in
    near_is program scope class lane.this bounds eye looks agents cells is.cells apart this runs
    (subst (λ n. IsAround cells n runs) cell (around _ stand))
