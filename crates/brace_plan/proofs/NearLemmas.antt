-- Places of a list among which are those of all agents that a loop takes.
use Rattle.std.proofs.Common.{◌≡◌, ◌∙◌, sym, refl, ap, ap₂, subst, fold, ℕ, zero, suc, ◌+◌, ◌<◌, ℤ, pos, ◌≤ℤ◌, List, [], ◌∷◌, ◌++◌, length, map, filter, get_or, drop, Bool, true, false, ◌&&◌, cond, Option, Some, None, All, arith}
use Rattle.std.specs.Prelude.{int_le, slice_get, option_map, unwrap_or, is_some, not, ◌==◌}
use Rattle.std.specs.List.{list_all, range_with_len}
use Rattle.std.specs.Int.{int_max}
use Rattle.std.proofs.lemmas.Bool.{and_parts, and_from}
use Rattle.std.proofs.lemmas.List.{get_or-map, length-map, at_drop_more}
use Rattle.std.proofs.lemmas.List.Elements.{All-filter, filter_passes}
use Rattle.std.proofs.lemmas.List.FromFn.{map-range_with_len_more, get_or-range_with_len, length-range_with_len}
use Rattle.std.proofs.lemmas.List.Folds.{fold-map}
use Rattle.std.proofs.lemmas.Int.{ints, fold-int_max_bounds}
use Rattle.brace_num.specs.declared.kinds.Area.{Area}
use Rattle.brace_num.proofs.Lists.{All-place}
use Rattle.brace_model.specs.declared.program.Class.{Class}
use Rattle.brace_model.specs.declared.program.Program.{Program}
use Rattle.brace_model.specs.declared.world.Agent.{Agent}
use Rattle.brace_model.specs.World.{class_of, x_of, y_of, is_within, reaches_to, sees}
use Rattle.brace_model.specs.Value.{Scope}
use Rattle.brace_grid.specs.Grids.{Point, OnGrid, place_of, place_at, is_between, is_inside, origin}
use Rattle.brace_grid.specs.Grids as grids
use Rattle.brace_plan.specs.declared.action.Bound.{Bound}
use Rattle.brace_plan.specs.declared.seat.Scene.{Scene}
use Rattle.brace_plan.specs.Answers.{greatest_visible}
use Rattle.brace_plan.specs.inner.Walks.{IsScene, IsPartOf, HoldsTaken, AreWithin, HaveTaken, IsInSight, is_taken, agents_at}

-- ---- areas

-- a point stays in an area whose ends are moved so that it stays between them
pub stays_inside : (large small : Area) (p : Point)
    → (int_le large.x0 p.x ≡ true → int_le small.x0 p.x ≡ true) → (int_le p.x large.x1 ≡ true → int_le p.x small.x1 ≡ true)
    → (int_le large.y0 p.y ≡ true → int_le small.y0 p.y ≡ true) → (int_le p.y large.y1 ≡ true → int_le p.y small.y1 ≡ true)
    → is_inside large p ≡ true → is_inside small p ≡ true
stays_inside large small p x0 x1 y0 y1 h =
    let both = and_parts _ _ h in
    let x = and_parts _ _ both.0 in
    let y = and_parts _ _ both.1 in
    and_from _ _ (and_from _ _ (x0 x.0) (x1 x.1)) (and_from _ _ (y0 y.0) (y1 y.1))

-- a part of a part is a part
pub part-part : (a b c : Area) → IsPartOf a b → IsPartOf b c → IsPartOf a c
part-part a b c h k = record {
  x0 = omega (arith, ints, h.x0, k.x0);
  x1 = omega (arith, ints, h.x1, k.x1);
  y0 = omega (arith, ints, h.y0, k.y0);
  y1 = omega (arith, ints, h.y1, k.y1);
}

-- what is in a part is in the whole
pub part_inside : (large small : Area) (p : Point) → IsPartOf small large → is_inside small p ≡ true → is_inside large p ≡ true
part_inside large small p part h =
    stays_inside small large p (below large.x0 small.x0 p.x part.x0) (above small.x1 large.x1 p.x part.x1)
    (below large.y0 small.y0 p.y part.y0) (above small.y1 large.y1 p.y part.y1) h
  where
    below : (a b v : ℤ) → a ≤ℤ b → int_le b v ≡ true → int_le a v ≡ true
    below a b v low h = grind (arith, ints, low, h)

    above : (a b v : ℤ) → a ≤ℤ b → int_le v a ≡ true → int_le v b ≡ true
    above a b v low h = grind (arith, ints, low, h)

-- where an agent that is seen stands
pub seen_inside : (program : Program) (a b : Agent) (c : Class) (area : Area) → class_of program a ≡ Some c
    → ((v : ℤ) → is_within c.visible (x_of c a) v ≡ true → is_between area.x0 area.x1 v ≡ true)
    → ((v : ℤ) → is_within c.visible (y_of c a) v ≡ true → is_between area.y0 area.y1 v ≡ true)
    → sees program a b ≡ true → is_inside area (place_of program b) ≡ true
seen_inside program a b c area class x y h =
    at (class_of program b) refl (subst (λ o. reaches_to o (class_of program b) a b ≡ true) class (and_parts _ _ h).1)
  where
    at : (o : Option Class) → class_of program b ≡ o → reaches_to (Some c) (class_of program b) a b ≡ true
        → is_inside area (place_of program b) ≡ true
    at (Some d) is r =
        let reached = and_parts _ _ (subst (λ o. reaches_to (Some c) o a b ≡ true) is r) in
        rw is (and_from _ _ (x _ reached.0) (y _ reached.1))
    at None is r = absurd (let no : false ≡ true = subst (λ o. reaches_to (Some c) o a b ≡ true) is r in cc)

-- an agent that stands in sight along both axes is seen, but for the one that looks
pub in_sight : (program : Program) (a b : Agent) (c : Class) (area : Area) → class_of program a ≡ Some c
    → ((v : ℤ) → is_between area.x0 area.x1 v ≡ true → is_within c.visible (x_of c a) v ≡ true)
    → ((v : ℤ) → is_between area.y0 area.y1 v ≡ true → is_within c.visible (y_of c a) v ≡ true)
    → is_inside area (place_of program b) ≡ true → sees program a b ≡ (not (a.id == b.id) && is_some (class_of program b))
in_sight program a b c area class x y h =
    ap (λ r. not (a.id == b.id) && r) (ap (λ o. reaches_to o (class_of program b) a b) class ∙ at (class_of program b) refl)
  where
    at : (o : Option Class) → class_of program b ≡ o → reaches_to (Some c) (class_of program b) a b ≡ is_some (class_of program b)
    at (Some d) is =
        let there = and_parts _ _ (subst (λ o. is_inside area (unwrap_or (option_map (λ k. record { x = x_of k b; y = y_of k b }) o) origin) ≡ true) is h) in
        rw is (and_from _ _ (x _ there.0) (y _ there.1))
    at None is = rw is refl

-- a class sees as far as the farthest at most
pub visible-most : (program : Program) (number : ℕ) (c : Class) → slice_get program.classes number ≡ Some c
    → c.visible ≤ℤ greatest_visible program
visible-most program number c is =
    let most = fold-map int_max (λ (k : Class). k.visible) (pos 0) program.classes in
    let all = (fold-int_max_bounds (pos 0) (map (λ (k : Class). k.visible) program.classes) _ refl).1 in
    subst (λ v. c.visible ≤ℤ v) most
    (All-place (λ v. v ≤ℤ fold int_max (pos 0) (map (λ (k : Class). k.visible) program.classes)) _ number c.visible all
    (slice_get-map program.classes number is))
  where
    slice_get-map : (cs : List Class) (i : ℕ) → slice_get cs i ≡ Some c → slice_get (map (λ (k : Class). k.visible) cs) i ≡ Some c.visible
    slice_get-map [] i e = absurd (cc)
    slice_get-map (k ∷ cs) zero e = ap (option_map (λ (k : Class). k.visible)) e
    slice_get-map (k ∷ cs) (suc i) e = slice_get-map cs i e

-- ---- places

nought : (i : ℕ) → 0 + i ≡ i
nought i = omega arith

-- numbers up to a length
pub range-below : (n : ℕ) → All (λ i. i < n) (range_with_len 0 n)
range-below n k d low =
    let less : k < n = subst (λ m. k < m) (length-range_with_len 0 n) low in
    subst (λ i. i < n) (sym (get_or-range_with_len 0 n k d less ∙ nought k)) less

-- one number more
pub range-more : (n : ℕ) → range_with_len 0 (n + 1) ≡ range_with_len 0 n ++ n ∷ []
range-more n =
    sym (map-id (range_with_len 0 (n + 1))) ∙ map-range_with_len_more (λ i. i) 0 n n (omega arith)
    ∙ ap (λ (l : List ℕ). l ++ n ∷ []) (map-id (range_with_len 0 n))
  where
    map-id : (xs : List ℕ) → map (λ i. i) xs ≡ xs
    map-id [] = refl
    map-id (x ∷ xs) = ap (λ ys. x ∷ ys) (map-id xs)

-- a bound and those behind it
pub next-bound : (p : Bound → Bool) (items xs : List Bound) (i : ℕ) (d : Bound) → items ≡ xs → i < length items
    → list_all p (drop i xs) ≡ (p (get_or items i d) && list_all p (drop (i + 1) xs))
next-bound p items xs i d same low =
    at_drop_more (list_all p) xs i d (subst (λ (l : List Bound). i < length l) same low)
    ∙ ap (λ (l : List Bound). p (get_or l i d) && list_all p (drop (i + 1) xs)) (sym same)

cond-case : (P : Bool → Type 0) (b : Bool) → (b ≡ true → P true) → (b ≡ false → P false) → P b
cond-case P true f g = f refl
cond-case P false f g = g refl

-- what passes a test that holds of all that is wanted is enough
kept-enough : (p : Agent → Bool) (f : ℕ → Bool) (w : ℕ → Agent) (n : ℕ) → ((i : ℕ) → i < n → p (w i) ≡ true → f i ≡ true)
    → (is : List ℕ) → All (λ i. i < n) is → filter p (map w (filter f is)) ≡ filter p (map w is)
kept-enough p f w n holds [] all = refl
kept-enough p f w n holds (i ∷ is) all =
    let rest : filter p (map w (filter f is)) ≡ filter p (map w is) =
    kept-enough p f w n holds is (λ k d low. all (suc k) d (omega (arith, low))) in
    let first : i < n = all 0 i (omega arith) in
    cond-case (λ b. f i ≡ b → filter p (map w (cond b (i ∷ filter f is) (filter f is))) ≡ filter p (map w (i ∷ is))) (f i)
    (λ e e2. ap (λ ys. cond (p (w i)) (w i ∷ ys) ys) rest)
    (λ e e2. rest ∙ sym (left-out (p (w i)) refl e)) refl
  where
    left-out : (b : Bool) → p (w i) ≡ b → f i ≡ false → cond (p (w i)) (w i ∷ filter p (map w is)) (filter p (map w is)) ≡ filter p (map w is)
    left-out true e none = absurd (let no : f i ≡ true = holds i (all 0 i (omega arith)) e in cc)
    left-out false e none = rw e refl

-- the items at all places of a list
all-places : (xs : List Agent) (d : Agent) (a : ℕ) (get : ℕ → Agent) → ((i : ℕ) → get (a + i) ≡ get_or xs i d)
    → map get (range_with_len a (length xs)) ≡ xs
all-places [] d a get same = refl
all-places (x ∷ xs) d a get same =
    let here : a ≡ a + 0 = omega arith in
    let next : (i : ℕ) → (a + 1) + i ≡ a + suc i = λ i. omega arith in
    ap₂ (λ (y : Agent) ys. y ∷ ys) (ap get here ∙ same 0) (all-places xs d (a + 1) get (λ i. ap get (next i) ∙ same (suc i)))

pub places-enough : (p : Agent → Bool) (f : ℕ → Bool) (world : List Agent) (d : Agent)
    → ((i : ℕ) → i < length world → p (get_or world i d) ≡ true → f i ≡ true)
    → filter p (map (λ i. get_or world i d) (filter f (range_with_len 0 (length world)))) ≡ filter p world
places-enough p f world d holds =
    kept-enough p f (λ i. get_or world i d) (length world) holds (range_with_len 0 (length world)) (range-below (length world))
    ∙ ap (filter p) (all-places world d 0 (λ i. get_or world i d) (λ i. ap (λ k. get_or world k d) (nought i)))

module _ (scene : Scene) where
  -- the places in an area, by the agents
  places-inside : IsScene scene → (area : Area) → grids.inside area scene.grid.now.places
      ≡ filter (λ i. is_inside area (place_at (map (place_of scene.program.now) scene.agents.now) i)) (range_with_len 0 (length scene.agents.now))
  places-inside stands area =
      let agents = scene.agents.now in
      let program = scene.program.now in
      ap (λ (g : OnGrid). grids.inside area g.places) stands.grid
      ∙ ap (λ n. filter (λ i. is_inside area (place_at (map (place_of program) agents) i)) (range_with_len 0 n)) (length-map agents (place_of program))

  pub inside-within : IsScene scene → (area : Area) → AreWithin scene (grids.inside area scene.grid.now.places)
  inside-within stands area =
      let agents = scene.agents.now in
      subst (AreWithin scene) (sym (places-inside stands area))
      (All-filter _ (λ i. i < length agents) (range_with_len 0 (length agents)) (range-below (length agents)))

  pub inside-sight : IsScene scene → (area : Area) (a d : Agent)
      → ((b : Agent) → is_inside area (place_of scene.program.now b) ≡ true → IsInSight scene a b)
      → All (λ i. IsInSight scene a (get_or scene.agents.now i d)) (grids.inside area scene.grid.now.places)
  inside-sight stands area a d holds =
      let agents = scene.agents.now in
      let program = scene.program.now in
      let t : ℕ → Bool = λ i. is_inside area (place_at (map (place_of program) agents) i) in
      let rows = range_with_len 0 (length agents) in
      subst (All (λ i. IsInSight scene a (get_or agents i d))) (sym (places-inside stands area))
      (λ k e low.
      let i = get_or (filter t rows) k e in
      let small : i < length agents = All-filter t (λ i. i < length agents) rows (range-below (length agents)) k e low in
      let there : t i ≡ true = filter_passes t rows k e low in
      holds (get_or agents i d) (subst (λ p. is_inside area p ≡ true) (get_or-map (place_of program) agents i d origin small) there))

  pub all-within : AreWithin scene (range_with_len 0 (length scene.agents.now))
  all-within = range-below (length scene.agents.now)

  module _ (scope : Scope) (class : ℕ) (bounds : List Bound) where
    pub all-taken : HaveTaken scene scope class bounds (range_with_len 0 (length scene.agents.now))
    all-taken d =
        ap (filter (is_taken scene scope class bounds)) (all-places scene.agents.now d 0 (λ i. get_or scene.agents.now i d) (λ i. ap (λ k. get_or scene.agents.now k d) (nought i)))

    pub inside-taken : IsScene scene → (area : Area) → HoldsTaken scene scope bounds area
        → HaveTaken scene scope class bounds (grids.inside area scene.grid.now.places)
    inside-taken stands area holds d =
        let agents = scene.agents.now in
        let program = scene.program.now in
        ap (λ is. filter (is_taken scene scope class bounds) (agents_at scene d is)) (places-inside stands area)
        ∙ places-enough (is_taken scene scope class bounds) (λ i. is_inside area (place_at (map (place_of program) agents) i)) agents d
        (λ i low h.
        let parts = and_parts _ _ h in
        subst (λ p. is_inside area p ≡ true) (sym (get_or-map (place_of program) agents i d origin low))
        (holds (get_or agents i d) (and_parts _ _ parts.0).1 parts.1))
