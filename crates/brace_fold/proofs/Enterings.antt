-- Lanes of a loop, at the agents that it takes.
use Rattle.std.proofs.Common.{◌≡◌, ◌∙◌, refl, sym, ap, ap₂, subst, ℕ, ◌+◌, ◌-◌, ◌*◌, ◌<◌, ◌≤◌, List, [], ◌∷◌, ◌++◌, append-nil, append_assoc, map, flat_map, length, take, drop, get_or, Bool, true, false, Option, Some, None, arith, slice_get, ⊎_elim}
use Rattle.std.specs.Prelude.{is_none, if◌then◌else◌, replicate}
use Rattle.std.proofs.lemmas.Bool.{cases_lt}
use Rattle.std.proofs.lemmas.Grind.{flat_map-append}
use Rattle.std.proofs.lemmas.List.{get_or_append_left, get_or-append_right, get_or_default, get_or-drop, get_or-map, get_or-replicate, get_or-take, length-append, length-drop, length-map, length-replicate, length-take-le, map-append, replicate-append-replicate, take_all, take_at, take_more}
use Rattle.std.proofs.lemmas.List.FromFn.{fill_by_all}
use Rattle.std.proofs.lemmas.Option.{get_or_from_slice_get, slice_get_within}
use Rattle.brace_model.specs.declared.world.Agent.{Agent}
use Rattle.brace_model.specs.World.{number, value_at}
use Rattle.brace_model.specs.Value.{Scope}
use Rattle.brace_model.specs.Query.{inside}
use Rattle.brace_code.specs.declared.lane.Lane.{Lane}
use Rattle.brace_code.specs.declared.lanes.Rows.{Rows}
use Rattle.brace_code.specs.declared.lanes.Rows.TheVariants.{Each, Same}
use Rattle.brace_code.specs.Columns.{no_lane}
use Rattle.brace_code.specs.RowLists.{lane_in, lanes_of, row_in}
use Rattle.brace_code.proofs.RowLemmas.{lane_at, long as rows_long}
use Rattle.brace_plan.specs.declared.action.Bound.{Bound}
use Rattle.brace_plan.specs.Acts.{near_by}
use Rattle.brace_fold.specs.declared.crowd.Crowd.{Crowd}
use Rattle.brace_fold.specs.declared.crowd.Depth.{Depth}
use Rattle.brace_fold.specs.declared.crowd.Stretch.{Stretch}
use Rattle.brace_fold.specs.declared.crowd.Depth.TheVariants.{Outside, Once, Twice}
use Rattle.brace_fold.specs.declared.gathering.Entered.{Entered}
use Rattle.brace_fold.specs.declared.scene.Scene.{Scene}
use Rattle.brace_fold.specs.inner.Crowds.{AreOf, IsIn, IsLane, IsOf, Stands, deeper, entered, has_outer, lanes_inside, rows, spread}
use Rattle.brace_fold.specs.inner.Deeds.{between, into}
use Rattle.brace_fold.proofs.Crowdings.{of-append}
use Rattle.brace_fold.proofs.Sayings.{nowhere}

-- a lane of a crowd stands for its scope there
pub stands-in : (scene : Scene) (crowd : Crowd) (scopes : List Scope) (k : ℕ) (lane : Lane) (s : Scope) → Stands scene crowd scopes → k < length scopes
    → lane ≡ get_or crowd.lanes k lane → IsIn scene crowd lane (get_or scopes k s)
stands-in scene crowd scopes k lane s stands low is =
    let at : lane.place ≡ k = ap (λ (l : Lane). l.place) is ∙ stands.numbered k lane low in
    record {
      stands = subst (λ (l : Lane). IsLane scene crowd.depth l (get_or scopes k s)) (sym is) (stands.lanes k lane s low);
      locals = λ n column got inside.
          (stands.locals n column got).each lane.place s inside
          ∙ ap (λ i. number (value_at (get_or scopes i s).locals n)) at;
    }

-- a lane inside a loop stands for a scope inside it
entered-lane : (scene : Scene) (depth : Depth) (lane : Lane) (place : ℕ) (s : Scope) (b : Agent) → IsLane scene depth lane s
    → slice_get (rows scene) place ≡ Some b → IsLane scene (deeper depth) (entered depth lane place) (inside s b)
entered-lane scene Outside lane place s b h got =
    let empty : s.outer ≡ None = h.outer in
    subst (λ (t : Scope). IsLane scene Once (entered Outside lane place) t)
    (sym (ap (λ (o : Option Agent). if is_none o then record s { outer = Some b } else record s { inner = Some b }) empty))
    (record { tick = h.tick; seed = h.seed; this = h.this; outer = (b, refl, got); inner = h.inner; totals = h.totals })
entered-lane scene _ lane place s b h got =
    let taken : s.outer ≡ Some h.outer.0 = h.outer.1 in
    subst (λ (t : Scope). IsLane scene Twice (record lane { inner = place }) t)
    (sym (ap (λ (o : Option Agent). if is_none o then record s { outer = Some b } else record s { inner = Some b }) taken))
    (record { tick = h.tick; seed = h.seed; this = h.this; outer = h.outer; inner = (b, refl, got); totals = h.totals })

entered-place : (depth : Depth) (lane : Lane) (place : ℕ) → (entered depth lane place).place ≡ lane.place
entered-place Outside lane place = refl
entered-place _ lane place = refl

either-inside : (s : Scope) (b : Agent) (there : Bool)
    → (if there then record s { outer = Some b } else record s { inner = Some b }).locals ≡ s.locals
either-inside s b true = refl
either-inside s b false = refl

inside-locals : (s : Scope) (b : Agent) → (inside s b).locals ≡ s.locals
inside-locals s b = either-inside s b (is_none s.outer)

module _ (scene : Scene) (depth : Depth) (scopes : List Scope) (lane : Lane) (k : ℕ) (s : Scope) (h : IsLane scene depth lane (get_or scopes k s))
    (at : lane.place ≡ k) (low : k < length scopes) where
  entered-of : (place : ℕ) (b : Agent) → slice_get (rows scene) place ≡ Some b
      → IsOf scene (deeper depth) scopes (entered depth lane place) (inside (get_or scopes k s) b)
  entered-of place b got =
      let here = get_or scopes k s in
      let there : (entered depth lane place).place ≡ k = entered-place depth lane place ∙ at in
      record {
        stands = entered-lane scene depth lane place here b h got;
        within = subst (λ n. n < length scopes) (sym there) low;
        locals = inside-locals here b
            ∙ ap (λ (t : Scope). t.locals) (get_or_default scopes k s (inside here b) low)
            ∙ ap (λ n. (get_or scopes n (inside here b)).locals) (sym there);
      }

  pub entered-all : (near : List ℕ) (found : List Agent) → map (slice_get (rows scene)) near ≡ map Some found
      → AreOf scene (deeper depth) scopes (map (entered depth lane) near) (map (inside (get_or scopes k s)) found)
  entered-all [] [] e = tt
  entered-all [] (b ∷ found) e = absurd (let none : [] ≡ Some b ∷ map Some found = e in cc)
  entered-all (p ∷ near) [] e = absurd (let none : slice_get (rows scene) p ∷ map (slice_get (rows scene)) near ≡ [] = e in cc)
  entered-all (p ∷ near) (b ∷ found) e =
      let both : slice_get (rows scene) p ∷ map (slice_get (rows scene)) near ≡ Some b ∷ map Some found = e in
      let here : slice_get (rows scene) p ≡ Some b = cc in
      let rest : map (slice_get (rows scene)) near ≡ map Some found = cc in
      (entered-of p b here, entered-all near found rest)

-- the agent This of lanes inside a loop is that of the lane outside
all-this : (depth : Depth) (lane : Lane) (near : List ℕ)
    → map (λ (l : Lane). l.this) (map (entered depth lane) near) ≡ replicate (length near) lane.this
all-this depth lane [] = refl
all-this Outside lane (row ∷ near) = ap (λ l. lane.this ∷ l) (all-this Outside lane near)
all-this Once lane (row ∷ near) = ap (λ l. lane.this ∷ l) (all-this Once lane near)
all-this Twice lane (row ∷ near) = ap (λ l. lane.this ∷ l) (all-this Twice lane near)

-- a loop's step: one more stretch is that of the lanes that it adds
pub stretches-more : (depth : Depth) (lane : Lane) (old new : List Lane) (near : List ℕ) (n : ℕ)
    (before after : List Stretch)
    → spread before ≡ map (λ (l : Lane). l.this) old
    → spread after ≡ spread before ++ replicate n lane.this → length near ≡ n
    → new ≡ old ++ map (entered depth lane) near
    → spread after ≡ map (λ (l : Lane). l.this) new
stretches-more depth lane old new near n before after had is long new_is =
    let this : Lane → ℕ = λ l. l.this in
    is
    ∙ ap₂ (λ l (m : ℕ). l ++ replicate m lane.this) had (sym long)
    ∙ ap (λ l. map this old ++ l) (sym (all-this depth lane near))
    ∙ sym (map-append this old (map (entered depth lane) near))
    ∙ ap (map this) (sym new_is)

-- one more of the elements from a place on
pub between-more : {A : Type 0} (from next : ℕ) (xs : List A) (d : A) → from ≤ next → next < length xs
    → between from (next + 1) xs ≡ between from next xs ++ get_or xs next d ∷ []
between-more {A = A} from next xs d le low = ap (λ n. take n (drop from xs)) one ∙ by (next - from) (drop from xs) within ∙ ap (λ y. between from next xs ++ y ∷ []) at
  where
    one : next + 1 - from ≡ next - from + 1
    one = omega (arith, le)

    within : next - from < length (drop from xs)
    within = subst (λ n. next - from < n) (sym (length-drop from xs)) (omega (arith, le, low))

    at : get_or (drop from xs) (next - from) d ≡ get_or xs next d
    at = get_or-drop from xs (next - from) d ∙ ap (λ n. get_or xs n d) (let e : from + (next - from) ≡ next = omega (arith, le) in e)

    by : (n : ℕ) (ys : List A) → n < length ys → take (n + 1) ys ≡ take n ys ++ get_or ys n d ∷ []
    by n ys less = take_more ys n d less

between-none : {A : Type 0} (from : ℕ) (xs : List A) → between from from xs ≡ []
between-none {A = A} from xs = ap (λ n. take n (drop from xs)) (let e : from - from ≡ 0 = omega arith in e)

-- no lanes yet
pub enters-none : (scene : Scene) (depth : Depth) (scopes : List Scope) (class : ℕ)
    (bounds : List Bound) (from : ℕ) (lanes : List Lane) → lanes ≡ []
    → AreOf scene depth scopes lanes (flat_map (into scene class bounds) (between from from scopes))
enters-none scene depth scopes class bounds from lanes none =
    let kids : List Scope → List Scope = flat_map (into scene class bounds) in
    subst (λ (l : List Lane). AreOf scene depth scopes l (kids (between from from scopes)))
    (sym none)
    (subst (λ (l : List Scope). AreOf scene depth scopes [] (kids l))
    (sym (between-none from scopes)) tt)

-- a loop's step: the agents that it takes in one lane more
pub enters-more : (scene : Scene) (crowd : Crowd) (scopes : List Scope) (class : ℕ)
    (bounds : List Bound) (from next : ℕ) (lane : Lane)
    (lanes new : List Lane) (near passed : List ℕ) → Stands scene crowd scopes → from ≤ next
    → slice_get crowd.lanes next ≡ Some lane
    → ((s : Scope) → IsIn scene crowd lane s
    → map (slice_get (rows scene)) near ≡ map Some (near_by scene.program.now (rows scene) s class bounds))
    → passed ≡ near → new ≡ lanes ++ map (entered crowd.depth lane) passed
    → AreOf scene (deeper crowd.depth) scopes lanes (flat_map (into scene class bounds) (between from next scopes))
    → AreOf scene (deeper crowd.depth) scopes new (flat_map (into scene class bounds) (between from (next + 1) scopes))
enters-more scene crowd scopes class bounds from next lane lanes new near passed stands le got finds
    pass new_is before =
    let s = get_or scopes next nowhere in
    let enters = into scene class bounds in
    let within : next < length scopes =
    subst (λ n. next < n) stands.long (slice_get_within crowd.lanes next lane got) in
    let is : lane ≡ get_or crowd.lanes next lane =
    sym (get_or_from_slice_get crowd.lanes next lane lane got) in
    let h = stands-in scene crowd scopes next lane nowhere stands within is in
    let at : lane.place ≡ next = ap (λ (l : Lane). l.place) is ∙ stands.numbered next lane within in
    let here =
    entered-all scene crowd.depth scopes lane next nowhere h.stands at within near
    (near_by scene.program.now (rows scene) s class bounds) (finds s h) in
    let kids : flat_map enters (between from (next + 1) scopes) ≡ flat_map enters (between from next scopes) ++ enters s =
    ap (flat_map enters) (between-more from next scopes nowhere le within)
    ∙ flat_map-append enters (between from next scopes) (s ∷ [])
    ∙ ap (λ l. flat_map enters (between from next scopes) ++ l) (append-nil (enters s)) in
    let new_at : new ≡ lanes ++ map (entered crowd.depth lane) near =
    new_is ∙ ap (λ (l : List ℕ). lanes ++ map (entered crowd.depth lane) l) pass in
    subst (λ (l : List Lane). AreOf scene (deeper crowd.depth) scopes l (flat_map enters (between from (next + 1) scopes))) (sym new_at)
    (subst (AreOf scene (deeper crowd.depth) scopes (lanes ++ map (entered crowd.depth lane) near)) (sym kids)
    (of-append scene (deeper crowd.depth) scopes lanes (map (entered crowd.depth lane) near) (flat_map enters (between from next scopes)) (enters s) before here))

-- ---- lanes inside a loop by their rows

-- rows grew by those of more lanes
pub record Grows (count more : ℕ) (row : ℕ → ℕ) (old new : List ℕ) : Type 0 where
  pub front : (k : ℕ) → k < count → get_or new k 0 ≡ get_or old k 0
  pub back : (k : ℕ) → count ≤ k → k < count + more → get_or new k 0 ≡ row (k - count)

pub appended : (old more new : List ℕ) (count : ℕ) → new ≡ old ++ more → length old ≡ count
    → Grows count (length more) (λ j. get_or more j 0) old new
appended old more new count is had = record {
  front = λ k l. ap (λ r. get_or r k 0) is
      ∙ get_or_append_left old more 0 k (omega (arith, l, had));
  back = λ k l m. ap (λ r. get_or r k 0) is ∙ get_or-append_right old more count k 0 had l;
}

-- how long a list is that goes on with one row
pub grown_to : (old new : List ℕ) (count more row : ℕ) → new ≡ old ++ replicate more row
    → count ≡ length old + more → length new ≡ count
grown_to old new count more row is all =
    ap length is ∙ length-append old (replicate more row)
    ∙ ap (λ n. length old + n) (length-replicate more row) ∙ sym all

-- a list that goes on with one row, by four more of it
pub filled : (old before new : List ℕ) (row four : ℕ)
    → before ≡ old ++ replicate (4 * four) row → new ≡ before ++ replicate 4 row
    → new ≡ old ++ replicate (4 * (four + 1)) row
filled old before new row four is more =
    more ∙ ap (λ l. l ++ replicate 4 row) is
    ∙ append_assoc old (replicate (4 * four) row) (replicate 4 row)
    ∙ ap (λ l. old ++ l) (replicate-append-replicate (4 * four) 4 row)
    ∙ ap (λ n. old ++ replicate n row)
    (let e : 4 * four + 4 ≡ 4 * (four + 1) = omega arith in e)

-- such a list, cut to so many
pub filled_to : (old before : List ℕ) (row more count n : ℕ)
    → before ≡ old ++ replicate n row → count ≡ length old + more → more ≤ n
    → take count before ≡ old ++ replicate more row
filled_to old before row more count n is all low =
    ap (take count) (is ∙ ap (λ l. old ++ l)
    (ap (λ m. replicate m row) (let e : n ≡ more + (n - more) = omega (arith, low) in e)
    ∙ sym (replicate-append-replicate more (n - more) row)))
    ∙ ap (take count) (sym (append_assoc old (replicate more row) (replicate (n - more) row)))
    ∙ take_at (old ++ replicate more row) (replicate (n - more) row) count
    (grown_to old (old ++ replicate more row) count more row refl all)

pub repeated : (old new : List ℕ) (count more row : ℕ) → new ≡ old ++ replicate more row
    → length old ≡ count → Grows count more (λ j. row) old new
repeated old new count more row is had =
    let grown = appended old (replicate more row) new count is had in
    record {
      front = grown.front;
      back = λ k l m.
          grown.back k l (omega (arith, m, length-replicate more row))
          ∙ get_or-replicate more (k - count) row 0 (omega (arith, l, m));
    }

-- a list that is filled up to so many
pub resized : (old new : List ℕ) (n len count more row : ℕ)
    → new ≡ take n old ++ replicate (n - len) row → len ≡ length old → length old ≡ count
    → n ≡ count + more → new ≡ old ++ replicate more row
resized old new n len count more row is len_is had all =
    is ∙ ap₂ (λ l m. l ++ replicate m row) (take_all n old (omega (arith, had, all)))
    (let e : n - len ≡ more = omega (arith, len_is, had, all) in e)

abbrev lane-with : ℕ → ℕ → ℕ → ℕ → Lane
lane-with this outer inner place =
    record { this = this; outer = outer; inner = inner; place = place }

lane-is : {this outer inner place a b c e : ℕ} → this ≡ a → outer ≡ b → inner ≡ c → place ≡ e
    → lane-with this outer inner place ≡ lane-with a b c e
lane-is p q r s = λ i. lane-with (p i) (q i) (r i) (s i)

-- the same lanes by other lists, as far as they reach
lanes-same : (count : ℕ) (this outer inner place outer_new inner_new : Rows)
    → ((k : ℕ) → k < count → row_in outer_new k ≡ row_in outer k)
    → ((k : ℕ) → k < count → row_in inner_new k ≡ row_in inner k)
    → lanes_of count this outer_new inner_new place ≡ lanes_of count this outer inner place
lanes-same count this outer inner place outer_new inner_new outer_same inner_same =
    sym (fill_by_all (lane_in this outer_new inner_new place)
    (lanes_of count this outer inner place) count no_lane
    (rows_long count this outer inner place)
    (λ k low. lane_at count this outer inner place k no_lane low
    ∙ sym (lane-is refl (outer_same k low) (inner_same k low) refl)))

-- lanes whose agents stand in another list, the same as far as they count
pub kept_inside : (old new : Entered)
    → ((k : ℕ) → k < old.count → get_or new.near.items k 0 ≡ get_or old.near.items k 0)
    → (depth : Depth)
    → lanes_inside depth (record old { near = new.near }) ≡ lanes_inside depth old
kept_inside old new same Outside =
    lanes-same old.count (Each old.this) (Each old.near) (Same 0) (Each old.place) (Each new.near)
    (Same 0) same (λ k low. refl)
kept_inside old new same _ =
    lanes-same old.count (Each old.this) (Each old.outer) (Each old.near) (Each old.place)
    (Each old.outer) (Each new.near) (λ k low. refl) same

-- lists agree as far as their fronts do
pub same_front : (old new : List ℕ) (count : ℕ) → take count new ≡ take count old → (k : ℕ)
    → k < count → get_or new k 0 ≡ get_or old k 0
same_front old new count is k low =
    sym (get_or-take count new k 0 low) ∙ ap (λ l. get_or l k 0) is ∙ get_or-take count old k 0 low

-- lanes whose agents' list was cut to those that count
pub cut_inside : (old new : Entered) → new.near.items ≡ take old.count old.near.items
    → (depth : Depth)
    → lanes_inside depth (record old { near = new.near }) ≡ lanes_inside depth old
cut_inside old new is =
    kept_inside old new
    (λ k low. ap (λ l. get_or l k 0) is ∙ get_or-take old.count old.near.items k 0 low)

-- rows that stood behind those of the lanes are taken in
pub reached : (all : List ℕ) (from count : ℕ) → from ≤ count → count ≤ length all
    → length (between from count all) ≡ count - from
reached all from count le within =
    length-take-le (count - from) (drop from all)
    (omega (arith, length-drop from all, le, within))

pub reaching : (all : List ℕ) (from count more : ℕ) → more ≡ count - from → from ≤ count
    → Grows from more (λ j. get_or (between from count all) j 0) all all
reaching all from count more many le = record {
  front = λ k low. refl;
  back = λ k l m.
      ap (λ n. get_or all n 0) (let e : k ≡ from + (k - from) = omega (arith, l) in e)
      ∙ sym (get_or-take (count - from) (drop from all) (k - from) 0
      (omega (arith, l, m, many, le)) ∙ get_or-drop from all (k - from) 0);
}

module _ (old new : Entered) (lane : Lane) (near : List ℕ) (count : ℕ)
    (many : old.count ≡ count) (long : new.count ≡ count + length near)
    (near_grow : Grows count (length near) (λ j. get_or near j 0) old.near.items new.near.items)
    (this_grow : Grows count (length near) (λ j. lane.this) old.this.items new.this.items)
    (place_grow : Grows count (length near) (λ j. lane.place) old.place.items new.place.items) where
  -- lanes of these rows, of which those of other loops grew too
  grown : (enters : ℕ → Lane) (outer inner outer_new inner_new : Rows)
      → ((k : ℕ) → k < count → row_in outer_new k ≡ row_in outer k)
      → ((k : ℕ) → k < count → row_in inner_new k ≡ row_in inner k)
      → ((k : ℕ) → count ≤ k → k < count + length near
      → lane_in (Each new.this) outer_new inner_new (Each new.place) k
      ≡ enters (get_or near (k - count) 0))
      → lanes_of (new.count) (Each new.this) outer_new inner_new (Each new.place)
      ≡ lanes_of (old.count) (Each old.this) outer inner (Each old.place)
      ++ map enters near
  grown enters outer inner outer_new inner_new outer_same inner_same behind =
      let before = lanes_of (old.count) (Each old.this) outer inner (Each old.place) in
      let had : length before ≡ count =
      rows_long (old.count) (Each old.this) outer inner (Each old.place) ∙ many in
      let at = lane_in (Each new.this) outer_new inner_new (Each new.place) in
      sym (fill_by_all at (before ++ map enters near) (new.count) no_lane
      (length-append before (map enters near) ∙ omega (arith, had, length-map near enters, long))
      (λ k low. ⊎_elim
      (λ (l : k < count).
      get_or_append_left before (map enters near) no_lane k (omega (arith, l, had))
      ∙ lane_at (old.count) (Each old.this) outer inner (Each old.place) k no_lane
      (omega (arith, l, many))
      ∙ sym (lane-is (this_grow.front k l) (outer_same k l) (inner_same k l)
      (place_grow.front k l)))
      (λ (l : count ≤ k).
      let last : k - count < length near = omega (arith, l, low, long) in
      get_or-append_right before (map enters near) count k no_lane had l
      ∙ get_or-map enters near (k - count) 0 no_lane last
      ∙ sym (behind k l (omega (arith, low, long))))
      (cases_lt k count)))

  -- at agents of the inner loop
  within-inner : (enters : ℕ → Lane)
      → ((row : ℕ) → lane-with lane.this lane.outer row lane.place ≡ enters row)
      → Grows count (length near) (λ j. lane.outer) old.outer.items new.outer.items
      → lanes_of (new.count) (Each new.this) (Each new.outer) (Each new.near)
      (Each new.place)
      ≡ lanes_of (old.count) (Each old.this) (Each old.outer) (Each old.near)
      (Each old.place) ++ map enters near
  within-inner enters are outer =
      grown enters (Each old.outer) (Each old.near) (Each new.outer) (Each new.near) outer.front
      near_grow.front
      (λ k l m. lane-is (this_grow.back k l m) (outer.back k l m) (near_grow.back k l m)
      (place_grow.back k l m) ∙ are (get_or near (k - count) 0))

  -- the lanes of a loop at more agents
  pub entered-in : (depth : Depth)
      → (has_outer depth ≡ true
      → Grows count (length near) (λ j. lane.outer) old.outer.items new.outer.items)
      → lanes_inside depth new ≡ lanes_inside depth old ++ map (entered depth lane) near
  entered-in Outside outer =
      grown (entered Outside lane) (Each old.near) (Same 0) (Each new.near) (Same 0) near_grow.front
      (λ k l. refl)
      (λ k l m. lane-is (this_grow.back k l m) (near_grow.back k l m) refl (place_grow.back k l m))
  entered-in Once outer = within-inner (entered Once lane) (λ row. refl) (outer refl)
  entered-in Twice outer = within-inner (entered Twice lane) (λ row. refl) (outer refl)
