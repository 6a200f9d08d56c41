-- Which agents in columns stand near an area, and which of them a part owns.
use Rattle.std.proofs.Common.{◌≡◌, ◌∙◌, refl, sym, ap, ap₂, subst, ℕ, zero, suc, ◌+◌, ◌<◌, ◌≤◌, ℤ, pos, negsuc, ◌+ℤ◌, ◌-ℤ◌, ◌≤ℤ◌, FitsSigned, w64, int_le, Bool, true, false, ◌&&◌, cond, List, [], ◌∷◌, ◌++◌, map, filter, take, length, get_or, slice_get, Option, Some, None, arith}
use Rattle.std.specs.Prelude.{nat_eq, option_map, if◌then◌else◌, ◌==◌}
use Rattle.std.specs.Int.{int_max, saturate_signed}
use Rattle.std.specs.List.{All, IsDistinct}
use Rattle.std.specs.List.Sorted.{IsNonDecreasingBy, IsPermutation}
use Rattle.std.proofs.lemmas.Bool.{and_parts, and_from, eq-eqb, eqb-true}
use Rattle.std.proofs.lemmas.Int.{ints}
use Rattle.std.proofs.lemmas.List.{get_or-map, length-map, map-append, take_more}
use Rattle.std.proofs.lemmas.List.Elements.{All-nil, All-cons, All-head, All-tail, All-append, All-contains, filter-append}
use Rattle.std.proofs.lemmas.List.Sorted.{All-permutation, IsNonDecreasingBy-from_default, IsPermutation-map}
use Rattle.std.proofs.lemmas.List.Sums.{count_by-le-length, length-filter}
use Rattle.std.proofs.lemmas.Option.{same_Some, slice_get-get_or, slice_get-map}
use Rattle.brace_num.specs.declared.kinds.Area.{Area}
use Rattle.brace_num.specs.Areas.{gap_to, outside}
use Rattle.brace_num.proofs.Lists.{filter_alike}
use Rattle.brace_num.proofs.Orders.{by_key_sorted}
use Rattle.brace_num.proofs.Numbers.{below_max, le_holds, le_told, max_within, within_max}
use Rattle.brace_model.specs.declared.program.Class.{Class}
use Rattle.brace_model.specs.declared.program.Program.{Program}
use Rattle.brace_model.specs.declared.world.Agent.{Agent}
use Rattle.brace_model.specs.World.{class_of, ids, number, value_at, x_of, y_of}
use Rattle.brace_cuts.specs.Space.{LawfulCuts, area_of, owner_of, parts_of}
use Rattle.brace_cuts.specs.declared.space.Cuts.{Cuts}
use Rattle.brace_cuts.proofs.Areas.{owner_only}
use Rattle.brace_fold.specs.declared.order.Moved.{Moved}
use Rattle.brace_fold.specs.Asked.{by_row, no_agent}
use Rattle.brace_fold.specs.Rows.{AreMoved, by_id}
use Rattle.brace_fold.proofs.MoveLemmas.{picked-within}
use Rattle.brace_fold.proofs.Ownings.{picked-row}
use Rattle.brace_invert.specs.Held.{is_near, stands_near}
use Rattle.brace_pieces.specs.Owned.{owned, owns, owns_at}
use Rattle.brace_herd.specs.declared.near.Axes.{Axes}
use Rattle.brace_herd.specs.Placed.{ArePlaces}
use Rattle.brace_herd.specs.inner.Near.{AreAxes, AreNear, StandsFit, stands_fit}

-- ---- a number within a range of a span

-- what a number is kept to, where it is beyond the ends of 64 bits, has the same place among those
-- that fit
low_end : (z p : ℤ) → FitsSigned w64 p → z ≤ℤ p → saturate_signed w64 z ≤ℤ p
low_end (pos n) p f h = omega (arith, ints, f, h)
low_end (negsuc n) p f h = omega (arith, ints, f, h)

low_back : (z v p : ℤ) → z ≤ℤ v → FitsSigned w64 v → saturate_signed w64 z ≤ℤ p → z ≤ℤ p
low_back (pos n) v p le f h = omega (arith, ints, le, f, h)
low_back (negsuc n) v p le f h = omega (arith, ints, h)

high_end : (z p : ℤ) → FitsSigned w64 p → p ≤ℤ z → p ≤ℤ saturate_signed w64 z
high_end (pos n) p f h = omega (arith, ints, f, h)
high_end (negsuc n) p f h = omega (arith, ints, f, h)

high_back : (z v p : ℤ) → v ≤ℤ z → FitsSigned w64 v → p ≤ℤ saturate_signed w64 z → p ≤ℤ z
high_back (pos n) v p le f h = omega (arith, ints, h)
high_back (negsuc n) v p le f h = omega (arith, ints, le, f, h)

one_test : (a b : Bool) → (a ≡ true → b ≡ true) → (b ≡ true → a ≡ true) → a ≡ b
one_test true b h g = sym (h refl)
one_test false true h g = g refl
one_test false false h g = refl

pub within : (low high range p least greatest : ℤ) → FitsSigned w64 low → FitsSigned w64 high
    → FitsSigned w64 p → pos 0 ≤ℤ range → least ≡ saturate_signed w64 (low -ℤ range)
    → greatest ≡ saturate_signed w64 (high +ℤ range)
    → (int_le least p && int_le p greatest) ≡ int_le (outside low high p) range
within low high range p least greatest f g fits some is_least is_greatest =
    one_test (int_le least p && int_le p greatest) (int_le (outside low high p) range)
    (λ h.
    let (left, right) = and_parts (int_le least p) (int_le p greatest) h in
    let under : (low -ℤ range) ≤ℤ p = low_back (low -ℤ range) low p (omega (arith, ints, some)) f
    (subst (λ z. z ≤ℤ p) is_least (le_told least p left)) in
    let over : p ≤ℤ (high +ℤ range) = high_back (high +ℤ range) high p (omega (arith, ints, some)) g
    (subst (λ z. p ≤ℤ z) is_greatest (le_told p greatest right)) in
    le_holds (outside low high p) range
    (max_within (pos 0) (int_max (low -ℤ p) (p -ℤ high)) range some
    (max_within (low -ℤ p) (p -ℤ high) range (omega (arith, ints, under))
    (omega (arith, ints, over)))))
    (λ h.
    let near = le_told (outside low high p) range h in
    let (none, both) = within_max (pos 0) (int_max (low -ℤ p) (p -ℤ high)) range near in
    let (under, over) = within_max (low -ℤ p) (p -ℤ high) range both in
    and_from (int_le least p) (int_le p greatest)
    (le_holds least p (subst (λ z. z ≤ℤ p) (sym is_least)
    (low_end (low -ℤ range) p fits (omega (arith, ints, under)))))
    (le_holds p greatest (subst (λ z. p ≤ℤ z) (sym is_greatest)
    (high_end (high +ℤ range) p fits (omega (arith, ints, over))))))

-- both coordinates
pub around : (area : Area) (range x y : ℤ)
    → (int_le (outside area.x0 area.x1 x) range && int_le (outside area.y0 area.y1 y) range)
    ≡ int_le (gap_to area x y) range
around area range x y =
    let along : ℤ = outside area.x0 area.x1 x in
    let up : ℤ = outside area.y0 area.y1 y in
    one_test (int_le along range && int_le up range) (int_le (int_max along up) range)
    (λ h.
    let (a, b) = and_parts (int_le along range) (int_le up range) h in
    le_holds (int_max along up) range
    (max_within along up range (le_told along range a) (le_told up range b)))
    (λ h.
    let (a, b) = within_max along up range (le_told (int_max along up) range h) in
    and_from (int_le along range) (int_le up range) (le_holds along range a) (le_holds up range b))

-- ---- the agent of a row

module _ (program : Program) (rows : Moved) (axes : Axes) (are : AreAxes program rows axes)
    (agents : List Agent) (moved : AreMoved agents rows) (row : ℕ) (a : Agent)
    (there : slice_get agents row ≡ Some a) (same : a.class ≡ axes.class) where
  word_there : (state : ℕ) (column : List ℤ) (word : ℤ)
      → slice_get rows.states.items state ≡ Some column → slice_get column row ≡ Some word
      → word ≡ number (value_at a.states state)
  word_there state column word has read =
      same_Some _ _ (sym read ∙ ap (λ l. slice_get l row) (moved.states state column has)
      ∙ slice_get-map (λ (b : Agent). number (value_at b.states state)) agents row
      ∙ ap (option_map (λ (b : Agent). number (value_at b.states state))) there)

  class_there : class_of program a ≡ Some are.own
  class_there = ap (slice_get program.classes) same ∙ are.has

  module _ (x y : ℤ) (read_x : slice_get axes.xs.now row ≡ Some x)
      (read_y : slice_get axes.ys.now row ≡ Some y) where
    x_there : x ≡ x_of are.own a
    x_there = word_there are.own.x axes.xs.now x are.xs read_x

    y_there : y ≡ y_of are.own a
    y_there = word_there are.own.y axes.ys.now y are.ys read_y

    pub near_there : (area : Area) (range : ℤ)
        → int_le (gap_to area x y) range ≡ is_near program area range a
    near_there area range =
        ap₂ (λ x y. int_le (gap_to area x y) range) x_there y_there
        ∙ sym (ap (λ o. stands_near area range o a) class_there)

    pub fit_there : FitsSigned w64 x → FitsSigned w64 y → StandsFit program a
    fit_there f g = subst (λ o. stands_fit o a) (sym class_there)
        (subst (FitsSigned w64) x_there f, subst (FitsSigned w64) y_there g)

-- ---- one row more

-- no agents
pub none_near : (program : Program) (area : Area) (range : ℤ) (agents : List Agent)
    → length agents ≡ 0 → AreNear program area range agents agents []
none_near program area range [] e = record { are = refl; fit = All-nil (StandsFit program) }
none_near program area range (a ∷ agents) e = absurd (omega (arith, e))

module _ (program : Program) (area : Area) (range : ℤ) (agents : List Agent) where
  abbrev test : Agent → Bool
  test = is_near program area range

  pub near_first : AreNear program area range agents [] []
  near_first = record { are = refl; fit = All-nil (StandsFit program) }

  one_more : (wanted : Bool) (a : Agent) → wanted ≡ test a
      → filter test (a ∷ []) ≡ (if wanted then a ∷ [] else [])
  one_more wanted a is = ap (λ b. cond b (a ∷ []) []) (sym is)

  pub near_more : (k : ℕ) (a : Agent) (wanted : Bool) (places : List ℕ) → k < length agents
      → slice_get agents k ≡ Some a → get_or agents k a ≡ a → wanted ≡ test a → StandsFit program a
      → AreNear program area range agents (take k agents) places
      → AreNear program area range agents (take (k + 1) agents)
      (places ++ (if wanted then k ∷ [] else []))
  near_more k a wanted places low there is its fits so =
      let more : take (k + 1) agents ≡ take k agents ++ a ∷ [] =
      take_more agents k a low ∙ ap (λ x. take k agents ++ x ∷ []) is in
      record {
        are = map-append (λ p. slice_get agents p) places (if wanted then k ∷ [] else [])
            ∙ ap₂ (λ (xs ys : List (Option Agent)). xs ++ ys) so.are (here wanted)
            ∙ sym (map-append Some (filter test (take k agents)) (if wanted then a ∷ [] else []))
            ∙ ap (map Some) (sym (ap (filter test) more
            ∙ filter-append test (take k agents) (a ∷ [])
            ∙ ap (λ l. filter test (take k agents) ++ l) (one_more wanted a its)));
        fit = subst (All (StandsFit program)) (sym more)
            (All-append (StandsFit program) (take k agents) (a ∷ []) so.fit
            (All-cons (StandsFit program) a [] fits (All-nil (StandsFit program))));
      }
    where
      here : (b : Bool) → map (λ p. slice_get agents p) (if b then k ∷ [] else [])
          ≡ map Some (if b then a ∷ [] else [])
      here true = ap (λ (o : Option Agent). o ∷ []) there
      here false = refl

-- ---- agents by their places

-- the id of a row
id_there : (agents : List Agent) (row : ℕ)
    → get_or (map (λ (a : Agent). a.id) agents) row 0 ≡ (get_or agents row no_agent).id
id_there [] row = refl
id_there (a ∷ agents) zero = refl
id_there (a ∷ agents) (suc row) = id_there agents row

-- agents of rows by rising id stand so
pub rows_rise : (agents : List Agent) (all rows : List ℕ) → all ≡ ids agents
    → IsNonDecreasingBy (λ row. get_or all row 0) rows
    → IsNonDecreasingBy (λ (a : Agent). a.id) (by_row agents rows)
rows_rise agents all rows are rise =
    let at : ℕ → Agent = λ row. get_or agents row no_agent in
    let key : (k : ℕ) → k < length rows
    → get_or all (get_or rows k 0) 0 ≡ (get_or (by_row agents rows) k (at 0)).id =
    λ k low. ap (λ l. get_or l (get_or rows k 0) 0) are ∙ id_there agents (get_or rows k 0)
    ∙ ap (λ (a : Agent). a.id) (sym (get_or-map at rows k 0 (at 0) low)) in
    IsNonDecreasingBy-from_default (λ (a : Agent). a.id) (by_row agents rows) (at 0)
    (λ i j le lt.
    let low : j < length rows = omega (arith, lt, length-map rows at) in
    let below : get_or all (get_or rows i 0) 0 ≤ get_or all (get_or rows j 0) 0 =
    rise i j 0 le low in
    omega (arith, below, key i (omega (arith, le, low)), key j low))

-- rows within a list are those of some of its agents
rows_there : (agents : List Agent) (rows : List ℕ) → All (λ row. row < length agents) rows
    → ArePlaces agents (by_row agents rows) rows
rows_there agents [] within = refl
rows_there agents (row ∷ rows) within =
    ap₂ (λ (o : Option Agent) l. o ∷ l)
    (slice_get-get_or agents row no_agent
    (All-head (λ n. n < length agents) row rows within))
    (rows_there agents rows (All-tail (λ n. n < length agents) row rows within))

-- places of agents are those of the same by rising id, where their ids rise
pub places_rise : (agents these : List Agent) (all places sorted : List ℕ)
    → ArePlaces agents these places → IsDistinct nat_eq (ids these) → all ≡ ids agents
    → IsPermutation places sorted → IsNonDecreasingBy (λ row. get_or all row 0) sorted
    → ArePlaces agents (by_id these) sorted
places_rise agents these all places sorted are apart ids_are same rise =
    let at : ℕ → Agent = λ row. get_or agents row no_agent in
    let moved = subst (λ l. IsPermutation l (by_row agents sorted))
    (picked-row agents these places are) (IsPermutation-map at places sorted same) in
    let is : by_id these ≡ by_row agents sorted =
    by_key_sorted (λ (a : Agent). a.id) these (by_row agents sorted) apart moved
    (rows_rise agents all sorted ids_are rise) in
    rows_there agents sorted (All-permutation (λ row. row < length agents) places sorted same
    (picked-within agents places these are)) ∙ ap (map Some) (sym is)

-- what a column of agents has at the place of one of them
pub column_there : (f : Agent → ℕ) (agents : List Agent) (column : List ℕ) (place x : ℕ)
    (a : Agent) → column ≡ map f agents → slice_get column place ≡ Some x
    → slice_get agents place ≡ Some a → f a ≡ x
column_there f agents column place x a are read there =
    same_Some (f a) x (sym (ap (option_map f) there) ∙ sym (slice_get-map f agents place)
    ∙ ap (λ l. slice_get l place) (sym are) ∙ read)

-- ---- those that a part owns

module _ (cuts : Cuts) (lawful : LawfulCuts cuts) (p : ℕ) (part : p < parts_of cuts) where
  pub own_at : (o : Option Class) (a : Agent) → stands_fit o a
      → stands_near (area_of cuts p) (pos 0) o a ≡ owns_at cuts p o a
  own_at None a fits = refl
  own_at (Some c) a (f, g) =
      let x : ℤ = x_of c a in
      let y : ℤ = y_of c a in
      let area : Area = area_of cuts p in
      let gap : ℤ = gap_to area x y in
      let (back, none) = owner_only cuts x y lawful.xs_rise lawful.ys_rise f g p part in
      one_test (int_le gap (pos 0)) (owner_of cuts x y == p)
      (λ h. eq-eqb (owner_of cuts x y) p (sym (back (least gap
      (no_less (area.x0 -ℤ x) (x -ℤ area.x1) (area.y0 -ℤ y) (y -ℤ area.y1))
      (le_told gap (pos 0) h)))))
      (λ h. le_holds gap (pos 0) (at_most gap (none (sym (eqb-true (owner_of cuts x y) p h)))))
    where
      at_most : (z : ℤ) → z ≡ pos 0 → z ≤ℤ pos 0
      at_most z e = omega (arith, ints, e)

      least : (z : ℤ) → pos 0 ≤ℤ z → z ≤ℤ pos 0 → z ≡ pos 0
      least z h g = omega (arith, ints, h, g)

      no_less : (a b c d : ℤ) → pos 0 ≤ℤ int_max (int_max (pos 0) (int_max a b))
          (int_max (pos 0) (int_max c d))
      no_less a b c d = below_max (pos 0) (int_max (pos 0) (int_max a b)) _
          (below_max (pos 0) (pos 0) (int_max a b) (omega (arith, ints)))

  pub owned_near : (program : Program) (agents : List Agent) → All (StandsFit program) agents
      → filter (is_near program (area_of cuts p) (pos 0)) agents ≡ owned program cuts p agents
  owned_near program agents fits =
      filter_alike (is_near program (area_of cuts p) (pos 0)) (owns program cuts p) agents
      (λ a there. own_at (class_of program a) a
      (All-contains (StandsFit program) agents a fits there))

-- ---- where all stay

pub kept_all : (pass : Agent → Bool) (agents : List Agent)
    → length (filter pass agents) ≡ length agents → filter pass agents ≡ agents
kept_all pass [] e = refl
kept_all pass (a ∷ agents) e =
    one (pass a) (filter pass agents) (kept_all pass agents)
    (omega (arith, length-filter pass agents, count_by-le-length pass agents)) e
  where
    one : (b : Bool) (kept : List Agent) → (length kept ≡ length agents → kept ≡ agents)
        → length kept ≤ length agents → length (cond b (a ∷ kept) kept) ≡ length (a ∷ agents)
        → cond b (a ∷ kept) kept ≡ a ∷ agents
    one true kept rest few e = ap (λ l. a ∷ l) (rest (omega (arith, e)))
    one false kept rest few e = absurd (omega (arith, e, few))
