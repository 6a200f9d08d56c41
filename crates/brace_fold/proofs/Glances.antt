-- Lower halves of where agents stand show what an eye finds.
use Rattle.std.proofs.Common.{◌≡◌, ◌∙◌, refl, sym, ap, subst, arith, ℕ, ◌+◌, ◌<◌, ◌≤◌, ⊎_elim, ℤ, pos, negsuc, neg_ℤ, ◌+ℤ◌, ◌-ℤ◌, ◌*ℤ◌, ◌<ℤ◌, ◌≤ℤ◌, ◌-◌, ◌%◌, Bool, true, false, not, ◌&&◌, ◌||◌, FitsSigned, of_z, to_z, w32, int_lt, List, [], ◌∷◌, ◌++◌, append_assoc, length, map, take, get_or, slice_get, Some}
use Rattle.std.specs.Prelude.{◌==◌, is_some, nat_le, nat_lt, replicate}
use Rattle.std.specs.Int.{int_wrap}
use Rattle.std.proofs.lemmas.Bool.{cases_lt, eq-eqb, le-leb, le-ltb, lt-leb, lt-ltb}
use Rattle.std.proofs.lemmas.Int.{by_lt_z, int_wrap_fits, int_wrap-add_left, int_wrap-add_right, int_wrap-sub_right, ints, to_z-of_z, wrapping_add_onto, wrapping_sub_is}
use Rattle.std.proofs.lemmas.List.{append-nil, get_or-map, get_or_append_left, length-append, length-map, take_all, take_more}
use Rattle.std.proofs.lemmas.Option.{get_or_from_slice_get, slice_get-get_or, slice_get_within}
use Rattle.brace_model.specs.declared.program.Class.{Class}
use Rattle.brace_model.specs.declared.program.Program.{Program}
use Rattle.brace_model.specs.declared.world.Agent.{Agent}
use Rattle.brace_model.specs.World.{class_of, is_within}
use Rattle.brace_grid.specs.Grids.{Point}
use Rattle.brace_grid.specs.Grids as grids
use Rattle.brace_fold.specs.declared.cells.Run.{Run}
use Rattle.brace_fold.specs.declared.cells.Runs.{Runs}
use Rattle.brace_fold.specs.declared.cells.Spot.{Spot}
use Rattle.brace_fold.specs.declared.glancing.Glance.{Glance}
use Rattle.brace_fold.specs.declared.scene.Scene.{Scene}
use Rattle.brace_fold.specs.declared.seeing.Eye.{Eye}
use Rattle.brace_fold.specs.inner.Crowds.{IsScene, rows}
use Rattle.brace_fold.specs.inner.Glances.{AreClear, AreClearAround, IsClear, IsGlance, IsLooked, base, kept, sees_at}
use Rattle.brace_fold.specs.inner.Sights.{AreHalves, IsAround, IsEye, IsRun, cell_number, found_in, height, is_found, spot_of, spots_along}
use Rattle.brace_fold.proofs.CellNumbers.{number_apart, number_low, run_beside}
use Rattle.brace_fold.proofs.Looks.{found-append, joined}
use Rattle.brace_fold.proofs.Sayings.{nowhere}
use Rattle.brace_fold.proofs.Sortings.{nowhere as no_spot}
use Rattle.brace_fold.proofs.Taking.{by_some, place_is}
use Rattle.brace_fold.proofs.Walks.{between-at, between-long}

-- ---- what a comparison of lower halves tells

-- the wrapped difference of lower halves is that of the words, wrapped
gap_is : (v b : ℤ) → int_wrap w32 (int_wrap w32 v -ℤ int_wrap w32 b) ≡ int_wrap w32 (v -ℤ b)
gap_is v b =
    int_wrap-sub_right w32 (int_wrap w32 v) b ∙ int_wrap-add_left w32 v (neg_ℤ b)

turn_is : int_wrap w32 (negsuc 4294967295) ≡ pos 0
unfolding int_wrap
turn_is = refl

-- a turn less is the same
turns : (z : ℤ) → int_wrap w32 (z +ℤ negsuc 4294967295) ≡ int_wrap w32 z
turns z =
    sym (int_wrap-add_right w32 z (negsuc 4294967295))
    ∙ ap (λ k. int_wrap w32 (z +ℤ k)) turn_is
    ∙ ap (int_wrap w32) (let e : z +ℤ pos 0 ≡ z = omega (arith, ints) in e)

-- words outside of a range of one, on either side of it, and within
below_it : (p v : ℤ) (range : ℕ) → v <ℤ (p -ℤ pos range) → is_within (pos range) p v ≡ false
below_it p v range less = grind (arith, ints, less)

above_it : (p v : ℤ) (range : ℕ) → (p +ℤ pos range) <ℤ v → is_within (pos range) p v ≡ false
above_it p v range less = grind (arith, ints, less)

within_it : (p v : ℤ) (range : ℕ) → (p -ℤ pos range) ≤ℤ v → v ≤ℤ (p +ℤ pos range)
    → is_within (pos range) p v ≡ true
within_it p v range low high = grind (arith, ints, low, high)

-- one comparison tells whether a word is outside of a range of one that is near
told : (p v : ℤ) (range : ℕ) → FitsSigned w32 (v -ℤ p) → FitsSigned w32 (pos range)
    → int_lt ((pos range +ℤ pos range) -ℤ pos 2147483648)
    (int_wrap w32 (v -ℤ ((p -ℤ pos range) +ℤ pos 2147483648)))
    ≡ not (is_within (pos range) p v)
told p v range near fits =
    let reach : ℤ = (pos range +ℤ pos range) -ℤ pos 2147483648 in
    let gap : ℤ = v -ℤ ((p -ℤ pos range) +ℤ pos 2147483648) in
    by_lt_z v (p -ℤ pos range)
    (λ less.
    let z : ℤ = gap +ℤ pos 4294967296 in
    let fits_z : FitsSigned w32 z = omega (arith, ints, less, near, fits) in
    let is : int_wrap w32 gap ≡ z =
    ap (int_wrap w32) (let e : gap ≡ z +ℤ negsuc 4294967295 = omega (arith, ints) in e)
    ∙ turns z ∙ int_wrap_fits w32 z fits_z in
    let past : reach <ℤ z = omega (arith, ints, near, fits) in
    let far : int_lt reach z ≡ true = grind (arith, ints, past) in
    ap (int_lt reach) is ∙ far ∙ sym (ap not (below_it p v range less)))
    (λ more.
    let fits_gap : FitsSigned w32 gap = omega (arith, ints, more, near, fits) in
    ap (int_lt reach) (int_wrap_fits w32 gap fits_gap)
    ∙ by_lt_z (p +ℤ pos range) v
    (λ over.
    let past : reach <ℤ gap = omega (arith, ints, over) in
    let far : int_lt reach gap ≡ true = grind (arith, ints, past) in
    far ∙ sym (ap not (above_it p v range over)))
    (λ under.
    let not_past : gap ≤ℤ reach = omega (arith, ints, under) in
    let close : int_lt reach gap ≡ false = grind (arith, ints, not_past) in
    close ∙ sym (ap not (within_it p v range more under))))

-- the bits of a lower half less a base
abbrev pub apart : ℤ → ℤ → ℕ
apart x b = (of_z w32 x + (4294967296 - of_z w32 b)) % 4294967296

-- the bits of a base
pub based : (p : ℤ) (r : ℕ) (v range : ℤ) → FitsSigned w32 v → FitsSigned w32 range
    → v ≡ int_wrap w32 p → range ≡ pos r
    → to_z w32 ((apart v range + 2147483648) % 4294967296) ≡ base p r
based p r v range fits_v fits_range v_is range_is =
    let half : FitsSigned w32 (negsuc 2147483647) = record { sfits = omega arith } in
    wrapping_add_onto w32 (apart v range) (negsuc 2147483647) (omega arith) half
    ∙ ap (λ z. int_wrap w32 (z +ℤ negsuc 2147483647))
    (wrapping_sub_is w32 v range fits_v fits_range
    ∙ (λ i. int_wrap w32 (v_is i -ℤ range_is i))
    ∙ int_wrap-add_left w32 p (neg_ℤ (pos r)))
    ∙ int_wrap-add_left w32 (p -ℤ pos r) (negsuc 2147483647)
    ∙ ap (int_wrap w32) (let e : (p -ℤ pos r) +ℤ negsuc 2147483647
    ≡ ((p -ℤ pos r) +ℤ pos 2147483648) +ℤ negsuc 4294967295 = omega (arith, ints) in e)
    ∙ turns ((p -ℤ pos r) +ℤ pos 2147483648)

-- the same of bits
pub told_at : (p v : ℤ) (range : ℕ) (x b reach : ℤ) → FitsSigned w32 x → FitsSigned w32 b
    → FitsSigned w32 reach → x ≡ int_wrap w32 v → b ≡ base p range
    → reach ≡ (pos range +ℤ pos range) -ℤ pos 2147483648
    → FitsSigned w32 (v -ℤ p) → FitsSigned w32 (pos range)
    → int_lt (to_z w32 (of_z w32 reach)) (to_z w32 (apart x b)) ≡ not (is_within (pos range) p v)
told_at p v range x b reach fits_x fits_b fits_reach x_is b_is reach_is near fits =
    let least : ℤ = (p -ℤ pos range) +ℤ pos 2147483648 in
    let gap : to_z w32 (apart x b) ≡ int_wrap w32 (v -ℤ least) =
    wrapping_sub_is w32 x b fits_x fits_b
    ∙ (λ i. int_wrap w32 (x_is i -ℤ b_is i))
    ∙ gap_is v least in
    (λ i. int_lt ((to_z-of_z w32 reach fits_reach ∙ reach_is) i) (gap i))
    ∙ told p v range near fits

-- ---- what is found in rows

and-true : (b c : Bool) → (c && (b && true)) ≡ (c && b)
and-true true c = refl
and-true false c = refl

-- an eye finds a spot that is clear where it is near, and not its own
pub found-row : (eye : Eye) (xs ys : List ℤ) (row : ℕ) (s : Spot) → IsClear eye xs ys row s
    → is_found eye [] s
    ≡ ((is_within (pos eye.range) eye.x s.x && is_within (pos eye.range) eye.y s.y)
    && not (row == eye.place))
found-row eye xs ys row s is =
    let test : Bool → ℕ → Bool = λ c p.
    ((c && is_within (pos eye.range) eye.x s.x) && is_within (pos eye.range) eye.y s.y)
    && (not (p == eye.place) && true) in
    (λ i. test (eq-eqb s.class eye.class is.of i) (is.at i))
    ∙ and-true (not (row == eye.place))
    (is_within (pos eye.range) eye.x s.x && is_within (pos eye.range) eye.y s.y)

any_of : (x y o : Bool) → ((not x || not y) || (false || o)) ≡ not (true && ((x && y) && not o))
any_of true true true = refl
any_of true true false = refl
any_of true false o = refl
any_of false y o = refl

last_of : (x o : Bool) → (x || (true || o)) ≡ true
last_of true o = refl
last_of false o = refl

-- a row is not found where one of four tests tells it, the first two of which count before an end
pub lane-is : (eye : Eye) (xs ys : List ℤ) (end row : ℕ) (s : Spot) (far high late own : Bool)
    → late ≡ nat_le end row → own ≡ (row == eye.place)
    → (row < end → IsClear eye xs ys row s
    × ((far ≡ not (is_within (pos eye.range) eye.x s.x))
    × (high ≡ not (is_within (pos eye.range) eye.y s.y))))
    → ((far || high) || (late || own)) ≡ not (nat_lt row end && is_found eye [] s)
lane-is eye xs ys end row s far high late own late_is own_is tells =
    ⊎_elim
    (λ (less : row < end).
    let (clear, (far_is, high_is)) = tells less in
    let x = is_within (pos eye.range) eye.x s.x in
    let y = is_within (pos eye.range) eye.y s.y in
    (λ i. (far_is i || high_is i) || ((late_is ∙ lt-leb end row less) i || own_is i))
    ∙ any_of x y (row == eye.place)
    ∙ sym (λ i. not (lt-ltb row end less i && found-row eye xs ys row s clear i)))
    (λ (more : end ≤ row).
    (λ i. (far || high) || ((late_is ∙ le-leb end row more) i || own))
    ∙ last_of (far || high) own
    ∙ sym (λ i. not (le-ltb row end more i && is_found eye [] s)))
    (cases_lt row end)

module _ (eye : Eye) (xs ys : List ℤ) (run : Run) (spots : List Spot)
    (clear : AreClear eye xs ys run.start run.end spots) where
  abbrev found : ℕ → List ℕ
  found n = found_in eye [] (take n (spots_along run spots))

  abbrev one : Spot → ℕ → List ℕ
  one d row = kept (sees_at eye run.end spots d row) row

  -- a row more of a run, or one behind it
  scans_more : (n : ℕ) (d : Spot) → found (n + 1) ≡ found n ++ one d (run.start + n)
  scans_more n d = ⊎_elim inside past (cases_lt (run.start + n) run.end)
    where
      inside : run.start + n < run.end → found (n + 1) ≡ found n ++ one d (run.start + n)
      inside less =
          let along = spots_along run spots in
          let row = run.start + n in
          let s : Spot = get_or spots row d in
          let low : n < length along = omega (
            arith,
            less,
            between-long run.start run.end spots clear.within,
          ) in
          let here : get_or along n d ≡ s = between-at run.start run.end spots n d less in
          let at : s.place ≡ row = (clear.each row d (omega arith) less).at in
          ap (found_in eye []) (take_more along n d low)
          ∙ ap (λ (t : Spot). found_in eye [] (take n along ++ t ∷ [])) here
          ∙ found-append eye [] (take n along) s
          ∙ ap (λ p. found n ++ kept (is_found eye [] s) p) at
          ∙ ap (λ b. found n ++ kept (b && is_found eye [] s) row) (sym (lt-ltb row run.end less))

      past : run.end ≤ run.start + n → found (n + 1) ≡ found n ++ one d (run.start + n)
      past more =
          let along = spots_along run spots in
          let row = run.start + n in
          let short : length along ≤ n = omega (
            arith,
            more,
            between-long run.start run.end spots clear.within,
          ) in
          ap (found_in eye []) (take_all (n + 1) along (omega (arith, short))
          ∙ sym (take_all n along short))
          ∙ sym (append-nil (found n))
          ∙ ap (λ b. found n ++ kept (b && is_found eye [] (get_or spots row d)) row)
          (sym (le-ltb row run.end more))

  -- a loop's step: those of four rows written that are found
  pub scans_four : (n : ℕ) (front before after : List ℕ) (d : Spot)
      → after ≡ before
      ++ (one d (run.start + n + 0)
      ++ (one d (run.start + n + 1)
      ++ (one d (run.start + n + 2)
      ++ one d (run.start + n + 3))))
      → before ≡ front ++ found n → after ≡ front ++ found (n + 4)
  scans_four n front before after d is so_far =
      let row = run.start + n in
      let more : (m k : ℕ) (old : List ℕ) → k ≡ run.start + m → old ≡ front ++ found m
      → old ++ one d k ≡ front ++ found (m + 1) = λ m k old same found_old.
      ap (λ l. l ++ one d k) found_old
      ∙ append_assoc front (found m) (one d k)
      ∙ ap (λ j. front ++ (found m ++ one d j)) same
      ∙ ap (λ l. front ++ l) (sym (scans_more m d)) in
      let first : before ++ one d (row + 0) ≡ front ++ found (n + 1) =
      more n (row + 0) before (omega arith) so_far in
      let second : (before ++ one d (row + 0)) ++ one d (row + 1) ≡ front ++ found (n + 1 + 1) =
      more (n + 1) (row + 1) _ (omega arith) first in
      let third : ((before ++ one d (row + 0)) ++ one d (row + 1)) ++ one d (row + 2)
      ≡ front ++ found (n + 1 + 1 + 1) = more (n + 1 + 1) (row + 2) _ (omega arith) second in
      is
      ∙ sym (append_assoc before (one d (row + 0))
      (one d (row + 1) ++ (one d (row + 2) ++ one d (row + 3))))
      ∙ sym (joined (before ++ one d (row + 0)) (one d (row + 1)) (one d (row + 2))
      (one d (row + 3)))
      ∙ more (n + 1 + 1 + 1) (row + 3) _ (omega arith) third
      ∙ ap (λ m. front ++ found m) (let e : n + 1 + 1 + 1 + 1 ≡ n + 4 = omega arith in e)

-- ---- what a glance shows

-- the one class of a program
pub only : (classes : List Class) (own : Class) → length classes ≡ 1
    → own ≡ get_or classes 0 own → classes ≡ own ∷ []
only (c ∷ []) own one is = ap (λ (k : Class). k ∷ []) (sym is)
only _ own one is = absurd (omega (arith, one))

wide : (spots : List Spot) (half : Spot → ℤ) (xs : List ℤ)
    → xs ≡ map half spots ++ replicate 4 (pos 0) → length xs ≡ length spots + 4
wide spots half xs are =
    ap length are ∙ length-append (map half spots) (replicate 4 (pos 0))
    ∙ ap (λ n. n + 4) (length-map spots half)

-- both columns of halves have as many rows, which 32 bits number
pub has-rows : (side : ℤ) (spots : List Spot) (xs ys : List ℤ) → AreHalves side spots xs ys
    → (length ys ≡ length xs) × (length xs ≤ 4294967295)
has-rows side spots xs ys are =
    let across = wide spots (λ s. int_wrap w32 s.x) xs are.across in
    let along = wide spots (λ s. int_wrap w32 s.y) ys are.along in
    (omega (arith, across, along), omega (arith, across, are.few))

-- a glance shows what the eye of each agent finds
module _ (scene : Scene) (is : IsScene scene) (class : ℕ) (glance : Glance)
    (shows : IsGlance scene class glance) where
  abbrev program : Program
  program = scene.program.now

  abbrev agents : List Agent
  agents = rows scene

  abbrev spots : List Spot
  spots = scene.cells.now.spots.items

  abbrev side : ℤ
  side = is.cells.side

  halves : AreHalves side spots glance.xs.now glance.ys.now
  halves =
      let are = is.cells.halves shows.halves shows.theirs in
      record {
        small = are.small;
        few = are.few;
        across = shows.xs ∙ are.across;
        along = shows.ys ∙ are.along;
        low = are.low;
      }

  -- an agent that has a class has the one that there is
  classed : (b : Agent) → is_some (class_of program b) ≡ true
      → (b.class ≡ 0) × (class_of program b ≡ Some shows.own)
  classed b some =
      by_some (class_of program b) some
      (λ d has. let zero : b.class ≡ 0 = omega (
        arith,
        ap length shows.one,
        slice_get_within program.classes b.class d has,
      ) in
      (zero, ap (slice_get program.classes) zero ∙ ap (λ l. slice_get l 0) shows.one))

  abbrev spot_at : ℕ → Spot
  spot_at row = get_or spots row no_spot

  abbrev pub eye_of : ℕ → Eye
  eye_of row = record {
    x = (spot_at row).x;
    y = (spot_at row).y;
    range = shows.range;
    class = class;
    place = row;
  }

  pub eye_is : (row : ℕ) (a : Agent) → slice_get agents row ≡ Some a
      → IsEye program row a class (eye_of row)
  eye_is row a got =
      let low = slice_get_within agents row a got in
      let here : get_or agents row a ≡ a = get_or_from_slice_get agents row a a got in
      let known = classed a (subst (λ (b : Agent). is_some (class_of program b) ≡ true) here
      (is.cells.theirs.known row a low)) in
      let stands : spot_at row ≡ spot_of program side row a =
      is.cells.theirs.each row no_spot a low ∙ ap (spot_of program side row) here in
      let at = place_is program a shows.own known.1 in
      record {
        own = shows.own;
        has = known.1;
        range = shows.far;
        x = ap (λ (s : Spot). s.x) stands ∙ ap (λ (p : Point). p.x) at;
        y = ap (λ (s : Spot). s.y) stands ∙ ap (λ (p : Point). p.y) at;
        sought = refl;
        at = refl;
      }

  x_at : (k : ℕ) (d : Spot) → k < length spots
      → get_or glance.xs.now k (pos 0) ≡ int_wrap w32 (get_or spots k d).x
  x_at k d low =
      let half : Spot → ℤ = λ s. int_wrap w32 s.x in
      ap (λ l. get_or l k (pos 0)) halves.across
      ∙ get_or_append_left (map half spots) (replicate 4 (pos 0)) (pos 0) k
      (omega (arith, low, length-map spots half))
      ∙ get_or-map half spots k d (pos 0) low

  y_at : (k : ℕ) (d : Spot) → k < length spots
      → get_or glance.ys.now k (pos 0) ≡ int_wrap w32 (get_or spots k d).y
  y_at k d low =
      let half : Spot → ℤ = λ s. int_wrap w32 s.y in
      ap (λ l. get_or l k (pos 0)) halves.along
      ∙ get_or_append_left (map half spots) (replicate 4 (pos 0)) (pos 0) k
      (omega (arith, low, length-map spots half))
      ∙ get_or-map half spots k d (pos 0) low

  pub looked : (row : ℕ) → row < length spots → IsLooked glance row (eye_of row)
  looked row low = record {
    x = slice_get-get_or glance.xs.now row (pos 0)
        (omega (arith, low, wide spots (λ s. int_wrap w32 s.x) glance.xs.now halves.across))
        ∙ ap (λ v. Some v) (x_at row no_spot low);
    y = slice_get-get_or glance.ys.now row (pos 0)
        (omega (arith, low, wide spots (λ s. int_wrap w32 s.y) glance.ys.now halves.along))
        ∙ ap (λ v. Some v) (y_at row no_spot low);
    range = shows.sees;
    place = refl;
  }

  -- the number of the cell of a spot
  cell_is : (k : ℕ) (d : Spot) → k < length spots
      → (get_or spots k d).cell ≡ cell_number side (get_or spots k d).x (get_or spots k d).y
  cell_is k d low =
      let is_it = is.cells.theirs.each k d nowhere.this
      (omega (arith, low, is.cells.theirs.long)) in
      let cell : Spot → Spot → ℤ = λ s t. cell_number side s.x t.y in
      ap (λ (s : Spot). s.cell) is_it ∙ sym (λ i. cell (is_it i) (is_it i))

  clear_run : (row : ℕ) → row < length spots → (t cell : ℤ) (run : Run) → negsuc 0 ≤ℤ t
      → t ≤ℤ pos 1 → cell ≡ (spot_at row).cell +ℤ (t *ℤ height) → IsRun spots cell run
      → AreClear (eye_of row) glance.xs.now glance.ys.now run.start run.end spots
  clear_run row low t cell run west east at around = record {
    within = around.end.within;
    each = λ k d from to.
        let s = spot_at row in
        let other : Spot = get_or spots k d in
        let there : k < length spots = omega (arith, to, around.end.within) in
        let b : Agent = get_or agents k nowhere.this in
        let known = classed b
        (is.cells.theirs.known k nowhere.this (omega (arith, there, is.cells.theirs.long))) in
        let stands : other ≡ spot_of program side k b =
        is.cells.theirs.each k d nowhere.this (omega (arith, there, is.cells.theirs.long)) in
        let own_row = number_low side is.cells.some s.y (halves.low row no_spot low) in
        let its_row = number_low side is.cells.some other.y (halves.low k d there) in
        let beside = run_beside (grids.cell_number side s.x) (grids.cell_number side other.x)
        (grids.cell_number side s.y) (grids.cell_number side other.y) t west east
        own_row.0 own_row.1 its_row.0 its_row.1
        (omega (
          arith,
          ints,
          at,
          cell_is row no_spot low,
          cell_is k d there,
          around.start.rest k d from there,
        ))
        (omega (
          arith,
          ints,
          at,
          cell_is row no_spot low,
          cell_is k d there,
          around.end.front k d to,
        )) in
        record {
          of = ap (λ (u : Spot). u.class) stands ∙ known.0 ∙ sym shows.first;
          at = ap (λ (u : Spot). u.place) stands;
          x = x_at k d there;
          y = y_at k d there;
          across = omega (
            arith,
            ints,
            halves.small,
            number_apart side is.cells.some s.x other.x beside.0.0,
            number_apart side is.cells.some other.x s.x beside.0.1,
          );
          along = omega (
            arith,
            ints,
            halves.small,
            number_apart side is.cells.some s.y other.y beside.1.0,
            number_apart side is.cells.some other.y s.y beside.1.1,
          );
        };
  }

  pub clear : (row : ℕ) (runs : Runs) → row < length spots
      → IsAround scene.cells.now (spot_at row).cell runs
      → AreClearAround (eye_of row) glance runs spots
  clear row runs low around =
      let cell = (spot_at row).cell in
      record {
        west = clear_run row low (negsuc 0) (cell -ℤ height) runs.west (omega (arith, ints))
            (omega (arith, ints)) (omega (arith, ints)) around.west;
        middle = clear_run row low (pos 0) cell runs.middle (omega (arith, ints))
            (omega (arith, ints)) (omega (arith, ints)) around.middle;
        east = clear_run row low (pos 1) (cell +ℤ height) runs.east (omega (arith, ints))
            (omega (arith, ints)) (omega (arith, ints)) around.east;
      }
