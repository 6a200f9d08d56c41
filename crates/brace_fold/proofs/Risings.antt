-- What is found in the three runs around a cell is found in the order of the rows.
use Rattle.std.proofs.Common.{◌≡◌, ◌∙◌, sym, ap, subst, ℕ, zero, suc, ◌+◌, ◌-◌, ◌<◌, ◌≤◌, ℤ, pos, ◌+ℤ◌, ◌-ℤ◌, ◌≤ℤ◌, Bool, true, false, cond, List, [], ◌∷◌, ◌++◌, length, map, filter, get_or, arith, ⊎_elim}
use Rattle.std.specs.List.Sorted.{IsNonDecreasing}
use Rattle.std.proofs.lemmas.Bool.{cases_lt}
use Rattle.std.proofs.lemmas.Int.{ints}
use Rattle.brace_model.specs.declared.program.Program.{Program}
use Rattle.brace_model.specs.declared.world.Agent.{Agent}
use Rattle.brace_fold.specs.declared.cells.Cells.{Cells}
use Rattle.brace_fold.specs.declared.cells.Run.{Run}
use Rattle.brace_fold.specs.declared.cells.Runs.{Runs}
use Rattle.brace_fold.specs.declared.cells.Spot.{Spot}
use Rattle.brace_fold.specs.declared.seeing.Cut.{Cut}
use Rattle.brace_fold.specs.declared.seeing.Eye.{Eye}
use Rattle.brace_fold.specs.inner.Sights.{AreCells, IsAround, IsRank, IsRun, found_around, found_in, is_found, spots_along}
use Rattle.brace_fold.proofs.Counting.{some_item}
use Rattle.brace_fold.proofs.Walks.{between-at, between-long}

-- numbers rise from one on, and stay below another
abbrev Rise : ℕ → ℕ → List ℕ → Type 0
Rise low high [] = low ≤ high
Rise low high (x ∷ xs) = (low ≤ x) × Rise (x + 1) high xs

rise-lower : (low start high : ℕ) (xs : List ℕ) → low ≤ start → Rise start high xs → Rise low high xs
rise-lower low start high [] le h = omega (arith, le, h)
rise-lower low start high (x ∷ xs) le h = (omega (arith, le, h.0), h.1)

rise-append : (low mid high : ℕ) (xs ys : List ℕ) → Rise low mid xs → Rise mid high ys → Rise low high (xs ++ ys)
rise-append low mid high [] ys h k = rise-lower low mid high ys h k
rise-append low mid high (x ∷ xs) ys h k = (h.0, rise-append (x + 1) mid high xs ys h.1 k)

rise-least : (low high : ℕ) (xs : List ℕ) → Rise low high xs → (k d : ℕ) → k < length xs → low ≤ get_or xs k d
rise-least low high [] h k d less = absurd (omega (arith, less))
rise-least low high (x ∷ xs) h zero d less = h.0
rise-least low high (x ∷ xs) h (suc k) d less =
    let rest = rise-least (x + 1) high xs h.1 k d (omega (arith, less)) in
    omega (arith, h.0, rest)

rise-sorted : (low high : ℕ) (xs : List ℕ) → Rise low high xs → IsNonDecreasing xs
rise-sorted low high [] h i j d le less = absurd (omega (arith, less))
rise-sorted low high (x ∷ xs) h zero zero d le less = omega arith
rise-sorted low high (x ∷ xs) h zero (suc j) d le less =
    let rest = rise-least (x + 1) high xs h.1 j d (omega (arith, less)) in
    omega (arith, rest)
rise-sorted low high (x ∷ xs) h (suc i) zero d le less = absurd (omega (arith, le))
rise-sorted low high (x ∷ xs) h (suc i) (suc j) d le less =
    rise-sorted (x + 1) high xs h.1 i j d (omega (arith, le)) (omega (arith, less))

-- the rows that are found among spots of rows one behind the other
found-rise : (eye : Eye) (cuts : List Cut) (spots : List Spot) (start end : ℕ)
    → ((k : ℕ) (s : Spot) → k < length spots → (get_or spots k s).place ≡ start + k)
    → start + length spots ≤ end → Rise start end (found_in eye cuts spots)
found-rise eye cuts [] start end at le = omega (arith, le)
found-rise eye cuts (s ∷ spots) start end at le =
    let first = at 0 s (omega arith) in
    by (is_found eye cuts s) (omega (arith, first))
    (found-rise eye cuts spots (start + 1) end
    (λ k t low. let next = at (suc k) t (omega (arith, low)) in omega (arith, next)) (omega (arith, le)))
  where
    by : (p : Bool) → s.place ≡ start → Rise (start + 1) end (found_in eye cuts spots)
        → Rise start end (map (λ (s : Spot). s.place) (cond p (s ∷ filter (is_found eye cuts) spots) (filter (is_found eye cuts) spots)))
    by true here rest = (omega (arith, here), subst (λ n. Rise (n + 1) end (found_in eye cuts spots)) (sym here) rest)
    by false here rest = rise-lower start (start + 1) end (found_in eye cuts spots) (omega arith) rest

-- more spots come before a cell that is not before another one
rank-le : (spots : List Spot) (c d : ℤ) (r s : ℕ) → IsRank spots c r → IsRank spots d s → c ≤ℤ d → r ≤ s
rank-le spots c d r s h k le =
    ⊎_elim
    (λ (less : s < r).
    let within : s < length spots = omega (arith, less, h.within) in
    let x = some_item spots s within in
    let below = h.front s x less in
    let above = k.rest s x (omega arith) within in
    absurd (omega (arith, ints, below, above, le)))
    (λ (fine : r ≤ s). fine)
    (cases_lt s r)

run-order : (spots : List Spot) (cell : ℤ) (run : Run) → IsRun spots cell run → run.start ≤ run.end
run-order spots cell run is =
    let le : (cell -ℤ pos 1) ≤ℤ (cell +ℤ pos 2) = omega (arith, ints) in
    rank-le spots (cell -ℤ pos 1) (cell +ℤ pos 2) run.start run.end is.start is.end le

module _ (program : Program) (agents : List Agent) (cells : Cells)
    (are : AreCells program agents cells) (eye : Eye) (cuts : List Cut) where
  run-rise : (run : Run) → run.start ≤ run.end → run.end ≤ length cells.spots.items
      → Rise run.start run.end (found_in eye cuts (spots_along run cells.spots.items))
  run-rise run order within =
      let spots = cells.spots.items in
      let long : length (spots_along run spots) ≡ run.end - run.start = between-long run.start run.end spots within in
      found-rise eye cuts (spots_along run spots) run.start run.end
      (λ k s low.
      let inside : run.start + k < run.end = omega (arith, low, long, order) in
      let there : run.start + k < length agents = omega (arith, inside, within, are.theirs.long) in
      let a = some_item agents (run.start + k) there in
      ap (λ (x : Spot). x.place) (between-at run.start run.end spots k s inside)
      ∙ ap (λ (x : Spot). x.place) (are.theirs.each (run.start + k) s a there))
      (omega (arith, long, order))

  -- what is found around a cell rises
  pub around_rises : (cell : ℤ) (runs : Runs) → IsAround cells cell runs
      → IsNonDecreasing (found_around eye cuts cells.spots.items runs)
  around_rises cell runs is =
      let spots = cells.spots.items in
      let west = runs.west in
      let middle = runs.middle in
      let east = runs.east in
      let low : ((cell -ℤ pos 524288) +ℤ pos 2) ≤ℤ (cell -ℤ pos 1) = omega (arith, ints) in
      let high : (cell +ℤ pos 2) ≤ℤ ((cell +ℤ pos 524288) -ℤ pos 1) = omega (arith, ints) in
      let first = rank-le spots ((cell -ℤ pos 524288) +ℤ pos 2) (cell -ℤ pos 1) west.end middle.start is.west.end is.middle.start low in
      let second = rank-le spots (cell +ℤ pos 2) ((cell +ℤ pos 524288) -ℤ pos 1) middle.end east.start is.middle.end is.east.start high in
      let in_west = found_in eye cuts (spots_along west spots) in
      let in_middle = found_in eye cuts (spots_along middle spots) in
      let in_east = found_in eye cuts (spots_along east spots) in
      rise-sorted west.start east.end (found_around eye cuts spots runs)
      (rise-append west.start west.end east.end in_west (in_middle ++ in_east)
      (run-rise west (run-order spots _ west is.west) is.west.end.within)
      (rise-lower west.end middle.start east.end (in_middle ++ in_east) first
      (rise-append middle.start middle.end east.end in_middle in_east
      (run-rise middle (run-order spots cell middle is.middle) is.middle.end.within)
      (rise-lower middle.end east.start east.end in_east second
      (run-rise east (run-order spots _ east is.east) is.east.end.within)))))
