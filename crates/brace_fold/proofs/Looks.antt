-- Rows that are found, written without a branch.
use Rattle.std.proofs.Common.{◌≡◌, ◌∙◌, refl, sym, ap, ap₂, arith, ℕ, ◌+◌, ◌-◌, ◌<◌, ◌≤◌, Bool, true, false, cond, if◌then◌else◌, List, [], ◌∷◌, ◌++◌, append_assoc, filter, length, map, take, drop, set, get_or, add-zero}
use Rattle.std.specs.Prelude.{replicate}
use Rattle.std.proofs.lemmas.List.{append-nil, drop-take, drop_at, length-append, length-take-le, take-append-le, take-set, take-take, take_all, take_at, take_more, take_more_set}
use Rattle.brace_fold.specs.declared.cells.Runs.{Runs}
use Rattle.brace_fold.specs.declared.cells.Spot.{Spot}
use Rattle.brace_fold.specs.declared.seeing.Cut.{Cut}
use Rattle.brace_fold.specs.declared.seeing.Eye.{Eye}
use Rattle.brace_fold.specs.inner.Deeds.{between}
use Rattle.brace_fold.specs.inner.Sights.{Appended, found_around, found_in, is_found, spots_along}

-- a row written behind the front, and kept or not
pub put_kept : (out : List ℕ) (place row : ℕ) (keeps : Bool) → place < length out
    → take (place + (if keeps then 1 else 0)) (set out place row) ≡ take place out ++ (if keeps then row ∷ [] else [])
put_kept out place row true h = take_more_set out place row h
put_kept out place row false h = rw (add-zero, append-nil) (take-set out place row)

-- pieces of a list, joined from the right
pub joined : (a b c d : List ℕ) → ((a ++ b) ++ c) ++ d ≡ a ++ (b ++ (c ++ d))
joined a b c d = append_assoc (a ++ b) c d ∙ append_assoc a b (c ++ d)

module _ (eye : Eye) (cuts : List Cut) where
  -- one spot more
  pub found-append : (spots : List Spot) (s : Spot)
      → found_in eye cuts (spots ++ s ∷ []) ≡ found_in eye cuts spots ++ (if is_found eye cuts s then s.place ∷ [] else [])
  found-append [] s = one (is_found eye cuts s)
    where
      one : (b : Bool) → map (λ (x : Spot). x.place) (cond b (s ∷ []) []) ≡ (if b then s.place ∷ [] else [])
      one true = refl
      one false = refl
  found-append (x ∷ spots) s = by (is_found eye cuts x) (found-append spots s)
    where
      by : (b : Bool) → found_in eye cuts (spots ++ s ∷ []) ≡ found_in eye cuts spots ++ (if is_found eye cuts s then s.place ∷ [] else [])
          → map (λ (t : Spot). t.place) (cond b (x ∷ filter (is_found eye cuts) (spots ++ s ∷ [])) (filter (is_found eye cuts) (spots ++ s ∷ [])))
          ≡ map (λ (t : Spot). t.place) (cond b (x ∷ filter (is_found eye cuts) spots) (filter (is_found eye cuts) spots))
          ++ (if is_found eye cuts s then s.place ∷ [] else [])
      by true h = ap (λ (l : List ℕ). x.place ∷ l) h
      by false h = h

-- a loop's step: a row written for one spot more
pub found_more : (eye : Eye) (spots : List Spot) (i row : ℕ) (keeps : Bool) (start before after : List ℕ) (d : Spot) → i < length spots
    → after ≡ before ++ (if keeps then row ∷ [] else []) → row ≡ (get_or spots i d).place → keeps ≡ is_found eye [] (get_or spots i d)
    → before ≡ start ++ found_in eye [] (take i spots) → after ≡ start ++ found_in eye [] (take (i + 1) spots)
found_more eye spots i row keeps start before after d low written at is so_far =
    written
    ∙ ap₂ (λ (l : List ℕ) (tail : List ℕ). l ++ tail) so_far (ap₂ (λ (b : Bool) (r : ℕ). if b then r ∷ [] else []) is at)
    ∙ append_assoc start (found_in eye [] (take i spots)) (if is_found eye [] (get_or spots i d) then (get_or spots i d).place ∷ [] else [])
    ∙ ap (λ (l : List ℕ). start ++ l)
    (sym (found-append eye [] (take i spots) (get_or spots i d)) ∙ ap (found_in eye []) (sym (take_more spots i d low)))

-- the front of rows that were made more
pub roomy : (old new : List ℕ) (count more : ℕ) → length old ≤ count
    → new ≡ take count old ++ replicate more 0 → (n : ℕ) → n ≤ length old
    → take n new ≡ take n old
roomy old new count more le is n low =
    ap (take n) (is ∙ ap (λ l. l ++ replicate more 0) (take_all count old le))
    ∙ take-append-le n old (replicate more 0) low

-- what is found in three runs, one behind the other, behind rows that stood before
pub found_runs : (eye : Eye) (spots : List Spot) (runs : Runs) (w m e : List Spot)
    (from first second third : ℕ) (old start one two new : List ℕ) → w ≡ spots_along runs.west spots
    → m ≡ spots_along runs.middle spots → e ≡ spots_along runs.east spots
    → take from start ≡ take from old
    → take first one ≡ take from start ++ found_in eye [] w
    → take second two ≡ take first one ++ found_in eye [] m
    → take third new ≡ take second two ++ found_in eye [] e → third ≤ length new
    → Appended from third old new (found_around eye [] spots runs)
found_runs eye spots runs w m e from first second third old start one two new west middle east kept
    first_is second_is third_is within =
    let finds = found_in eye [] in
    record {
      within = within;
      rows = third_is
          ∙ ap (λ l. l ++ finds e) (second_is ∙ ap (λ l. l ++ finds m)
          (first_is ∙ ap (λ l. l ++ finds w) kept))
          ∙ joined (take from old) (finds w) (finds m) (finds e)
          ∙ ap (λ l. take from old ++ (finds l ++ (finds m ++ finds e))) west
          ∙ ap (λ l. take from old ++ (finds (spots_along runs.west spots)
          ++ (finds l ++ finds e))) middle
          ∙ ap (λ l. take from old ++ (finds (spots_along runs.west spots)
          ++ (finds (spots_along runs.middle spots) ++ finds l))) east;
    }

-- rows that stand behind others
module _ (from count : ℕ) (old new more : List ℕ) (low : from ≤ length old)
    (is : Appended from count old new more) where
  pub appended_count : count ≡ from + length more
  appended_count =
      sym (length-take-le count new is.within) ∙ ap length is.rows
      ∙ length-append (take from old) more
      ∙ ap (λ n. n + length more) (length-take-le from old low)

  pub appended_front : take from new ≡ take from old
  appended_front =
      sym (take-take from count new (omega (arith, appended_count)))
      ∙ ap (take from) is.rows
      ∙ take_at (take from old) more from (length-take-le from old low)

  pub appended_behind : between from count new ≡ more
  appended_behind =
      sym (drop-take from (count - from) new)
      ∙ ap (λ n. drop from (take n new))
      (let e : from + (count - from) ≡ count = omega (arith, appended_count) in e)
      ∙ ap (drop from) is.rows
      ∙ drop_at (take from old) more from (length-take-le from old low)
