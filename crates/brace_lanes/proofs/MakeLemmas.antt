-- The seats of new lanes, after one more was made.
use Rattle.std.proofs.Common.{◌≡◌, ◌≤◌, ◌<◌, ◌+◌, ◌-◌, ◌∙◌, ℕ, List, [], ◌∷◌, ◌++◌, length, map, sym, ap, subst, arith}
use Rattle.std.specs.Prelude.{slice_set}
use Rattle.std.specs.List.{range_with_len}
use Rattle.std.proofs.lemmas.List.FromFn.{map-range_with_len_more}
use Rattle.atomic_table.specs.Seated.{TableId}
use Rattle.brace_lanes.specs.Views.{opening, splitting, newcomer}
use Rattle.brace_lanes.specs.Seats.{OnSeat, new_seats}

module _ {S : Type 0} (lanes : TableId) (setting : S) (actors seats : ℕ) where
  abbrev pub first_seat : ℕ → OnSeat S
  first_seat made = record { lanes = lanes; view = opening setting actors seats 0 made }

  abbrev pub other_seat : ℕ → OnSeat S
  other_seat k = record { lanes = lanes; view = opening setting actors seats k 0 }

  pub some_seats : (items : List (OnSeat S)) (made : ℕ) → items ≡ new_seats lanes setting actors seats made → 0 < length items
  some_seats items made e = subst (λ (l : List (OnSeat S)). 0 < length l) (sym e) (omega arith)

  pub one_more : (items : List (OnSeat S)) (made : ℕ) (old first new : OnSeat S) → items ≡ new_seats lanes setting actors seats made → 1 ≤ made → old ≡ first_seat made
      → first ≡ record old { view = splitting old.view } → new ≡ record old { view = newcomer old.view }
      → slice_set items 0 first ++ new ∷ [] ≡ new_seats lanes setting actors seats (made + 1)
  one_more items made old first new e some was f n =
      let left : made - 1 + 1 ≡ made + 1 - 1 = omega (arith, some) in
      let g : first ≡ first_seat (made + 1) = f ∙ ap (λ (s : OnSeat S). record s { view = splitting s.view }) was in
      let h : new ≡ other_seat made = n ∙ ap (λ (s : OnSeat S). record s { view = newcomer s.view }) was in
      (λ i. slice_set (e i) 0 (g i) ++ h i ∷ [])
      ∙ ap (λ l. first_seat (made + 1) ∷ l) (sym (map-range_with_len_more other_seat 1 (made - 1) made (omega (arith, some))))
      ∙ ap (λ j. first_seat (made + 1) ∷ map other_seat (range_with_len 1 j)) left
