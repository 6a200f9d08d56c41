-- A seat as contracts see it, and what it counts of each lane.
use Rattle.std.specs.Prelude.{◌≡◌, ℕ, ◌-◌, ◌≤◌, ◌&&◌, List, ◌∷◌, cond, map, nat_lt, slice_index}
use Rattle.std.specs.List.{range_with_len}
use Rattle.atomic_table.specs.Seated.{TableId}
use Rattle.brace_lanes.specs.declared.table.View.{View}
use Rattle.brace_lanes.specs.Places.{place}
use Rattle.brace_lanes.specs.Views.{opening}

-- which lanes it is a seat of, and what it knows
pub record OnSeat (S : Type 0) : Type 0 where
  pub lanes : TableId
  pub view : View S

-- the number at the place of two actors, and 0 where one is none of n
abbrev pub count_at : ℕ → List ℕ → ℕ → ℕ → ℕ
count_at n counts a b = cond (nat_lt a n && nat_lt b n) (slice_index counts (place n a b)) 0

-- how many names of the lane from p to q the seat put, how many it took, how many of them the last
-- look found put, and how many looks found no name
abbrev pub puts_of : {S : Type 0} → View S → ℕ → ℕ → ℕ
puts_of v p q = count_at v.actors v.put p q

abbrev pub takes_of : {S : Type 0} → View S → ℕ → ℕ → ℕ
takes_of v p q = count_at v.actors v.taken q p

abbrev pub seen_of : {S : Type 0} → View S → ℕ → ℕ → ℕ
seen_of v p q = count_at v.actors v.seen q p

abbrev pub misses_of : {S : Type 0} → View S → ℕ → ℕ → ℕ
misses_of v p q = count_at v.actors v.misses q p

-- the same setting, actors, seats and number
pub record IsSameSeat {S : Type 0} (v w : View S) : Type 0 where
  pub setting : w.setting ≡ v.setting
  pub actors : w.actors ≡ v.actors
  pub seats : w.seats ≡ v.seats
  pub number : w.number ≡ v.number

-- a seat at a later time: no look that found nothing is forgotten
pub record IsLater {S : Type 0} (v w : OnSeat S) : Type 0 where
  pub lanes : w.lanes ≡ v.lanes
  pub same : IsSameSeat v.view w.view
  pub misses : (p q : ℕ) → misses_of v.view p q ≤ misses_of w.view p q

-- all seats of new lanes of which so many are made, by rising number
abbrev pub new_seats : {S : Type 0} → TableId → S → ℕ → ℕ → ℕ → List (OnSeat S)
new_seats lanes setting actors seats made =
    record { lanes = lanes; view = opening setting actors seats 0 made }
    ∷ map (λ k. record { lanes = lanes; view = opening setting actors seats k 0 })
    (range_with_len 1 (made - 1))
