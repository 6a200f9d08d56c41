-- What always holds of the words and slots of lanes and of the views of all seats, in any schedule
-- of threads.
use Rattle.std.specs.Prelude.{◌≡◌, ◌≤◌, ◌<◌, ◌⊎◌, ℕ, ◌+◌, ◌*◌, ◌%◌, List, Option as opt, None, Some, length, slice_index}
use mathlib.Core.Option.{Option, none, some}
use lib.ListN.{get_elem?}
use Rattle.atomic_table.specs.Table.{State}
use Rattle.brace_lanes.specs.declared.table.View.{View}
use Rattle.brace_lanes.specs.declared.table.Hand.{Hand}
use Rattle.brace_lanes.specs.declared.table.Hand.TheVariants.{ToPut, ToTake}
use Rattle.brace_core.specs.declared.name.Name.{Name}
use Rattle.brace_core.specs.Schedule.{Schedule}
use Rattle.brace_core.specs.Exchanges.{IsNext}
use Rattle.brace_lanes.specs.Places.{place, slot, put_word, word_count, put_of, taken_of}
use Rattle.brace_lanes.specs.Views.{Serves}

-- a list has a number for each place among n actors
abbrev pub IsSquare : ℕ → List ℕ → Type 0
IsSquare n counts = length counts ≡ n * n

-- what the view of one seat says is so: its counts are the words that it alone writes, and what it
-- saw of a put word is at most that word now
pub record Fits {S : Type 0} (n seats made : ℕ) (words : List ℕ) (v : View S) : Type 0 where
  pub among : v.actors ≡ n
  pub of_seats : v.seats ≡ seats
  pub square_put : IsSquare n v.put
  pub square_taken : IsSquare n v.taken
  pub square_seen : IsSquare n v.seen
  pub square_misses : IsSquare n v.misses
  pub below : v.number < made
  pub first : v.number ≡ 0 → v.made ≡ made
  pub put : (a b : ℕ) → a < n → b < n → Serves v a →
      slice_index v.put (place n a b) ≡ put_of n words a b
  pub taken : (a b : ℕ) → a < n → b < n → Serves v a →
      slice_index v.taken (place n a b) ≡ taken_of n words b a
  pub seen : (a b : ℕ) → a < n → b < n → Serves v a →
      slice_index v.seen (place n a b) ≤ put_of n words b a

-- among n actors, with so many seats, of which some are made: put of a lane is at least its taken
-- and at most one more than taken of the opposite lane, each view fits, no two seats have one
-- number, and what a seat not yet made would write is 0
pub record KeptAmong {X S : Type 0} (n seats made : ℕ) (s : State X (View S)) : Type 0 where
  pub size : length s.words ≡ word_count n
  pub in_order : (p q : ℕ) → p < n → q < n → taken_of n s.words p q ≤ put_of n s.words p q
  pub answered : (p q : ℕ) → p < n → q < n → put_of n s.words p q ≤ taken_of n s.words q p + 1
  pub each : (j : ℕ) (v : View S) → get_elem? s.views j ≡ some v → Fits n seats made s.words v
  pub alone : (j k : ℕ) (v w : View S) → get_elem? s.views j ≡ some v →
      get_elem? s.views k ≡ some w → v.number ≡ w.number → j ≡ k
  pub not_made : (a b : ℕ) → a < n → b < n → made ≤ a % seats →
      (put_of n s.words a b ≡ 0) × (taken_of n s.words b a ≡ 0)

-- a fact of every lane at every moment
abbrev pub OnLanes : (X S : Type 0) → (ℕ → List ℕ → ℕ → ℕ → Type 0) → Type 0
OnLanes X S P = (n seats made : ℕ) (s : State X (View S)) → KeptAmong n seats made s →
    (p q : ℕ) → p < n → q < n → P n s.words p q

-- a seat holds a slot for this
abbrev pub IsHeld : {S : Type 0} → List (View S) → Hand → Type 0
IsHeld {S} views hand =
    (j : ℕ) × (v : View S) × (get_elem? views j ≡ some v) × (v.hand ≡ hand)

-- a seat holds a slot of the lane from a to b for a put: it serves a, it has put at most as many
-- names as it has taken of the opposite lane, and the slot of the next name is out
pub record IsPutting {F S : Type 0} (n : ℕ) (words : List ℕ) (homes : List (Option (opt F)))
    (v : View S) (a b : ℕ) : Type 0 where
  pub serves : Serves v a
  pub answered : put_of n words a b ≤ taken_of n words b a
  pub out : get_elem? homes (slot n (put_word n a b) (put_of n words a b)) ≡ some none

-- a seat holds a slot of the lane from b to a for a take: it serves a, a name is in flight, and the
-- slot of the oldest is out
pub record IsTaking {F S : Type 0} (n : ℕ) (words : List ℕ) (homes : List (Option (opt F)))
    (v : View S) (a b : ℕ) : Type 0 where
  pub serves : Serves v a
  pub found : taken_of n words b a < put_of n words b a
  pub out : get_elem? homes (slot n (put_word n b a) (taken_of n words b a)) ≡ some none

module _ {F S : Type 0} (schedule : S → Schedule) (right : S → Name → F → Type 0) where
  -- a piece is right for the name of a lane that so many come before
  abbrev pub IsRightAt : S → ℕ → ℕ → ℕ → F → Type 0
  IsRightAt setting n lane k piece = (name : Name) →
      put_word n name.from name.to ≡ lane → IsNext (schedule setting) name k →
      right setting name piece

  -- a slot is at home with a piece that is right
  abbrev pub IsFull : S → ℕ → List (Option (opt F)) → ℕ → ℕ → Type 0
  IsFull setting n homes lane k = (piece : F)
      × (get_elem? homes (slot n lane k) ≡ some (some (Some piece)))
      × IsRightAt setting n lane k piece

  -- all seats have one setting; the slots of the names in flight are at home with their pieces, but
  -- for the oldest where it is held for a take; those of the names that come next are at home and
  -- empty, but for the first where it is held for a put; and a slot is out where a seat holds it
  pub record SlotsKept (n : ℕ) (setting : S) (s : State (opt F) (View S)) : Type 0 where
    pub settings : (j : ℕ) (v : View S) → get_elem? s.views j ≡ some v → v.setting ≡ setting
    pub flying : (p q k : ℕ) → p < n → q < n →
        taken_of n s.words p q ≤ k → k < put_of n s.words p q →
        IsFull setting n s.homes (put_word n p q) k
        ⊎ ((k ≡ taken_of n s.words p q) × IsHeld s.views (ToTake (place n q p)))
    pub free : (p q k : ℕ) → p < n → q < n →
        put_of n s.words p q ≤ k → k < taken_of n s.words p q + 2 →
        (get_elem? s.homes (slot n (put_word n p q) k) ≡ some (some None))
        ⊎ ((k ≡ put_of n s.words p q) × IsHeld s.views (ToPut (place n p q)))
    pub putting : (j : ℕ) (v : View S) → get_elem? s.views j ≡ some v →
        (a b : ℕ) → a < n → b < n → v.hand ≡ ToPut (place n a b) →
        IsPutting n s.words s.homes v a b
    pub taking : (j : ℕ) (v : View S) → get_elem? s.views j ≡ some v →
        (a b : ℕ) → a < n → b < n → v.hand ≡ ToTake (place n a b) →
        IsTaking n s.words s.homes v a b

  -- the rule of words, views and slots
  abbrev pub IsKept : State (opt F) (View S) → Type 0
  IsKept s = (n : ℕ) × (seats : ℕ) × (made : ℕ) × (setting : S)
      × KeptAmong n seats made s × SlotsKept n setting s
