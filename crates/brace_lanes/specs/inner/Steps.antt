-- What each kind of step tells its seat, and what is asked of one.
use Rattle.std.specs.Prelude.{◌≡◌, ◌≤◌, ◌<◌, ℕ, ◌+◌, ◌-◌, ◌*◌, [], ◌∷◌, Option as opt, None, Some, slice_index}
use Rattle.atomic_table.specs.Table.{Me, Step, rest}
use Rattle.atomic_table.specs.Seated.{TableId}
use Rattle.atomic_table.specs.declared.shared.Seat.{Seat}
use Rattle.brace_core.specs.declared.name.Name.{Name}
use Rattle.brace_core.specs.Schedule.{Schedule}
use Rattle.brace_lanes.specs.declared.table.View.{View}
use Rattle.brace_lanes.specs.declared.table.Way.{Way}
use Rattle.brace_lanes.specs.Places.{place, opposite, slot, slot_count, word_count}
use Rattle.brace_lanes.specs.Views.{Serves, looked, claimed, has_put, has_taken}
use Rattle.brace_lanes.specs.Rule.{IsRightAt}

-- the place of what an actor of a seat does toward the other, and of what the other does toward it
abbrev pub forth : Way → ℕ
forth way = place way.actors way.own way.other

abbrev pub back : Way → ℕ
back way = place way.actors way.other way.own

module _ {F S : Type 0} (schedule : S → Schedule) (right : S → Name → F → Type 0) where
  -- a look at a lane that comes to a place finds at least as many names put as this seat has taken;
  -- where it finds more, the slot of the next comes out with a piece that is right
  pub record LooksAt (n lane at : ℕ) (me : Me (opt F) (View S)) (seen : ℕ)
      (after : Me (opt F) (View S)) : Type 0 where
    pub low : slice_index me.0.taken at ≤ seen
    pub missed : seen ≡ slice_index me.0.taken at → after ≡ (looked me.0 at seen, me.1)
    pub found : slice_index me.0.taken at < seen → (piece : F)
        × (after ≡ (
          looked me.0 at seen,
          (slot n lane (slice_index me.0.taken at), Some piece) ∷ me.1,
        ))
        × IsRightAt schedule right me.0.setting n lane (slice_index me.0.taken at) piece

  -- the same by the word of the step
  abbrev pub Looks : Step (opt F) → Me (opt F) (View S) → ℕ → Me (opt F) (View S) → Type 0
  Looks p me seen after =
      LooksAt me.0.actors p.word (opposite me.0.actors p.word) me seen after

  -- a seat holds the slot of the next name that it puts, with a piece that is right
  abbrev pub IsCarried : ℕ → ℕ → ℕ → Me (opt F) (View S) → Type 0
  IsCarried n lane k me = (piece : F) × (me.1 ≡ (slot n lane k, Some piece) ∷ [])
      × IsRightAt schedule right me.0.setting n lane k piece

module _ {F S : Type 0} where
  -- a claim finds at most one name that was put and is not taken; the slot of the next to be put
  -- comes out empty
  pub record ClaimsAt (n at : ℕ) (me : Me (opt F) (View S)) (seen : ℕ)
      (after : Me (opt F) (View S)) : Type 0 where
    pub low : seen ≤ slice_index me.0.put at
    pub high : slice_index me.0.put at ≤ seen + 1
    pub claimed : after ≡ (claimed me.0 at, (slot n at (slice_index me.0.put at), None) ∷ me.1)

  abbrev pub Claims : Step (opt F) → Me (opt F) (View S) → ℕ → Me (opt F) (View S) → Type 0
  Claims p me seen after = ClaimsAt me.0.actors
      (opposite me.0.actors (p.word - me.0.actors * me.0.actors)) me seen after

  -- a seat holds a slot with a piece, and no other
  abbrev pub IsOut : ℕ → Me (opt F) (View S) → Type 0
  IsOut place me = (piece : F) × (me.1 ≡ (place, Some piece) ∷ [])

  -- a store takes the slot home
  abbrev pub StoresPut : Step (opt F) → Me (opt F) (View S) → ℕ → Me (opt F) (View S) → Type 0
  StoresPut p me n after = after ≡ (has_put me.0 p.word, rest me.1)

  abbrev pub StoresTaken : Step (opt F) → Me (opt F) (View S) → ℕ → Me (opt F) (View S) → Type 0
  StoresTaken p me n after =
      after ≡ (has_taken me.0 (p.word - me.0.actors * me.0.actors), rest me.1)

  -- a seat at a table, for a step of an actor that it serves toward another
  pub record IsPlaced (table : TableId) (seat : Seat (opt F) (View S)) (way : Way) : Type 0 where
    pub same : seat.table_id ≡ table
    pub actors : seat.me.0.actors ≡ way.actors
    pub few : way.actors ≤ 65
    pub words : table.words ≡ word_count way.actors
    pub slots : table.slots ≡ slot_count way.actors
    pub own_below : way.own < way.actors
    pub other_below : way.other < way.actors
    pub serves : Serves seat.me.0 way.own
