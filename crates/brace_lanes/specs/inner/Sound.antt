-- What always holds of a seat in plain memory.
use Rattle.std.specs.Prelude.{◌≡◌, ℕ, ◌*◌, ◌^◌, ◌≤◌, List, [], length}
use Rattle.atomic_table.specs.declared.shared.Seat.{Seat}
use Rattle.brace_core.specs.Schedule.{Schedule}
use Rattle.brace_core.specs.Lanes.{AreBelow}
use Rattle.brace_lanes.specs.declared.table.View.{View}
use Rattle.brace_lanes.specs.declared.table.Hand.TheVariants.{Empty}
use Rattle.brace_lanes.specs.Places.{slot_count, word_count}

-- the counts that it keeps are those of its view, between two calls no slot is out with it, and its
-- lanes serve every name of its setting
pub record IsSound {X S : Type 0} (schedule : S → Schedule) (seat : Seat X (View S))
    (actors : ℕ) (put taken : List ℕ) : Type 0 where
  pub among : seat.me.0.actors ≡ actors
  pub few : actors ≤ 65
  pub words : seat.table_id.words ≡ word_count actors
  pub slots : seat.table_id.slots ≡ slot_count actors
  pub puts : put ≡ seat.me.0.put
  pub takes : taken ≡ seat.me.0.taken
  pub square_put : length put ≡ actors * actors
  pub square_taken : length taken ≡ actors * actors
  pub square_seen : length seat.me.0.seen ≡ actors * actors
  pub square_misses : length seat.me.0.misses ≡ actors * actors
  pub no_slot : seat.me.1 ≡ []
  pub idle : seat.me.0.hand ≡ Empty
  pub below : AreBelow (schedule seat.me.0.setting) actors
  pub short : length (schedule seat.me.0.setting).steps ≤ 2 ^ 40
