-- What a seat knows, and how its steps change that.
use Rattle.std.specs.Prelude.{◌≡◌, ℕ, ◌+◌, ◌*◌, ◌%◌, ◌==◌, ◌<◌, List, cond, replicate, slice_index, slice_set}
use Rattle.brace_lanes.specs.declared.table.View.{View}
use Rattle.brace_lanes.specs.declared.table.Hand.TheVariants.{Empty, ToPut, ToTake}

-- one more at a place
abbrev pub raised : List ℕ → ℕ → List ℕ
raised counts at = slice_set counts at (slice_index counts at + 1)

module _ {S : Type 0} where
  -- a seat that has made no step
  abbrev pub opening : S → ℕ → ℕ → ℕ → ℕ → View S
  opening setting actors seats number made = record {
    setting = setting;
    actors = actors;
    seats = seats;
    number = number;
    made = made;
    put = replicate (actors * actors) 0;
    taken = replicate (actors * actors) 0;
    seen = replicate (actors * actors) 0;
    misses = replicate (actors * actors) 0;
    hand = Empty;
  }

  -- the seat serves an actor: its number is what is left of the actor's by the number of seats
  abbrev pub Serves : View S → ℕ → Type 0
  Serves v a = a % v.seats ≡ v.number

  -- after a look at the put word of the lane that comes to a place, which was n
  abbrev pub looked : View S → ℕ → ℕ → View S
  looked v at n = cond (n == slice_index v.taken at)
      (record v { seen = slice_set v.seen at n; misses = raised v.misses at })
      (record v { seen = slice_set v.seen at n; hand = ToTake at })

  -- after a look at the taken word of the lane that goes from a place
  abbrev pub claimed : View S → ℕ → View S
  claimed v at = record v { hand = ToPut at }

  -- after a store of the put word, one higher
  abbrev pub has_put : View S → ℕ → View S
  has_put v at = record v { put = raised v.put at; hand = Empty }

  -- after a store of the taken word, one higher
  abbrev pub has_taken : View S → ℕ → View S
  has_taken v at = record v { taken = raised v.taken at; hand = Empty }

  -- the first seat after one more was made, and the new one
  abbrev pub splitting : View S → View S
  splitting v = record v { made = v.made + 1 }

  abbrev pub newcomer : View S → View S
  newcomer v = opening v.setting v.actors v.seats v.made 0
