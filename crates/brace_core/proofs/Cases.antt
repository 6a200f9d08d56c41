-- The small schedule, computed.
use Rattle.std.proofs.Common.{◌≡◌, true, false, [], ◌∷◌, refl}
use Rattle.brace_core.specs.declared.name.Turn.TheVariants.{Put, Take, Work}
use Rattle.brace_core.specs.Schedule.{name, lane, turns}
use Rattle.brace_core.specs.inner.Small.{small}
use Rattle.brace_core.specs.Events.{opening, are_enabled, in_flight, taken_from, events_of}

events_count : events_of small ≡ 32
events_count = refl

a_lane : lane small 2 1 ≡ name 3 2 1 ∷ []
a_lane = refl

turns_of_publisher : turns small 2 ≡ Work ∷ Work ∷ Work ∷ Put (name 3 2 0) ∷ Put (name 3 2 1) ∷ Take (name 3 0 2) ∷ Take (name 3 1 2) ∷ Work ∷ []
turns_of_publisher = refl

-- no part can take before the other has put
too_early : are_enabled small opening (0 ∷ 0 ∷ []) ≡ false
too_early = refl

a_run : are_enabled small opening (0 ∷ 1 ∷ 1 ∷ 1 ∷ 1 ∷ []) ≡ true
a_run = refl

two_on_a_lane : in_flight small (0 ∷ 1 ∷ 1 ∷ 1 ∷ 1 ∷ []) 1 0 ≡ name 0 1 0 ∷ name 1 1 0 ∷ []
two_on_a_lane = refl

none_on_the_other : in_flight small (0 ∷ 1 ∷ 1 ∷ 1 ∷ 1 ∷ []) 0 1 ≡ []
none_on_the_other = refl

taken_there : taken_from small (0 ∷ 1 ∷ 1 ∷ 1 ∷ 1 ∷ []) 0 1 ≡ name 0 0 1 ∷ []
taken_there = refl
