-- When an actor can make a turn at lanes over links.
use Rattle.std.specs.Prelude.{ℕ, Bool, true, false, nat_lt, List, slice_index}
use Rattle.brace_core.specs.declared.name.Turn.{Turn}
use Rattle.brace_core.specs.declared.name.Turn.TheVariants.{Put, Take, Work, Done}
use Rattle.brace_core.specs.Schedule.{Schedule, turn_at}
use Rattle.brace_wire.specs.Links.{OnLinks, takes_on, received_on}

-- whether a turn can be made: a take where more pieces of its lane were received than taken
abbrev pub can_make : OnLinks → Turn → Bool
can_make v (Put n) = true
can_make v (Take n) = nat_lt (takes_on v n.from n.to) (received_on v n.from n.to)
can_make v Work = true
can_make v Done = false

-- whether actor a, of actors that have made so many turns each, can make its next turn
abbrev pub can_go_on : Schedule → OnLinks → List ℕ → ℕ → Bool
can_go_on s v pasts a = can_make v (turn_at s a (slice_index pasts a))
