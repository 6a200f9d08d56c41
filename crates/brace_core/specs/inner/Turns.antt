-- When an actor can make a turn at plain lanes, and which of them is the first that can.
use Rattle.std.specs.Prelude.{◌≡◌, ℕ, ◌+◌, ◌%◌, ◌<◌, Bool, true, false, nat_lt, IsTrue, List, slice_index}
use Rattle.brace_core.specs.declared.name.Turn.{Turn}
use Rattle.brace_core.specs.declared.name.Turn.TheVariants.{Put, Take, Work, Done}
use Rattle.brace_core.specs.Schedule.{Schedule, turn_at}
use Rattle.brace_core.specs.Lanes.{OnLanes, puts_of, takes_of}

-- whether a turn can be made: a take where more names were put on its lane than taken from it
abbrev pub can_make : {F S : Type 0} → OnLanes F S → Turn → Bool
can_make v (Put n) = true
can_make v (Take n) = nat_lt (takes_of v n.from n.to) (puts_of v n.from n.to)
can_make v Work = true
can_make v Done = false

-- whether actor a, of actors that have made so many turns each, can make its next turn
abbrev pub can_go_on : {F S : Type 0} → Schedule → OnLanes F S → List ℕ → ℕ → Bool
can_go_on s v pasts a = can_make v (turn_at s a (slice_index pasts a))

-- none of n numbers passes a test, from a drawn number onward, cyclically
abbrev pub NoneFrom : (ℕ → Bool) → ℕ → ℕ → Type 0
NoneFrom test n drawn = (i : ℕ) → i < n → test ((drawn + i) % n) ≡ false

-- p is the first of n numbers that passes a test, from a drawn number onward, cyclically
pub record IsFirst (test : ℕ → Bool) (n drawn p : ℕ) : Type 0 where
  pub steps : ℕ
  pub within : steps < n
  pub is : p ≡ (drawn + steps) % n
  pub passes : IsTrue (test p)
  pub first : (i : ℕ) → i < steps → test ((drawn + i) % n) ≡ false
