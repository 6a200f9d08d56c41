-- Which events an order draws: for each draw the first enabled actor from the drawn number onward,
-- cyclically. And where actors and lanes stand before these and behind them.
use Rattle.std.specs.Prelude.{◌≡◌, ℕ, ◌+◌, ◌%◌, ◌^◌, ◌<◌, List, [], ◌∷◌, ◌++◌, false, IsTrue, length, slice_index}
use Rattle.brace_num.specs.Generator.{following}
use Rattle.brace_core.specs.Schedule.{Schedule, front, lane, turns}
use Rattle.brace_core.specs.Events.{State, IsRun, is_enabled, end_of, put_on, taken_from}

-- p is the first enabled actor from a drawn number onward
pub record IsChosen (s : Schedule) (x : State) (drawn p : ℕ) : Type 0 where
  pub steps : ℕ
  pub within : steps < s.actors
  pub actor : p ≡ (drawn + steps) % s.actors
  pub enabled : IsTrue (is_enabled s x p)
  pub first : (i : ℕ) → i < steps → is_enabled s x ((drawn + i) % s.actors) ≡ false

-- the events are those before, and behind them such as an order draws one after the other; g is the
-- last draw
pub data IsDrawn (s : Schedule) (order : ℕ) (before : List ℕ) : List ℕ → ℕ → Type 0 where
  none : IsDrawn s order before before (order % 2 ^ 32)
  one_more : (events : List ℕ) (g p : ℕ) → IsDrawn s order before events g
      → IsChosen s (end_of s events) (following g) p
      → IsDrawn s order before (events ++ p ∷ []) (following g)

-- actors that have made so many turns each, and lanes with these counts, stand where a run ends
pub record StandsAfter (s : Schedule) (events pasts : List ℕ) (puts takes : ℕ → ℕ → ℕ)
    : Type 0 where
  pub places : (p : ℕ) → p < s.actors → slice_index pasts p ≡ (end_of s events).place p
  pub put : (p q : ℕ) → puts p q ≡ length (put_on s events p q)
  pub taken : (p q : ℕ) → takes p q ≡ length (taken_from s events p q)

-- they stand at the end of the first steps, so many: all turns of these were made, and no others
pub record StandsAt (s : Schedule) (n : ℕ) (pasts : List ℕ) (puts takes : ℕ → ℕ → ℕ)
    : Type 0 where
  pub places : (p : ℕ) → p < s.actors → slice_index pasts p ≡ length (turns (front s n) p)
  pub put : (p q : ℕ) → puts p q ≡ length (lane (front s n) p q)
  pub taken : (p q : ℕ) → takes p q ≡ length (lane (front s n) p q)

-- a run led to where they stood, and the order drew events behind it after which they stand so
pub record HasRun (s : Schedule) (order : ℕ) (pasts : List ℕ) (puts takes : ℕ → ℕ → ℕ)
    (pasts' : List ℕ) (puts' takes' : ℕ → ℕ → ℕ) : Type 0 where
  pub before : List ℕ
  pub run : IsRun s before
  pub stood : StandsAfter s before pasts puts takes
  pub events : List ℕ
  pub last : ℕ
  pub drawn : IsDrawn s order before events last
  pub stands : StandsAfter s events pasts' puts' takes'
