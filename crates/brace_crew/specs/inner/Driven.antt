-- What holds of a bench at every moment, and how its rounds go. Only the crate's own functions cite
-- this.
use Rattle.std.specs.Prelude.{◌≡◌, ℕ, ◌<◌, List, map, sum_by, take}
use Rattle.std.specs.List.{All}
use Rattle.atomic_table.specs.Seated.{TableId}
use Rattle.brace_core.specs.declared.turn.Went.{Went}
use Rattle.brace_core.specs.declared.turn.Went.TheVariants as went
use Rattle.brace_core.specs.Exchanges.{IsCounted, turns_left as left_of}
use Rattle.brace_lanes.specs.declared.table.View.{View}
use Rattle.brace_lanes.specs.Seats.{puts_of, takes_of}
use Rattle.brace_lanes.specs.Views.{Serves}
use Rattle.brace_pieces.specs.declared.setting.Setting.{Setting}
use Rattle.brace_pieces.specs.Steps.{schedule}
use Rattle.brace_pieces.specs.Courses.{past_of}
use Rattle.brace_crew.specs.declared.member.Member.{Member}
use Rattle.brace_crew.specs.Members.{course_of, kept_of, IsDone}
use Rattle.brace_crew.specs.Benches.{OnBench, Waits, served_by}

-- a seat is of a member's setting, serves it, and counts what its turns so far put and took
abbrev pub Counts : {P : Type 0} → View Setting → Member P → Type 0
Counts v m = ((course_of m).setting ≡ v.setting)
    × IsCounted (schedule v.setting) (course_of m).actor (past_of (course_of m))
    (Serves v) (puts_of v) (takes_of v)

-- a seat serves members and no others, and counts for each
pub record AreCounted {P : Type 0} (v : View Setting) (members : List (Member P)) : Type 0 where
  pub numbers : map (λ m. (course_of m).actor) members ≡ served_by v
  pub counted : All (Counts v) members

-- what holds of a bench at its lanes
pub record IsBench {P : Type 0} (lanes : TableId) (b : OnBench P) : Type 0 where
  pub at_lanes : b.lanes ≡ lanes
  pub number_is : b.seat.number ≡ b.number
  pub members_counted : AreCounted b.seat b.members

-- how many turns a member has left
abbrev pub turns_left : {P : Type 0} → Member P → ℕ
turns_left m =
    left_of (λ n. (course_of n).setting) (λ n. (course_of n).actor) (λ n. past_of (course_of n))
    schedule m

-- the same members at a later time
pub record AreSame {P : Type 0} (ms ns : List (Member P)) : Type 0 where
  pub settings : map (λ m. (course_of m).setting) ns ≡ map (λ m. (course_of m).setting) ms
  pub numbers : map (λ m. (course_of m).actor) ns ≡ map (λ m. (course_of m).actor) ms
  pub kept : map kept_of ns ≡ map kept_of ms

-- how the first members of a bench went on: one at least by a turn; none, and one at least waits;
-- or none, and all are Done
abbrev pub WentAll : {P : Type 0} → ℕ → View Setting → List (Member P) → View Setting
    → List (Member P) → ℕ → Went → Type 0
WentAll end v ms w ns count went.On = sum_by turns_left ns < sum_by turns_left ms
WentAll end v ms w ns count went.Nowhere = (ns ≡ ms) × (All (IsDone end) ms → ⊥)
    × All (λ m. (IsDone end m → ⊥) → Waits end v w 1 m) (take count ms)
WentAll end v ms w ns count went.Over = (ns ≡ ms) × All (IsDone end) (take count ms)

-- how members went on with one more
abbrev pub both : Went → Went → Went
both went.On one = went.On
both went.Nowhere went.On = went.On
both went.Nowhere went.Nowhere = went.Nowhere
both went.Nowhere went.Over = went.Nowhere
both went.Over one = one
