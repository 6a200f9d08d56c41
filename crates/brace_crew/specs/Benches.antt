-- A bench of a crew as contracts see it: the members that one worker serves, and what their seat at
-- the lanes knows.
use Rattle.std.specs.Prelude.{◌≡◌, ℕ, ◌+◌, ◌%◌, ◌==◌, ◌<◌, ◌≤◌, List, map, filter, length}
use Rattle.std.specs.List.{All, range_with_len}
use Rattle.atomic_table.specs.Seated.{TableId}
use Rattle.brace_core.specs.declared.name.Name.{Name}
use Rattle.brace_core.specs.declared.name.Turn.TheVariants.{Take}
use Rattle.brace_core.specs.Schedule.{front, lane}
use Rattle.brace_lanes.specs.declared.table.View.{View}
use Rattle.brace_lanes.specs.Seats.{IsSameSeat, puts_of, takes_of, misses_of}
use Rattle.brace_lanes.specs.Views.{Serves}
use Rattle.brace_pieces.specs.declared.setting.Setting.{Setting}
use Rattle.brace_pieces.specs.Steps.{schedule}
use Rattle.brace_pieces.specs.Courses.{past_of}
use Rattle.brace_crew.specs.declared.member.Member.{Member}
use Rattle.brace_crew.specs.Members.{course_of, kept_of, next_of, IsDone}

-- a bench: its number among the workers, its members, the lanes that they put to and take from, and
-- what its seat knows of these
pub record OnBench (P : Type 0) : Type 0 where
  pub number : ℕ
  pub members : List (Member P)
  pub lanes : TableId
  pub seat : View Setting

-- the actors that a seat serves, by rising number
abbrev pub served_by : View Setting → List ℕ
served_by v = filter (λ a. a % v.seats == v.number) (range_with_len 0 v.actors)

-- nothing was put or taken through a seat
pub record IsUnused (v : View Setting) : Type 0 where
  pub nothing_put : (p q : ℕ) → puts_of v p q ≡ 0
  pub nothing_taken : (p q : ℕ) → takes_of v p q ≡ 0

-- through a seat every name of the first steps, so many, was put from each actor that it serves,
-- and taken to it, and no other
pub record IsUsedTo (n : ℕ) (v : View Setting) : Type 0 where
  pub all_put : (a q : ℕ) → a < v.actors → Serves v a →
      puts_of v a q ≡ length (lane (front (schedule v.setting) n) a q)
  pub all_taken : (a q : ℕ) → a < v.actors → Serves v a →
      takes_of v q a ≡ length (lane (front (schedule v.setting) n) q a)

-- members are all those that a seat serves, by rising number, before their first turns
pub record AreServed {P : Type 0} (v : View Setting) (members : List (Member P)) : Type 0 where
  pub settings : All (λ m. (course_of m).setting ≡ v.setting) members
  pub numbers : map (λ m. (course_of m).actor) members ≡ served_by v
  pub first_turns : All (λ m. past_of (course_of m) ≡ 0) members

-- a bench at a later time: the same members, at the same seat
pub record IsSameBench {P : Type 0} (a b : OnBench P) : Type 0 where
  pub number : b.number ≡ a.number
  pub settings : map (λ m. (course_of m).setting) b.members
      ≡ map (λ m. (course_of m).setting) a.members
  pub numbers : map (λ m. (course_of m).actor) b.members
      ≡ map (λ m. (course_of m).actor) a.members
  pub kept : map kept_of b.members ≡ map kept_of a.members
  pub lanes : b.lanes ≡ a.lanes
  pub seat : IsSameSeat a.seat b.seat

-- a member's next turn in the first steps, so many, is to take a name, of whose lane so many more
-- looks of the seat found none
abbrev pub Waits : {P : Type 0} → ℕ → View Setting → View Setting → ℕ → Member P → Type 0
Waits end before now count m = (name : Name) × (next_of end m ≡ Take name)
    × (misses_of before name.from name.to + count ≤ misses_of now name.from name.to)

-- not all members are Done, and each that is not waits for a name, for so many looks
pub record AreWaiting {P : Type 0} (end : ℕ) (before now : View Setting) (looks : ℕ)
    (members : List (Member P)) : Type 0 where
  pub is_left : All (IsDone end) members → ⊥
  pub waits : All (λ m. (IsDone end m → ⊥) → Waits end before now looks m) members
