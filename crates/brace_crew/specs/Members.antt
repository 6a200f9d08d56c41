-- The members of a crew as contracts see them.
use Rattle.std.specs.Prelude.{◌≡◌, ◌⊎◌, ℕ, ◌≤◌, length, true, Option, Some, None, IfSome}
use Rattle.brace_core.specs.declared.name.Turn.{Turn}
use Rattle.brace_core.specs.declared.name.Turn.TheVariants.{Done}
use Rattle.brace_core.specs.Schedule.{front, turns}
use Rattle.brace_core.specs.Exchanges.{due_to}
use Rattle.brace_pieces.specs.declared.setting.Setting.{Setting}
use Rattle.brace_pieces.specs.Steps.{steps, schedule}
use Rattle.brace_pieces.specs.Courses.{OnCourse, past_of}
use Rattle.brace_part.specs.Parts.{asks_next}
use Rattle.brace_crew.specs.declared.member.Member.{Member}
use Rattle.brace_crew.specs.declared.member.Member.TheVariants as member
use Rattle.brace_desk.specs.Desks.{ends_before}

-- where a member stands
abbrev pub course_of : {P : Type 0} → Member P → OnCourse
course_of (member.Part p) = p.course
course_of (member.Desk d) = d.course

-- what a member's publisher was when it was made, where it is the desk
abbrev pub opening_of : {P : Type 0} → Member P → Option P
opening_of (member.Part p) = None
opening_of (member.Desk d) = Some d.opening

-- what no turn of a member changes, where it is the desk: what its publisher was when it was made,
-- and in which step it was seen last not to have put its Halt to all
abbrev pub kept_of : {P : Type 0} → Member P → Option (P × ℕ)
kept_of (member.Part p) = None
kept_of (member.Desk d) = Some (d.opening, d.untold)

-- a member's next turn in the first steps of its run, so many
abbrev pub next_of : {P : Type 0} → ℕ → Member P → Turn
next_of end m =
    let c = course_of m in
    due_to schedule c.setting end c.actor (past_of c)

-- a member has no turn left in these
abbrev pub IsDone : {P : Type 0} → ℕ → Member P → Type 0
IsDone end m = next_of end m ≡ Done

-- how many turns a member has in these
abbrev pub turns_to : {P : Type 0} → ℕ → Member P → ℕ
turns_to end m =
    let c = course_of m in
    length (turns (front (schedule c.setting) end) c.actor)

-- a member made no turn behind these
abbrev pub IsWithin : {P : Type 0} → ℕ → Member P → Type 0
IsWithin end m = past_of (course_of m) ≤ turns_to end m

-- a member stands at their end: it made all turns of these, and no other
abbrev pub IsAt : {P : Type 0} → ℕ → Member P → Type 0
IsAt end m = past_of (course_of m) ≡ turns_to end m

-- a member that is the desk put its Halt to all
abbrev pub HasTold : {P : Type 0} → Member P → Type 0
HasTold (member.Part p) = Unit {0}
HasTold (member.Desk d) = d.told ≡ true

-- no member holds up the end of a run behind so many steps
abbrev pub IsOver : {P : Type 0} → ℕ → Member P → Type 0
IsOver n m = HasTold m ⊎ (n ≡ length (steps (course_of m).setting))

-- a member, where it is the desk, was seen not to have put its Halt to all where the first steps of
-- its run, so many, were made
abbrev pub WasUntold : {P : Type 0} → Setting → ℕ → Member P → Type 0
WasUntold s n m = IfSome (kept_of m) (λ kept. ends_before s n ≤ ends_before s kept.1)

-- a member stands where its run ends, which did not end before, behind so many steps
abbrev pub IsLast : {P : Type 0} → Setting → ℕ → ℕ → Member P → Type 0
IsLast s before n m = IsAt n m × (IsOver n m × WasUntold s before m)

-- the tick whose query a member evaluates in its next turn, if it evaluates one there; the desk
-- evaluates none
abbrev pub asked_of : {P : Type 0} → Member P → Option ℕ
asked_of (member.Part p) = asks_next p
asked_of (member.Desk d) = None
