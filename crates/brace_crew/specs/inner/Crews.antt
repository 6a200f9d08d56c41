-- The members of a crew before a run and behind it. Only the crate's own functions cite this.
use Rattle.std.specs.Prelude.{◌≡◌, ℕ, suc, ◌+◌, ◌%◌, ◌<◌, ◌==◌, List, [], ◌∷◌, length, map, filter, slice_index_or, if◌then◌else◌, Option, Some, None, IfSome}
use Rattle.std.specs.List.{All, Contains, range_with_len}
use Rattle.brace_model.specs.declared.fault.Fault.{Fault}
use Rattle.brace_pieces.specs.declared.setting.Setting.{Setting}
use Rattle.brace_pieces.specs.declared.piece.Cause.{Cause}
use Rattle.brace_pieces.specs.declared.piece.Cause.TheVariants as cause
use Rattle.brace_pieces.specs.declared.piece.Shown.{Shown}
use Rattle.brace_pieces.specs.Settings.{parts}
use Rattle.brace_pieces.specs.Fronts.{steps_to}
use Rattle.brace_pieces.specs.Right.{IsRightCause}
use Rattle.brace_pieces.specs.Courses.{OnCourse, IsCourse, past_of}
use Rattle.brace_part.specs.Parts.{IsCauseOfAll}
use Rattle.brace_desk.specs.Desks.{OnDesk}
use Rattle.brace_crew.specs.declared.member.Member.{Member}
use Rattle.brace_crew.specs.declared.member.Member.TheVariants as member
use Rattle.brace_crew.specs.Members.{course_of, opening_of, IsLast}
use Rattle.brace_desk.specs.Lots.{world_of}

-- all parts of a run, by rising number
pub record AreParts {P : Type 0} (s : Setting) (members : List (Member P)) : Type 0 where
  pub settings : All (λ m. (course_of m).setting ≡ s) members
  pub numbers : map (λ m. (course_of m).actor) members ≡ range_with_len 0 (parts s)
  pub are_parts : All (λ m. opening_of m ≡ None) members

-- what a member of a number is made for: the desk, which stands behind all parts, for the publisher
abbrev pub opening_in : {P : Type 0} → Setting → P → ℕ → Option P
opening_in s publisher number = if number == parts s then Some publisher else None

-- members of a run, of these numbers: its parts, and the desk of a publisher
pub record AreMembers {P : Type 0} (s : Setting) (publisher : P) (numbers : List ℕ)
    (members : List (Member P)) : Type 0 where
  pub settings : All (λ m. (course_of m).setting ≡ s) members
  pub numbered : map (λ m. (course_of m).actor) members ≡ numbers
  pub openings : map opening_of members ≡ map (opening_in s publisher) numbers

-- members before their first turns
abbrev pub AreNew : {P : Type 0} → List (Member P) → Type 0
AreNew members = All (λ m. past_of (course_of m) ≡ 0) members

-- the numbers of all members of a run, of its parts, and of those of either that a worker serves
-- among so many
abbrev pub all_numbers : Setting → List ℕ
all_numbers s = range_with_len 0 (parts s + 1)

abbrev pub part_numbers : Setting → List ℕ
part_numbers s = range_with_len 0 (parts s)

abbrev pub served : ℕ → ℕ → List ℕ → List ℕ
served workers worker numbers = filter (λ a. a % workers == worker) numbers

-- all members of a run, with the desk of some publisher, before their first turns
pub record Begin {P : Type 0} (s : Setting) (members : List (Member P)) : Type 0 where
  pub publisher : P
  pub are : AreMembers s publisher (all_numbers s) members
  pub first_turns : AreNew members

-- a run was driven from end to end, to that of its first steps, so many, and before that to one
-- behind which it was to go on; where none was left that is the same
pub record IsReached (s : Setting) (n : ℕ) : Type 0 where
  pub before : ℕ
  pub count : ℕ
  pub was : before ≡ steps_to s count
  pub is : n ≡ steps_to s (suc count)

-- members stand where their run ends, behind so many steps
pub record AreEnded {P : Type 0} (s : Setting) (n : ℕ) (members : List (Member P)) : Type 0 where
  pub reached : IsReached s n
  pub last : All (IsLast s reached.before n) members

-- the desk of a run that ends there
pub record IsDeskOf {P : Type 0} (s : Setting) (n : ℕ) (d : OnDesk P) : Type 0 where
  pub setting_is : d.course.setting ≡ s
  pub reached : IsReached s n
  pub last : IsLast s reached.before n (member.Desk d)

-- all members but the last are parts
pub record HaveDeskLast {P : Type 0} (members : List (Member P)) : Type 0 where
  pub are_parts : (i : ℕ) (d : Member P) → i + 1 < length members
      → opening_of (slice_index_or members i d) ≡ None

-- the fault that a part tells, if it tells one
abbrev pub fault_in : Option Cause → List Fault
fault_in (Some (cause.Fault f)) = f ∷ []
fault_in _ = []

abbrev pub told_by : {P : Type 0} → Member P → List Fault
told_by (member.Part p) = fault_in p.cause
told_by (member.Desk d) = []

-- a part on its course goes to the end or no further than a fault, and where it found faults it
-- tells of one
pub record TellsAll (c : OnCourse) (told : Option Cause) : Type 0 where
  pub on_course : IsCourse c
  pub no_other : (x : Cause) → told ≡ Some x → (f : Fault) × (x ≡ cause.Fault f)
  pub right : IfSome told (IsRightCause c.setting c.number)
  pub found : IsCauseOfAll c.setting c.actor c.number told

abbrev pub IsTelling : {P : Type 0} → Member P → Type 0
IsTelling (member.Part p) = TellsAll p.course p.cause
IsTelling (member.Desk d) = ⊥

-- those of some worlds that are of these ticks are the part's, under the cuts of a tick
abbrev pub AreOf : Setting → ℕ → ℕ → List ℕ → List Shown → Type 0
AreOf s held p ticks worlds =
    All (λ w. Contains ticks w.tick → w ≡ world_of s held p w.tick) worlds
