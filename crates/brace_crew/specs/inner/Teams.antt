-- The members of a run on several workers, before it and behind it. Only the crate's own functions
-- cite this.
use Rattle.std.specs.Prelude.{◌≡◌, ℕ, ◌<◌, List, map, length, slice_index_or}
use Rattle.std.specs.List.{All}
use Rattle.atomic_table.specs.Seated.{TableId}
use Rattle.brace_lanes.specs.Seats.{OnSeat, IsSameSeat}
use Rattle.brace_pieces.specs.declared.setting.Setting.{Setting}
use Rattle.brace_crew.specs.declared.member.Member.{Member}
use Rattle.brace_crew.specs.Members.{course_of, opening_of, IsAt, IsWithin, IsLast}
use Rattle.brace_crew.specs.Benches.{OnBench, IsUsedTo, IsSameBench}
use Rattle.brace_crew.specs.Workers.{IsSeatOf}
use Rattle.brace_crew.specs.inner.Crews.{AreMembers, IsReached, served}

-- the members of each worker, by rising worker: of these numbers those that the worker serves
pub record AreRosters {P : Type 0} (s : Setting) (publisher : P) (workers : ℕ) (numbers : List ℕ)
    (rosters : List (List (Member P))) : Type 0 where
  pub one_each : length rosters ≡ workers
  pub each : (k : ℕ) (d : List (Member P)) → k < workers →
      AreMembers s publisher (served workers k numbers) (slice_index_or rosters k d)

-- the benches of a run, one a worker, by rising worker, at one lanes
pub record IsTeam {P : Type 0} (s : Setting) (publisher : P) (workers : ℕ) (numbers : List ℕ)
    (benches : List (OnBench P)) : Type 0 where
  pub rosters : AreRosters s publisher workers numbers (map (λ b. b.members) benches)
  pub seats : (k : ℕ) (d : OnBench P) → k < workers →
      IsSeatOf s workers k (slice_index_or benches k d).seat
  pub one_lanes : (lanes : TableId) × All (λ b. b.lanes ≡ lanes) benches

-- all members of a bench stand at the end of the first steps, so many, and its seat is used to it
pub record HasCome {P : Type 0} (end : ℕ) (b : OnBench P) : Type 0 where
  pub at : All (IsAt end) b.members
  pub used_to : IsUsedTo end b.seat

-- no member of a bench made a turn behind these
abbrev pub StaysWithin : {P : Type 0} → ℕ → OnBench P → Type 0
StaysWithin end b = All (IsWithin end) b.members

-- the benches of a run that ends there
pub record HaveEnded {P : Type 0} (s : Setting) (n : ℕ) (benches : List (OnBench P)) : Type 0 where
  pub reached : IsReached s n
  pub come : All (HasCome n) benches
  pub last : All (λ b. All (IsLast s reached.before n) b.members) benches

-- the same benches at a later time
pub record AreLater {P : Type 0} (xs ys : List (OnBench P)) : Type 0 where
  pub one_each : length ys ≡ length xs
  pub each : (k : ℕ) (d : OnBench P) → k < length xs →
      IsSameBench (slice_index_or xs k d) (slice_index_or ys k d)

-- a bench that serves the same members, at the same seat
pub record IsStill {P : Type 0} (a b : OnBench P) : Type 0 where
  pub settings : map (λ m. (course_of m).setting) b.members
      ≡ map (λ m. (course_of m).setting) a.members
  pub numbers : map (λ m. (course_of m).actor) b.members
      ≡ map (λ m. (course_of m).actor) a.members
  pub openings : map opening_of b.members ≡ map opening_of a.members
  pub lanes : b.lanes ≡ a.lanes
  pub seat : IsSameSeat a.seat b.seat

-- benches that serve the same members
pub record AreStill {P : Type 0} (xs ys : List (OnBench P)) : Type 0 where
  pub one_each : length ys ≡ length xs
  pub each : (k : ℕ) (d : OnBench P) → k < length xs →
      IsStill (slice_index_or xs k d) (slice_index_or ys k d)

-- the seat of a bench
abbrev pub seat_of : {P : Type 0} → OnBench P → OnSeat Setting
seat_of b = record { lanes = b.lanes; view = b.seat }
