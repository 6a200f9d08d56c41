-- What holds of a part at every moment. Only the crate's own functions cite this.
use Rattle.std.specs.Prelude.{◌≡◌, ℕ, ◌-◌, ◌≤◌, List, [], length, take, drop, Option, Some, None, slice_get}
use Rattle.brace_fold.specs.Listed.{agents_in}
use Rattle.brace_fold.specs.Rows.{by_id}
use Rattle.brace_model.specs.declared.program.Program.{Program}
use Rattle.brace_model.specs.declared.world.Agent.{Agent}
use Rattle.brace_pieces.specs.declared.setting.Setting.{Setting}
use Rattle.brace_pieces.specs.declared.setting.Step.{Step}
use Rattle.brace_pieces.specs.declared.turns.Turns.{Turns}
use Rattle.brace_pieces.specs.Settings.{parts}
use Rattle.brace_pieces.specs.Continued.{on}
use Rattle.brace_pieces.specs.Steps.{steps, met}
use Rattle.brace_pieces.specs.Courses.{OnCourse, step_of, others_of}
use Rattle.brace_pieces.specs.Turns.{IsTurns}
use Rattle.brace_herd.specs.declared.query.Queries.{Queries}
use Rattle.brace_herd.specs.declared.stance.Stance.{Stance}
use Rattle.brace_herd.specs.declared.stance.Stance.TheVariants.{Owns, Hears, Holds, Leaves}
use Rattle.brace_part.specs.declared.standing.Standing.{Standing}
use Rattle.brace_part.specs.Parts.{keeps_at, brings_at, IsCauseOfAll}
use Rattle.brace_pieces.specs.Given.{counts_behind, counts_up_to}
use Rattle.brace_pieces.specs.Exchanged.{AreOut, AreTaken}
use Rattle.brace_part.specs.inner.Ready.{IsReady, IsNextAt, IsFaultlessAt, IsFaultlessBefore, AreKept}
use Rattle.brace_herd.specs.Ready.{IsReadyFor}
use Rattle.brace_herd.specs.Workers.{IsPartOf}

-- a part comes to a step, or to its end: what it has, what it keeps, and what it gave before
pub record ComesTo (s : Setting) (p number : ℕ) (at : Option Step) (standing : Standing)
    : Type 0 where
  pub ready : IsReady s p at standing.stance
  pub next_is : IsNextAt s at standing.next
  pub faultless : IsFaultlessAt s p at
  pub brings : standing.shown ≡ brings_at s p at
  pub counted : standing.counts ≡ counts_behind s p number

-- a part that goes on where its course stands: what it has, what it puts and what it took in its
-- step, what it keeps, and what it gave up to that step
pub record GoesOn (c : OnCourse) (standing : Standing) : Type 0 where
  pub ready : IsReady c.setting c.actor (step_of c) standing.stance
  pub next_is : IsNextAt c.setting (step_of c) standing.next
  pub faultless : IsFaultlessAt c.setting c.actor (step_of c)
  pub puts : AreOut c.setting c.number c.actor (drop c.made (others_of c)) standing.out.items
  pub took : AreTaken c.setting c.number c.actor
      (take (c.made - length (others_of c)) (others_of c)) standing.taken.items
  pub keeps : standing.shown ≡ keeps_at c.setting c.actor (step_of c)
  pub counted : standing.counts ≡ counts_up_to c.setting c.actor c.number

-- a part is at its work in the step of a number
pub record IsAtWork (s : Setting) (p number : ℕ) (at : Step) (standing : Standing) : Type 0 where
  pub stands : slice_get (steps s) number ≡ Some at
  pub ready : IsReadyFor s p at.stage at.tick standing.stance
  pub next_is : standing.next ≡ (on s at.tick).next
  pub faultless : IsFaultlessBefore s p at.stage at.tick
  pub took : AreTaken s number p (met s at p) standing.taken.items
  pub keeps : standing.shown ≡ keeps_at s p (Some at)
  pub counted : standing.counts ≡ counts_up_to s p number

-- what holds of a part: it goes on where it has no cause, and has room for what it takes
pub record IsSound (t : Turns) (queries : Queries) (standing : Standing) (room : ℕ) : Type 0 where
  pub is_part : IsPartOf t.course.setting t.course.actor queries
  pub turns : IsTurns t
  pub goes_on : t.cause ≡ None → GoesOn t.course standing
  pub found : IsCauseOfAll t.course.setting t.course.actor t.course.number t.cause
  pub kept : AreKept t.course.setting t.course.actor standing.shown
  pub has_room : parts t.course.setting ≤ room

-- the agents that a part owns, by rising id, if it is settled
abbrev pub owns_in : Program → Stance → List Agent
owns_in program (Owns own) = by_id (agents_in program own)
owns_in program (Hears agents heard) = []
owns_in program (Holds held) = []
owns_in program (Leaves left born next) = []
