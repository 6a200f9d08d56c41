-- A Halt is right where its cause is, and what always holds of an actor among its turns.
use Rattle.std.proofs.Common.{◌≡◌, ◌∙◌, sym, ap, subst, ℕ, ◌+◌, ◌-◌, ◌*◌, ◌<◌, length, get_or, true, Option, Some, None, arith}
use Rattle.std.specs.Prelude.{is_some, slice_get}
use Rattle.std.proofs.lemmas.Bool.{true≢false}
use Rattle.brace_core.specs.declared.name.Name.{Name}
use Rattle.brace_core.specs.Schedule.{name}
use Rattle.brace_pieces.specs.declared.setting.Setting.{Setting}
use Rattle.brace_pieces.specs.declared.setting.Stage.{Stage}
use Rattle.brace_pieces.specs.declared.setting.Stage.TheVariants as stage
use Rattle.brace_pieces.specs.declared.setting.Step.{Step}
use Rattle.brace_pieces.specs.declared.piece.Cause.{Cause}
use Rattle.brace_pieces.specs.declared.piece.Piece.{Piece}
use Rattle.brace_pieces.specs.declared.piece.Piece.TheVariants as piece
use Rattle.brace_pieces.specs.declared.turns.Turns.{Turns}
use Rattle.brace_pieces.specs.Steps.{steps}
use Rattle.brace_pieces.specs.Right.{IsRight, IsRightCause, IsRightIn, IsRightAt}
use Rattle.brace_pieces.specs.Courses.{OnCourse, others_of, gone_on}
use Rattle.brace_pieces.specs.Exchanged.{IsHalted}
use Rattle.brace_pieces.proofs.OutLemmas.{right_in}
use Rattle.brace_pieces.proofs.ToldLemmas.{right_later}
use Rattle.brace_pieces.specs.Turns.{PutsNext, TakesNext, WorksNext, IsTurns, cause_behind}
use Rattle.brace_pieces.proofs.CourseLemmas.{goes_within, course_within, course_behind}
use Rattle.brace_pieces.proofs.TurnLemmas.{place_is}

halt_at : (s : Setting) (k p q t : ℕ) (c : Cause) (st : Stage) → IsRightCause s k c → IsRightAt s k st t p q (piece.Halt c)
halt_at s k p q t c stage.Hand right = right
halt_at s k p q t c _ right = right

at_halt : (s : Setting) (k p q t : ℕ) (c : Cause) (st : Stage) → IsRightAt s k st t p q (piece.Halt c) → IsRightCause s k c
at_halt s k p q t c stage.Hand right = right
at_halt s k p q t c _ right = right

pub halt_right : (s : Setting) (k p q : ℕ) (at : Step) (c : Cause) → slice_get (steps s) k ≡ Some at → IsRightCause s k c → IsRight s (name k p q) (piece.Halt c)
halt_right s k p q at c stands right = right_in s k p q at (piece.Halt c) stands (halt_at s k p q at.tick c at.stage right)

pub right_halt : (s : Setting) (k p q : ℕ) (at : Step) (c : Cause) → slice_get (steps s) k ≡ Some at → IsRight s (name k p q) (piece.Halt c) → IsRightCause s k c
right_halt s k p q at c stands right = at_halt s k p q at.tick c at.stage (subst (IsRightIn s (name k p q) (piece.Halt c)) stands right)

-- one on a course with a cause puts it
pub put_halt : (c : OnCourse) (n : Name) (x : Cause) → PutsNext c n → IsHalted c.setting c.number (Some x) → IsRight c.setting n (piece.Halt x)
put_halt c n x turn right =
    subst (λ m. IsRight c.setting m (piece.Halt x)) (sym turn.same)
    (halt_right c.setting c.number c.actor (get_or (others_of c) c.made 0) turn.at x turn.stands right)

-- and one that takes it has it
pub take_halt : (c : OnCourse) (n : Name) (x : Cause) → TakesNext c n → IsRight c.setting n (piece.Halt x) → IsHalted c.setting c.number (Some x)
take_halt c n x turn right =
    right_halt c.setting c.number (get_or (others_of c) (c.made - length (others_of c)) 0) c.actor turn.at x turn.stands
    (subst (λ m. IsRight c.setting m (piece.Halt x)) turn.same right)

pub no_cause : {A : Type 0} (o : Option A) → is_some o ≡ true → o ≡ None → ⊥
no_cause o some none = true≢false (sym some ∙ ap is_some none)

-- a cause stays right
halted_on : (s : Setting) (k : ℕ) (o : Option Cause) → IsHalted s k o → IsHalted s (k + 1) o
halted_on s k None h = tt
halted_on s k (Some x) h = right_later s k (k + 1) x (omega arith) h

-- ---- what always holds of an actor among its turns, behind one of them

module _ (t : Turns) (turns : IsTurns t) (d : OnCourse) (place : d ≡ gone_on t.course) where
  abbrev c : OnCourse
  c = t.course

  within : c.made < 2 * length (others_of c) → (o : Option Cause) → IsHalted c.setting c.number o → IsTurns (record { course = d; cause = o })
  within low o right = subst (λ k. IsTurns (record { course = k; cause = o })) (sym (place ∙ goes_within c low)) (record { on_course = course_within c turns.on_course low; right = right })

  pub turns_put : (n : Name) → PutsNext c n → IsTurns (record { course = d; cause = t.cause })
  turns_put n turn = within (omega (arith, turn.low)) t.cause turns.right

  pub turns_taken : (n : Name) → TakesNext c n → (x : Piece) → IsRight c.setting n x → IsTurns (record { course = d; cause = cause_behind t.cause x })
  turns_taken n turn x right = within (omega (arith, turn.low, turn.high)) (cause_behind t.cause x) (by_cause t.cause turns.right x right)
    where
      by_cause : (o : Option Cause) → IsHalted c.setting c.number o → (x : Piece) → IsRight c.setting n x → IsHalted c.setting c.number (cause_behind o x)
      by_cause (Some y) told x right = told
      by_cause None told (piece.Halt y) right = take_halt c n y turn right
      by_cause None told _ right = tt

  pub turns_worked : (at : Step) → WorksNext c at → IsTurns (record { course = d; cause = t.cause })
  turns_worked at turn =
      subst (λ k. IsTurns (record { course = k; cause = t.cause })) (sym (place_is c d place at turn))
      (record { on_course = course_behind c turns.on_course; right = halted_on c.setting c.number t.cause turns.right })
