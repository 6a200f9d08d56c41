use Rattle.std.proofs.Common.{◌≡◌, ◌∙◌, ap, ℕ, subst, true, Some, None}
use Rattle.std.specs.Vec.{vec_capacity}
use Rattle.brace_pieces.specs.declared.piece.Cause.{Cause}
use Rattle.brace_pieces.specs.Courses.{IsCourse}
use Rattle.brace_desk.specs.declared.publisher.PubFault.{PubFault}
use Rattle.brace_desk.specs.declared.desk.Stop.TheVariants as stop
use Rattle.brace_desk.specs.Desks.{OnDesk, stop_of, ends_before, HasShown, HasHalted, HasRefused}
use Rattle.brace_desk.proofs.DeskTurns.{stop_none, stop_halted, stop_refused, stop_shown, told_stopped}
use Rattle.brace_desk.proofs.desk.Desk.stop.Goals as goal

pub returns-clause-same : goal.returns-clause-same
returns-clause-same g c = c.stop_in.ensures ∙ ap (λ (v : OnDesk g.row.P.Denot). stop_of v) c.self.view_is

pub returns-clause-all : goal.returns-clause-all
returns-clause-all g c =
    subst (λ (v : OnDesk g.row.P.Denot). stop_of v ≡ None → HasShown g.P.Publisher v (ends_before v.course.setting v.course.number)) c.self.view_is
    (stop_none g.P.Publisher _ (vec_capacity c.self.inside.lots) c.self.invariant)

pub returns-clause-halted : goal.returns-clause-halted
returns-clause-halted g c =
    subst (λ (v : OnDesk g.row.P.Denot). (x : Cause) → stop_of v ≡ Some (stop.Halt x) → v.course.made ≡ 0 → HasHalted g.P.Publisher v x) c.self.view_is
    (stop_halted g.P.Publisher _ (vec_capacity c.self.inside.lots) c.self.invariant)

pub returns-clause-refused : goal.returns-clause-refused
returns-clause-refused g c =
    subst (λ (v : OnDesk g.row.P.Denot). (x : PubFault) → stop_of v ≡ Some (stop.Refusal x) → HasRefused g.P.Publisher v x) c.self.view_is
    (stop_refused g.P.Publisher _ (vec_capacity c.self.inside.lots) c.self.invariant)

pub returns-clause-shown : goal.returns-clause-shown
returns-clause-shown g c =
    subst (λ (v : OnDesk g.row.P.Denot). ((x : PubFault) → stop_of v ≡ Some (stop.Refusal x) → ⊥) → (count : ℕ) × HasShown g.P.Publisher v count) c.self.view_is
    (stop_shown g.P.Publisher _ (vec_capacity c.self.inside.lots) c.self.invariant)

pub returns-clause-told : goal.returns-clause-told
returns-clause-told g c =
    subst (λ (v : OnDesk g.row.P.Denot). v.told ≡ true → stop_of v ≡ None → ⊥) c.self.view_is
    (told_stopped g.P.Publisher _ (vec_capacity c.self.inside.lots) c.self.invariant)

pub returns-clause-course : goal.returns-clause-course
returns-clause-course g c = subst (λ (v : OnDesk g.row.P.Denot). IsCourse v.course) c.self.view_is c.self.invariant.turns.on_course
