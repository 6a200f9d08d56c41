use Rattle.std.proofs.Common.{rules, ◌≡◌, sym, subst, false}
use Rattle.std.specs.Vec.{vec_capacity}
use Rattle.brace_pieces.specs.Courses.{OnCourse, IsCourse}
use Rattle.brace_desk.specs.declared.publisher.Publisher as publisher
use Rattle.brace_desk.specs.declared.desk.Desk.TheInside.{Inside}
use Rattle.brace_desk.specs.Desks.{OnDesk}
use Rattle.brace_desk.specs.inner.Sound.{IsDesk}
use Rattle.brace_desk.proofs.DeskTurns.{seen_untold}
use Rattle.brace_desk.proofs.desk.Desk.ends_here.Goals as goal
use Rattle.brace_desk.proofs.desk.Desk.ends_here.Goals.{then-not-self, else-not-self}

-- a desk, by its fields
abbrev sound : {P : Type 0} → publisher.Ghosts P → Inside P → Type 0
sound of x =
    IsDesk of (record { course = x.turns.course; opening = x.opening.value; publisher = x.publisher; cause = x.turns.cause; refusal = x.refusal; since = x.since; lots = x.lots.items; told = x.told; untold = x.untold.value.number }) (vec_capacity x.lots)

pub invariant_of-self : goal.invariant_of-self
invariant_of-self g c =
    let x = c.self.inside in
    elim c.if-not-self.branch [
      | then-not-self w ↦
          let untold : x.told ≡ false = search rules in
          subst (sound g.P.Publisher) (sym w.self-inside-is)
          (subst (λ (k : OnCourse).
          IsDesk g.P.Publisher (record { course = x.turns.course; opening = x.opening.value; publisher = x.publisher; cause = x.turns.cause; refusal = x.refusal; since = x.since; lots = x.lots.items; told = x.told; untold = k.number }) (vec_capacity x.lots))
          (sym w.of.ensures) (seen_untold g.P.Publisher _ (vec_capacity x.lots) c.self.invariant untold))
      | else-not-self w ↦ subst (sound g.P.Publisher) (sym w.self-inside-is) c.self.invariant
    ]

pub returns-clause-course : goal.returns-clause-course
returns-clause-course g c = subst (λ (v : OnDesk g.row.P.Denot). IsCourse v.course) c.self.view_is c.self.invariant.turns.on_course
