use Rattle.std.proofs.Common.{◌≡◌, ◌∙◌, sym, ap, subst}
use Rattle.std.specs.Vec.{vec_capacity}
use Rattle.brace_core.specs.declared.name.Name.{Name}
use Rattle.brace_core.specs.declared.name.Turn.TheVariants.{Put}
use Rattle.brace_core.specs.Exchanges.{IsPut}
use Rattle.brace_pieces.specs.Right.{IsRight}
use Rattle.brace_pieces.specs.Courses.{due_on}
use Rattle.brace_desk.specs.Desks.{OnDesk, stop_in, put_by}
use Rattle.brace_desk.proofs.DeskKept.{desk_put}
use Rattle.brace_desk.proofs.DeskTurns.{put_right}
use Rattle.brace_desk.proofs.desk.DeskActorPiece.piece.Goals as goal

pub put-requires-clause-turns : goal.put-requires-clause-turns
put-requires-clause-turns g c = record { on_course = c.self.invariant.turns.on_course; right = c.self.invariant.turns.right }

pub put-requires-clause-turn : goal.put-requires-clause-turn
put-requires-clause-turn g c = subst (λ (v : OnDesk g.row.P.Denot). IsPut (due_on v.course)) (sym c.self.view_is) c.requires

pub invariant_of-self : goal.invariant_of-self
invariant_of-self g c =
    let next = c.put.ensures.some in
    desk_put g.P.Publisher _ (vec_capacity c.self.inside.lots) c.self.invariant c.put.new.self.course c.put.ensures.place c.put.new.self.cause
    (record { on_course = c.put.ensures.turns.on_course; right = c.put.ensures.turns.right }) next.0 next.1 c.put.ensures.cause

pub returns-clause-right : goal.returns-clause-right
returns-clause-right g c =
    subst (λ (v : OnDesk g.row.P.Denot). (n : Name) → due_on v.course ≡ Put n → IsRight v.course.setting n c.put_by.result) c.self.view_is (λ n due.
    subst (IsRight c.self.inside.turns.course.setting n) (sym (c.put_by.ensures ∙ ap put_by (c.stop_in.ensures ∙ ap (stop_in c.self.inside.refusal) c.put.ensures.cause)))
    (put_right g.P.Publisher _ (vec_capacity c.self.inside.lots) c.self.invariant n (c.put.ensures.next n due)))
