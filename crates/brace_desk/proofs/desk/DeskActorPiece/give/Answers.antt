use Rattle.std.proofs.Common.{rules, ◌≡◌, ◌∙◌, ◌<◌, ◌≤◌, sym, ap, subst, [], ◌∷◌, ◌++◌}
use Rattle.std.specs.Vec.{vec_capacity}
use Rattle.brace_core.specs.declared.name.Name.{Name}
use Rattle.brace_core.specs.declared.name.Turn.TheVariants.{Take}
use Rattle.brace_core.specs.Exchanges.{IsTake}
use Rattle.brace_pieces.specs.Right.{IsRight}
use Rattle.brace_pieces.specs.Courses.{due_on}
use Rattle.brace_desk.specs.Desks.{OnDesk}
use Rattle.brace_desk.proofs.DeskKept.{take_closed, take_else, take_lot, has_place}
use Rattle.brace_desk.proofs.desk.DeskActorPiece.give.Goals as goal

same_name : (m n : Name) → Take m ≡ Take n → m ≡ n
same_name m n e = cc

pub take-requires-clause-turns : goal.take-requires-clause-turns
take-requires-clause-turns g c = record { on_course = c.self.invariant.turns.on_course; right = c.self.invariant.turns.right }

pub take-requires-clause-turn : goal.take-requires-clause-turn
take-requires-clause-turn g c = subst (λ (v : OnDesk g.row.P.Denot). IsTake (due_on v.course)) (sym c.self.view_is) c.requires.turn

pub take-requires-clause-right : goal.take-requires-clause-right
take-requires-clause-right g c =
    subst (λ (v : OnDesk g.row.P.Denot). (n : Name) → due_on v.course ≡ Take n → IsRight v.course.setting n c.args.piece) (sym c.self.view_is) c.requires.right

pub invariant_of-self : goal.invariant_of-self
invariant_of-self g c =
    let i = c.self.inside in
    let low : i.since < i.turns.course.number = search rules in
    let (n, (due, (turn, right))) = c.take.ensures.next in
    take_closed g.P.Publisher _ (vec_capacity i.lots) c.self.invariant c.take.new.self.course c.take.ensures.place c.take.new.self.cause
    (record { on_course = c.take.ensures.turns.on_course; right = c.take.ensures.turns.right }) n turn c.args.piece right c.take.ensures.cause low

pub push_reserved-requires : goal.push_reserved-requires
push_reserved-requires g c =
    let i = c.self.inside in
    let high : i.turns.course.number ≤ i.since = search rules in
    let (n, (due, (turn, right))) = c.take.ensures.next in
    let place = has_place g.P.Publisher _ (vec_capacity i.lots) c.self.invariant c.take.new.self.course c.take.ensures.place c.take.new.self.cause
    (record { on_course = c.take.ensures.turns.on_course; right = c.take.ensures.turns.right }) n turn c.args.piece right c.take.ensures.cause high in
    search (rules, place)

pub invariant_of-self-in-Take-1 : goal.invariant_of-self-in-Take-1
invariant_of-self-in-Take-1 g c =
    let i = c.self.inside in
    let high : i.turns.course.number ≤ i.since = search rules in
    let (n, (due, (turn, right))) = c.take.ensures.next in
    let worlds = c.in-Show-Take.worlds in
    let same = same_name c.in-Show-Take.name n (sym c.in-Show-Take.is-1 ∙ c.turn-turn.ensures.due ∙ due) in
    take_lot g.P.Publisher _ (vec_capacity i.lots) c.self.invariant c.take.new.self.course c.take.ensures.place c.take.new.self.cause
    (record { on_course = c.take.ensures.turns.on_course; right = c.take.ensures.turns.right }) n turn c.args.piece right c.take.ensures.cause high worlds c.in-Show-Take.is-0
    c.push_reserved.new.self.items (c.push_reserved.ensures.items ∙ ap (λ (q : Name). i.lots.items ++ record { part = q.from; worlds = worlds } ∷ []) same)
    (vec_capacity c.push_reserved.new.self) c.push_reserved.ensures.capacity

pub invariant_of-self-in_default-2 : goal.invariant_of-self-in_default-2
invariant_of-self-in_default-2 g c =
    let i = c.self.inside in
    let (n, (due, (turn, right))) = c.take.ensures.next in
    take_else g.P.Publisher _ (vec_capacity i.lots) c.self.invariant c.take.new.self.course c.take.ensures.place c.take.new.self.cause
    (record { on_course = c.take.ensures.turns.on_course; right = c.take.ensures.turns.right }) n turn c.args.piece right c.take.ensures.cause (λ a e. c.in_default.not-Show-0 a e)
