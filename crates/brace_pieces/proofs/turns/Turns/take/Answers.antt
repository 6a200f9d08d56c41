use Rattle.std.proofs.Common.{sym, subst, Option}
use Rattle.brace_pieces.specs.declared.piece.Cause.{Cause}
use Rattle.brace_core.specs.declared.name.Turn.TheVariants.{Take}
use Rattle.brace_pieces.specs.Courses.{due_on}
use Rattle.brace_pieces.specs.Turns.{IsTurns}
use Rattle.brace_pieces.proofs.TurnLemmas.{take_of, due_next, due_left}
use Rattle.brace_pieces.proofs.HaltRight.{turns_taken}
use Rattle.brace_pieces.proofs.turns.Turns.take.Goals as goal

pub go_on-requires : goal.go_on-requires
go_on-requires c =
    let t = c.args.self.now in
    let (n, due) = take_of (due_on t.course) c.requires.turn in
    record { is_left = due_left t.course c.requires.turns.on_course (Take n) due (λ done. absurd cc) }

pub returns-clause-turns : goal.returns-clause-turns
returns-clause-turns c =
    let t = c.args.self.now in
    let x = c.args.piece.now in
    let (n, due) = take_of (due_on t.course) c.requires.turn in
    subst (λ (o : Option Cause). IsTurns (record { course = c.go_on.new.self; cause = o })) (sym c.cause_behind-self.ensures)
    (turns_taken t c.requires.turns c.go_on.new.self c.go_on.ensures.place n (due_next t.course c.requires.turns.on_course (Take n) due) x (c.requires.right n due))

pub returns-clause-next : goal.returns-clause-next
returns-clause-next c =
    let t = c.args.self.now in
    let (n, due) = take_of (due_on t.course) c.requires.turn in
    (n, (due, (due_next t.course c.requires.turns.on_course (Take n) due, c.requires.right n due)))
