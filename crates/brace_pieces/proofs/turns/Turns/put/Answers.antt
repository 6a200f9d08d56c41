use Rattle.brace_core.specs.declared.name.Turn.TheVariants.{Put}
use Rattle.brace_pieces.specs.Courses.{due_on}
use Rattle.brace_pieces.proofs.TurnLemmas.{put_of, due_next, due_left}
use Rattle.brace_pieces.proofs.HaltRight.{turns_put}
use Rattle.brace_pieces.proofs.turns.Turns.put.Goals as goal

pub go_on-requires : goal.go_on-requires
go_on-requires c =
    let t = c.args.self.now in
    let (n, due) = put_of (due_on t.course) c.requires.turn in
    record { is_left = due_left t.course c.requires.turns.on_course (Put n) due (λ done. absurd cc) }

pub returns-clause-turns : goal.returns-clause-turns
returns-clause-turns c =
    let t = c.args.self.now in
    let (n, due) = put_of (due_on t.course) c.requires.turn in
    turns_put t c.requires.turns c.go_on.new.self c.go_on.ensures.place n (due_next t.course c.requires.turns.on_course (Put n) due)

pub returns-clause-some : goal.returns-clause-some
returns-clause-some c =
    let t = c.args.self.now in
    let (n, due) = put_of (due_on t.course) c.requires.turn in
    (n, due_next t.course c.requires.turns.on_course (Put n) due)

pub returns-clause-next : goal.returns-clause-next
returns-clause-next c n due = due_next c.args.self.now.course c.requires.turns.on_course (Put n) due
