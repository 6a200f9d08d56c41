use Rattle.std.proofs.Common.{◌∙◌, sym}
use Rattle.brace_core.specs.declared.name.Turn.TheVariants.{Work}
use Rattle.brace_pieces.proofs.TurnLemmas.{due_next, due_left}
use Rattle.brace_pieces.proofs.HaltRight.{turns_worked}
use Rattle.brace_pieces.proofs.turns.Turns.work.Goals as goal

pub unreachable-requires : goal.unreachable-requires
unreachable-requires c =
    let (at, turn) = due_next c.args.self.now.course c.requires.turns.on_course Work c.requires.turn in
    c.in_default.not-Some at (c.step.ensures ∙ turn.stands)

pub go_on-requires : goal.go_on-requires
go_on-requires c = record { is_left = due_left c.args.self.now.course c.requires.turns.on_course Work c.requires.turn (λ done. absurd cc) }

pub returns-clause-turns : goal.returns-clause-turns
returns-clause-turns c =
    let t = c.args.self.now in
    let (at, turn) = due_next t.course c.requires.turns.on_course Work c.requires.turn in
    turns_worked t c.requires.turns c.go_on.new.self c.go_on.ensures.place at turn

pub returns-clause-next : goal.returns-clause-next
returns-clause-next c =
    let (at, turn) = due_next c.args.self.now.course c.requires.turns.on_course Work c.requires.turn in
    record { stands = sym c.step.ensures ∙ c.in-Some.is; high = turn.high }
