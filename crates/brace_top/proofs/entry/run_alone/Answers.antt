use Rattle.std.proofs.Common.{◌∙◌, ap, ◌≤◌, map, string_bytes, arith}
use Rattle.brace_command.specs.Status.{code_of}
use Rattle.brace_command.specs.Settled.{message_in, status_in}
use Rattle.brace_command.specs.Words.{IsReadAs}
use Rattle.brace_command.proofs.AnswerLemmas.{several_unread}
use Rattle.brace_top.proofs.entry.run_alone.Goals as goal

pub returns-clause-not_several : goal.returns-clause-not_several
returns-clause-not_several g c more =
    let read : IsReadAs (map string_bytes c.args.words.now) c.read_line-line.result = record {
      line_is = c.read_line-line.ensures.line;
      none_is = c.read_line-line.ensures.usage;
      bounds = c.read_line-line.ensures.bounds;
    } in
    let one : c.workers_of.result ≤ 1 = omega (arith, c.if-workers_of-gt1.false) in
    c.code.ensures.code ∙ ap code_of (c.say.ensures.status ∙ ap status_in (c.answer_alone-answer.ensures.no_memory (several_unread _ _ _ read c.workers_of.ensures.asked one more)))

pub returns-clause-answered : goal.returns-clause-answered
returns-clause-answered g c files told = rw (c.code.ensures.back, c.say.ensures.status) (record {
  message = message_in c.answer_alone-answer.result;
  answer = c.answer_alone-answer.ensures.served.answered files told;
  said = c.say.ensures.said;
})
