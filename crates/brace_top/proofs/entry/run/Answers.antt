use Rattle.brace_command.specs.Settled.{message_in}
use Rattle.brace_top.proofs.entry.run.Goals as goal

pub returns-clause-answered : goal.returns-clause-answered
returns-clause-answered g c files told = rw (c.code.ensures.back, c.say.ensures.status) (record {
  message = message_in c.answer_on-answer.result;
  answer = c.answer_on-answer.ensures.served.answered files told;
  said = c.say.ensures.said;
})
