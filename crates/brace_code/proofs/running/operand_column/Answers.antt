use Rattle.std.proofs.Common.{rules}
use Rattle.brace_code.proofs.OperandLemmas.{plain_words}
use Rattle.brace_code.proofs.running.operand_column.Goals as goal

pub returns-in_ok-words-in-Field : goal.returns-in_ok-words-in-Field
returns-in_ok-words-in-Field c =
    plain_words c.args.frame.now c.args.operand c.args.lanes.now c.in_ok-words-in-Field.words
    (λ effect t site is. search (c.in-Field.is, is, rules)) c.in_ok-words-in-Field.ensures
