use Rattle.std.proofs.Common.{length, rules}
use Rattle.brace_code.specs.Lanes.{words_of}
use Rattle.brace_code.proofs.OperandLemmas.{plain_words}
use Rattle.brace_code.proofs.view.operand_view.Goals as goal

pub returns-in_ok-view-in-Field : goal.returns-in_ok-view-in-Field
returns-in_ok-view-in-Field c =
    plain_words c.args.frame.now c.args.operand c.args.lanes.now
    (words_of (length c.args.lanes.now) c.in_ok-view-in-Field.view)
    (λ effect t site is. search (c.in-Field.is, is, rules)) c.in_ok-view-in-Field.ensures
