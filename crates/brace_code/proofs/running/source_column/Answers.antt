use Rattle.brace_code.proofs.OperandLemmas.{two_words}
use Rattle.brace_code.proofs.running.source_column.Goals as goal

pub returns-in_ok-words-in-Two : goal.returns-in_ok-words-in-Two
returns-in_ok-words-in-Two c =
    two_words c.args.frame.now c.args.source c.args.lanes.now c.in_ok-words-in-Two.words
    c.in-Two.op c.in-Two.ty c.in-Two.field-2 c.in-Two.first c.in-Two.second
    c.in_ok-first-in-Two.first c.in-Two.is c.in_ok-first-in-Two.ensures.words
    c.in_ok-words-in-Two.ensures.firsts c.in_ok-first-in-Two.ensures.long
    c.in_ok-words-in-Two.ensures.joins
