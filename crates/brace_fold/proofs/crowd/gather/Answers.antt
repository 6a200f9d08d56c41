use Rattle.brace_fold.proofs.Crowdings.{viewed}
use Rattle.brace_fold.proofs.crowd.gather.Goals as goal

pub returns : goal.returns
returns c =
    viewed c.args.lanes.now c.args.column.now c.in_ok-words.words c.in-Some.view c.len.result
    c.len.ensures c.in_ok-words.ensures.words c.in_ok-words.ensures.sees
    c.in-Some.ensures.words c.in-Some.ensures.within
