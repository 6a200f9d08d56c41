use Rattle.brace_names.proofs.TableLemmas.{turn}
use Rattle.brace_names.proofs.word.note.Goals as goal

pub loop-word-preserved : goal.loop-word-preserved
loop-word-preserved c =
    turn c.args.words.now c.loop-word.word-index c.word-item.result _ _ _ _ _ c.loop-word-test.true c.word-item.is c.in_ok-see.ensures.again c.in_ok-see.ensures.seen
    c.loop-word.invariant.0 c.loop-word.invariant.1
