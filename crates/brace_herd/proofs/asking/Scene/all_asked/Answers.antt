use Rattle.brace_herd.proofs.asking.Scene.all_asked.Goals as goal

pub asked-requires-clause-placed : goal.asked-requires-clause-placed
asked-requires-clause-placed c = c.requires.placed c.loop-place.place-index _ c.loop-place-test.true
