use Rattle.std.proofs.lemmas.Result.{on_ok_weaker}
use Rattle.brace_desk.proofs.SaveLemmas.{held_named}
use Rattle.brace_desk.proofs.files.save_file.Goals as goal

pub returns-clause-held : goal.returns-clause-held
returns-clause-held g c =
    on_ok_weaker c.save_whole.result
    (λ holds. held_named _ _ c.args.file.now c.as_str.result.now c.as_slice.result.now c.as_str.ensures c.as_slice.ensures c.save_whole.ensures.only holds)
    c.save_whole.ensures.all
