use Rattle.brace_herd.proofs.LawfulOn.{on_lawful}
use Rattle.brace_crew.proofs.BytesLemmas.{have_bytes}
use Rattle.brace_crew.proofs.linked.crew_run_on_links.Goals as goal

pub make-requires-clause-below : goal.make-requires-clause-below
make-requires-clause-below g c = c.actors.ensures.below

pub make-requires-clause-short : goal.make-requires-clause-short
make-requires-clause-short g c = c.actors.ensures.short

pub make-requires-clause-has_bytes : goal.make-requires-clause-has_bytes
make-requires-clause-has_bytes g c = have_bytes c.args.setting.now (on_lawful c.args.setting.now c.requires.lawful)
