use Rattle.std.proofs.Common.{sym, subst, ◌+◌, arith}
use Rattle.brace_core.specs.Lanes.{AreBelow}
use Rattle.brace_pieces.specs.Steps.{schedule}
use Rattle.brace_pieces.proofs.LanesFor.{few_actors, parts_below, schedule_short}
use Rattle.brace_herd.proofs.LawfulOn.{on_lawful}
use Rattle.brace_crew.proofs.BytesLemmas.{have_bytes}
use Rattle.brace_run_tests.proofs.tests.crews.run_linked.Goals as goal

pub overflow_add-parts : goal.overflow_add-parts
overflow_add-parts c = omega (arith, few_actors c.args.setting.now c.requires, c.parts.ensures)

pub make-requires-clause-few : goal.make-requires-clause-few
make-requires-clause-few c = omega (arith, few_actors c.args.setting.now c.requires, c.parts.ensures)

pub make-requires-clause-below : goal.make-requires-clause-below
make-requires-clause-below c = subst (λ n. AreBelow (schedule c.args.setting.now) (n + 1)) (sym c.parts.ensures) (parts_below c.args.setting.now)

pub make-requires-clause-short : goal.make-requires-clause-short
make-requires-clause-short c = schedule_short c.args.setting.now c.requires

pub make-requires-clause-has_bytes : goal.make-requires-clause-has_bytes
make-requires-clause-has_bytes c = have_bytes c.args.setting.now (on_lawful c.args.setting.now c.requires)
