use Rattle.std.proofs.Common.{sym, subst, ◌+◌, arith}
use Rattle.brace_core.specs.Lanes.{AreBelow}
use Rattle.brace_pieces.specs.Steps.{schedule}
use Rattle.brace_pieces.proofs.LanesFor.{few_actors, parts_below, schedule_short}
use Rattle.brace_crew.proofs.crew.actors.Goals as goal

pub overflow_add-result : goal.overflow_add-result
overflow_add-result c =
    omega (arith, few_actors c.args.setting.now c.requires, c.parts.ensures)

pub returns-clause-few : goal.returns-clause-few
returns-clause-few c = omega (arith, few_actors c.args.setting.now c.requires, c.parts.ensures)

pub returns-clause-below : goal.returns-clause-below
returns-clause-below c =
    subst (λ n. AreBelow (schedule c.args.setting.now) (n + 1)) (sym c.parts.ensures)
    (parts_below c.args.setting.now)

pub returns-clause-short : goal.returns-clause-short
returns-clause-short c = schedule_short c.args.setting.now c.requires
