use Rattle.std.proofs.Common.{◌∙◌}
use Rattle.brace_check.specs.Found.{member}
use Rattle.brace_names.proofs.StmtLemmas.{class_more}
use Rattle.brace_check.proofs.found.in_classes.Goals as goal

pub loop-one-preserved : goal.loop-one-preserved
loop-one-preserved c =
    class_more member c.args.known.now c.args.classes.now c.loop-one.one-index c.loop-one.number
    c.in_ok-number.number c.one-item.result c.loop-one.out.items c.class.new.out.items
    c.loop-one-test.true c.one-item.is c.in_ok-number.ensures c.in_ok-class.ensures
    ∙ c.loop-one.invariant
