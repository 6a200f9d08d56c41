use Rattle.std.proofs.Common.{◌∙◌}
use Rattle.brace_names.specs.Found.{member}
use Rattle.brace_names.proofs.StmtLemmas.{class_more}
use Rattle.brace_names.proofs.class.all_members.Goals as goal

pub loop-class-preserved : goal.loop-class-preserved
loop-class-preserved c =
    class_more member c.args.known.now c.args.classes.now c.loop-class.class-index
    c.loop-class.number c.in_ok-number.number c.class-item.result c.loop-class.out.items
    c.members.new.out.items c.loop-class-test.true c.class-item.is c.in_ok-number.ensures
    c.in_ok-members.ensures ∙ c.loop-class.invariant
