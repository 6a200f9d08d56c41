use Rattle.std.proofs.Common.{sym}
use Rattle.brace_eval.proofs.StepLemmas.{reach_fits}
use Rattle.brace_eval.proofs.update.left_by.Goals as goal

pub left_of_class-requires-clause-reach : goal.left_of_class-requires-clause-reach
left_of_class-requires-clause-reach c =
    reach_fits c.in-Some.class.now.reach
    (c.requires.lawful.classes_are_lawful c.args.a.now.class c.in-Some.class.now (sym c.in-Some.ensures)).reach_is_distance
