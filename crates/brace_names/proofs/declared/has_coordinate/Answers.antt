use Rattle.std.proofs.Common.{rules, tests}
use Rattle.std.proofs.lemmas.Iterator.{YieldsList-from_slice}
use Rattle.std.proofs.lemmas.Iterator.Search.{any_from_yields_List}
use Rattle.brace_names.specs.Classes.{is_coordinate}
use Rattle.brace_names.proofs.declared.has_coordinate.Goals as goal

pub returns : goal.returns
returns c =
    any_from_yields_List (is_coordinate c.args.axis.now) _ _ _ c.any.ensures.ran (YieldsList-from_slice c.args.members.now cc) (λ x b q k. search (rules, tests))
