use Rattle.brace_names.specs.declared.fault.Which.TheVariants as which
use Rattle.brace_names.proofs.TableLemmas.{within_names}
use Rattle.brace_names.proofs.class.past_classes.Goals as goal

pub returns-in-None : goal.returns-in-None
returns-in-None c = within_names c.args.out.now.items which.Classes c.args.names.now 16 c.in-None.ensures.lookup.3
