use Rattle.brace_names.specs.declared.fault.Which.TheVariants as which
use Rattle.brace_names.proofs.TableLemmas.{within}
use Rattle.brace_names.proofs.class.past_limit.Goals as goal

pub returns-in-None : goal.returns-in-None
returns-in-None c = within c.args.out.now.items which.Fields (λ one. one.0) c.args.fields.now 64 c.in-None.ensures.lookup.3
