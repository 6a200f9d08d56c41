use Rattle.std.proofs.Common.{◌∙◌, sym, ap}
use Rattle.brace_names.specs.Tables.{look}
use Rattle.brace_names.proofs.TableLemmas.{look-shown}
use Rattle.brace_names.proofs.names.Names.look.Goals as goal

pub returns : goal.returns
returns g c = c.copied.ensures ∙ (c.get.ensures.value ∙ (sym (look-shown c.args.name.now c.self.inside.index.entries) ∙ ap (λ t. look t c.args.name.now) c.self.view_is))
