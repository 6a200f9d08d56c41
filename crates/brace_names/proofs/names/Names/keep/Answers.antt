use Rattle.std.proofs.Common.{◌∙◌, sym, ap, take, map}
use Rattle.std.proofs.lemmas.List.{take-map}
use Rattle.brace_names.proofs.TableLemmas.{entry_of}
use Rattle.brace_names.proofs.names.Names.keep.Goals as goal

pub returns : goal.returns
returns g c = ap (map entry_of) c.truncate.ensures.entries ∙ (sym (take-map entry_of c.args.len c.self.inside.index.entries) ∙ ap (take c.args.len) c.self.view_is)
