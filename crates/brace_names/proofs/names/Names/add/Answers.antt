use Rattle.std.proofs.Common.{sym, ap}
use Rattle.std.specs.Prelude.{not}
use Rattle.brace_names.proofs.TableLemmas.{absent-shown, present-shown, added-shown, with_name-kept}
use Rattle.brace_names.proofs.names.Names.add.Goals as goal

pub returns-then-contains_key-clause-added : goal.returns-then-contains_key-clause-added
returns-then-contains_key-clause-added g c =
    with_name-kept _ _ _ (present-shown c.self.inside.index _ c.args.name c.self.view_is c.if-contains_key.ensures)

pub returns-then-contains_key-clause-fresh : goal.returns-then-contains_key-clause-fresh
returns-then-contains_key-clause-fresh g c = sym (ap not (present-shown c.self.inside.index _ c.args.name c.self.view_is c.if-contains_key.ensures))

pub returns-clause-added : goal.returns-clause-added
returns-clause-added g c =
    added-shown c.self.inside.index _ c.args.name c.self.view_is c.args.value _ c.if-contains_key.ensures c.in_ok-insert.ensures.entries

pub returns-clause-fresh : goal.returns-clause-fresh
returns-clause-fresh g c = sym (ap not (absent-shown c.self.inside.index _ c.args.name c.self.view_is c.if-contains_key.ensures))
