use Rattle.std.proofs.Common.{sym, subst, List}
use Rattle.std.proofs.lemmas.Result.{on_ok_weaker}
use Rattle.brace_comb.specs.declared.entry.Entry.{Entry}
use Rattle.brace_comb.specs.Entries.{CanMerge, single}
use Rattle.brace_comb.specs.Partials.{AreTotalsOf}
use Rattle.brace_comb.proofs.Said.{said_more}
use Rattle.brace_comb.proofs.partial.Partial.add.Goals as goal

pub give-requires-clause-joins : goal.give-requires-clause-joins
give-requires-clause-joins c =
    subst (λ (l : List Entry). CanMerge l (single c.args.target c.args.field c.args.total.now)) (sym c.self.view_is) c.requires

pub returns-clause-said : goal.returns-clause-said
returns-clause-said c =
    let more = single c.args.target c.args.field c.args.total.now in
    let old = c.self.inside.entries.items in
    on_ok_weaker c.give.result
    (λ is combs xs ys p q. said_more combs xs ys old more c.give.new.entries.items (subst (AreTotalsOf combs xs) (sym c.self.view_is) p) q is)
    c.give.ensures.ok
