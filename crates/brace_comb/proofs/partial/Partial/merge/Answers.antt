use Rattle.std.proofs.Common.{◌∙◌, sym, subst, List, ◌++◌}
use Rattle.brace_comb.specs.declared.entry.Entry.{Entry}
use Rattle.brace_comb.specs.Entries.{CanMerge}
use Rattle.brace_comb.specs.Partials.{IsPartialOf}
use Rattle.brace_comb.proofs.Walks.{more_joined}
use Rattle.brace_comb.proofs.Said.{said_more}
use Rattle.brace_comb.proofs.partial.Partial.merge.Goals as goal

pub merged-requires-clause-joins : goal.merged-requires-clause-joins
merged-requires-clause-joins c =
    subst (λ (l : List Entry). CanMerge l c.args.entries.now) (sym c.self.view_is ∙ sym c.as_slice.ensures.value) c.requires.joins

pub returns-clause-joined : goal.returns-clause-joined
returns-clause-joined c =
    let new = c.in_ok-self-inside.field-0.items in
    let is = subst (λ (l : List Entry). IsPartialOf (l ++ c.args.entries.now) new) (c.as_slice.ensures.value ∙ c.self.view_is) c.in_ok-self-inside.ensures in
    more_joined c.args.self.now c.args.entries.now new c.requires.rising is

pub returns-clause-said : goal.returns-clause-said
returns-clause-said c combs xs ys p q =
    let new = c.in_ok-self-inside.field-0.items in
    let is = subst (λ (l : List Entry). IsPartialOf (l ++ c.args.entries.now) new) (c.as_slice.ensures.value ∙ c.self.view_is) c.in_ok-self-inside.ensures in
    said_more combs xs ys c.args.self.now c.args.entries.now new p q is
