use Rattle.std.proofs.Common.{refl, sym, subst, []}
use Rattle.brace_comb.specs.Entries.{IsRising}
use Rattle.brace_comb.specs.Partials.{IsPartialOf, AreTotalsOf}
use Rattle.brace_comb.proofs.Walks.{rising-nil}
use Rattle.brace_comb.proofs.partial.Partial.make.Goals as goal

pub invariant_of-result : goal.invariant_of-result
invariant_of-result c = subst IsRising (sym c.new.ensures.items) rising-nil

pub returns-clause-given : goal.returns-clause-given
returns-clause-given c =
    subst (IsPartialOf []) (sym c.new.ensures.items) (record { rising = rising-nil; totals = λ t f. refl })

pub returns-clause-said : goal.returns-clause-said
returns-clause-said c combs =
    subst (AreTotalsOf combs []) (sym c.new.ensures.items) (record { rising = rising-nil; totals = λ t f. refl })
