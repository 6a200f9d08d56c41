use Rattle.std.proofs.Common.{◌∙◌, List, sym, ap}
use Rattle.brace_eval.specs.declared.seat.Bound.{Bound}
use Rattle.brace_eval.specs.inner.Walks.{undone}
use Rattle.brace_eval.proofs.TrailLemmas.{undone-snoc, undone-past}
use Rattle.brace_eval.proofs.seat.unbind.Goals as goal

pub loop-bound-preserved-then-bound-locals : goal.loop-bound-preserved-then-bound-locals
loop-bound-preserved-then-bound-locals c =
    sym (ap (λ (t : List Bound). undone t c.loop-bound.locals) c.in-Some.ensures.items ∙ undone-snoc c.pop.new.self.items c.in-Some.bound c.loop-bound.locals)
    ∙ c.loop-bound.invariant

pub loop-bound-preserved : goal.loop-bound-preserved
loop-bound-preserved c =
    sym (ap (λ (t : List Bound). undone t c.loop-bound.locals) c.in-Some.ensures.items ∙ undone-past c.pop.new.self.items c.in-Some.bound c.loop-bound.locals c.if-bound-locals.false)
    ∙ c.loop-bound.invariant
