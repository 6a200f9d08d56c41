use Rattle.std.proofs.Common.{◌∙◌, sym, refl}
use Rattle.std.proofs.lemmas.Bool.{and_parts, and_from}
use Rattle.brace_plan.proofs.NearLemmas.{next-bound, part-part}
use Rattle.brace_plan.proofs.near.narrowed.Goals as goal

pub loop-bound-preserved : goal.loop-bound-preserved
loop-bound-preserved c = record {
  holds = λ seed p met in_it.
      let kept = c.loop-bound.invariant.holds seed p met in_it in
      let parts = and_parts _ _ (sym (next-bound _ _ c.args.bounds.now c.loop-bound.bound-index _ c.as_slice-bound-items.ensures c.loop-bound-test.true) ∙ kept.1) in
      (c.cut_area-left.ensures.holds seed p (and_from _ _ parts.0 refl) kept.0, parts.1);
  part = part-part _ _ _ c.cut_area-left.ensures.part c.loop-bound.invariant.part;
}

pub returns-clause-holds : goal.returns-clause-holds
returns-clause-holds c seed p met in_it = (c.loop-bound.invariant.holds seed p met in_it).0
