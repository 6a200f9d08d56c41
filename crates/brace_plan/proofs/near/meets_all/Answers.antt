use Rattle.std.proofs.Common.{◌∙◌, sym, ap, ◌&&◌, ◌+◌, drop, Bool}
use Rattle.std.proofs.lemmas.Bool.{and_left}
use Rattle.std.proofs.lemmas.List.{at_drop_all}
use Rattle.std.specs.List.{list_all}
use Rattle.brace_grid.specs.Grids.{place_of}
use Rattle.brace_plan.specs.declared.action.Bound.{Bound}
use Rattle.brace_plan.specs.Acts.{meets}
use Rattle.brace_plan.specs.inner.Walks.{scope_at}
use Rattle.brace_plan.proofs.NearLemmas.{next-bound}
use Rattle.brace_plan.proofs.near.meets_all.Goals as goal

pub returns-then-not-meets : goal.returns-then-not-meets
returns-then-not-meets c seed =
    sym (sym (c.loop-bound.invariant seed) ∙ next-bound _ _ c.args.bounds.now c.loop-bound.bound-index _ c.as_slice-bound-items.ensures c.loop-bound-test.true
    ∙ and_left _ _ (sym (c.meets.ensures seed) ∙ c.if-not-meets.true))

pub loop-bound-preserved : goal.loop-bound-preserved
loop-bound-preserved c seed =
    let p : Bound → Bool = meets (scope_at c.args.scene.now c.args.seat.now seed c.args.locals.now) (place_of c.args.scene.now.program.now c.args.b.now) in
    sym (next-bound _ _ c.args.bounds.now c.loop-bound.bound-index _ c.as_slice-bound-items.ensures c.loop-bound-test.true
    ∙ ap (λ b. b && list_all p (drop (c.loop-bound.bound-index + 1) c.args.bounds.now)) (sym (c.meets.ensures seed) ∙ c.if-not-meets.false)) ∙ c.loop-bound.invariant seed

pub returns : goal.returns
returns c seed =
    sym (sym (c.loop-bound.invariant seed) ∙ at_drop_all (list_all _) c.args.bounds.now c.loop-bound.bound-index (rw c.as_slice-bound-items.ensures at c.loop-bound-test.false))
