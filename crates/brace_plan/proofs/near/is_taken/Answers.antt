use Rattle.std.proofs.Common.{◌∙◌, sym, ap, ◌&&◌, Bool}
use Rattle.std.specs.List.{list_all}
use Rattle.brace_grid.specs.Grids.{place_of}
use Rattle.brace_plan.specs.Acts.{meets}
use Rattle.brace_plan.specs.inner.Walks.{scope_at}
use Rattle.brace_plan.proofs.near.is_taken.Goals as goal

pub returns-then-is_seen : goal.returns-then-is_seen
returns-then-is_seen c seed =
    let all : Bool = list_all (meets (scope_at c.args.scene.now c.args.seat.now seed c.args.locals.now) (place_of c.args.scene.now.program.now c.args.b.now)) c.args.bounds.now in
    c.meets_all.ensures seed ∙ ap (λ b. b && all) (sym (sym c.is_seen.ensures ∙ c.if-is_seen.true))
