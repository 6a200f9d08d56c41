use Rattle.std.proofs.Common.{rules, arith, ◌≡◌, ◌∙◌, ap, sym, ◌<◌, ◌≤◌, ◌^◌, [], length, take, ℤ, pos, ◌+ℤ◌, FitsSigned, w64}
use Rattle.std.proofs.lemmas.Int.{ints}
use Rattle.std.proofs.lemmas.List.{take_all}
use Rattle.std.proofs.lemmas.List.Sums.{fold_more}
use Rattle.brace_model.specs.declared.world.Agent.{Agent}
use Rattle.brace_model.specs.World.{x_of, y_of}
use Rattle.brace_desk.specs.Sums.{place_along, sums_of}
use Rattle.brace_desk.proofs.sum_publisher.sums.Goals as goal

some_agent : Agent
some_agent = record { class = 0; id = 0; states = [] }

pub loop-at-preserved : goal.loop-at-preserved
loop-at-preserved c =
    let i = c.loop-at.at in
    let few : i < 2 ^ 64 = search rules in
    let program = c.args.program.now in
    let agents = c.args.agents.now in
    let low : i < length agents = omega (arith, c.loop-at-test.true, c.len-at-end.ensures) in
    let fits_x : FitsSigned w64 c.place-x.result.0 = search rules in
    let fits_y : FitsSigned w64 c.place-x.result.1 = search rules in
    let more_x = fold_more (λ (total : ℤ) (b : Agent). total +ℤ place_along x_of program b) (pos 0) agents i some_agent low in
    let more_y = fold_more (λ (total : ℤ) (b : Agent). total +ℤ place_along y_of program b) (pos 0) agents i some_agent low in
    let here_x = c.place-x.ensures.x some_agent in
    let here_y = c.place-x.ensures.y some_agent in
    let so_far = c.loop-at.invariant in
    record {
      x = omega (arith, ints, few, fits_x, more_x, here_x, so_far.x, so_far.bound_x, c.from-along_x.ensures);
      y = omega (arith, ints, few, fits_y, more_y, here_y, so_far.y, so_far.bound_y, c.from-along_y.ensures);
      bound_x = omega (arith, ints, few, fits_x, so_far.bound_x, c.from-along_x.ensures);
      bound_y = omega (arith, ints, few, fits_y, so_far.bound_y, c.from-along_y.ensures);
    }
