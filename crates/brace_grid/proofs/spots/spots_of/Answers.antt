use Rattle.std.proofs.Common.{rules, ◌≡◌, ◌∙◌, [], ◌∷◌, ◌++◌, map, ap, arith, to_z, of_z}
use Rattle.std.specs.Int.{w64}
use Rattle.brace_grid.specs.Grids.{place_of, place_at}
use Rattle.brace_grid.specs.inner.Layout.{spot}
use Rattle.brace_grid.proofs.Laid.{spots_more, at_mapped}
use Rattle.brace_grid.proofs.spots.spots_of.Goals as goal

pub loop-i-preserved : goal.loop-i-preserved
loop-i-preserved c =
    let p = place_of c.args.program.now c.index-agents-i.result in
    let places = map (place_of c.args.program.now) c.args.agents.now in
    let at : p ≡ place_at places c.loop-i.i = at_mapped (place_of c.args.program.now) c.args.agents.now c.loop-i.i c.index-agents-i.result (omega arith) c.index-agents-i.is in
    let more = spots_more (to_z w64 (of_z w64 c.args.side)) places c.loop-i.spots.items c.loop-i.i p at c.loop-i.invariant in
    let new : c.spot_of.result ≡ spot p (to_z w64 (of_z w64 c.args.side)) c.loop-i.i = c.spot_of.ensures ∙ ap (λ n. spot p (to_z w64 (of_z w64 c.args.side)) n) (search rules) in
    c.in_ok-push.ensures.items ∙ ap (λ s. c.loop-i.spots.items ++ s ∷ []) new ∙ more
