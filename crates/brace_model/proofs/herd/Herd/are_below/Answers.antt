use Rattle.std.proofs.Common.{◌<◌, List, [], length, rules, arith}
use Rattle.brace_model.specs.declared.world.Agent.{Agent}
use Rattle.brace_model.proofs.herd.Herd.are_below.Goals as goal

pub returns-then-id-next : goal.returns-then-id-next
returns-then-id-next c below =
    let herd : List Agent = c.args.self.now in
    let place = c.loop-place.place in
    let d : Agent = record { class = 0; id = 0; states = [] } in
    let low : place < length herd = search rules in
    let read = c.id.ensures d in
    let under = below place d low in
    omega (arith, read, under, c.if-id-next.true)
