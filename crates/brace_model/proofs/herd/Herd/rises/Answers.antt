use Rattle.std.proofs.Common.{◌<◌, ◌-◌, List, [], length, rules, arith}
use Rattle.brace_model.specs.declared.world.Agent.{Agent}
use Rattle.brace_model.proofs.WorldLemmas.{RisesById-from_pairs, RisesById-pair}
use Rattle.brace_model.proofs.herd.Herd.rises.Goals as goal

pub returns-then-id : goal.returns-then-id
returns-then-id c rises =
    let herd : List Agent = c.args.self.now in
    let i = c.loop-i.i in
    let d : Agent = record { class = 0; id = 0; states = [] } in
    let low : i < length herd = search rules in
    let up = RisesById-pair herd (i - 1) i d d (omega arith) low rises in
    let first = c.id.ensures d in
    let next = c.id-in-loop-i.ensures d in
    omega (arith, up, first, next, c.if-id.true)

pub returns : goal.returns
returns c = RisesById-from_pairs _ (λ k d le. c.loop-i.invariant k d (omega (arith, le)))
