use Rattle.std.proofs.Common.{arith}
use Rattle.brace_lanes.proofs.PlaceLemmas.{words_below}
use Rattle.brace_lanes.proofs.StepsAllowed.{puts}
use Rattle.brace_lanes.proofs.steps.store_put.Goals as goal

pub store-requires : goal.store-requires
store-requires g c =
    let p = c.requires.placed in (
      p.same,
      omega (arith, p.words, (words_below c.args.way.actors c.args.way.own c.args.way.other p.own_below p.other_below).0),
      puts g.F.Cargo.schedule g.F.Cargo.right c.args.table.now.shared.table_id.slots c.args.seat.now.id c.args.seat.now.me c.args.way.actors c.args.way.own c.args.way.other c.args.count p.slots p.actors p.own_below p.other_below p.serves c.requires.hand c.requires.count c.requires.answered c.requires.piece,
    )
