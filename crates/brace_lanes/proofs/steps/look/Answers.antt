use Rattle.std.proofs.Common.{◌∙◌, ap, subst, arith}
use Rattle.std.specs.Prelude.{ℕ}
use Rattle.brace_lanes.specs.Places.{place, opposite}
use Rattle.brace_lanes.specs.inner.Steps.{LooksAt}
use Rattle.brace_lanes.proofs.PlaceLemmas.{opposite_is, words_below}
use Rattle.brace_lanes.proofs.StepsAllowed.{looks}
use Rattle.brace_lanes.proofs.steps.look.Goals as goal

pub load-requires : goal.load-requires
load-requires g c =
    let p = c.requires.placed in (
      p.same,
      omega (arith, p.words, (words_below c.args.way.actors c.args.way.other c.args.way.own p.other_below p.own_below).0),
      looks g.F.Cargo.schedule g.F.Cargo.right c.args.table.now.shared.table_id.slots c.args.seat.now.id c.args.seat.now.me c.args.way.actors c.args.way.own c.args.way.other p.actors p.own_below p.other_below p.serves c.requires.idle,
    )

pub returns-clause-looked : goal.returns-clause-looked
returns-clause-looked g c =
    let p = c.requires.placed in
    let n = c.args.way.actors in
    let a = c.args.way.own in
    let b = c.args.way.other in
    subst (λ (z : ℕ × ℕ). LooksAt g.F.Cargo.schedule g.F.Cargo.right z.0 (place n b a) z.1 c.args.seat.now.me c.load.result c.load.new.seat.me)
    (λ i. (p.actors i, (ap (λ j. opposite j (place n b a)) p.actors ∙ opposite_is n a b p.own_below p.other_below) i)) c.load.ensures.2
