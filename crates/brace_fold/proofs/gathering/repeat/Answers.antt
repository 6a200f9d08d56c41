use Rattle.std.proofs.Common.{◌∙◌, ◌*◌, arith, rules}
use Rattle.brace_fold.proofs.Enterings.{filled, filled_to}
use Rattle.brace_fold.proofs.gathering.repeat.Goals as goal

pub loop-four-preserved : goal.loop-four-preserved
loop-four-preserved c =
    let four = c.loop-four.four in
    let so_far = c.loop-four.invariant in
    record {
      most = omega (arith, c.loop-four-test.true);
      this = filled c.args.this.now.items c.loop-four.this.items _ c.args.lane.this four so_far.this
          c.push_four.ensures.items;
      place = filled c.args.place.now.items c.loop-four.place.items _ c.args.lane.place four
          so_far.place c.push_four-in-loop-four.ensures.items;
      room = omega (
        arith,
        c.loop-four-test.true,
        so_far.room,
        c.push_four.ensures.len,
        c.push_four.ensures.capacity,
      );
      room_place = omega (
        arith,
        c.loop-four-test.true,
        so_far.room_place,
        c.push_four-in-loop-four.ensures.len,
        c.push_four-in-loop-four.ensures.capacity,
      );
    }

pub returns-clause-this : goal.returns-clause-this
returns-clause-this c =
    c.truncate.ensures.items
    ∙ filled_to c.args.this.now.items c.loop-four.this.items c.args.lane.this c.args.more
    _ (4 * c.loop-four.four) c.loop-four.invariant.this (search rules)
    (omega (arith, c.loop-four.invariant.most, c.loop-four-test.false))

pub returns-clause-place : goal.returns-clause-place
returns-clause-place c =
    c.truncate-2.ensures.items
    ∙ filled_to c.args.place.now.items c.loop-four.place.items c.args.lane.place c.args.more
    _ (4 * c.loop-four.four) c.loop-four.invariant.place (search rules)
    (omega (arith, c.loop-four.invariant.most, c.loop-four-test.false))
