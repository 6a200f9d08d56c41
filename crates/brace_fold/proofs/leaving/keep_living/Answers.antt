use Rattle.std.proofs.Common.{rules}
use Rattle.brace_fold.proofs.LeavingLemmas.{dropped-one, kept-one}
use Rattle.brace_fold.proofs.leaving.keep_living.Goals as goal

pub loop-row-preserved : goal.loop-row-preserved
loop-row-preserved c =
    let before = c.loop-row.agents.items in
    let rest = c.pop.new.self.items in
    record {
      kept = kept-one before rest c.in-Some.a c.in-Some.ensures.items c.args.count c.loop-row.row c.loop-row-test.true c.args.class.now c.args.out.now
          c.loop-row.left.items _ _ c.loop-row.invariant.kept c.keep.ensures.left;
      rest = dropped-one before rest c.in-Some.a c.in-Some.ensures.items c.args.count c.loop-row.row c.loop-row-test.true _ c.loop-row.invariant.rest;
      room = search rules;
    }
