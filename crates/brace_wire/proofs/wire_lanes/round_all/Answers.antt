use Rattle.std.proofs.Common.{◌∙◌, sym, subst, arith}
use Rattle.brace_wire.specs.Links.{after_round}
use Rattle.brace_wire.specs.inner.Standing.{CanRound}
use Rattle.brace_wire.proofs.SendLemmas.{next_there, set_there, kept_there, all_changed}
use Rattle.brace_wire.proofs.wire_lanes.round_all.Goals as goal

pub round-requires-clause-short : goal.round-requires-clause-short
round-requires-clause-short c =
    c.requires.short c.loop-i.i _
    (next_there (after_round c.args.fates.now) c.loop-i.i c.args.links.now.items c.loop-i.links.items c.loop-i.invariant.0 c.index_mut.result.now
    (omega (arith, c.loop-i-test.true, c.len-i-end.ensures)) c.index_mut.ensures.value)

pub round-requires-clause-can : goal.round-requires-clause-can
round-requires-clause-can c =
    subst (λ types. CanRound types c.index_mut.result.now) (sym c.loop-i.invariant.1)
    (c.requires.can c.loop-i.i _
    (next_there (after_round c.args.fates.now) c.loop-i.i c.args.links.now.items c.loop-i.links.items c.loop-i.invariant.0 c.index_mut.result.now
    (omega (arith, c.loop-i-test.true, c.len-i-end.ensures)) c.index_mut.ensures.value))

pub loop-i-preserved : goal.loop-i-preserved
loop-i-preserved c = (
  set_there (after_round c.args.fates.now) c.loop-i.i c.args.links.now.items c.loop-i.links.items c.loop-i.invariant.0 c.index_mut.result.now
      (omega (arith, c.loop-i-test.true, c.len-i-end.ensures)) c.index_mut.ensures.value _ c.round.new.self (omega arith) c.in_ok-round.ensures.made,
  c.round.ensures.types ∙ c.loop-i.invariant.1,
)

pub returns-in_err-round-clause-some_made : goal.returns-in_err-round-clause-some_made
returns-in_err-round-clause-some_made c = (
  c.loop-i.i,
  kept_there (after_round c.args.fates.now) c.loop-i.i c.args.links.now.items c.loop-i.links.items c.loop-i.invariant.0 c.index_mut.result.now
      (omega (arith, c.loop-i-test.true, c.len-i-end.ensures)) c.index_mut.ensures.value c.round.new.self c.in_err-round.ensures.kept,
)

pub returns-clause-made : goal.returns-clause-made
returns-clause-made c =
    all_changed (after_round c.args.fates.now) c.loop-i.i c.args.links.now.items c.loop-i.links.items c.loop-i.invariant.0 (omega (arith, c.loop-i-test.false, c.len-i-end.ensures))

pub returns-clause-some_made : goal.returns-clause-some_made
returns-clause-some_made c = (c.loop-i.i, c.loop-i.invariant.0)
