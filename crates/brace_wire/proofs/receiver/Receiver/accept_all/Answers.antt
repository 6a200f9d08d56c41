use Rattle.std.proofs.Common.{◌∙◌, sym}
use Rattle.brace_num.proofs.Lists.{none_long}
use Rattle.brace_wire.proofs.AcceptLemmas.{next_place, none_left}
use Rattle.brace_wire.proofs.receiver.Receiver.accept_all.Goals as goal

pub accept-requires-clause-short : goal.accept-requires-clause-short
accept-requires-clause-short c = c.loop-f.invariant.left.short

pub accept-requires-clause-place : goal.accept-requires-clause-place
accept-requires-clause-place c = next_place _ _ _ _ c.loop-f.invariant.left c.in-Some.f _ c.in-Some.ensures.steps.0

pub returns : goal.returns
returns c = none_left _ _ _ _ c.loop-f.invariant.left (none_long _ (sym c.loop-f.invariant.has ∙ c.in-None.ensures.steps.0))
