use Rattle.std.proofs.Common.{◌≡◌}
use Rattle.brace_io.proofs.draft.make_beside.Given as goal

abbrev pub invariant-loop-number : goal.invariant-loop-number
invariant-loop-number g l = g.H.Host.files l.host ≡ g.H.Host.files l.initial.host
