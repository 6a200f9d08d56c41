use Rattle.std.proofs.Common.{◌≡◌, drop}
use Rattle.brace_code.specs.Lanes.{draws_at}
use Rattle.brace_code.proofs.lane.Frame.draws_at.Given as goal

abbrev pub invariant-loop-draws : goal.invariant-loop-draws
invariant-loop-draws l = draws_at (drop l.draws-index l.self.draws.now) l.site ≡ draws_at l.self.draws.now l.site
