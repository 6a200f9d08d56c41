use Rattle.std.proofs.Common.{◌≡◌, drop, fold}
use Rattle.brace_check.specs.Faults.{earlier}
use Rattle.brace_check.proofs.entry.first.Given as goal

abbrev pub invariant-loop-fault : goal.invariant-loop-fault
invariant-loop-fault l = fold earlier l.best (drop l.fault-index l.rest) ≡ fold earlier l.initial.best l.rest
