use Rattle.std.proofs.Common.{◌≡◌, drop, fold}
use Rattle.brace_names.specs.Faults.{earlier}
use Rattle.brace_names.proofs.entry.first.Given as goal

abbrev pub invariant-loop-fault : goal.invariant-loop-fault
invariant-loop-fault l = fold earlier l.best (drop l.fault-index l.later) ≡ fold earlier l.initial.best l.later
