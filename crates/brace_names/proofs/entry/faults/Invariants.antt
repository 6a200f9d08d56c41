use Rattle.std.proofs.Common.{◌≡◌, ◌++◌, flat_map, drop}
use Rattle.brace_names.specs.Faults.{fault_of}
use Rattle.brace_names.proofs.entry.faults.Given as goal

abbrev pub invariant-loop-one : goal.invariant-loop-one
invariant-loop-one l = l.faults.items ++ flat_map fault_of (drop l.one-index l.all) ≡ flat_map fault_of l.all
