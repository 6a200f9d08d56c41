use Rattle.std.proofs.Common.{◌≡◌, ◌++◌, flat_map, drop}
use Rattle.brace_names.specs.Faults.{binding_of}
use Rattle.brace_names.proofs.entry.names.Given as goal

abbrev pub invariant-loop-one : goal.invariant-loop-one
invariant-loop-one l = l.bindings.items ++ flat_map binding_of (drop l.one-index l.all) ≡ flat_map binding_of l.all
