use Rattle.std.proofs.Common.{◌≡◌, flat_map, drop}
use Rattle.std.specs.Prelude.{slice_get}
use Rattle.brace_names.specs.Faults.{assignment_of}
use Rattle.brace_names.proofs.entry.assignment.Given as goal

abbrev pub invariant-loop-one : goal.invariant-loop-one
invariant-loop-one l = slice_get (flat_map assignment_of (drop l.one-index l.all)) l.left ≡ slice_get (flat_map assignment_of l.all) l.fn.number
