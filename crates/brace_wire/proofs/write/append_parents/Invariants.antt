use Rattle.std.proofs.Common.{◌≡◌, ◌<◌, ◌^◌, ◌++◌, length, take}
use Rattle.std.specs.List.{flat_map, AllByRecursion}
use Rattle.brace_wire.specs.Frames.{four, parent}
use Rattle.brace_wire.specs.Fitting.{ParentFits}
use Rattle.brace_wire.proofs.write.append_parents.Given as goal

abbrev pub invariant-loop-p : goal.invariant-loop-p
invariant-loop-p l = record {
  written : l.out.items ≡ (l.fn.out.items ++ four (length l.parents)) ++ flat_map parent (take l.p-index l.parents);
  fits : AllByRecursion ParentFits (take l.p-index l.parents);
  few : length l.parents < 2 ^ 32;
}
