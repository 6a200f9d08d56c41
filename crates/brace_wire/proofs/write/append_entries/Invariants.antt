use Rattle.std.proofs.Common.{◌≡◌, ◌<◌, ◌^◌, ◌++◌, length, take}
use Rattle.std.specs.List.{flat_map, AllByRecursion}
use Rattle.brace_wire.specs.Frames.{four, entry}
use Rattle.brace_wire.specs.Fitting.{EntryFits}
use Rattle.brace_wire.proofs.write.append_entries.Given as goal

abbrev pub invariant-loop-e : goal.invariant-loop-e
invariant-loop-e l = record {
  written : l.out.items ≡ (l.fn.out.items ++ four (length l.entries)) ++ flat_map entry (take l.e-index l.entries);
  fits : AllByRecursion EntryFits (take l.e-index l.entries);
  few : length l.entries < 2 ^ 32;
}
