use Rattle.std.proofs.Common.{◌≡◌, ◌<◌, ◌^◌, ◌++◌, length, take}
use Rattle.std.specs.List.{flat_map, AllByRecursion}
use Rattle.brace_wire.specs.Frames.{four, shown}
use Rattle.brace_wire.specs.Fitting.{AgentFits, ShownFits}
use Rattle.brace_wire.proofs.write.append_shows.Given as goal

abbrev pub invariant-loop-s : goal.invariant-loop-s
invariant-loop-s l = record {
  written : l.out.items ≡ (l.fn.out.items ++ four (length l.shows)) ++ flat_map shown (take l.s-index l.shows);
  fits : AllByRecursion (ShownFits AgentFits) (take l.s-index l.shows);
  few : length l.shows < 2 ^ 32;
}
