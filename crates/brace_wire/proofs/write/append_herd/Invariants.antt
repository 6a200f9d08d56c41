use Rattle.std.proofs.Common.{◌≡◌, ◌<◌, ◌^◌, ◌++◌, length, take}
use Rattle.std.specs.List.{flat_map, AllByRecursion}
use Rattle.brace_wire.specs.Frames.{four, agent}
use Rattle.brace_wire.specs.Fitting.{AgentFits}
use Rattle.brace_wire.proofs.write.append_herd.Given as goal

abbrev pub invariant-loop-place : goal.invariant-loop-place
invariant-loop-place l = record {
  written : l.out.items ≡ (l.fn.out.items ++ four (length l.agents))
      ++ flat_map agent (take l.place l.agents);
  fits : AllByRecursion AgentFits (take l.place l.agents);
  few : length l.agents < 2 ^ 32;
}
