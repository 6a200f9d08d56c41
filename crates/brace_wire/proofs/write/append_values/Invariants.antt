use Rattle.std.proofs.Common.{◌≡◌, ◌++◌, take}
use Rattle.std.specs.List.{flat_map, AllByRecursion}
use Rattle.brace_wire.specs.Frames.{value}
use Rattle.brace_wire.specs.Fitting.{ValueFits}
use Rattle.brace_wire.proofs.write.append_values.Given as goal

abbrev pub invariant-loop-v : goal.invariant-loop-v
invariant-loop-v l = record {
  written : l.out.items ≡ l.initial.out.items ++ flat_map value (take l.v-index l.values);
  fits : AllByRecursion ValueFits (take l.v-index l.values);
}
