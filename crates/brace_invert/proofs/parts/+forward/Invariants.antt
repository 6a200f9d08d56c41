use Rattle.std.proofs.Common.{◌≡◌, flat_map}
use Rattle.brace_invert.specs.Split.{forward_of}
use Rattle.brace_invert.proofs.parts.+forward.Given as goal

abbrev pub invariant-forward_block-loop-s : goal.invariant-forward_block-loop-s
invariant-forward_block-loop-s l = l.part ≡ flat_map forward_of l.yielded
