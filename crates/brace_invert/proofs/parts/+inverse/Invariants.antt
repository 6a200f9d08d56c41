use Rattle.std.proofs.Common.{◌≡◌, flat_map}
use Rattle.brace_invert.specs.Split.{inverse_of}
use Rattle.brace_invert.proofs.parts.+inverse.Given as goal

abbrev pub invariant-inverse_block-loop-s : goal.invariant-inverse_block-loop-s
invariant-inverse_block-loop-s l = l.part ≡ flat_map (λ s. inverse_of s l.in_loop) l.yielded
