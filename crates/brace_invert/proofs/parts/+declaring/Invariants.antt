use Rattle.std.proofs.Common.{◌≡◌, ◌++◌, map, flat_map, take}
use Rattle.brace_model.specs.Sites.{constant_numbers}
use Rattle.brace_invert.specs.Split.{unread}
use Rattle.brace_invert.proofs.parts.+declaring.Given as goal

abbrev pub invariant-add_unread-loop-s : goal.invariant-add_unread-loop-s
invariant-add_unread-loop-s l = l.declared ≡ l.initial.declared ++ map unread (flat_map constant_numbers (take l.s-index l.block))
