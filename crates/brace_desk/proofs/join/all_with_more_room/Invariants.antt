use Rattle.std.proofs.Common.{◌≡◌, ◌++◌, length}
use Rattle.std.specs.Vec.Iter.{into_iter_items, into_iter_len}
use Rattle.brace_desk.proofs.join.all_with_more_room.Given as goal

abbrev pub invariant-loop-world : goal.invariant-loop-world
invariant-loop-world l = record {
  rest : l.all.items ++ into_iter_items l.world-iterator ≡ l.fn.worlds.items;
  has : into_iter_len l.world-iterator ≡ length (into_iter_items l.world-iterator);
}
