use Rattle.std.proofs.Common.{◌≡◌, ◌++◌, length}
use Rattle.std.specs.Vec.Iter.{into_iter_items, into_iter_len}
use Rattle.brace_desk.specs.inner.Joins.{added_to}
use Rattle.brace_desk.proofs.join.added.Given as goal

abbrev pub invariant-loop-world : goal.invariant-loop-world
invariant-loop-world l = record {
  so_far : l.all.items ++ added_to (into_iter_items l.world-iterator.a) (into_iter_items l.world-iterator.b) ≡ added_to l.fn.worlds.items l.fn.more.items;
  first_has : into_iter_len l.world-iterator.a ≡ length (into_iter_items l.world-iterator.a);
  other_has : into_iter_len l.world-iterator.b ≡ length (into_iter_items l.world-iterator.b);
}
