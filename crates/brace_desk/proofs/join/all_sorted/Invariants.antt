use Rattle.std.proofs.Common.{◌≡◌, ◌++◌, length}
use Rattle.std.specs.List.{AllZip}
use Rattle.std.specs.Vec.Iter.{into_iter_items, into_iter_len}
use Rattle.brace_desk.specs.inner.Joins.{IsSortedWorld}
use Rattle.brace_desk.proofs.join.all_sorted.Given as goal

abbrev pub invariant-loop-world : goal.invariant-loop-world
invariant-loop-world l = record {
  rest : l.yielded ++ into_iter_items l.world-iterator ≡ l.fn.worlds.items;
  so_far : AllZip IsSortedWorld l.yielded l.all.items;
  has : into_iter_len l.world-iterator ≡ length (into_iter_items l.world-iterator);
}
