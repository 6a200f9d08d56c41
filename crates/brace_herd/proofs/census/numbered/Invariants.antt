use Rattle.std.proofs.Common.{◌≡◌, ◌++◌, map, filter_map, length}
use Rattle.std.specs.Prelude.{reverse}
use Rattle.brace_pieces.specs.Together.{with_number}
use Rattle.brace_herd.proofs.census.numbered.Given as goal

abbrev pub invariant-loop-child : goal.invariant-loop-child
invariant-loop-child l =
    l.all.items ++ filter_map (with_number l.next (map (λ p. p.id) l.parents)) (reverse l.born.items)
    ≡ filter_map (with_number l.next (map (λ p. p.id) l.parents)) l.fn.born.items

abbrev pub decreases-loop-child : goal.decreases-loop-child
decreases-loop-child l = length l.born.items
