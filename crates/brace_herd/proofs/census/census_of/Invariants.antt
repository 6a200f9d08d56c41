use Rattle.std.proofs.Common.{◌≡◌, map, take}
use Rattle.brace_pieces.proofs.CensusRows.{count_in}
use Rattle.brace_herd.proofs.census.census_of.Given as goal

abbrev pub invariant-loop-child : goal.invariant-loop-child
invariant-loop-child l =
    l.parents.items ≡ map (λ a. record { id = a.id; class = a.class }) (take l.child-index l.born)

abbrev pub invariant-loop-class : goal.invariant-loop-class
invariant-loop-class l = l.values ≡ count_in l.program (take l.class-index l.left.classes.items)
