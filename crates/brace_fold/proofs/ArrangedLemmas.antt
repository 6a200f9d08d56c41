-- Agents in the order of cells.
use Rattle.std.proofs.Common.{◌≡◌, ◌∙◌, sym, ap, subst, ◌<◌, ◌≤ℤ◌, List, length, get_or, arith}
use Rattle.std.specs.List.{All, list_all, range_with_len}
use Rattle.std.specs.List.Sorted.{IsPermutation}
use Rattle.std.specs.Prelude.{is_some}
use Rattle.std.proofs.lemmas.List.FromFn.{get_or-range_with_len, length-range_with_len}
use Rattle.std.proofs.lemmas.List.Sorted.{All-permutation, IsPermutation-map}
use Rattle.brace_model.specs.declared.program.Program.{Program}
use Rattle.brace_model.specs.declared.world.Agent.{Agent}
use Rattle.brace_model.specs.Lawful.{is_lawful_agent}
use Rattle.brace_model.specs.World.{class_of}
use Rattle.brace_grid.specs.Grids.{place_of}
use Rattle.brace_plan.specs.Answers.{greatest_visible}
use Rattle.brace_fold.specs.Arranged.{AreArranged, in_places}
use Rattle.brace_fold.specs.Asked.{no_agent}
use Rattle.brace_fold.specs.declared.arranged.Arranged.{Arranged}
use Rattle.brace_fold.specs.declared.cells.Cells.{Cells}
use Rattle.brace_fold.specs.declared.cells.Spot.{Spot}
use Rattle.brace_fold.specs.inner.Sights.{AreCells, cell_number}
use Rattle.brace_fold.proofs.MoveLemmas.{rows-all}

-- they are the agents of the rows
pub in-order : (program : Program) (agents : List Agent) (arranged : Arranged)
    → AreArranged program agents arranged → IsPermutation agents (in_places agents arranged)
in-order program agents arranged is =
    subst (λ l. IsPermutation l (in_places agents arranged)) (rows-all agents)
    (IsPermutation-map (λ row. get_or agents row no_agent) (range_with_len 0 (length agents))
    arranged.order.items is.places)

-- each place is that of a row
pub within : (program : Program) (agents : List Agent) (arranged : Arranged)
    → AreArranged program agents arranged
    → All (λ place. place < length agents) arranged.order.items
within program agents arranged is =
    let count = length agents in
    All-permutation (λ place. place < count) (range_with_len 0 count) arranged.order.items is.places
    (λ k d low.
    let less : k < count = omega (arith, low, length-range_with_len 0 count) in
    let at = get_or-range_with_len 0 count k d less in omega (arith, less, at))

-- a program with the same agents, places and ranges sees them in the same cells
pub record SeesAs (program other : Program) : Type 0 where
  pub places : (a : Agent) → place_of other a ≡ place_of program a
  pub known : (a : Agent) → is_some (class_of other a) ≡ is_some (class_of program a)
  pub lawful : (a : Agent) → is_lawful_agent other a ≡ is_lawful_agent program a
  pub range : greatest_visible other ≡ greatest_visible program

cells-alike : (program other : Program) (agents : List Agent) (cells : Cells)
    → SeesAs program other → AreCells program agents cells → AreCells other agents cells
cells-alike program other agents cells sees are = record {
  side = are.side;
  some = are.some;
  wide = subst (λ v. v ≤ℤ are.side) (sym sees.range) are.wide;
  theirs = record {
    long = are.theirs.long;
    known = λ k a low. sees.known (get_or agents k a) ∙ are.theirs.known k a low;
    each = λ k s a low. are.theirs.each k s a low
        ∙ sym (ap (λ p. let spot : Spot = record {
          x = p.x;
          y = p.y;
          cell = cell_number are.side p.x p.y;
          class = (get_or agents k a).class;
          place = k;
        } in spot) (sees.places (get_or agents k a)));
  };
  rise = are.rise;
  halves = are.halves;
}

pub arranged-alike : (program other : Program) (agents : List Agent) (arranged : Arranged)
    → SeesAs program other → AreArranged program agents arranged
    → AreArranged other agents arranged
arranged-alike program other agents arranged sees is = record {
  lawful = ap (λ test. list_all test agents) (λ i a. sees.lawful a i) ∙ is.lawful;
  apart = is.apart;
  places = is.places;
  moved = is.moved;
  cells = cells-alike program other (in_places agents arranged) arranged.cells sees is.cells;
}
