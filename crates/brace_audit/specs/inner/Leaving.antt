-- How a call leaves the shelf that it reads.
use Rattle.std.specs.Prelude.{◌≡◌, ◌≤◌, ℕ, List, false}
use Rattle.brace_io.specs.declared.shelf.Shelf as shelf_trait
use Rattle.brace_io.specs.Counts.{Rose}
use Rattle.brace_io.specs.Shelves.{writes, StoppedAt}

-- the shelf holds what it held and does not write; where the call failed, the count of failures
-- rose and the shelf stopped at the name, else the count is as it was
pub record Leaves {S : Type 0} (of_shelf : shelf_trait.Ghosts S) (before after : S)
    (name : List ℕ) (failed : Type 0) : Type 0
  where
    pub held_alone : of_shelf.held after ≡ of_shelf.held before
    pub not_writing : writes (of_shelf.stage after) ≡ false
    pub faults_alone : (failed → ⊥) → of_shelf.faults after ≡ of_shelf.faults before
    pub never_falls : of_shelf.faults before ≤ of_shelf.faults after
    pub rose : failed → Rose (of_shelf.faults before) (of_shelf.faults after)
    pub stopped : failed → StoppedAt (of_shelf.held before) (of_shelf.stage after) name
