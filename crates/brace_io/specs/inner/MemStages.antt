-- How a shelf in memory stands at one of its entries.
use Rattle.std.specs.Prelude.{◌≡◌, ◌<◌, ℕ, List, Some, ⊤, length}
use Rattle.std.specs.List.{position_or_len}
use Rattle.brace_io.specs.MemShelves.{Entry, named}
use Rattle.brace_io.specs.Shelves.{Stage, Idle, Reading, Writing, Stopped}
use Rattle.brace_io.specs.declared.mem_shelf.Doing.{Doing}
use Rattle.brace_io.specs.declared.mem_shelf.Doing.TheVariants as doing

-- the stage at a name and a place
abbrev pub mem_stage : Doing → List ℕ → ℕ → Stage
mem_stage doing.Idle name place = Idle
mem_stage doing.Reading name place = Reading (Some (name, place))
mem_stage doing.Writing name place = Writing (Some name)
mem_stage doing.Stopped name place = Stopped (Some name)

-- the index is the name's entry
abbrev pub IsAt : List Entry → List ℕ → ℕ → Type 0
IsAt entries name index = (index < length entries) × (index ≡ position_or_len (named name) entries)

-- while a name is read or written, the index is its entry
abbrev pub Spotted : Doing → List Entry → List ℕ → ℕ → Type 0
Spotted doing.Idle entries name index = ⊤
Spotted doing.Reading entries name index = IsAt entries name index
Spotted doing.Writing entries name index = IsAt entries name index
Spotted doing.Stopped entries name index = ⊤
