-- Where a draft stands, and what the folders of a host keep while a file is saved.
use Rattle.std.specs.Prelude.{◌≡◌, ◌≢◌, ◌<◌, ◌++◌, ℕ, List, Option, Some, codes, decimal}
use Rattle.std.specs.Path.{path_with_file_name}
use Rattle.brace_io.specs.Shelves.{Files, held_at}

-- the file name of a draft, by its number
abbrev pub draft_name : ℕ → List ℕ
draft_name number = codes ".brace-part-" ++ decimal number

-- the path is that of one of a hundred drafts in the folder of the name
abbrev pub StandsBeside : List ℕ → List ℕ → Type 0
StandsBeside name path =
    (number : ℕ) × ((number < 100) × (path ≡ path_with_file_name name (draft_name number)))

-- what stood at a path stands there, with the same bytes
abbrev pub Keeps : Option Files → Option Files → Type 0
Keeps before after =
    (path bytes : List ℕ) → held_at before path ≡ Some bytes → held_at after path ≡ Some bytes

-- no other path than these two changed
abbrev pub OnlyAtBoth : Option Files → Option Files → List ℕ → List ℕ → Type 0
OnlyAtBoth before after one two =
    (other : List ℕ) → other ≢ one → other ≢ two → held_at after other ≡ held_at before other
