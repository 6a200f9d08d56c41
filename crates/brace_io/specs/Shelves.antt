-- What a shelf of files holds, where it tells that, and where it stands between two calls.
use Rattle.std.specs.Prelude.{◌≡◌, ◌≢◌, ◌≤◌, ◌<◌, ◌⊎◌, ℕ, List, [], ◌++◌, Option, Some, None, Bool, true, false, cond, is_some, length, take, drop}

-- files by name: the bytes of a name that is held
abbrev pub Files : Type 0
Files = List ℕ → Option (List ℕ)

-- where a shelf stands: nothing begun, reading a name from a place, writing a name, or stopped at a
-- name by a failure; it tells names and places exactly where it tells what it holds
pub data Stage : Type 0 where
  Idle : Stage
  Reading : Option (List ℕ × ℕ) → Stage
  Writing : Option (List ℕ) → Stage
  Stopped : Option (List ℕ) → Stage

-- the bytes under a name, where the shelf tells what it holds and holds the name
abbrev pub held_at : Option Files → List ℕ → Option (List ℕ)
held_at None name = None
held_at (Some files) name = files name

-- the shelf tells what it holds
abbrev pub tells : Option Files → Bool
tells held = is_some held

-- where the shelf tells: the name has these bytes
abbrev pub Holds : Option Files → List ℕ → List ℕ → Type 0
Holds held name bytes = tells held ≡ true → held_at held name ≡ Some bytes

-- where the shelf tells: it has the name
abbrev pub Has : Option Files → List ℕ → Type 0
Has held name = tells held ≡ true → is_some (held_at held name) ≡ true

-- the shelf has no such name
abbrev pub Lacks : Option Files → List ℕ → Type 0
Lacks held name = held_at held name ≡ None

-- the shelf reads the name from the place
abbrev pub ReadsFrom : Option Files → Stage → List ℕ → ℕ → Type 0
ReadsFrom held stage name place = stage ≡ Reading (cond (tells held) (Some (name, place)) None)

-- the shelf reads the name from a place that is at most the limit
abbrev pub ReadsWithin : Option Files → Stage → List ℕ → ℕ → Type 0
ReadsWithin held stage name limit =
    (place : ℕ) × ((place ≤ limit) × ReadsFrom held stage name place)

-- the shelf writes the name
abbrev pub WritesTo : Option Files → Stage → List ℕ → Type 0
WritesTo held stage name = stage ≡ Writing (cond (tells held) (Some name) None)

-- a failure stopped the shelf at the name
abbrev pub StoppedAt : Option Files → Stage → List ℕ → Type 0
StoppedAt held stage name = stage ≡ Stopped (cond (tells held) (Some name) None)

-- the shelf reads some name
abbrev pub IsReading : Option Files → Stage → Type 0
IsReading held stage = (name : List ℕ) × ((place : ℕ) × ReadsFrom held stage name place)

-- the shelf writes some name
abbrev pub IsWriting : Option Files → Stage → Type 0
IsWriting held stage = (name : List ℕ) × WritesTo held stage name

-- the shelf writes
abbrev pub writes : Stage → Bool
writes Idle = false
writes (Reading at) = false
writes (Writing name) = true
writes (Stopped name) = false

-- n bytes of the buffer are the next ones of the file from the place; none in a buffer that has
-- room is the end
abbrev pub Next : List ℕ → ℕ → List ℕ → ℕ → Type 0
Next file place buffer n =
    (take n buffer ≡ take n (drop place file)) × (n ≤ length (drop place file))
    × (n ≡ 0 → 0 < length buffer → drop place file ≡ [])

-- no other name than this changed, and the shelf tells as much as before
abbrev pub OnlyAt : Option Files → Option Files → List ℕ → Type 0
OnlyAt before after name =
    (tells after ≡ tells before)
    × ((other : List ℕ) → other ≢ name → held_at after other ≡ held_at before other)

-- the name has the piece behind the bytes that it had
abbrev pub Adds : Option Files → Option Files → List ℕ → List ℕ → Type 0
Adds before after name piece =
    (bytes : List ℕ) → held_at before name ≡ Some bytes → held_at after name ≡ Some (bytes ++ piece)

-- the name has some front of the piece behind the bytes that it had
abbrev pub AddsFront : Option Files → Option Files → List ℕ → List ℕ → Type 0
AddsFront before after name piece =
    (n : ℕ) × ((n ≤ length piece) × Adds before after name (take n piece))

-- where the shelf tells: the name has some front of the piece
abbrev pub HoldsFront : Option Files → List ℕ → List ℕ → Type 0
HoldsFront held name piece = (n : ℕ) × ((n ≤ length piece) × Holds held name (take n piece))

-- the name is as it was, or has some front of the piece alone
abbrev pub SavedFront : Option Files → Option Files → List ℕ → List ℕ → Type 0
SavedFront before after name piece =
    (held_at after name ≡ held_at before name) ⊎ HoldsFront after name piece

-- where the shelf tells: the name has more bytes than the limit
abbrev pub HoldsOver : Option Files → List ℕ → ℕ → Type 0
HoldsOver held name limit =
    tells held ≡ true → (file : List ℕ) × ((held_at held name ≡ Some file) × (limit < length file))
