-- A shelf in memory, and when its calls fail.
use Rattle.std.specs.Prelude.{◌≡◌, ◌≢◌, ◌+◌, ◌-◌, ◌++◌, ◌&&◌, ◌||◌, ℕ, List, [], Option, None, Some, Bool, true, not, is_some, nat_lt, nat_le, length, drop}
use Rattle.std.specs.List.{find}
use Rattle.std.specs.Str.{bytes_eq}
use Rattle.brace_io.specs.Counts.{next_count, listed}
use Rattle.brace_io.specs.Shelves.{Files, Stage, Idle, Reading, Writing, Stopped}

-- a prepared name, its bytes where it is held, and its room in bytes
pub record Entry : Type 0 where
  pub name : List ℕ
  pub file : Option (List ℕ)
  pub room : ℕ

-- the prepared names, the numbers of the calls that fail, the numbers of calls and of failures so
-- far, and where the shelf stands
pub record Shelved : Type 0 where
  pub entries : List Entry
  pub fails : List ℕ
  pub calls : ℕ
  pub faults : ℕ
  pub stage : Stage

-- the entry has the name
abbrev pub named : List ℕ → Entry → Bool
named name entry = bytes_eq entry.name name

-- the entry of a name
abbrev pub entry_of : List Entry → List ℕ → Option Entry
entry_of entries name = find (named name) entries

-- the bytes of an entry that may be there
abbrev pub file_in : Option Entry → Option (List ℕ)
file_in None = None
file_in (Some entry) = entry.file

-- what the entries hold
abbrev pub files_of : List Entry → Files
files_of entries name = file_in (entry_of entries name)

-- the bytes, or none
abbrev pub bytes_in : Option (List ℕ) → List ℕ
bytes_in None = []
bytes_in (Some bytes) = bytes

-- no room is left
abbrev pub spent : Entry → Bool
spent entry = nat_le entry.room (length (bytes_in entry.file))

-- the number of this call is listed
abbrev pub call_fails : Shelved → Bool
call_fails shelf = listed shelf.fails (next_count shelf.calls)

-- a shelf after a call that failed and left this stage
abbrev pub failed : Stage → Shelved → Shelved
failed stage shelf = record shelf {
  calls = next_count shelf.calls;
  faults = next_count shelf.faults;
  stage = stage;
}

-- the number of this call is listed, or the name was not prepared
abbrev pub create_fails : Shelved → List ℕ → Bool
create_fails shelf name = call_fails shelf || not (is_some (entry_of shelf.entries name))

-- the entry of the name that is written
abbrev pub entry_written : List Entry → Stage → Option Entry
entry_written entries Idle = None
entry_written entries (Reading at) = None
entry_written entries (Writing None) = None
entry_written entries (Writing (Some name)) = entry_of entries name
entry_written entries (Stopped name) = None

-- no room is left at an entry that may be there
abbrev pub spent_at : Option Entry → Bool
spent_at None = true
spent_at (Some entry) = spent entry

-- the bytes for which an entry that may be there has room left
abbrev pub room_left : Option Entry → ℕ
room_left None = 0
room_left (Some entry) = entry.room - length (bytes_in entry.file)

-- the number of this call is listed, or the piece is not empty and the room of the name that is
-- written is spent
abbrev pub append_fails : Shelved → List ℕ → Bool
append_fails shelf piece =
    call_fails shelf || (nat_lt 0 (length piece) &&
    spent_at (entry_written shelf.entries shelf.stage))

-- the entry, with these bytes alone
abbrev pub with_bytes : List ℕ → Option Entry → Option Entry
with_bytes bytes None = None
with_bytes bytes (Some entry) = Some (record entry { file = Some bytes })

-- the entry, with the piece behind the bytes that it had
abbrev pub with_more : List ℕ → Option Entry → Option Entry
with_more piece None = None
with_more piece (Some entry) = Some (record entry { file = Some (bytes_in entry.file ++ piece) })

-- the bytes of the file that is read, from its place on
abbrev pub unread : List Entry → Stage → List ℕ
unread entries Idle = []
unread entries (Reading None) = []
unread entries (Reading (Some at)) = drop at.1 (bytes_in (files_of entries at.0))
unread entries (Writing name) = []
unread entries (Stopped name) = []

-- where the shelf stands once it read n bytes more
abbrev pub moved_on : ℕ → Stage → Stage
moved_on n Idle = Idle
moved_on n (Reading None) = Reading None
moved_on n (Reading (Some at)) = Reading (Some (at.0, at.1 + n))
moved_on n (Writing name) = Writing name
moved_on n (Stopped name) = Stopped name

-- stopped at the name that was read or written
abbrev pub stopped_at : Stage → Stage
stopped_at Idle = Idle
stopped_at (Reading None) = Stopped None
stopped_at (Reading (Some at)) = Stopped (Some at.0)
stopped_at (Writing name) = Stopped name
stopped_at (Stopped name) = Stopped name

-- no other name than this changed its entry
abbrev pub OthersAlone : List Entry → List Entry → List ℕ → Type 0
OthersAlone before after name =
    (other : List ℕ) → other ≢ name → entry_of after other ≡ entry_of before other
