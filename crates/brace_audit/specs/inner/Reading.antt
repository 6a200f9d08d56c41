-- What a comparer knows of a file that it has read a part of.
use Rattle.std.specs.Prelude.{◌≡◌, ◌≤◌, ◌<◌, ℕ, ◌+◌, ◌-◌, ◌==◌, List, ◌++◌, Option, Some, take, drop, length, count_by}
use Rattle.brace_io.specs.Shelves.{Files, Stage, held_at, ReadsFrom}
use Rattle.brace_audit.specs.declared.comparer.Comparer.{Comparer}
use Rattle.brace_audit.specs.Differs.{differs}

-- how many line feeds a text has
abbrev pub line_feeds : List ℕ → ℕ
line_feeds text = count_by (λ b. b == 10) text

-- how many bytes were read and not yet compared
abbrev pub ahead : Comparer → ℕ
ahead c = c.filled - c.place

-- the bytes that were read and not yet compared
abbrev pub unread : Comparer → List ℕ
unread c = take (ahead c) (drop c.place c.chunk.items)

-- the file begins with the text, and what was read behind that is what is not yet compared
pub record Compares (held : Option Files) (stage : Stage) (name text : List ℕ) (c : Comparer)
    : Type 0
  where
    pub in_chunk : c.place ≤ c.filled
    pub in_room : c.filled ≤ length c.chunk.items
    pub room : 0 < length c.chunk.items
    pub line : c.line ≡ 1 + line_feeds text
    pub reads : ReadsFrom held stage name (length text + ahead c)
    pub begins : (file : List ℕ) → held_at held name ≡ Some file
        → file ≡ text ++ (unread c ++ drop (length text + ahead c) file)

-- the file begins with some text
abbrev pub Comparing : Option Files → Stage → List ℕ → Comparer → Type 0
Comparing held stage name c = (text : List ℕ) × Compares held stage name text c

-- the text goes on in the file by the piece
abbrev pub GoesOn : Option Files → Stage → Comparer → Option Files → Stage → Comparer → List ℕ
    → List ℕ → Type 0
GoesOn held stage c held_then stage_then c_then name piece =
    (text : List ℕ) → Compares held stage name text c
    → Compares held_then stage_then name (text ++ piece) c_then

-- the file differs first in that line from the text that goes on by the piece, whatever follows
abbrev pub Departs : Option Files → Stage → Comparer → List ℕ → List ℕ → ℕ → Type 0
Departs held stage c name piece line =
    (text file more : List ℕ) → Compares held stage name text c → held_at held name ≡ Some file
    → differs file (text ++ (piece ++ more)) ≡ Some line

-- the file is the text alone
abbrev pub Stops : Option Files → Stage → Comparer → List ℕ → Type 0
Stops held stage c name =
    (text file : List ℕ) → Compares held stage name text c → held_at held name ≡ Some file
    → file ≡ text

-- the file has more than the text, and differs from it first in that line
abbrev pub GoesFurther : Option Files → Stage → Comparer → List ℕ → ℕ → Type 0
GoesFurther held stage c name line =
    (text file : List ℕ) → Compares held stage name text c → held_at held name ≡ Some file
    → differs file text ≡ Some line
