-- A sink in memory, and when its calls fail.
use Rattle.std.specs.Prelude.{ℕ, List, Bool, ◌&&◌, ◌||◌, nat_lt, nat_le, length}
use Rattle.brace_io.specs.Counts.{next_count, listed}

-- what was written, the room in bytes, the numbers of the calls that fail, the numbers of calls and
-- of failures so far, and whether nothing was written since the last flush
pub record Kept : Type 0 where
  pub written : List ℕ
  pub room : ℕ
  pub fails : List ℕ
  pub calls : ℕ
  pub faults : ℕ
  pub clean : Bool

-- the number of the call is listed, or the piece is not empty and the room is spent
abbrev pub write_fails : Kept → List ℕ → Bool
write_fails sink piece =
    listed sink.fails (next_count sink.calls) ||
    (nat_lt 0 (length piece) && nat_le sink.room (length sink.written))

-- the number of the call is listed
abbrev pub flush_fails : Kept → Bool
flush_fails sink = listed sink.fails (next_count sink.calls)
