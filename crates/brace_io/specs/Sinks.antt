-- What was written to a sink, where it tells that.
use Rattle.std.specs.Prelude.{◌≡◌, ◌≤◌, ℕ, List, ◌++◌, Option, Some, None, length, take}

-- all that was written, with a piece behind it
abbrev pub with_piece : Option (List ℕ) → List ℕ → Option (List ℕ)
with_piece None piece = None
with_piece (Some bytes) piece = Some (bytes ++ piece)

-- the piece was written
abbrev pub Gains : Option (List ℕ) → Option (List ℕ) → List ℕ → Type 0
Gains before after piece = after ≡ with_piece before piece

-- some front of the piece was written
abbrev pub GainsFront : Option (List ℕ) → Option (List ℕ) → List ℕ → Type 0
GainsFront before after piece = (n : ℕ) × ((n ≤ length piece) × Gains before after (take n piece))
