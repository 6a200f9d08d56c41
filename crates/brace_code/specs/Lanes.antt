-- Lanes: many scopes at once, whose words stand in columns.
use Rattle.std.specs.Prelude.{◌≡◌, ◌==◌, ◌<◌, ℕ, ℤ, pos, if◌then◌else◌, List, [], ◌∷◌, length, map, replicate, Option, Some, None, Ok, option_copied, slice_get, slice_index_or}
use Rattle.brace_draw.specs.Draw.{draw_value}
use Rattle.brace_model.specs.declared.program.Who.TheVariants.{This, Outer, Inner}
use Rattle.brace_model.specs.World.{number, value_at}
use Rattle.brace_model.specs.Value.{Scope, agent_of, typed}
use Rattle.brace_code.specs.declared.code.Operand.{Operand}
use Rattle.brace_code.specs.declared.code.Operand.TheVariants.{Word, Field, Total, Local, Rand}
use Rattle.brace_code.specs.declared.code.Code.{Code}
use Rattle.brace_code.specs.declared.lane.Lane.{Lane}
use Rattle.brace_code.specs.declared.lane.Row.{Row}
use Rattle.brace_code.specs.declared.lane.Row.TheVariants as row
use Rattle.brace_code.specs.declared.lane.Frame.{Frame}
use Rattle.brace_code.specs.declared.lane.Draws.{Draws}
use Rattle.brace_code.specs.declared.view.View.{View}
use Rattle.brace_code.specs.declared.view.View.TheVariants.{Same, Each, At}
use Rattle.brace_code.specs.Codes.{type_given, gives}

-- the number of a lane's row
abbrev pub row_at : Row → Lane → ℕ
row_at row.This lane = lane.this
row_at row.Outer lane = lane.outer
row_at row.Inner lane = lane.inner
row_at row.Place lane = lane.place

-- the words of a column at a row of each lane
unfoldable pub words_at : List ℤ → Row → List Lane → List ℤ
words_at column row lanes = map (λ lane. slice_index_or column (row_at row lane) (pos 0)) lanes

-- the words that so many lanes read
abbrev pub words_of : ℕ → View → List ℤ
words_of n (Same word) = replicate n word
words_of n (Each words) = words.now
words_of n (At column rows) = map (λ row. slice_index_or column.now row (pos 0)) rows.now

-- the draws of a site
abbrev pub draws_at : List Draws → ℕ → Option (List ℤ)
draws_at [] site = None
draws_at (d ∷ rest) site = if d.site == site then Some d.words.now else draws_at rest site

-- the column that an operand is read from
abbrev pub column_of : Frame → Operand → Option (List ℤ)
column_of frame (Word n) = None
column_of frame (Field This i) = option_copied (slice_get frame.this.now i)
column_of frame (Field Outer i) = option_copied (slice_get frame.outer.now i)
column_of frame (Field Inner i) = option_copied (slice_get frame.inner.now i)
column_of frame (Total effect type site) = option_copied (slice_get frame.totals.now effect)
column_of frame (Local n) = option_copied (slice_get frame.locals.now n)
column_of frame (Rand site) = draws_at frame.draws.now site

-- the row at which a lane reads an operand
abbrev pub row_of : Operand → Lane → ℕ
row_of (Word n) lane = lane.place
row_of (Field This i) lane = lane.this
row_of (Field Outer i) lane = lane.outer
row_of (Field Inner i) lane = lane.inner
row_of (Total effect type site) lane = lane.this
row_of (Local n) lane = lane.place
row_of (Rand site) lane = lane.this

-- the whole number that a scope has for an operand
abbrev pub number_in : Scope → Operand → ℤ
number_in scope (Word n) = n
number_in scope (Field who i) = number (value_at (agent_of scope who).states i)
number_in scope (Total effect type site) = slice_index_or scope.totals effect (pos 0)
number_in scope (Local n) = number (value_at scope.locals n)
number_in scope (Rand site) = pos (draw_value scope.seed scope.tick scope.this.id site)

-- the columns have at each lane's rows what the lane's scope has
pub record Shows (frame : Frame) (scope : Lane → Scope) : Type 0 where
  pub each : (operand : Operand) (column : List ℤ) (lane : Lane)
      → column_of frame operand ≡ Some column → row_of operand lane < length column
      → slice_index_or column (row_of operand lane) (pos 0) ≡ number_in (scope lane) operand

-- in each lane's scope code gives a value, and a column has its word
pub record Gives (code : Code) (frame : Frame) (lanes : List Lane) (words : List ℤ) : Type 0 where
  pub long : length words ≡ length lanes
  pub each : (scope : Lane → Scope) → Shows frame scope → (k : ℕ) (d : Lane) → k < length lanes
      → gives code (scope (slice_index_or lanes k d))
      ≡ Ok (typed (type_given code) (slice_index_or words k (pos 0)))
