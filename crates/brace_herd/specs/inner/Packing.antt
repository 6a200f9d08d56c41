-- Agents of columns, as they are packed. Only the crate's own functions cite this.
use Rattle.std.specs.Prelude.{ℕ, ℤ, pos, List, [], map, slice_index_or}
use Rattle.std.specs.List.{range_with_len}
use Rattle.brace_model.specs.declared.program.Program.{Program}
use Rattle.brace_model.specs.declared.program.Ty.{Ty}
use Rattle.brace_model.specs.declared.world.Agent.{Agent}
use Rattle.brace_fold.specs.declared.order.Moved.{Moved}
use Rattle.brace_fold.specs.Listed.{agent_of}

-- the types of the states of each class
abbrev pub types_in : Program → List (List Ty)
types_in program = map (λ c. map (λ s. s.ty) c.states) program.classes

-- what a state's column has in a row
abbrev pub word_at : List (List ℤ) → ℕ → ℕ → ℤ
word_at states row i = slice_index_or (slice_index_or states i []) row (pos 0)

-- what the first columns, so many, have in a row
abbrev pub words_at : List (List ℤ) → ℕ → ℕ → List ℤ
words_at states row count = map (word_at states row) (range_with_len 0 count)

-- the agent of a row
abbrev pub agent_at : Program → Moved → ℕ → Agent
agent_at program rows =
    agent_of program rows.classes.items rows.ids.items rows.states.items
