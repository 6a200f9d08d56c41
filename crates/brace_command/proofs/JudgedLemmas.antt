-- A script with its program comes to what the program alone comes to.
use Rattle.std.proofs.Common.{List, ℕ, Ok, Err}
use Rattle.brace_io.specs.Shelves.{Files}
use Rattle.brace_command.specs.Outcome.{Refusal, Judged, JudgedOf, ProgramOf, unloaded, refused_at, stands_for}

-- the program of a script that is refused is refused
pub program_refused : (files : Files) (name : List ℕ) (r : Refusal) → JudgedOf files name (Err r) → ProgramOf files name (Err r)
program_refused files name _ (unloaded r e) = unloaded r e
program_refused files name _ (refused_at src kind at_ e n) = refused_at src kind at_ e n

-- the program of a script that is accepted
pub program_loaded : (files : Files) (name : List ℕ) (judged : Judged) → JudgedOf files name (Ok judged) → ProgramOf files name (Ok judged.program)
program_loaded files name _ (stands_for src a e m) = stands_for src a.program e m.means
