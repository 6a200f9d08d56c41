-- What a watch file asks for in the runs of a program: its watches, or its first faulty line with
-- that line's first fault. Lines are counted from 1.
use Rattle.std.specs.Prelude.{◌≡◌, ℕ, ◌-◌, nat_lt, Bool, true, false, not, ◌&&◌, ◌||◌, if◌then◌else◌, List, [], length, filter_map, slice_get, slice_index_or, position, Option, Some, None, is_some, is_none, option_map, unwrap_or, Result, Ok, Err}
use Rattle.std.specs.List.{range_with_len}
use Rattle.std.specs.Option.{option_and_then}
use Rattle.std.specs.Result.{result_ok}
use Rattle.std.specs.Str.{bytes_eq}
use Rattle.brace_model.specs.declared.program.Ty.{Ty}
use Rattle.brace_model.specs.declared.program.Ty.TheVariants as ty
use Rattle.brace_model.specs.declared.program.BinOp.{BinOp}
use Rattle.brace_model.specs.declared.program.BinOp.TheVariants as bin
use Rattle.brace_model.specs.declared.program.Value.{Value}
use Rattle.brace_model.specs.declared.program.State.{State}
use Rattle.brace_model.specs.declared.program.Program.{Program}
use Rattle.brace_model.specs.Typing.{is_number}
use Rattle.brace_rows.specs.AgentFile.{class_named, states_in, value_of}
use Rattle.brace_watch.specs.declared.kinds.Watch.{Watch}
use Rattle.brace_watch.specs.declared.kinds.WatchKind.{WatchKind}
use Rattle.brace_watch.specs.declared.kinds.WatchKind.TheVariants.{BadLine, UnknownClass, UnknownField, WrongType, TooMany}
use Rattle.brace_watch.specs.Lines.{Test, Line, texts_of, line_of}

-- the place of the state of a name, where a name is given and a state has it
abbrev pub place_of : List State → Option (List ℕ) → Option ℕ
place_of states name = option_and_then (λ n. position (λ s. bytes_eq s.name n) states) name

-- a name is given that no state has
abbrev pub is_unknown : List State → Option (List ℕ) → Bool
is_unknown states name = is_some name && is_none (place_of states name)

-- the state of a name that stands in a condition
abbrev pub tested : Option Test → Option (List ℕ)
tested test = option_map (λ t. t.field) test

-- the type of the state at a place
abbrev pub type_at : List State → ℕ → Ty
type_at states i = unwrap_or (option_map (λ s. s.ty) (slice_get states i)) ty.Bool

-- flags would be joined to a sum, a least or a greatest value
abbrev pub joins_flags : List State → Option ℕ → Bool
joins_flags states None = false
joins_flags states (Some i) = not (is_number (type_at states i))

-- values of a type may be compared so: all for equality, and numbers by order
abbrev pub is_ordered : BinOp → Ty → Bool
is_ordered bin.Eq t = true
is_ordered _ t = is_number t

-- a condition on the state at a place, where it compares the state with a value of its type
abbrev pub condition_at : List State → Test → ℕ → Option (ℕ × BinOp × Value)
condition_at states t i =
    if is_ordered t.op (type_at states i)
    then option_map (λ v. (i, t.op, v)) (value_of (type_at states i) t.value) else None

-- the condition that is written, where there is one and its state has a place
abbrev pub condition_of : List State → Option Test → Option ℕ → Option (ℕ × BinOp × Value)
condition_of states (Some t) (Some i) = condition_at states t i
condition_of states _ _ = None

-- the watch of a line whose class is known, with that class's states
abbrev pub watch_of_class : ℕ → List State → Line → Result Watch WatchKind
watch_of_class class states line =
    let field = place_of states line.field in
    let condition = condition_of states line.test (place_of states (tested line.test)) in
    if is_unknown states line.field || is_unknown states (tested line.test) then Err UnknownField
    else if joins_flags states field || (is_some line.test && is_none condition)
    then Err WrongType
    else Ok (record { kind = line.kind; class = class; field = field; test = condition })

-- the watch of a line whose class has a number, if there is such a class
abbrev pub watch_in : Program → Line → Option ℕ → Result Watch WatchKind
watch_in program line None = Err UnknownClass
watch_in program line (Some class) = watch_of_class class (states_in program class) line

-- the watch of a text that may have the form of a line
abbrev pub watch_with : Program → Option Line → Result Watch WatchKind
watch_with program None = Err BadLine
watch_with program (Some line) = watch_in program line (class_named program line.class)

-- the watch of a line by itself, or the first of the faults that no other line has part in
abbrev pub watch_of : Program → List ℕ → Result Watch WatchKind
watch_of program text = watch_with program (line_of text)

-- the watches of some lines
abbrev pub watches_in : Program → List (List ℕ) → List Watch
watches_in program texts = filter_map (λ text. result_ok (watch_of program text)) texts

-- the first fault of line number n, if it has one
abbrev pub fault_of : ℕ → Result Watch WatchKind → Option WatchKind
fault_of n (Err kind) = Some kind
fault_of n (Ok watch) = if nat_lt 64 n then Some TooMany else None

abbrev pub fault_at : Program → List (List ℕ) → ℕ → Option WatchKind
fault_at program texts n = fault_of n (watch_of program (slice_index_or texts (n - 1) []))

-- the faults that lines have, each with the number of its line
abbrev pub faults_in : Program → List (List ℕ) → List (ℕ × WatchKind)
faults_in program texts =
    filter_map (λ n. option_map (λ kind. (n, kind)) (fault_at program texts n))
    (range_with_len 1 (length texts))

-- the number of the first faulty line, and its first fault
abbrev pub first_fault : Program → List (List ℕ) → Option (ℕ × WatchKind)
first_fault program texts = slice_get (faults_in program texts) 0

-- a watch that some line asks for
pub record IsWatch (program : Program) (watch : Watch) : Type 0 where
  pub line : List ℕ
  pub asks : watch_of program line ≡ Ok watch

-- the watches that some file asks for
pub record AreWatches (program : Program) (watches : List Watch) : Type 0 where
  pub bytes : List ℕ
  pub faultless : first_fault program (texts_of bytes) ≡ None
  pub asks : watches ≡ watches_in program (texts_of bytes)
