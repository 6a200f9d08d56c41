-- An agent file: records of a class name, an id and a value for each state of the class, in any
-- order of ids; its world, or its first faulty record with that record's first fault.
-- Records are counted from 1, the fields of a record from 0.
use Rattle.std.specs.Prelude.{ℕ, ◌+◌, ◌-◌, ◌==◌, nat_eq, nat_lt, nat_le, Bool, true, false, ◌||◌, if◌then◌else◌, List, [], ◌∷◌, ◌++◌, length, map, filter_map, zip, take, drop, codes, slice_get, slice_index_or, position, Option, Some, None, is_none, option_map, unwrap_or, Result, Ok, Err}
use Rattle.std.specs.List.{list_any, range_with_len}
use Rattle.std.specs.Result.{result_ok}
use Rattle.std.specs.Str.{bytes_eq}
use Rattle.csv.specs.Reading.{records, default_config, strip_bom}
use Rattle.brace_num.specs.Orders.{by_key}
use Rattle.brace_num.specs.Spelling.{count_of, int_of, fixed_of}
use Rattle.brace_model.specs.declared.program.Ty.{Ty}
use Rattle.brace_model.specs.declared.program.Ty.TheVariants as ty
use Rattle.brace_model.specs.declared.program.Value.{Value}
use Rattle.brace_model.specs.declared.program.Value.TheVariants.{Int, Fixed, Flag}
use Rattle.brace_model.specs.declared.program.State.{State}
use Rattle.brace_model.specs.declared.program.Program.{Program}
use Rattle.brace_model.specs.declared.world.Agent.{Agent}
use Rattle.brace_model.specs.World.{ids}
use Rattle.brace_model.specs.Step.{most_agents, most_values, greatest_id, count_values}
use Rattle.brace_rows.specs.declared.kinds.RowKind.{RowKind}
use Rattle.brace_rows.specs.declared.kinds.RowKind.TheVariants.{UnknownClass, WrongLength, BadValue, DuplicateId, TooMany}

-- a record: the bytes of each of its fields
abbrev pub Fields : Type 0
Fields = List (List ℕ)

-- the records of a file, as csv defines them with no header line; a byte order mark at the start
-- belongs to none
abbrev pub records_of : List ℕ → List Fields
records_of bytes = records default_config (strip_bom bytes)

-- the flag that a text spells, if any
abbrev pub flag_of : List ℕ → Option Bool
flag_of text =
    if bytes_eq text (codes "true") then Some true
    else if bytes_eq text (codes "false") then Some false else None

-- the value of a type that a text spells, if any
abbrev pub value_of : Ty → List ℕ → Option Value
value_of ty.Int text = option_map Int (int_of text)
value_of ty.Fixed text = option_map Fixed (fixed_of text)
value_of ty.Bool text = option_map Flag (flag_of text)

-- the id that a count is, if it is one
abbrev pub id_in_range : Option ℕ → Option ℕ
id_in_range None = None
id_in_range (Some n) = if nat_le n greatest_id then Some n else None

-- the id that a text spells, if any
abbrev pub id_of : List ℕ → Option ℕ
id_of text = id_in_range (count_of text)

-- the number of the class of a name, if there is one
abbrev pub class_named : Program → List ℕ → Option ℕ
class_named program name = position (λ c. bytes_eq c.name name) program.classes

-- the states of the class of a number
abbrev pub states_in : Program → ℕ → List State
states_in program class =
    unwrap_or (option_map (λ c. c.states) (slice_get program.classes class)) []

-- the field at a place
abbrev pub field : ℕ → Fields → List ℕ
field i fields = slice_index_or fields i []

-- what each state of a class gets from a record, if its field spells a value of its type
abbrev pub values_in : List State → Fields → List (Option Value)
values_in states fields = map (λ p. value_of p.0.ty p.1) (zip states (drop 2 fields))

-- the values, where none is missing, or the field of one that is
abbrev pub without_gap : List (Option Value) → Option ℕ → Result (List Value) ℕ
without_gap values None = Ok (filter_map (λ v. v) values)
without_gap values (Some i) = Err (i + 2)

-- all of the values, or the first bad field; the values stand behind a name and an id
abbrev pub complete : List (Option Value) → Result (List Value) ℕ
complete values = without_gap values (position is_none values)

-- an agent of a class, where its id and all of its values are there; else the first bad field
abbrev pub agent_with : ℕ → Option ℕ → Result (List Value) ℕ → Result Agent RowKind
agent_with class None values = Err (BadValue 1)
agent_with class (Some id) (Err column) = Err (BadValue column)
agent_with class (Some id) (Ok values) =
    Ok (record { class = class; id = id; states = values })

-- the agent of a record with as many fields as its class asks for
abbrev pub agent_of_class : ℕ → List State → Fields → Result Agent RowKind
agent_of_class class states fields =
    if length fields == length states + 2
    then agent_with class (id_of (field 1 fields)) (complete (values_in states fields))
    else Err WrongLength

-- the agent of a record whose class is there
abbrev pub agent_in : Program → Fields → Option ℕ → Result Agent RowKind
agent_in program fields None = Err UnknownClass
agent_in program fields (Some class) = agent_of_class class (states_in program class) fields

-- the agent of a record by itself, or the first of the faults that no other record has part in
abbrev pub agent_of : Program → Fields → Result Agent RowKind
agent_of program fields = agent_in program fields (class_named program (field 0 fields))

-- the agents of some records
abbrev pub agents_in : Program → List Fields → List Agent
agents_in program rows = filter_map (λ fields. result_ok (agent_of program fields)) rows

-- these are more agents, or more values, than a world may have
abbrev pub are_too_many : List Agent → Bool
are_too_many agents =
    nat_lt most_agents (length agents) || nat_lt most_values (count_values agents)

-- the first fault of a record behind these agents, if it has one
abbrev pub fault_behind : List Agent → Result Agent RowKind → Option RowKind
fault_behind earlier (Err kind) = Some kind
fault_behind earlier (Ok a) =
    if list_any (nat_eq a.id) (ids earlier) then Some DuplicateId
    else if are_too_many (earlier ++ a ∷ []) then Some TooMany else None

-- the first fault of record number n, behind the agents of the records before it
abbrev pub fault_at : Program → List Fields → ℕ → Option RowKind
fault_at program rows n =
    fault_behind (agents_in program (take (n - 1) rows))
    (agent_of program (slice_index_or rows (n - 1) []))

-- the faults that records have, each with the number of its record
abbrev pub faults_in : Program → List Fields → List (ℕ × RowKind)
faults_in program rows =
    filter_map (λ n. option_map (λ kind. (n, kind)) (fault_at program rows n))
    (range_with_len 1 (length rows))

-- the number of the first faulty record, and its first fault
abbrev pub first_fault : Program → List Fields → Option (ℕ × RowKind)
first_fault program rows = slice_get (faults_in program rows) 0

-- agents, put by rising id
abbrev pub by_id : List Agent → List Agent
by_id agents = by_key (λ a. a.id) agents
