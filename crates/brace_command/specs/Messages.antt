-- The messages on standard error: one, with a line feed at its end, for each status but 0.
use Rattle.std.specs.Prelude.{ℕ, List, [], ◌∷◌, ◌++◌, codes, Option, Some, None}
use Rattle.brace_num.specs.declared.kinds.Kind.{Kind}
use Rattle.brace_num.specs.declared.kinds.Kind.TheVariants.{Overflow, DivZero, NegRoot, TooMany}
use Rattle.brace_num.specs.Spelling.{canonical_count}
use Rattle.brace_command.specs.declared.script_fault.ScriptKind.{ScriptKind}
use Rattle.brace_command.specs.declared.script_fault.ScriptKind.TheVariants as kind
use Rattle.brace_names.specs.declared.fault.Which.{Which}
use Rattle.brace_cuts.specs.declared.kinds.PlanKind.{PlanKind}
use Rattle.brace_cuts.specs.declared.kinds.PlanKind.TheVariants as plan
use Rattle.brace_rows.specs.declared.kinds.RowKind.{RowKind}
use Rattle.brace_rows.specs.declared.kinds.RowKind.TheVariants as row
use Rattle.brace_names.specs.declared.fault.Which.TheVariants as which
use Rattle.brace_watch.specs.declared.kinds.WatchKind.{WatchKind}
use Rattle.brace_watch.specs.declared.kinds.WatchKind.TheVariants as watch
use Rattle.brace_save.specs.declared.kinds.PointFault.{PointFault}
use Rattle.brace_save.specs.declared.kinds.PointFault.TheVariants as point
use Rattle.brace_model.specs.declared.fault.Fault.{Fault}
use Rattle.brace_model.specs.declared.fault.Phase.{Phase}
use Rattle.brace_model.specs.declared.fault.Phase.TheVariants.{Query, Update, Birth}

-- the message that begins with a file's name
abbrev pub named_message : List ℕ → List ℕ → List ℕ
named_message name rest = codes "brace: " ++ (name ++ (rest ++ 10 ∷ []))

-- what there is too much of, behind the word `TooMany`
abbrev pub which_word : Which → List ℕ
which_word which.Classes = codes "classes"
which_word which.Fields = codes "fields"
which_word which.Sites = codes "sites"
which_word which.Assignments = codes "assignments"

-- the word of a script's refusal; `TooMany` says of what
abbrev pub script_word : ScriptKind → List ℕ
script_word kind.BadByte = codes "BadByte"
script_word kind.OpenComment = codes "OpenComment"
script_word kind.WideLiteral = codes "WideLiteral"
script_word kind.LongWord = codes "LongWord"
script_word kind.TooDeep = codes "TooDeep"
script_word kind.NoReading = codes "NoReading"
script_word kind.DuplicateClass = codes "DuplicateClass"
script_word kind.DuplicateName = codes "DuplicateName"
script_word kind.UnknownClass = codes "UnknownClass"
script_word kind.UnknownName = codes "UnknownName"
script_word kind.UnknownType = codes "UnknownType"
script_word kind.NoPosition = codes "NoPosition"
script_word (kind.TooMany of) = codes "TooMany " ++ which_word of
script_word kind.OtherAgentInUpdate = codes "OtherAgentInUpdate"
script_word kind.ReadsEffectInQuery = codes "ReadsEffectInQuery"
script_word kind.AssignsState = codes "AssignsState"
script_word kind.AssignsEffect = codes "AssignsEffect"
script_word kind.PrivateOfOtherClass = codes "PrivateOfOtherClass"
script_word kind.NestedTooDeep = codes "NestedTooDeep"
script_word kind.BadRange = codes "BadRange"
script_word kind.WrongCombinator = codes "WrongCombinator"
script_word kind.WrongType = codes "WrongType"

-- the message that names a place in a file, and what is found there:
-- `brace: NAME:LINE:COLUMN: KIND`
abbrev pub placed_message : List ℕ → ℕ → ℕ → List ℕ → List ℕ
placed_message name line column kind =
    named_message name
    (codes ":" ++ (canonical_count line
    ++ (codes ":" ++ (canonical_count column ++ (codes ": " ++ kind)))))

-- the word of a record's refusal; `BadValue` says in which field, counted from 0
abbrev pub row_word : RowKind → List ℕ
row_word row.UnknownClass = codes "UnknownClass"
row_word row.WrongLength = codes "WrongLength"
row_word (row.BadValue field) = codes "BadValue " ++ canonical_count field
row_word row.DuplicateId = codes "DuplicateId"
row_word row.TooMany = codes "TooMany"

-- the message that names a record of a file, counted from 1: `brace: NAME: record N: KIND`
abbrev pub record_message : List ℕ → ℕ → RowKind → List ℕ
record_message name number kind =
    named_message name
    (codes ": record " ++ (canonical_count number ++ (codes ": " ++ row_word kind)))

-- the word of a plan line's refusal
abbrev pub plan_word : PlanKind → List ℕ
plan_word plan.BadLine = codes "BadLine"
plan_word plan.NotRising = codes "NotRising"
plan_word plan.OffEpoch = codes "OffEpoch"
plan_word plan.OtherCount = codes "OtherCount"
plan_word plan.TooMany = codes "TooMany"

-- the word of a watch line's refusal
abbrev pub watch_word : WatchKind → List ℕ
watch_word watch.BadLine = codes "BadLine"
watch_word watch.UnknownClass = codes "UnknownClass"
watch_word watch.UnknownField = codes "UnknownField"
watch_word watch.WrongType = codes "WrongType"
watch_word watch.TooMany = codes "TooMany"

-- the message that names a line of a cut plan or of a watch file, counted from 1:
-- `brace: NAME: line N: KIND`
abbrev pub line_message : List ℕ → ℕ → List ℕ → List ℕ
line_message name number kind =
    named_message name (codes ": line " ++ (canonical_count number ++ (codes ": " ++ kind)))

-- the word of a checkpoint's refusal; `BadLine` says which line, counted from 1; want of memory
-- refuses none
abbrev pub point_word : PointFault → List ℕ
point_word point.Incomplete = codes "Incomplete"
point_word (point.BadLine number) = codes "BadLine " ++ canonical_count number
point_word point.OtherClasses = codes "OtherClasses"
point_word point.BadVersion = codes "BadVersion"
point_word point.NoMemory = []

-- the message that says why a file is no checkpoint: `brace: NAME: KIND`
abbrev pub point_message : List ℕ → PointFault → List ℕ
point_message name fault = named_message name (codes ": " ++ point_word fault)

-- the message that names the first row of a published file that differs, counted from 1:
-- `brace: NAME: row N: Differs`
abbrev pub row_message : List ℕ → ℕ → List ℕ
row_message name number =
    named_message name (codes ": row " ++ (canonical_count number ++ codes ": Differs"))

-- the message where a file was not saved
abbrev pub save_fault_message : List ℕ → List ℕ
save_fault_message name = named_message name (codes ": save fault")

-- the counts of a run: `stats border B effects E moved M handed H`
abbrev pub stats_message : ℕ → ℕ → ℕ → ℕ → List ℕ
stats_message border effects moved handed =
    codes "stats border " ++ (canonical_count border
    ++ (codes " effects " ++ (canonical_count effects
    ++ (codes " moved " ++ (canonical_count moved
    ++ (codes " handed " ++ (canonical_count handed ++ 10 ∷ [])))))))

-- the message where the words are no command
abbrev pub usage_message : List ℕ
usage_message = codes "brace: usage\n"

-- the message where a write of the text failed
abbrev pub write_fault_message : List ℕ
write_fault_message = codes "brace: write fault\n"

-- the message where memory was refused
abbrev pub no_memory_message : List ℕ
no_memory_message = codes "brace: no memory\n"

-- the word of a fault's phase, before the agent
abbrev pub phase_word : Phase → List ℕ
phase_word Query = codes " query agent "
phase_word Update = codes " update agent "
phase_word Birth = codes " birth agent "

-- the word of a fault's kind, with the message's line feed
abbrev pub kind_word : Kind → List ℕ
kind_word Overflow = codes "Overflow\n"
kind_word DivZero = codes "DivZero\n"
kind_word NegRoot = codes "NegRoot\n"
kind_word TooMany = codes "TooMany\n"

-- a loop's agent behind a word, where there is one
abbrev pub loop_text : List ℕ → Option ℕ → List ℕ
loop_text word None = []
loop_text word (Some id) = word ++ canonical_count id

-- the phase, the agent and the loops' agents of a fault
abbrev pub agents_text : Fault → List ℕ
agents_text f =
    phase_word f.phase ++ (canonical_count f.agent
    ++ (loop_text (codes " with ") f.outer ++ loop_text (codes " and ") f.inner))

-- the site and the kind of a fault
abbrev pub site_text : Fault → List ℕ
site_text f = codes " site " ++ (canonical_count f.site ++ (codes ": " ++ kind_word f.kind))

-- the message of a fault of the run: `brace: tick T PHASE agent A site S: KIND`, with the loops'
-- agents behind A
abbrev pub fault_message : Fault → List ℕ
fault_message f = codes "brace: tick " ++ (canonical_count f.tick ++ (agents_text f ++ site_text f))
