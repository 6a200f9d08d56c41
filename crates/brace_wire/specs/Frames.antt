-- The bytes of a frame: its length, then from whom to whom it goes, its ordinal in its lane, and
-- its piece. Numbers have their highest byte first, signed ones as two's complement; a list has its
-- count before its items, and what comes in several forms has the number of its form before it.
use Rattle.std.specs.Prelude.{ℕ, ℤ, ◌^◌, ◌/◌, ◌%◌, Bool, if◌then◌else◌, List, [], ◌∷◌, ◌++◌, length, flat_map, Option, Some, None}
use Rattle.std.specs.Int.{w32, w64, w128, to_be_bytes, cast_unsigned}
use Rattle.brace_num.specs.declared.kinds.Kind.{Kind}
use Rattle.brace_num.specs.declared.kinds.Kind.TheVariants.{Overflow, DivZero, NegRoot, TooMany}
use Rattle.brace_model.specs.declared.program.Value.{Value}
use Rattle.brace_model.specs.declared.program.Value.TheVariants.{Int, Fixed, Flag}
use Rattle.brace_model.specs.declared.fault.Fault.{Fault}
use Rattle.brace_model.specs.declared.fault.Phase.{Phase}
use Rattle.brace_model.specs.declared.fault.Phase.TheVariants.{Query, Update, Birth}
use Rattle.brace_model.specs.declared.world.Agent.{Agent}
use Rattle.brace_model.specs.declared.world.Parent.{Parent}
use Rattle.brace_model.specs.declared.world.Census.{Census}
use Rattle.brace_comb.specs.declared.total.Total.{Total}
use Rattle.brace_comb.specs.declared.total.Total.TheVariants.{Sum, Least, Greatest, Count, Any}
use Rattle.brace_comb.specs.declared.entry.Entry.{Entry}
use Rattle.brace_pieces.specs.declared.piece.Shown.{Shown}
use Rattle.brace_pieces.specs.declared.piece.Cause.{Cause}
use Rattle.brace_pieces.specs.declared.piece.Cause.TheVariants as cause
use Rattle.brace_pieces.specs.declared.piece.Piece.{Piece}
use Rattle.brace_pieces.specs.declared.piece.Piece.TheVariants as piece
use Rattle.brace_wire.specs.declared.frame.Frame.{Frame}

-- a number in 4 bytes
unfoldable pub four : ℕ → List ℕ
four n = to_be_bytes w32 n

-- a number in 8 bytes
unfoldable pub eight : ℕ → List ℕ
eight n = to_be_bytes w64 n

-- a signed number in 8 bytes
unfoldable pub signed : ℤ → List ℕ
signed z = eight (cast_unsigned w64 z)

-- a signed number in 16 bytes: its higher half and its lower half
unfoldable pub sixteen : ℤ → List ℕ
sixteen z = eight (cast_unsigned w128 z / 2 ^ 64) ++ eight (cast_unsigned w128 z % 2 ^ 64)

unfoldable pub flag : Bool → List ℕ
flag b = (if b then 1 else 0) ∷ []

unfoldable pub optional : Option ℕ → List ℕ
optional None = 0 ∷ []
optional (Some n) = 1 ∷ eight n

-- a list: how many items, and each item
abbrev pub listed : {A : Type 0} → (A → List ℕ) → List A → List ℕ
listed spelled items = four (length items) ++ flat_map spelled items

unfoldable pub value : Value → List ℕ
value (Int n) = signed n
value (Fixed n) = signed n
value (Flag b) = flag b

unfoldable pub agent : Agent → List ℕ
agent a = four a.class ++ eight a.id ++ flat_map value a.states

-- the form of a total, its number, and how many values it joins
unfoldable pub total : Total → List ℕ
total (Sum n k) = 0 ∷ sixteen n ++ eight k
total (Least n k) = 1 ∷ signed n ++ eight k
total (Greatest n k) = 2 ∷ signed n ++ eight k
total (Count k) = 3 ∷ eight k
total (Any b k) = 4 ∷ flag b ++ eight k

unfoldable pub entry : Entry → List ℕ
entry e = eight e.target ++ four e.field ++ total e.total

unfoldable pub parent : Parent → List ℕ
parent p = eight p.id ++ four p.class

unfoldable pub census : Census → List ℕ
census c = eight c.living ++ eight c.values ++ listed parent c.parents

unfoldable pub shown : Shown → List ℕ
shown s = eight s.tick ++ eight s.next ++ listed agent s.agents

unfoldable pub phase : Phase → List ℕ
phase Query = 0 ∷ []
phase Update = 1 ∷ []
phase Birth = 2 ∷ []

unfoldable pub kind : Kind → List ℕ
kind Overflow = 1 ∷ []
kind DivZero = 2 ∷ []
kind NegRoot = 3 ∷ []
kind TooMany = 4 ∷ []

unfoldable pub fault : Fault → List ℕ
fault f =
    eight f.tick ++ phase f.phase ++ eight f.agent ++ four f.site ++ optional f.outer
    ++ optional f.inner ++ kind f.kind

unfoldable pub cause_bytes : Cause → List ℕ
cause_bytes (cause.Fault f) = 0 ∷ fault f
cause_bytes cause.NoMemory = 1 ∷ []
cause_bytes cause.Closed = 2 ∷ []

unfoldable pub piece_bytes : Piece → List ℕ
piece_bytes (piece.Border agents) = 0 ∷ listed agent agents
piece_bytes (piece.Effects entries) = 1 ∷ listed entry entries
piece_bytes (piece.Move agents) = 2 ∷ listed agent agents
piece_bytes (piece.Hand agents) = 3 ∷ listed agent agents
piece_bytes (piece.Show shows) = 4 ∷ listed shown shows
piece_bytes piece.Ack = 5 ∷ []
piece_bytes (piece.Halt c) = 6 ∷ cause_bytes c
piece_bytes (piece.Census c) = 7 ∷ census c

-- what follows the length of a frame
unfoldable pub body : Frame → List ℕ
body f = four f.from ++ four f.to ++ eight f.ordinal ++ piece_bytes f.piece

-- the bytes of a frame
unfoldable pub frame : Frame → List ℕ
frame f = four (length (body f)) ++ body f
