-- Which frames have bytes: each number is in the range of its bytes, each agent is of a class, and
-- the whole is not too long for its length.
use Rattle.std.specs.Prelude.{◌<◌, ◌^◌, List, [], length, map, flat_map, slice_get, Bool, false, IsTrue, Option, Some, None, IfSome, FitsSigned}
use Rattle.std.specs.Int.{w64, w128}
use Rattle.std.specs.List.{AllByRecursion}
use Rattle.std.specs.Cmp.Lexicographic.{pointwise}
use Rattle.brace_model.specs.declared.program.Ty.{Ty}
use Rattle.brace_model.specs.declared.program.Value.{Value}
use Rattle.brace_model.specs.declared.program.Value.TheVariants.{Int, Fixed, Flag}
use Rattle.brace_model.specs.declared.program.Program.{Program}
use Rattle.brace_model.specs.declared.fault.Fault.{Fault}
use Rattle.brace_model.specs.declared.world.Agent.{Agent}
use Rattle.brace_model.specs.declared.world.Parent.{Parent}
use Rattle.brace_model.specs.declared.world.Census.{Census}
use Rattle.brace_model.specs.Typing.{same_type, type_of_value}
use Rattle.brace_comb.specs.declared.total.Total.{Total}
use Rattle.brace_comb.specs.declared.total.Total.TheVariants.{Sum, Least, Greatest, Count, Any}
use Rattle.brace_comb.specs.declared.entry.Entry.{Entry}
use Rattle.brace_pieces.specs.declared.piece.Shown.{Shown}
use Rattle.brace_pieces.specs.declared.piece.Cause.{Cause}
use Rattle.brace_pieces.specs.declared.piece.Cause.TheVariants as cause
use Rattle.brace_pieces.specs.declared.piece.Piece.{Piece}
use Rattle.brace_pieces.specs.declared.piece.Piece.TheVariants as piece
use Rattle.brace_wire.specs.declared.frame.Frame.{Frame}
use Rattle.brace_wire.specs.Frames.{body}

-- the types of the states of each class
abbrev pub layout : Program → List (List Ty)
layout program = map (λ c. map (λ s. s.ty) c.states) program.classes

-- values are of these types, one each
abbrev pub are_of : Option (List Ty) → List Value → Bool
are_of None values = false
are_of (Some types) values = pointwise same_type types (map type_of_value values)

-- an agent has a class and the values of its states
abbrev pub is_of : List (List Ty) → Agent → Bool
is_of types a = are_of (slice_get types a.class) a.states

abbrev pub ValueFits : Value → Type 0
ValueFits (Int n) = FitsSigned w64 n
ValueFits (Fixed n) = FitsSigned w64 n
ValueFits (Flag b) = Unit {0}

pub record AgentFits (a : Agent) : Type 0 where
  pub class : a.class < 2 ^ 32
  pub id : a.id < 2 ^ 64
  pub states : AllByRecursion ValueFits a.states

-- an agent of a class whose numbers fit
abbrev pub IsAgent : List (List Ty) → Agent → Type 0
IsAgent types a = AgentFits a × IsTrue (is_of types a)

abbrev pub TotalFits : Total → Type 0
TotalFits (Sum n k) = FitsSigned w128 n × (k < 2 ^ 64)
TotalFits (Least n k) = FitsSigned w64 n × (k < 2 ^ 64)
TotalFits (Greatest n k) = FitsSigned w64 n × (k < 2 ^ 64)
TotalFits (Count k) = k < 2 ^ 64
TotalFits (Any b k) = k < 2 ^ 64

pub record EntryFits (e : Entry) : Type 0 where
  pub target : e.target < 2 ^ 64
  pub field : e.field < 2 ^ 32
  pub total : TotalFits e.total

pub record ParentFits (p : Parent) : Type 0 where
  pub id : p.id < 2 ^ 64
  pub class : p.class < 2 ^ 32

-- a list whose items fit, fewer than 2^32
abbrev pub ListFits : {A : Type 0} → (A → Type 0) → List A → Type 0
ListFits fits items = (length items < 2 ^ 32) × AllByRecursion fits items

pub record CensusFits (c : Census) : Type 0 where
  pub living : c.living < 2 ^ 64
  pub values : c.values < 2 ^ 64
  pub parents : ListFits ParentFits c.parents

pub record ShownFits (fits : Agent → Type 0) (s : Shown) : Type 0 where
  pub tick : s.tick < 2 ^ 64
  pub next : s.next < 2 ^ 64
  pub agents : ListFits fits s.agents

pub record FaultFits (f : Fault) : Type 0 where
  pub tick : f.tick < 2 ^ 64
  pub agent : f.agent < 2 ^ 64
  pub site : f.site < 2 ^ 32
  pub outer : IfSome f.outer (λ a. a < 2 ^ 64)
  pub inner : IfSome f.inner (λ a. a < 2 ^ 64)

abbrev pub CauseFits : Cause → Type 0
CauseFits (cause.Fault f) = FaultFits f
CauseFits cause.NoMemory = Unit {0}
CauseFits cause.Closed = Unit {0}

-- a piece whose agents are as they are to be, and whose other numbers fit
abbrev pub PieceFits : (Agent → Type 0) → Piece → Type 0
PieceFits fits (piece.Border agents) = ListFits fits agents
PieceFits fits (piece.Effects entries) = ListFits EntryFits entries
PieceFits fits (piece.Move agents) = ListFits fits agents
PieceFits fits (piece.Hand agents) = ListFits fits agents
PieceFits fits (piece.Show shows) = ListFits (ShownFits fits) shows
PieceFits fits piece.Ack = Unit {0}
PieceFits fits (piece.Halt c) = CauseFits c
PieceFits fits (piece.Census c) = CensusFits c

-- all agents of a piece
abbrev pub agents_of : Piece → List Agent
agents_of (piece.Border agents) = agents
agents_of (piece.Move agents) = agents
agents_of (piece.Hand agents) = agents
agents_of (piece.Show shows) = flat_map (λ s. s.agents) shows
agents_of _ = []

-- all agents of a piece are of classes of these states
abbrev pub IsOf : List (List Ty) → Piece → Type 0
IsOf types p = AllByRecursion (λ a. IsTrue (is_of types a)) (agents_of p)

-- a frame of agents of these classes
pub record IsFrame (types : List (List Ty)) (f : Frame) : Type 0 where
  pub from : f.from < 2 ^ 32
  pub to : f.to < 2 ^ 32
  pub ordinal : f.ordinal < 2 ^ 64
  pub piece : PieceFits (IsAgent types) f.piece
  pub short : length (body f) < 2 ^ 32
