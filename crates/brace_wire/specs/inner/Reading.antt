-- What is read from the front of bytes: a value and the bytes behind it, or nothing.
use Rattle.std.specs.Prelude.{◌≡◌, ℕ, zero, suc, ◌+◌, ◌*◌, ◌^◌, ◌==◌, nat_lt, ℤ, Bool, true, false, if◌then◌else◌, List, [], ◌∷◌, length, take, drop, Option, Some, None, Result, Ok, Err, slice_get}
use Rattle.std.specs.Int.{w32, w64, w128, from_be_bytes, cast_signed}
use Rattle.brace_num.specs.declared.kinds.Kind.{Kind}
use Rattle.brace_num.specs.declared.kinds.Kind.TheVariants.{Overflow, DivZero, NegRoot, TooMany}
use Rattle.brace_model.specs.declared.program.Ty.{Ty}
use Rattle.brace_model.specs.declared.program.Ty.TheVariants as ty
use Rattle.brace_model.specs.declared.program.Value.{Value}
use Rattle.brace_model.specs.declared.program.Value.TheVariants.{Int, Fixed, Flag}
use Rattle.brace_model.specs.declared.fault.Fault.{Fault}
use Rattle.brace_model.specs.declared.fault.Phase.{Phase}
use Rattle.brace_model.specs.declared.fault.Phase.TheVariants.{Query, Update, Birth}
use Rattle.brace_model.specs.declared.world.Agent.{Agent}
use Rattle.brace_model.specs.declared.world.Parent.{Parent}
use Rattle.brace_model.specs.declared.world.Census.{Census}
use Rattle.brace_comb.specs.declared.total.Total.{Total}
use Rattle.brace_comb.specs.declared.total.Total.TheVariants.{Sum, Least, Greatest, Count, Any}
use Rattle.brace_comb.specs.declared.entry.Entry.{Entry}
use Rattle.brace_pieces.specs.declared.piece.Shown.{Shown}
use Rattle.brace_pieces.specs.declared.piece.Cause.{Cause}
use Rattle.brace_pieces.specs.declared.piece.Cause.TheVariants as cause
use Rattle.brace_pieces.specs.declared.piece.Piece.{Piece}
use Rattle.brace_pieces.specs.declared.piece.Piece.TheVariants as piece
use Rattle.brace_wire.specs.declared.frame.Frame.{Frame}
use Rattle.brace_wire.specs.declared.fault.Unread.{Unread}
use Rattle.brace_wire.specs.declared.fault.Unread.TheVariants as unread

infixl 10 ◌>>=◌
abbrev pub ◌>>=◌ : {A B : Type 0} → Option A → (A → Option B) → Option B
(Some x) >>= f = f x
None >>= f = None

-- a reading of what stands in front
abbrev pub Reading : Type 0 → Type 0
Reading A = List ℕ → Option (A × List ℕ)

-- what a function answered, seen by view, is what is read, unless memory was refused
abbrev pub Fails : {Y : Type 0} → Unread → Option Y → Type 0
Fails unread.NoMemory read = Unit {0}
Fails unread.Bad read = read ≡ None

abbrev pub Gives : {X Y : Type 0} → (X → Y) → Result X Unread → Option Y → Type 0
Gives view (Ok x) read = read ≡ Some (view x)
Gives view (Err e) read = Fails e read

-- one thing, and another behind it
abbrev pub then_at : {A B : Type 0} → Reading A → Reading B → Reading (A × B)
then_at first second bytes = do
  x ← first bytes
  y ← second x.1
  Some ((x.0, y.0), y.1)

-- what is made of a thing that was read
abbrev pub made_at : {A B : Type 0} → (A → B) → Reading A → Reading B
made_at make reading bytes = do
  x ← reading bytes
  Some (make x.0, x.1)

-- so many things
unfoldable pub many_at : {A : Type 0} → Reading A → ℕ → Reading (List A)
many_at reading zero bytes = Some ([], bytes)
many_at reading (suc n) bytes = do
  first ← reading bytes
  others ← many_at reading n first.1
  Some (first.0 ∷ others.0, others.1)

unfoldable pub four_at : Reading ℕ
four_at bytes =
    if nat_lt (length bytes) 4 then None
    else Some (from_be_bytes w32 (take 4 bytes), drop 4 bytes)

unfoldable pub eight_at : Reading ℕ
eight_at bytes =
    if nat_lt (length bytes) 8 then None
    else Some (from_be_bytes w64 (take 8 bytes), drop 8 bytes)

unfoldable pub signed_at : Reading ℤ
signed_at = made_at (λ n. cast_signed w64 n) eight_at

unfoldable pub sixteen_at : Reading ℤ
sixteen_at = made_at (λ h. cast_signed w128 (h.0 * 2 ^ 64 + h.1)) (then_at eight_at eight_at)

unfoldable pub flag_at : Reading Bool
flag_at [] = None
flag_at (zero ∷ rest) = Some (false, rest)
flag_at (suc zero ∷ rest) = Some (true, rest)
flag_at (suc (suc n) ∷ rest) = None

unfoldable pub optional_at : Reading (Option ℕ)
optional_at [] = None
optional_at (zero ∷ rest) = Some (None, rest)
optional_at (suc zero ∷ rest) = made_at Some eight_at rest
optional_at (suc (suc n) ∷ rest) = None

-- a list: how many items, and these
unfoldable pub list_at : {A : Type 0} → Reading A → Reading (List A)
list_at reading bytes = do
  count ← four_at bytes
  many_at reading count.0 count.1

unfoldable pub value_at : Ty → Reading Value
value_at ty.Int = made_at Int signed_at
value_at ty.Fixed = made_at Fixed signed_at
value_at ty.Bool = made_at Flag flag_at

unfoldable pub values_at : List Ty → Reading (List Value)
values_at [] bytes = Some ([], bytes)
values_at (t ∷ types) bytes = do
  first ← value_at t bytes
  others ← values_at types first.1
  Some (first.0 ∷ others.0, others.1)

-- the states of an agent of a class, where there is such a class
unfoldable pub states_at : Option (List Ty) → Reading (List Value)
states_at None bytes = None
states_at (Some types) bytes = values_at types bytes

unfoldable pub agent_at : List (List Ty) → Reading Agent
agent_at types bytes = do
  class ← four_at bytes
  id ← eight_at class.1
  states ← states_at (slice_get types class.0) id.1
  Some (record { class = class.0; id = id.0; states = states.0 }, states.1)

unfoldable pub total_at : Reading Total
total_at [] = None
total_at (zero ∷ rest) = made_at (λ p. Sum p.0 p.1) (then_at sixteen_at eight_at) rest
total_at (suc zero ∷ rest) = made_at (λ p. Least p.0 p.1) (then_at signed_at eight_at) rest
total_at (suc (suc zero) ∷ rest) =
    made_at (λ p. Greatest p.0 p.1) (then_at signed_at eight_at) rest
total_at (suc (suc (suc zero)) ∷ rest) = made_at Count eight_at rest
total_at (suc (suc (suc (suc zero))) ∷ rest) =
    made_at (λ p. Any p.0 p.1) (then_at flag_at eight_at) rest
total_at (suc (suc (suc (suc (suc n)))) ∷ rest) = None

unfoldable pub entry_at : Reading Entry
entry_at = made_at (λ p. record { target = p.0; field = p.1.0; total = p.1.1 })
    (then_at eight_at (then_at four_at total_at))

unfoldable pub parent_at : Reading Parent
parent_at = made_at (λ p. record { id = p.0; class = p.1 }) (then_at eight_at four_at)

unfoldable pub census_at : Reading Census
census_at = made_at (λ p. record { living = p.0; values = p.1.0; parents = p.1.1 })
    (then_at eight_at (then_at eight_at (list_at parent_at)))

unfoldable pub shown_at : List (List Ty) → Reading Shown
shown_at types = made_at (λ p. record { tick = p.0; next = p.1.0; agents = p.1.1 })
    (then_at eight_at (then_at eight_at (list_at (agent_at types))))

unfoldable pub phase_at : Reading Phase
phase_at [] = None
phase_at (zero ∷ rest) = Some (Query, rest)
phase_at (suc zero ∷ rest) = Some (Update, rest)
phase_at (suc (suc zero) ∷ rest) = Some (Birth, rest)
phase_at (suc (suc (suc n)) ∷ rest) = None

unfoldable pub kind_at : Reading Kind
kind_at [] = None
kind_at (zero ∷ rest) = None
kind_at (suc zero ∷ rest) = Some (Overflow, rest)
kind_at (suc (suc zero) ∷ rest) = Some (DivZero, rest)
kind_at (suc (suc (suc zero)) ∷ rest) = Some (NegRoot, rest)
kind_at (suc (suc (suc (suc zero))) ∷ rest) = Some (TooMany, rest)
kind_at (suc (suc (suc (suc (suc n)))) ∷ rest) = None

unfoldable pub fault_at : Reading Fault
fault_at = made_at
    (λ p. record {
      tick = p.0;
      phase = p.1.0;
      agent = p.1.1.0;
      site = p.1.1.1.0;
      outer = p.1.1.1.1.0;
      inner = p.1.1.1.1.1.0;
      kind = p.1.1.1.1.1.1;
    })
    (then_at eight_at (then_at phase_at (then_at eight_at (then_at four_at
    (then_at optional_at (then_at optional_at kind_at))))))

unfoldable pub cause_at : Reading Cause
cause_at [] = None
cause_at (zero ∷ rest) = made_at cause.Fault fault_at rest
cause_at (suc zero ∷ rest) = Some (cause.NoMemory, rest)
cause_at (suc (suc zero) ∷ rest) = Some (cause.Closed, rest)
cause_at (suc (suc (suc n)) ∷ rest) = None

unfoldable pub piece_at : List (List Ty) → Reading Piece
piece_at types [] = None
piece_at types (zero ∷ rest) = made_at piece.Border (list_at (agent_at types)) rest
piece_at types (suc zero ∷ rest) = made_at piece.Effects (list_at entry_at) rest
piece_at types (suc (suc zero) ∷ rest) = made_at piece.Move (list_at (agent_at types)) rest
piece_at types (suc (suc (suc zero)) ∷ rest) =
    made_at piece.Hand (list_at (agent_at types)) rest
piece_at types (suc (suc (suc (suc zero))) ∷ rest) =
    made_at piece.Show (list_at (shown_at types)) rest
piece_at types (suc (suc (suc (suc (suc zero)))) ∷ rest) = Some (piece.Ack, rest)
piece_at types (suc (suc (suc (suc (suc (suc zero))))) ∷ rest) =
    made_at piece.Halt cause_at rest
piece_at types (suc (suc (suc (suc (suc (suc (suc zero)))))) ∷ rest) =
    made_at piece.Census census_at rest
piece_at types (suc (suc (suc (suc (suc (suc (suc (suc n))))))) ∷ rest) = None

unfoldable pub body_at : List (List Ty) → Reading Frame
body_at types = made_at
    (λ p. record { from = p.0; to = p.1.0; ordinal = p.1.1.0; piece = p.1.1.1 })
    (then_at four_at (then_at four_at (then_at eight_at (piece_at types))))

-- what is read where nothing is left behind it
abbrev pub ended : {A : Type 0} → Option (A × List ℕ) → Option A
ended read = do
  x ← read
  if length x.1 == 0 then Some x.0 else None

-- the frame whose body these bytes are
unfoldable pub frame_of : List (List Ty) → List ℕ → Option Frame
frame_of types bytes = ended (body_at types bytes)
