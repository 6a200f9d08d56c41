-- The pieces that an actor puts and takes in a step: what they bring, how much of it counts as
-- given, and that they are right.
use Rattle.std.specs.Prelude.{ℕ, ◌+◌, List, [], ◌∷◌, ◌++◌, length, Option, IfSome}
use Rattle.brace_core.specs.Schedule.{name}
use Rattle.brace_model.specs.declared.world.Agent.{Agent}
use Rattle.brace_model.specs.declared.world.Census as census
use Rattle.brace_pieces.specs.declared.setting.Setting.{Setting}
use Rattle.brace_pieces.specs.declared.piece.Cause.{Cause}
use Rattle.brace_pieces.specs.declared.piece.Piece.{Piece}
use Rattle.brace_pieces.specs.declared.piece.Piece.TheVariants.{Border, Effects, Census, Move, Hand, Halt}
use Rattle.brace_pieces.specs.Right.{IsRight, IsRightCause}
use Rattle.brace_pieces.specs.declared.counts.Counts.{Counts}
use Rattle.brace_pieces.specs.Given.{lived}

-- the agents that a piece brings
abbrev pub brought : Piece → List Agent
brought (Border agents) = agents
brought (Move agents) = agents
brought (Hand agents) = agents
brought _ = []

-- the censuses that a piece brings
abbrev pub counts_brought : Piece → List census.Census
counts_brought (Census c) = c ∷ []
counts_brought _ = []

-- counts behind a piece that was given, where this is the next free id: children do not count
abbrev pub counted : ℕ → Counts → Piece → Counts
counted next c (Border agents) = record c { border = c.border + length agents }
counted next c (Effects entries) = record c { effects = c.effects + length entries }
counted next c (Move agents) = record c { moved = c.moved + length (lived next agents) }
counted next c (Hand agents) = record c { handed = c.handed + length agents }
counted next c _ = c

-- a piece is no Halt
abbrev pub GoesOn : Piece → Type 0
GoesOn (Halt c) = ⊥
GoesOn _ = Unit {0}

-- pieces that a part puts in a step of a number: for each of those it meets a right one, that of
-- the first being the last
pub data AreOut (s : Setting) (k p : ℕ) : List ℕ → List Piece → Type 0 where
  none_out : AreOut s k p [] []
  more_out : (q : ℕ) (others : List ℕ) (piece : Piece) (pieces : List Piece)
      → IsRight s (name k p q) piece → GoesOn piece → AreOut s k p others pieces
      → AreOut s k p (q ∷ others) (pieces ++ piece ∷ [])

-- pieces that a part took in a step of a number: of each of those it met a right one, in turn
pub data AreTaken (s : Setting) (k p : ℕ) : List ℕ → List Piece → Type 0 where
  none_taken : AreTaken s k p [] []
  more_taken : (others : List ℕ) (pieces : List Piece) (q : ℕ) (piece : Piece)
      → AreTaken s k p others pieces → IsRight s (name k q p) piece → GoesOn piece
      → AreTaken s k p (others ++ q ∷ []) (pieces ++ piece ∷ [])

-- a cause that an actor has is right in every step that is left
abbrev pub IsHalted : Setting → ℕ → Option Cause → Type 0
IsHalted s number c = IfSome c (IsRightCause s number)
