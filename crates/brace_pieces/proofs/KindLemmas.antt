-- A right piece that is no Halt is of the kind of its step.
use Rattle.std.proofs.Common.{◌≡◌, ℕ, List, map}
use Rattle.brace_model.specs.declared.world.Agent.{Agent}
use Rattle.brace_model.specs.declared.world.Census.{Census}
use Rattle.brace_comb.specs.declared.entry.Entry.{Entry}
use Rattle.brace_pieces.specs.declared.setting.Setting.{Setting}
use Rattle.brace_pieces.specs.declared.setting.Stage.TheVariants as stage
use Rattle.brace_pieces.specs.declared.piece.Piece.{Piece}
use Rattle.brace_pieces.specs.declared.piece.Piece.TheVariants as piece
use Rattle.brace_pieces.specs.Continued.{on}
use Rattle.brace_pieces.specs.Right.{share_of, IsRightAt, border, handed, moved, shares, census}
use Rattle.brace_pieces.specs.Exchanged.{GoesOn}

-- what holds of each piece of the kind holds of the right one
module _ (s : Setting) (k t p q : ℕ) (P : Piece → Type 0) where
  pub border_alone : ((agents : List Agent) → agents ≡ border s t p q (on s t).agents → P (piece.Border agents)) → (x : Piece) → IsRightAt s k stage.Border t p q x → GoesOn x → P x
  border_alone each (piece.Border agents) right goes = each agents right
  border_alone each (piece.Halt c) right goes = absurd goes
  border_alone each _ right goes = absurd right

  pub hand_alone : ((agents : List Agent) → agents ≡ handed s t p q (on s t).agents → P (piece.Hand agents)) → (x : Piece) → IsRightAt s k stage.Hand t p q x → GoesOn x → P x
  hand_alone each (piece.Hand agents) right goes = each agents right
  hand_alone each (piece.Halt c) right goes = absurd goes
  hand_alone each _ right goes = absurd right

  pub move_alone : ((agents : List Agent) → agents ≡ moved s t p q (on s t) → P (piece.Move agents)) → (x : Piece) → IsRightAt s k stage.Move t p q x → GoesOn x → P x
  move_alone each (piece.Move agents) right goes = each agents right
  move_alone each (piece.Halt c) right goes = absurd goes
  move_alone each _ right goes = absurd right

  pub effects_alone : ((entries : List Entry) → map share_of entries ≡ shares s t p q (on s t).agents → P (piece.Effects entries)) → (x : Piece) → IsRightAt s k stage.Effects t p q x → GoesOn x → P x
  effects_alone each (piece.Effects entries) right goes = each entries right
  effects_alone each (piece.Halt c) right goes = absurd goes
  effects_alone each _ right goes = absurd right

  pub census_alone : ((c : Census) → c ≡ census s t p (on s t).agents → P (piece.Census c)) → (x : Piece) → IsRightAt s k stage.Census t p q x → GoesOn x → P x
  census_alone each (piece.Census c) right goes = each c right
  census_alone each (piece.Halt c) right goes = absurd goes
  census_alone each _ right goes = absurd right
