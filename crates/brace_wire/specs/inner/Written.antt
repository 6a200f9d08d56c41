-- What is known of a frame whose bytes were written, and of a decoder between two pieces.
use Rattle.std.specs.Prelude.{ℕ, ◌<◌, ◌^◌, Bool, true, false, List}
use Rattle.brace_model.specs.declared.program.Ty.{Ty}
use Rattle.brace_model.specs.declared.world.Agent.{Agent}
use Rattle.brace_wire.specs.declared.frame.Frame.{Frame}
use Rattle.brace_wire.specs.Fitting.{PieceFits}
use Rattle.brace_wire.specs.Streams.{IsPartial, IsBroken}

-- the agents of a frame are as they are to be, and its other numbers fit
pub record BodyFits (fits : Agent → Type 0) (f : Frame) : Type 0 where
  pub from : f.from < 2 ^ 32
  pub to : f.to < 2 ^ 32
  pub ordinal : f.ordinal < 2 ^ 64
  pub piece : PieceFits fits f.piece

-- reading leaves off before a whole frame that is none, or before less than a whole frame
abbrev pub LeavesOff : Bool → List (List Ty) → List ℕ → Type 0
LeavesOff true types rest = IsBroken types rest
LeavesOff false types rest = IsPartial rest
