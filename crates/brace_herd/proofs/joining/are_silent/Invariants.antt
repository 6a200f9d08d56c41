use Rattle.std.proofs.Common.{All, take}
use Rattle.brace_herd.specs.inner.Tables.{IsSilent}
use Rattle.brace_herd.proofs.joining.are_silent.Given as goal

abbrev pub invariant-loop-piece : goal.invariant-loop-piece
invariant-loop-piece l = All IsSilent (take l.piece-index l.pieces)
