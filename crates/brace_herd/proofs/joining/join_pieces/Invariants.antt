use Rattle.std.proofs.Common.{List, drop}
use Rattle.std.specs.Prelude.{nat_eq}
use Rattle.std.specs.List.{IsDistinct}
use Rattle.brace_model.specs.declared.world.Agent.{Agent}
use Rattle.brace_model.specs.World.{ids}
use Rattle.brace_model.specs.Query.{Saying}
use Rattle.brace_fold.specs.Rows.{AreMoved}
use Rattle.brace_herd.specs.inner.Tables.{TellBy}
use Rattle.brace_herd.proofs.HoldLemmas.{SoFarJoined}
use Rattle.brace_herd.proofs.joining.join_pieces.Given as goal

abbrev pub invariant-loop-piece : goal.invariant-loop-piece
invariant-loop-piece l = (all : List Agent) (told : List Saying)
    → AreMoved all l.rows → IsDistinct nat_eq (ids all)
    → TellBy l.program all l.pieces told
    → SoFarJoined l.program all told l.fn.said l.said
    (TellBy l.program all (drop l.piece-index l.pieces))
