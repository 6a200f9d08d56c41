use Rattle.std.proofs.Common.{List, drop}
use Rattle.brace_model.specs.declared.fault.Fault.{Fault}
use Rattle.brace_model.specs.Query.{Saying}
use Rattle.brace_eval.specs.Heard.{IsHeard}
use Rattle.brace_herd.specs.inner.Tables.{TellBy}
use Rattle.brace_herd.proofs.TableTells.{SoFarTold}
use Rattle.brace_herd.proofs.tell.join_told.Given as goal

abbrev pub invariant-loop-piece : goal.invariant-loop-piece
invariant-loop-piece l = (said told : List Saying) (faults : List Fault)
    → IsHeard l.program l.held said faults l.fn.heard
    → TellBy l.program l.held l.pieces told
    → SoFarTold l.program l.held said told faults l.heard (TellBy l.program l.held (drop l.piece-index l.pieces))
