use Rattle.std.proofs.Common.{List, drop}
use Rattle.brace_model.specs.declared.fault.Fault.{Fault}
use Rattle.brace_model.specs.Query.{Saying}
use Rattle.brace_eval.specs.Heard.{IsHeard}
use Rattle.brace_herd.specs.inner.Tables.{TellsBy}
use Rattle.brace_herd.proofs.TableTells.{SoFarTold}
use Rattle.brace_herd.proofs.tell.join_entries.Given as goal

abbrev pub invariant-loop-entry : goal.invariant-loop-entry
invariant-loop-entry l = (said told : List Saying) (faults : List Fault)
    → IsHeard l.program l.held said faults l.fn.heard
    → TellsBy l.program l.held l.entries told
    → SoFarTold l.program l.held said told faults l.heard (TellsBy l.program l.held (drop l.entry-index l.entries))
