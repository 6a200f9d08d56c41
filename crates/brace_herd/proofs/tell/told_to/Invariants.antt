use Rattle.std.proofs.Common.{◌≡◌, List, map, take}
use Rattle.brace_model.specs.declared.fault.Fault.{Fault}
use Rattle.brace_model.specs.Query.{Saying}
use Rattle.brace_eval.specs.Heard.{IsHeard}
use Rattle.brace_pieces.specs.Right.{share_of}
use Rattle.brace_herd.specs.inner.Tables.{shares_in}
use Rattle.brace_herd.proofs.tell.told_to.Given as goal

abbrev pub invariant-loop-i : goal.invariant-loop-i
invariant-loop-i l = (said : List Saying) (faults : List Fault)
    → IsHeard l.program l.held said faults l.heard
    → map share_of l.entries ≡ shares_in l.program l.cuts l.to (take l.i l.held) said
