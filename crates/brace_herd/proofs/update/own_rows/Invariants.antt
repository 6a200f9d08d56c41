use Rattle.std.proofs.Common.{◌≡◌, List, length, map, take}
use Rattle.brace_model.specs.declared.fault.Fault.{Fault}
use Rattle.brace_model.specs.Query.{Saying}
use Rattle.brace_eval.specs.Heard.{IsHeard, row_of}
use Rattle.brace_pieces.specs.Owned.{owned}
use Rattle.brace_herd.proofs.update.own_rows.Given as goal

abbrev pub invariant-loop-i : goal.invariant-loop-i
invariant-loop-i l = record {
  long : length l.rows.items ≡ length (owned l.program l.cuts l.part (take l.i l.held));
  totals : (said : List Saying) (faults : List Fault) → IsHeard l.program l.held said faults l.heard
      → map (λ r. r.now) l.rows.items ≡ map (row_of l.program said) (owned l.program l.cuts l.part (take l.i l.held));
}
