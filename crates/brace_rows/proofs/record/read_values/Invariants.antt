use Rattle.std.proofs.Common.{◌≡◌, length}
use Rattle.csv.specs.Records.{fields_of}
use Rattle.brace_rows.proofs.Values.{ReadSoFar}
use Rattle.brace_rows.proofs.record.read_values.Given as goal

abbrev pub invariant-loop-state : goal.invariant-loop-state
invariant-loop-state l = record {
  so_far : ReadSoFar l.states (fields_of l.row) l.values.items l.state-index;
  many : length l.values.items ≡ l.state-index;
}
