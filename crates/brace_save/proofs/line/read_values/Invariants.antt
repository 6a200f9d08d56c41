use Rattle.std.proofs.Common.{◌≡◌, length, map}
use Rattle.std.specs.Prelude.{IsTrue}
use Rattle.std.specs.List.{list_all}
use Rattle.brace_rows.proofs.Values.{ReadSoFar}
use Rattle.brace_save.specs.Texts.{value_fits}
use Rattle.brace_save.proofs.line.read_values.Given as goal

abbrev pub invariant-loop-i : goal.invariant-loop-i
invariant-loop-i l = record {
  so_far : ReadSoFar l.states (map (λ f. f.now) l.fields) l.values.items l.i;
  many : length l.values.items ≡ l.i;
  fit : IsTrue (list_all value_fits l.values.items);
}
