use Rattle.std.proofs.Common.{◌≡◌, ◌≤◌, ◌+◌, Bor, List, ℕ, length, map, drop}
use Rattle.brace_watch.proofs.FirstFault.{ReadTo}
use Rattle.brace_watch.proofs.file.read_lines.Given as goal

abbrev pub invariant-loop-text : goal.invariant-loop-text
invariant-loop-text l = record {
  read : ReadTo l.program (map (λ (t : Bor (List ℕ)). t.now) l.texts) (drop l.text-index (map (λ (t : Bor (List ℕ)). t.now) l.texts)) l.watches (l.text-index + 1);
  many : length l.watches ≡ l.text-index;
  few : length l.watches ≤ 64;
}
