use Rattle.std.proofs.Common.{◌≡◌, ◌+◌, Bor, List, ℕ, length, map, drop}
use Rattle.brace_cuts.proofs.FirstFault.{ReadTo}
use Rattle.brace_cuts.proofs.PlanLemmas.{PlanSoFar}
use Rattle.brace_cuts.proofs.file.read_lines.Given as goal

abbrev pub invariant-loop-text : goal.invariant-loop-text
invariant-loop-text l = record {
  read : ReadTo l.epoch (map (λ (t : Bor (List ℕ)). t.now) l.texts) (drop l.text-index (map (λ (t : Bor (List ℕ)). t.now) l.texts)) l.lines (l.text-index + 1);
  lawful : PlanSoFar l.epoch l.lines;
  many : length l.lines ≡ l.text-index;
}
