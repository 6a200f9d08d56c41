use Rattle.std.proofs.Common.{Bor, List, ℕ}
use Rattle.brace_cuts.proofs.Lines.{ReadSoFar}
use Rattle.brace_cuts.proofs.line.read_cuts.Given as goal

abbrev pub invariant-loop-text : goal.invariant-loop-text
invariant-loop-text l = ReadSoFar (λ (p : Bor (List ℕ)). p.now) l.texts l.cuts l.text-index
