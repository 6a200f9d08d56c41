use Rattle.std.proofs.Common.{◌≡◌, ◌≤◌, ℕ, false, take}
use Rattle.brace_syntax.specs.Depth.{opened, operators, is_deep}
use Rattle.brace_syntax.proofs.scan.first_deep.Given as goal

abbrev pub invariant-loop-tok : goal.invariant-loop-tok
invariant-loop-tok l = record {
  opened_now : l.opened ≡ opened (take l.tok-index l.toks);
  operators_now : l.operators ≡ operators (take l.tok-index l.toks);
  few_opened : l.opened ≤ 64;
  few_operators : l.operators ≤ 256;
  shallow : (n : ℕ) → n ≤ l.tok-index → is_deep (take n l.toks) ≡ false;
}
