use Rattle.std.proofs.Common.{◌≡◌, take, false}
use Rattle.brace_tok.specs.Bytes.{has_close}
use Rattle.brace_tok.proofs.runs.close_at.Given as goal

abbrev pub invariant-loop-next : goal.invariant-loop-next
invariant-loop-next l = has_close (take l.next l.text) ≡ false
