use Rattle.std.proofs.Common.{length}
use Rattle.brace_tok.proofs.Rows.{Read}
use Rattle.brace_tok.proofs.scan.tokens.Given as goal

abbrev pub invariant-loop-rest : goal.invariant-loop-rest
invariant-loop-rest l = Read l.src l.rest l.toks.items

abbrev pub decreases-loop-rest : goal.decreases-loop-rest
decreases-loop-rest l = length l.rest
