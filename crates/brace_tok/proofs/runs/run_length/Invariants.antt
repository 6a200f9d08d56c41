use Rattle.std.proofs.Common.{◌≡◌, take, true}
use Rattle.std.specs.List.{list_all}
use Rattle.brace_tok.specs.inner.Steps.{is_of}
use Rattle.brace_tok.proofs.runs.run_length.Given as goal

abbrev pub invariant-loop-length : goal.invariant-loop-length
invariant-loop-length l = list_all (is_of l.run) (take l.length l.text) ≡ true
