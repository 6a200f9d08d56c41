use Rattle.std.proofs.Common.{◌≡◌, length, reverse}
use Rattle.brace_show.specs.Literals.{past_zeros}
use Rattle.brace_show.proofs.literal.without_zeros.Given as goal

abbrev pub invariant-loop-digits : goal.invariant-loop-digits
invariant-loop-digits l = past_zeros (reverse l.digits) ≡ past_zeros (reverse l.fn.digits)

abbrev pub decreases-loop-digits : goal.decreases-loop-digits
decreases-loop-digits l = length l.digits
