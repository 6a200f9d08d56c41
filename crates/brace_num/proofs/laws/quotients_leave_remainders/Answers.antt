use Rattle.std.proofs.lemmas.Int.{quot-rem, rem_below}
use Rattle.brace_num.proofs.Quotients.{quotient_cut}
use Rattle.brace_num.proofs.laws.quotients_leave_remainders.Goals as goal

pub returns : goal.returns
returns c = record { gives_back = quot-rem; near_zero = rem_below; toward_zero = quotient_cut }
