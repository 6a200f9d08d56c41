use Rattle.brace_num.proofs.Roots.{root_squared, root_greatest}
use Rattle.brace_num.proofs.laws.roots_are_greatest.Goals as goal

pub returns : goal.returns
returns c = record { square_fits = root_squared; no_greater = root_greatest }
