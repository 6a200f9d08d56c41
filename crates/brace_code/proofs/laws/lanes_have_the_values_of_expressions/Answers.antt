use Rattle.brace_code.proofs.LawLemmas.{meant}
use Rattle.brace_code.proofs.laws.lanes_have_the_values_of_expressions.Goals as goal

pub returns : goal.returns
returns c = record { values = λ names e t code frame lanes words scope k d computes gives shows h fits. meant code frame lanes words scope k d names e t computes gives shows h fits }
