use Rattle.std.proofs.Common.{sym, ◌∙◌, arith}
use Rattle.brace_tok.proofs.Lengths.{by_length, other_length}
use Rattle.brace_tok.proofs.words.reserved.Goals as goal

pub returns-in-2 : goal.returns-in-2
returns-in-2 c = c.two_letters.ensures ∙ sym (by_length _ 2 c.in-2.is)

pub returns-in-3 : goal.returns-in-3
returns-in-3 c = c.three_letters.ensures ∙ sym (by_length _ 3 c.in-3.is)

pub returns-in-4 : goal.returns-in-4
returns-in-4 c = c.four_letters.ensures ∙ sym (by_length _ 4 c.in-4.is)

pub returns-in-5 : goal.returns-in-5
returns-in-5 c = c.five_letters.ensures ∙ sym (by_length _ 5 c.in-5.is)

pub returns-in-6 : goal.returns-in-6
returns-in-6 c = c.six_letters.ensures ∙ sym (by_length _ 6 c.in-6.is)

pub returns-in-7 : goal.returns-in-7
returns-in-7 c = c.seven_letters.ensures ∙ sym (by_length _ 7 c.in-7.is)

pub returns-in_default : goal.returns-in_default
returns-in_default c = sym (other_length _ (λ e. omega arith) (λ e. omega arith) (λ e. omega arith) (λ e. omega arith) (λ e. omega arith) (λ e. omega arith))
