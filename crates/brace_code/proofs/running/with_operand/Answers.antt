use Rattle.std.proofs.Common.{sym, subst, rules, arith, length}
use Rattle.brace_code.specs.declared.view.View.TheVariants.{Each}
use Rattle.brace_code.specs.Lanes.{words_of}
use Rattle.brace_code.specs.inner.Words.{binary_word, operand_word}
use Rattle.brace_code.specs.Columns.{Words, firsts}
use Rattle.brace_code.proofs.OperandLemmas.{join_words, plain_words}
use Rattle.brace_code.proofs.running.with_operand.Goals as goal

pub returns-in_ok-words-in-Field-clause-joins : goal.returns-in_ok-words-in-Field-clause-joins
returns-in_ok-words-in-Field-clause-joins c =
    let lanes = c.args.lanes.now in
    let view = c.in_ok-view-in-Field.view in
    let sees = c.in_ok-words-in-Field.ensures.sees in
    join_words c.args.frame.now c.args.operand (binary_word c.args.op c.args.ty) lanes (firsts c.args.a)
    c.in_ok-words-in-Field.words view c.requires
    (plain_words c.args.frame.now c.args.operand lanes (words_of (length lanes) view)
    (λ effect t site is. search (c.in-Field.is, is, rules))
    (c.in_ok-view-in-Field.ensures (λ k low. sees k (omega (arith, low, c.requires)))))
    sees c.in_ok-words-in-Field.ensures.each

pub returns-in_ok-words-in-Total-clause-joins : goal.returns-in_ok-words-in-Total-clause-joins
returns-in_ok-words-in-Total-clause-joins c =
    let operand = c.args.operand in
    join_words c.args.frame.now operand (binary_word c.args.op c.args.ty) c.args.lanes.now (firsts c.args.a)
    c.in_ok-words-in-Total.words (Each c.as_slice.result) c.requires
    (subst (Words c.args.frame.now (λ scope. operand_word scope operand) c.args.lanes.now)
    (sym c.as_slice.ensures) c.in_ok-b-in-Total.ensures)
    c.in_ok-words-in-Total.ensures.sees c.in_ok-words-in-Total.ensures.each
