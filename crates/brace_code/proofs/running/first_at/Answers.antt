use Rattle.std.proofs.Common.{◌≡◌, sym, ap, subst, rules, arith, length}
use Rattle.brace_code.specs.declared.view.View.{View}
use Rattle.brace_code.specs.declared.kernels.First.TheVariants.{At}
use Rattle.brace_code.specs.Lanes.{words_of}
use Rattle.brace_code.specs.Columns.{Sees}
use Rattle.brace_code.proofs.OperandLemmas.{first_words}
use Rattle.brace_code.proofs.running.first_at.Goals as goal

pub returns-clause-words : goal.returns-clause-words
returns-clause-words c =
    let lanes = c.args.lanes.now in
    let long : length c.in-At.rows.now ≡ length lanes = search rules in
    first_words c.args.frame.now c.args.operand lanes c.in-Ok.view (At c.in-At.column c.in-At.rows)
    (λ effect t site is. search (is, rules)) (sym (ap (words_of (length lanes)) c.in-At.is))
    (λ k low has. subst (λ (v : View). Sees v k) (sym c.in-At.is) (omega (arith, low, long), has))
    c.in-Ok.ensures
