use Rattle.std.proofs.Common.{◌∙◌, ◌-◌, sym, ap, take, drop, rules}
use Rattle.brace_code.specs.declared.view.View.{View}
use Rattle.brace_code.specs.Lanes.{words_of}
use Rattle.brace_code.proofs.ViewLemmas.{rows_part}
use Rattle.brace_code.proofs.view.View.part.Goals as goal

pub returns-in_ok-rows-in-At-clause-words : goal.returns-in_ok-rows-in-At-clause-words
returns-in_ok-rows-in-At-clause-words c = λ n low.
    let from = c.args.from in
    let many = c.args.next - from in
    rows_part c.in-At.column.now _ c.in-At.rows.now c.in_ok-rows-in-At.rows.now many from
    (search rules) (search rules)
    ∙ ap (λ (v : View). take many (drop from (words_of n v))) (sym c.in-At.is)
