use Rattle.std.proofs.Common.{◌∙◌, sym, ap, ◌*◌, take, arith}
use Rattle.brace_core.proofs.SmallLawful.{part_turns, publisher_turns, all_turns}
use Rattle.brace_core.proofs.tests.turns_to.Goals as goal
use Rattle.brace_core.proofs.tests.turns_to.Goals.{then-number-eq2, else-number-eq2}

pub returns-then-end-gt3 : goal.returns-then-end-gt3
returns-then-end-gt3 c = c.turns_of-turns.ensures ∙ sym (all_turns c.args.end c.args.number (omega (arith, c.if-end-gt3.true)))

pub returns : goal.returns
returns c =
    let all = c.turns_of-turns.result.now in
    elim c.if-number-eq2.branch [
      | then-number-eq2 w ↦
          ap (λ k. take (k * c.args.end) all) w.each-is ∙ ap (take (1 * c.args.end)) c.turns_of-turns.ensures
          ∙ publisher_turns c.args.end c.args.number (omega (arith, c.if-end-gt3.false)) w.if-number-eq2.true
      | else-number-eq2 w ↦
          ap (λ k. take (k * c.args.end) all) w.each-is ∙ ap (take (3 * c.args.end)) c.turns_of-turns.ensures
          ∙ part_turns c.args.end c.args.number (omega (arith, c.if-end-gt3.false)) c.requires w.if-number-eq2.false
    ]
