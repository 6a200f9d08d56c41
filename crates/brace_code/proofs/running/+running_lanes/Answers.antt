use Rattle.std.proofs.Common.{rules}
use Rattle.brace_code.proofs.RunLemmas.{with_leads, choice_leads, same_serves}
use Rattle.brace_code.proofs.running.+running_lanes.Goals as goal

pub step-returns-in_ok-push-in-With : goal.step-returns-in_ok-push-in-With
step-returns-in_ok-push-in-With t c =
    with_leads _ _ _ _ _ _ _ c.in-With.op c.in-With.ty c.in-With.field-2 c.in-With.operand c.in_ok-a-in-With.a _ c.in-With.is c.in_ok-a-in-With.ensures.top
    c.in_ok-a-in-With.ensures.long c.in_ok-words-in-With.ensures.joins c.in_ok-push-in-With.ensures

pub step-returns-in_ok-push-in-Choice : goal.step-returns-in_ok-push-in-Choice
step-returns-in_ok-push-in-Choice t c =
    choice_leads _ _ _ _ _ _ _ _ _ _ _ _ _ _ c.in-Choice.is (search rules) (search rules)
    (search rules) c.in_ok-ys-in-Choice.ensures.serves c.in_ok-ns-in-Choice.ensures.serves
    c.in_ok-words-in-Choice.ensures c.in_ok-push-in-Choice.ensures

pub side_words-returns-in-Some : goal.side_words-returns-in-Some
side_words-returns-in-Some t c = record {
  side = search rules;
  serves = same_serves _ _ _ _ c.in-Some.word _ c.in-Some.ensures (search rules) (search rules);
}
