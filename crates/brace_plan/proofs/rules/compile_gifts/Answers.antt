use Rattle.std.proofs.Common.{List}
use Rattle.brace_model.specs.declared.program.Gift.{Gift}
use Rattle.brace_model.specs.Lawful.{is_given}
use Rattle.brace_code.specs.Codes.{names_of}
use Rattle.brace_plan.specs.Ruling.{IsCodeOf}
use Rattle.brace_plan.proofs.RuleLemmas.{one_code, one_passes, given_typed}
use Rattle.brace_plan.proofs.rules.compile_gifts.Goals as goal

pub loop-gift-preserved : goal.loop-gift-preserved
loop-gift-preserved c =
    let names = names_of c.args.known.now in
    let gifts : List Gift = c.args.gifts.now in
    let (states, all) = c.requires in
    let g = c.gift-item.result in
    let given = one_passes (is_given names states) gifts c.loop-gift.gift-index g all c.loop-gift-test.true c.gift-item.is in
    let (t, type) = given_typed names states g given in
    one_code (λ (x : Gift) code. IsCodeOf names x.value code) gifts c.loop-gift.gift-index g c.loop-gift.codes _ c.in_ok-code.code c.loop-gift-test.true c.gift-item.is
    c.loop-gift.invariant (c.in_ok-code.ensures t type).value c.in_ok-push.ensures.ok
