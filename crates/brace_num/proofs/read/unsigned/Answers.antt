use Rattle.std.proofs.Common.{arith, sym, ◌∙◌, ◌≢◌, get_or}
use Rattle.brace_num.proofs.Readings.{not_text, parsed}
use Rattle.brace_num.proofs.read.unsigned.Goals as goal

pub returns-in-Ok : goal.returns-in-Ok
returns-in-Ok c =
    let ne : get_or c.args.text.now 0 0 ≢ 43 = grind arith in
    let parses = rw c.in-Ok.ensures.cases.0 at c.parse.ensures.value.0 in
    c.ok.ensures.value ∙ parsed c.args.text.now c.parse.result parses ne

pub returns-in-Err : goal.returns-in-Err
returns-in-Err c = sym (not_text _ c.in-Err.ensures.cases.0)
