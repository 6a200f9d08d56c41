use Rattle.std.proofs.Common.{rules, ◌≡◌, ◌∙◌, sym}
use Rattle.std.specs.Prelude.{nat_le}
use Rattle.brace_balance.specs.Loads.{accepts}
use Rattle.brace_balance.proofs.Refusals.{accepted_is_lowest}
use Rattle.brace_balance.proofs.confirm.confirms.Goals as goal

pub returns-in-Stack-clause-lowest : goal.returns-in-Stack-clause-lowest
returns-in-Stack-clause-lowest c is =
    let same : nat_le c.args.load c.times.result ≡ accepts c.args.xs.now c.args.strips c.args.load c.args.proof.now = search rules in
    accepted_is_lowest c.args.xs.now c.args.strips c.args.load c.args.proof.now (sym same ∙ is)

pub returns-then-rises-clause-lowest : goal.returns-then-rises-clause-lowest
returns-then-rises-clause-lowest c is =
    let same : c.posts_hold.result ≡ accepts c.args.xs.now c.args.strips c.args.load c.args.proof.now = search rules in
    accepted_is_lowest c.args.xs.now c.args.strips c.args.load c.args.proof.now (sym same ∙ is)
