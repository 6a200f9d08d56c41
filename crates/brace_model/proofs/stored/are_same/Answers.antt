use Rattle.std.proofs.Common.{arith, rules}
use Rattle.std.proofs.lemmas.List.{same_lists}
use Rattle.brace_model.proofs.stored.are_same.Goals as goal

pub returns : goal.returns
returns c =
    same_lists c.args.a.now c.args.b.now (omega arith)
    (λ k d low. c.loop-k.invariant k d (omega (arith, low)))
