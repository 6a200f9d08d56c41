use Rattle.std.proofs.lemmas.Nat.{ones-le}
use Rattle.brace_fold.proofs.Fours.{masked_at}
use Rattle.brace_fold.proofs.glancing.put_four.Goals as goal

pub overflow_sub-result : goal.overflow_sub-result
overflow_sub-result c = ones-le 4 c.args.far c.requires.four

pub returns-clause-front : goal.returns-clause-front
returns-clause-front c a b e d is =
    masked_at c.args.out.now c.args.at c.args.row c.requires.room c.args.far a b e d is
