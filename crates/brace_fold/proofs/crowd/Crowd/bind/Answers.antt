use Rattle.std.proofs.Common.{refl, arith}
use Rattle.brace_fold.proofs.Crowdings.{bind-stands}
use Rattle.brace_fold.proofs.crowd.Crowd.bind.Goals as goal

pub returns : goal.returns
returns c = λ scene scopes long stands.
    bind-stands scene c.args.self.now _ c.args.n c.args.ty scopes c.args.words
    c.in_ok-column.column refl refl refl refl
    (omega (arith, c.if-place-len.false, c.len.ensures)) c.in_ok-column.ensures long stands
