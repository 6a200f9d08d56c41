use Rattle.std.proofs.Common.{subst, ℤ, List}
use Rattle.brace_fold.specs.inner.Crowds.{AreGathered}
use Rattle.brace_fold.proofs.Crowdings.{part-stands}
use Rattle.brace_fold.proofs.crowd.Crowd.part.Goals as goal

pub returns : goal.returns
returns c = λ scene scopes kids stands of known.
    let locals : List (List ℤ) = c.in_ok-locals.locals.items in
    let gathered =
    subst (λ (l : List (List ℤ)). AreGathered c.args.lanes l locals) c.deref.ensures.value
    c.in_ok-locals.ensures in
    part-stands scene c.args.self.now
    (record {
      depth = c.args.depth;
      lanes = c.numbered.result;
      locals = c.in_ok-locals.locals;
      stretches = c.args.stretches;
    })
    scopes kids c.args.lanes
    (record { long = c.numbered.ensures.long; each = c.numbered.ensures.each })
    gathered stands of known
