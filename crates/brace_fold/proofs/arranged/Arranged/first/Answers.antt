use Rattle.std.proofs.Common.{subst, ℕ, List, filter}
use Rattle.std.specs.Prelude.{nat_lt}
use Rattle.brace_fold.specs.Rows.{IsPicked}
use Rattle.brace_fold.proofs.arranged.Arranged.first.Goals as goal

pub returns : goal.returns
returns c =
    subst (λ (l : List ℕ). IsPicked c.in_ok-places.places.items l
    (filter (λ row. nat_lt row c.args.count) l)) c.deref.ensures.value c.in_ok-places.ensures
