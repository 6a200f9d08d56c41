use Rattle.std.proofs.Common.{◌≡◌, drop}
use Rattle.std.specs.List.{list_all}
use Rattle.brace_fold.specs.inner.Sights.{meets_cut}
use Rattle.brace_fold.proofs.seeing.meets_all.Given as goal

abbrev pub invariant-loop-cut : goal.invariant-loop-cut
invariant-loop-cut l = list_all (meets_cut l.spot) (drop l.cut-index l.cuts)
    ≡ list_all (meets_cut l.spot) l.cuts
