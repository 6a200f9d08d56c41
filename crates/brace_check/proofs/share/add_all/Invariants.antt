use Rattle.std.proofs.Common.{◌≡◌, drop}
use Rattle.brace_check.specs.Programs.{shares, shared_by}
use Rattle.brace_check.proofs.share.add_all.Given as goal

abbrev pub invariant-loop-one : goal.invariant-loop-one
invariant-loop-one l =
    ((shares l.home (drop l.one-index l.members) l.sites.items).1 ≡ (shares l.home l.members l.fn.sites.items).1)
    × (shared_by l.all (shares l.home (drop l.one-index l.members) l.sites.items).0 ≡ shared_by l.fn.all (shares l.home l.members l.fn.sites.items).0)
