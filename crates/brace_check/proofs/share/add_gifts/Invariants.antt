use Rattle.std.proofs.Common.{◌≡◌, ◌++◌, drop}
use Rattle.brace_check.specs.Programs.{gifts_in}
use Rattle.brace_check.proofs.share.add_gifts.Given as goal

abbrev pub invariant-loop-one : goal.invariant-loop-one
invariant-loop-one l =
    ((gifts_in (drop l.one-index l.given) l.scope l.sites.items).1 ≡ (gifts_in l.given l.scope l.fn.sites.items).1)
    × (l.all ++ (gifts_in (drop l.one-index l.given) l.scope l.sites.items).0 ≡ l.fn.all ++ (gifts_in l.given l.scope l.fn.sites.items).0)
