use Rattle.std.proofs.Common.{◌≡◌, ap, get_or, length, map, refl, rules, subst, sym, ℕ, List}
use Rattle.brace_code.specs.declared.lanes.Rows.TheVariants.{Each}
use Rattle.brace_fold.specs.inner.Crowds.{AreNumbered, asking_at}
use Rattle.brace_fold.proofs.Crowdings.{asking-lanes}
use Rattle.brace_fold.proofs.crowd.asking_lanes.Goals as goal

pub returns : goal.returns
returns c =
    let asking : List ℕ = c.args.asking.now in
    let rows = c.extend_from_slice.new.self in
    let all : rows.items ≡ asking = search rules in
    subst (AreNumbered (map asking_at asking)) (sym c.of.ensures)
    (asking-lanes (Each rows) asking (length asking) refl (λ k. ap (λ l. get_or l k 0) all))
