use Rattle.std.proofs.Common.{◌∙◌, sym, subst, ℕ, get_or}
use Rattle.std.specs.List.Sorted.{IsPermutation}
use Rattle.std.proofs.lemmas.List.Sorted.{IsPermutation-map}
use Rattle.brace_fold.specs.declared.renewal.Renewed.{Renewed}
use Rattle.brace_fold.specs.Asked.{by_row, no_agent}
use Rattle.brace_fold.specs.Rows.{rows_in}
use Rattle.brace_fold.proofs.RenewalLemmas.{all-left}
use Rattle.brace_fold.proofs.renewal.renew_rows.Goals as goal

pub returns-clause-leaves : goal.returns-clause-leaves
returns-clause-leaves c = λ more are.
    let program = c.args.plans.now in
    let agents = rows_in program c.args.columns.now in
    let rows = c.args.rows.now in
    let sorted = c.deref.result.now in
    let moved : IsPermutation rows sorted =
    subst (IsPermutation rows) (sym c.deref.ensures.value) c.in_ok-these.ensures in
    let old : Renewed = record { left = c.in_ok-none.none; born = c.new.result } in
    all-left program c.args.seed c.args.tick more (by_row agents rows) (by_row agents sorted) old
    c.renew_all.new.renewed
    (IsPermutation-map (λ (row : ℕ). get_or agents row no_agent) rows sorted moved)
    c.in_ok-none.ensures.rows c.new.ensures.items (c.in_ok-renew_all.ensures.leaves more are)

pub returns-clause-wide : goal.returns-clause-wide
returns-clause-wide c = c.in_ok-renew_all.ensures.wide ∙ c.in_ok-none.ensures.wide
