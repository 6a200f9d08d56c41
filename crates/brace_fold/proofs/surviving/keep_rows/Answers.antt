use Rattle.std.proofs.Common.{◌∙◌, ◌<◌, ◌++◌, ap, length, get_or, map, ℤ, List, subst, sym}
use Rattle.std.proofs.lemmas.List.{with_items_is}
use Rattle.brace_fold.specs.inner.Rulings.{new_number, rows_of}
use Rattle.brace_fold.proofs.Survivings.{rows-more}
use Rattle.brace_fold.proofs.Walks.{on_ok}
use Rattle.brace_fold.proofs.surviving.keep_rows.Goals as goal

pub returns-clause-kept : goal.returns-clause-kept
returns-clause-kept c = on_ok c.push_states.result _ _ (λ each program agents alike is.
    let old = c.args.left.now in
    let columns = c.args.columns.now in
    let rows = rows_of c.in_ok-living.living in
    let written : List (List ℤ) = c.push_states.new.left in
    let new_is = with_items_is old.states written
    (c.push_states.ensures.long ∙ c.deref_mut.ensures.len) in
    rows-more program c.args.own.now c.args.class.now c.args.out.now columns
    rows agents old _ c.in_ok-living.ensures alike is
    c.in_ok-push_rows.ensures c.in_ok-push_rows-2.ensures
    (ap length new_is ∙ c.push_states.ensures.long ∙ ap length c.deref_mut.ensures.value)
    (λ k x low. ap (λ (l : List (List ℤ)). get_or l k x) new_is
    ∙ each k x (subst (λ (l : List (List ℤ)). k < length l) (sym c.deref_mut.ensures.value) low)
    ∙ ap (λ (l : List (List ℤ)). get_or l k x ++ map (new_number c.args.own.now c.args.class.now
    c.args.out.now columns k) rows) c.deref_mut.ensures.value))
    c.push_states.ensures.each
