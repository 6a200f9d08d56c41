use Rattle.std.proofs.Common.{◌≡◌, ◌∙◌, sym, ap, subst, ◌<◌, List, [], ◌∷◌, ◌++◌, length, get_or, false, Equal, is_eq, arith}
use Rattle.std.proofs.lemmas.List.{get_or_default}
use Rattle.brace_comb.specs.declared.entry.Entry.{Entry}
use Rattle.brace_comb.specs.Entries.{by_place}
use Rattle.brace_comb.specs.Partials.{IsPartialOf}
use Rattle.brace_comb.specs.inner.Ranks.{IsRank}
use Rattle.brace_comb.proofs.Walks.{is_equal, may_join_at, joined_at, put_at}
use Rattle.brace_comb.proofs.merge.give.Goals as goal
use Rattle.brace_comb.proofs.merge.give.Goals.{After-index-then-is_eq, else-at-len-via-then-at-len+else-is_eq, else-at-len-via-else-at-len}

-- the entry at the rank of the one that is given is of its place
here : (c : After-index-then-is_eq)
    → IsRank c.args.entries.now.items c.args.entry c.rank-at.result
    × (c.rank-at.result < length c.args.entries.now.items)
    × (by_place c.index-then-is_eq.result.now c.args.entry ≡ Equal)
here c =
    let xs = c.args.entries.now.items in
    let e = c.args.entry in
    let at = c.rank-at.result in
    let within : at < length xs =
    omega (arith, c.if-at-len.true, c.len.ensures, c.args.entries.now.ok) in
    let z = c.index-then-is_eq.result.now in
    let same : c.index.result.now ≡ z = c.index.ensures
    ∙ get_or_default xs at c.index.result.now z within ∙ sym c.index-then-is_eq.ensures in (
      subst (λ (l : List Entry). IsRank l e at) c.as_slice.ensures.value c.rank-at.ensures,
      within,
      ap (λ (k : Entry). by_place k e) (sym same) ∙ sym c.order.ensures
          ∙ is_equal c.order.result (sym c.is_eq.ensures ∙ c.if-is_eq.true),
    )

pub joined-requires : goal.joined-requires
joined-requires c =
    let (rank, within, equal) = here (goal.at.joined-requires c).After-index-then-is_eq in
    may_join_at c.args.entries.now.items c.rank-at.result c.index-then-is_eq.result.now
    c.args.entry c.requires.rising rank c.requires.joins within c.index-then-is_eq.ensures equal

pub returns-then-is_eq-clause-ok : goal.returns-then-is_eq-clause-ok
returns-then-is_eq-clause-ok c =
    let (rank, within, equal) =
    here (goal.at.returns-then-is_eq-clause-ok c).After-index-then-is_eq in
    joined_at c.args.entries.now.items c.rank-at.result c.index-then-is_eq.result.now
    c.args.entry c.requires.rising rank c.requires.joins within c.index-then-is_eq.ensures equal
    c.joined.result (sym c.joined.ensures.target, sym c.joined.ensures.field) c.joined.ensures.total

pub returns-in_ok-insert-clause-ok : goal.returns-in_ok-insert-clause-ok
returns-in_ok-insert-clause-ok c =
    let xs = c.args.entries.now.items in
    let e = c.args.entry in
    let at = c.rank-at.result in
    let rank = subst (λ (l : List Entry). IsRank l e at) c.as_slice.ensures.value c.rank-at.ensures in
    let new : (z : Entry) → at < length xs → z ≡ get_or xs at z → is_eq (by_place z e) ≡ false =
    λ z within is. elim c.else-at-len.branch [
      | else-at-len-via-then-at-len+else-is_eq w ↦
          ap (λ (k : Entry). is_eq (by_place k e)) (is ∙ get_or_default xs at z w.index.result.now within ∙ sym w.index.ensures)
          ∙ ap is_eq (sym w.order.ensures) ∙ sym w.is_eq.ensures ∙ w.if-is_eq.false
      | else-at-len-via-else-at-len w ↦ absurd (omega (arith, w.if-at-len.false, c.len.ensures, c.args.entries.now.ok, within))
    ] in
    subst (IsPartialOf (xs ++ e ∷ [])) (sym c.in_ok-insert.ensures.items) (put_at xs at e c.requires.rising rank c.requires.joins new)
