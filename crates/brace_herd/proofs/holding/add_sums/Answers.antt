use Rattle.std.proofs.Common.{◌≡◌, ◌∙◌, ◌++◌, ◌∷◌, ◌<◌, ◌≤◌, ◌<ℤ◌, ◌≤ℤ◌, [], ℕ, List, sym, ap, ap₂, map, length, pos, arith, rules, to_z, of_z}
use Rattle.std.specs.Int.{w128}
use Rattle.std.specs.Prelude.{FitsSigned}
use Rattle.std.proofs.lemmas.Int.{ints, to_z-of_z}
use Rattle.std.proofs.lemmas.List.{map-append, take_all}
use Rattle.brace_model.specs.declared.program.Effect.{Effect}
use Rattle.brace_fold.specs.Sums.{sum_at}
use Rattle.brace_pieces.specs.Right.{share_of, shares_from}
use Rattle.brace_herd.specs.inner.Tables.{share_with}
use Rattle.brace_herd.proofs.TableShares.{tells, silent, of_some, item_there}
use Rattle.brace_herd.proofs.HoldLemmas.{none_reads, sum_reads}
use Rattle.brace_herd.proofs.holding.add_sums.Goals as goal
use Rattle.brace_herd.proofs.holding.add_sums.Goals.{then-sum-gt0+in_ok-told+in_ok-push, else-sum-gt0}

pub loop-k-preserved : goal.loop-k-preserved
loop-k-preserved c program rows a more are here named its =
    let effects : List Effect = c.args.effects.now in
    let k = c.loop-k.k in
    let target = c.args.target in
    let within : k < length effects = c.loop-k-test.true in
    let so = c.loop-k.invariant program rows a more are here named its in
    let sum = c.in-Some.sum in
    let same : c.in-Ok.effect ≡ k = search rules in
    let at : sum ≡ sum_at c.args.said.now k c.args.row = c.in-Some.ensures
    ∙ ap (λ (n : ℕ). sum_at c.args.said.now n c.args.row) same in
    elim c.if-sum-gt0.branch [
      | then-sum-gt0+in_ok-told+in_ok-push w ↦
          let e = w.index-effects-k.result in
          let is = w.index-effects-k.is in
          let number_fits : FitsSigned w128 w.from-number.result = search rules in
          let count_fits : FitsSigned w128 w.from-count.result = search rules in
          let number_is : w.from-number.result ≡ sum.number = search rules in
          let count_is : w.from-count.result ≡ pos sum.count = search rules in
          let some : 0 < sum.count = search rules in
          let more_than : pos 0 <ℤ pos sum.count = omega (arith, ints, some) in
          let read = sum_reads program rows more c.args.said.now c.args.row k target a effects e sum
          are here named its within is at some in
          ap (map share_of) (w.entries-is ∙ w.in_ok-push.ensures.ok)
          ∙ map-append share_of c.loop-k.entries (w.in_ok-told.told ∷ [])
          ∙ tells target effects more k e _ _ within is read (map share_of c.args.entries.now)
          (map share_of c.loop-k.entries) so (share_of w.in_ok-told.told)
          (of_some w.entry_of.result w.in_ok-told.told _ w.in_ok-told.ensures.ok_part
          w.entry_of.ensures.share
          ∙ ap (λ (x : Effect). share_with target k x.comb
          (to_z w128 (of_z w128 w.from-number.result)) (to_z w128 (of_z w128 w.from-count.result)))
          (sym is)
          ∙ ap₂ (share_with target k e.comb) (to_z-of_z w128 w.from-number.result number_fits
          ∙ number_is) (to_z-of_z w128 w.from-count.result count_fits ∙ count_is))
          more_than
      | else-sum-gt0 w ↦
          let (e, is) = item_there effects k within in
          let none : sum.count ≤ 0 = search rules in
          let less : pos sum.count ≤ℤ pos 0 = omega (arith, ints, none) in
          let read = none_reads program rows more c.args.said.now c.args.row k target a effects e
          sum are here named its within is at in
          ap (map share_of) w.entries-is
          ∙ silent target effects more k e _ _ within is read (map share_of c.args.entries.now)
          (map share_of c.loop-k.entries) so less
    ]

pub returns : goal.returns
returns c program rows a more are here named its =
    let effects : List Effect = c.args.effects.now in
    c.loop-k.invariant program rows a more are here named its
    ∙ ap (λ (l : List Effect). map share_of c.args.entries.now ++ shares_from 0 c.args.target l
    more) (take_all c.loop-k.k effects c.loop-k-test.false)
